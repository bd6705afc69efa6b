-- Every word decodes to an instruction whose registers are below 16, whose immediates are words, and whose offset is even where it jumps from PCC.
use Prim.Native.Nat.{ℕ, ◌+◌, ◌*◌, ◌%◌, ◌^◌, ◌<◌}
use mathlib.Core.Path.{◌≡◌, ◌∙◌}
use mathlib.Core.Bool.{Bool, true, false, cond}
use native.Mathlib.Omega.{arith}
use lib.Dec.{ltb, eqb}
use borrow.Author.Tests.{ltb-true}
use lib.Pow.{pow-add, mod-mod-pow}
use Rattle.words.specs.Words.{sign_extend}
use Rattle.words.proofs.Word.{by_test, sign_extend_word}
use Rattle.instructions.specs.Range.{InRange, Register, Word, Even}
use Rattle.instructions.specs.Fields.{opcode, rd_of, funct7, upper12, immediate_i, immediate_s, immediate_b, immediate_u, immediate_j, offset_aui}
use Rattle.instructions.specs.Decode.{naming_of, load_of, store_of, fence_of, shift_left_of, shift_right_of, op_imm_of, op32_of, multiply_of, op_by_of, op_of}
use Rattle.instructions.specs.Decode.{lui_of}
use Rattle.instructions.specs.Decode.{auipcc_of, auicgp_of, jal_of, branch_of, jalr_of, csr_register_of, csr_immediate_of, csr_of, whole_of, system_of}
use Rattle.instructions.specs.Decode.{special_of}
use Rattle.instructions.specs.Decode.{source_dest_of, combine_of, two_source_of, capability_of, decode_of}
use Rattle.instructions.specs.declared.CsrKind.{CsrKind}
use Rattle.instructions.specs.declared.Csr.{Csr}
use Rattle.instructions.specs.declared.Combination.{Combination}
use Rattle.instructions.specs.declared.Instruction.{Instruction}

either : (b : Bool) (x y : Instruction) → InRange x → InRange y → InRange (cond b x y)
either true x y p q = p
either false x y p q = q

naming : (n : ℕ) (i : Instruction) → (Register n → InRange i) → InRange (naming_of n i)
naming n i f = by_test (ltb n 16) (λ t. rw t (f (ltb-true n 16 t))) (λ t. rw t tt)

-- a tree of tests is in range where each of its leaves is
module _ (f3 a b n : ℕ) (hn : Word n) where
  load : InRange (load_of f3 a b n)
  unfolding load_of
  load = naming a _ (λ ha. naming b _ (λ hb. search either depth 8))

  store : InRange (store_of f3 a b n)
  unfolding store_of
  store = naming a _ (λ ha. naming b _ (λ hb. search either depth 6))

  branch : Even n → InRange (branch_of f3 a b n)
  unfolding branch_of
  branch e = naming a _ (λ ha. naming b _ (λ hb. search either depth 8))

  jalr : InRange (jalr_of f3 a b n)
  unfolding jalr_of
  jalr = naming a _ (λ ha. naming b _ (λ hb. search either))

  op_imm : (f7 shamt : ℕ) → Word shamt → InRange (op_imm_of f3 f7 a b shamt n)
  unfolding op_imm_of shift_left_of shift_right_of
  op_imm f7 shamt h = naming a _ (λ ha. naming b _ (λ hb. search either depth 8))

module _ (a n : ℕ) (hn : Word n) where
  lui : InRange (lui_of a n)
  unfolding lui_of
  lui = naming a _ (λ ha. (ha, hn))

  jal : Even n → InRange (jal_of a n)
  unfolding jal_of
  jal e = naming a _ (λ ha. (ha, hn, e))

  auipcc : InRange (auipcc_of a n)
  unfolding auipcc_of
  auipcc = naming a _ (λ ha. (ha, hn))

  auicgp : InRange (auicgp_of a n)
  unfolding auicgp_of
  auicgp = naming a _ (λ ha. (ha, hn))

op : (f3 f7 a b d : ℕ) → InRange (op_of f3 f7 a b d)
unfolding op_of op_by_of op32_of multiply_of
op f3 f7 a b d = naming a _ (λ ha. naming b _ (λ hb. naming d _ (λ hd. search either depth 16)))

module _ (f7 a b d : ℕ) (ha : Register a) (hb : Register b) where
  special : InRange (special_of d a b)
  unfolding special_of
  special = search either depth 6

  source_dest : InRange (source_dest_of d a b)
  unfolding source_dest_of
  source_dest = search either depth 14

  combine : (what : Combination) → InRange (combine_of what a b d)
  unfolding combine_of
  combine what = naming d _ (λ hd. (ha, hb, hd))

  two_source : InRange (two_source_of f7 a b d)
  unfolding two_source_of
  two_source = search (either, special, source_dest, combine) depth 16

capability : (f3 f7 a b d offset length : ℕ) → Word offset → length < 2 ^ 12 → InRange (capability_of f3 f7 a b d offset length)
unfolding capability_of
capability f3 f7 a b d offset length ho hl = naming a _ (λ ha. naming b _ (λ hb. search (either, two_source) depth 6))

fence : (f3 : ℕ) → InRange (fence_of f3)
unfolding fence_of
fence f3 = search either

whole : (w : ℕ) → InRange (whole_of w)
unfolding whole_of
whole w = search either depth 6

module _ (csr : Csr) (rd rs1 : ℕ) (h : rs1 < 2 ^ 5) where
  csr_register : (kind : CsrKind) → InRange (csr_register_of kind csr rd rs1)
  unfolding csr_register_of
  csr_register kind = naming rd _ (λ d. naming rs1 _ (λ s. (d, s)))

  csr_immediate : (kind : CsrKind) → InRange (csr_immediate_of kind csr rd rs1)
  unfolding csr_immediate_of
  csr_immediate kind = naming rd _ (λ d. (d, h))

  csr_in_range : (f3 : ℕ) → InRange (csr_of f3 csr rd rs1)
  unfolding csr_of
  csr_in_range f3 = search (either, csr_register, csr_immediate) depth 10

system : (w f3 number rd rs1 : ℕ) → rs1 < 2 ^ 5 → InRange (system_of w f3 number rd rs1)
unfolding system_of
system w f3 number rd rs1 h = search (either, whole, csr_in_range) depth 8

-- an even number extended from some bits is even
pub even_extended : (x m : ℕ) → Even x → Even (sign_extend x (m + 1))
unfolding sign_extend
even_extended x m e =
    let low : x % 2 ^ (m + 1) % 2 ≡ 0 = mod-mod-pow x m 1 ∙ e in
    let twice : 2 ^ (m + 1) ≡ 2 ^ m * 2 = pow-add 2 m 1 in
    by_test (ltb (2 * (x % 2 ^ (m + 1))) (2 ^ (m + 1))) (λ t. rw t low) (λ t. rw t (omega (arith, low, twice)))

-- the offsets of branches and of CJAL
even_branch : (a b c d : ℕ) → Even (a * 2 ^ 12 + b * 2 ^ 11 + c * 2 ^ 5 + d * 2)
even_branch a b c d = omega arith

even_jump : (a b c d : ℕ) → Even (a * 2 ^ 20 + b * 2 ^ 12 + c * 2 ^ 11 + d * 2)
even_jump a b c d = omega arith

module _ (w : ℕ) where
  word_i : Word (immediate_i w)
  unfolding immediate_i
  word_i = sign_extend_word (upper12 w) 12 (omega arith)

  word_s : Word (immediate_s w)
  unfolding immediate_s
  word_s = sign_extend_word (funct7 w * 2 ^ 5 + rd_of w) 12 (omega arith)

  word_b : Word (immediate_b w)
  unfolding immediate_b
  word_b = sign_extend_word _ 13 (omega arith)

  even_b : Even (immediate_b w)
  unfolding immediate_b
  even_b = even_extended _ 12 (even_branch _ _ _ _)

  word_u : Word (immediate_u w)
  unfolding immediate_u
  word_u = omega arith

  word_j : Word (immediate_j w)
  unfolding immediate_j
  word_j = sign_extend_word _ 21 (omega arith)

  even_j : Even (immediate_j w)
  unfolding immediate_j
  even_j = even_extended _ 20 (even_jump _ _ _ _)

  word_aui : Word (offset_aui w)
  unfolding offset_aui
  word_aui = omega arith

pub decoded_in_range : (w : ℕ) → InRange (decode_of w)
unfolding decode_of
decoded_in_range w =
    either (eqb (opcode w) 0x03) _ _ (load _ _ _ _ (word_i w))
    (either (eqb (opcode w) 0x0f) _ _ (fence _)
    (either (eqb (opcode w) 0x13) _ _ (op_imm _ _ _ _ (word_i w) _ _ (omega arith))
    (either (eqb (opcode w) 0x17) _ _ (auipcc _ _ (word_aui w))
    (either (eqb (opcode w) 0x23) _ _ (store _ _ _ _ (word_s w))
    (either (eqb (opcode w) 0x33) _ _ (op _ _ _ _ _)
    (either (eqb (opcode w) 0x37) _ _ (lui _ _ (word_u w))
    (either (eqb (opcode w) 0x5b) _ _ (capability _ _ _ _ _ _ _ (word_i w) (omega arith))
    (either (eqb (opcode w) 0x63) _ _ (branch _ _ _ _ (word_b w) (even_b w))
    (either (eqb (opcode w) 0x67) _ _ (jalr _ _ _ _ (word_i w))
    (either (eqb (opcode w) 0x6f) _ _ (jal _ _ (word_j w) (even_j w))
    (either (eqb (opcode w) 0x73) _ _ (system _ _ _ _ _ (omega arith))
    (either (eqb (opcode w) 0x7b) _ _ (auicgp _ _ (word_aui w))
    tt))))))))))))
