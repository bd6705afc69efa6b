-- Each instruction that the decoder gives: made again of what is listed of it, it is the word that it was decoded from; it has a row; and its operands are
-- words. One law a format, and the decoder's own tests, walked by search: a row more needs no line here.
use Rattle.std.proofs.Common.{◌≡◌, ℕ, ◌+◌, ◌*◌, ◌/◌, ◌%◌, ◌^◌, ◌<◌, ◌≤◌, Bool, true, false, cond, ◌&&◌, eqb, ltb, get_or, sym, refl, ap, ◌∙◌, arith, eq-eqb}
use Rattle.std.proofs.Common.{ne_eqb, eqb-true}
use denote.Enum.Bare.{sameb, same_true}
use mathlib.Core.Bool.{false≢true}
use borrow.Author.Tests.{eqb-false}
use Rattle.words.specs.Words.{wrap}
use Rattle.words.proofs.Word.{by_test, sign_extend_word}
use Rattle.instructions.specs.Fields.{opcode, rd_of, funct3, rs1_of, rs2_of, funct7, upper12, immediate_i, immediate_s, immediate_b, immediate_u, immediate_j}
use Rattle.instructions.specs.Fields.{offset_aui}
use Rattle.instructions.specs.Decode.{naming_of, load_of, store_of, fence_of, alu_of, shift_left_of, shift_right_of, op_imm_of, op32_of, multiply_of, op_by_of}
use Rattle.instructions.specs.Decode.{op_of, lui_of}
use Rattle.instructions.specs.Decode.{auipcc_of, auicgp_of, jal_of, branch_of, jalr_of, csr_register_of, csr_immediate_of, csr_of, whole_of, system_of}
use Rattle.instructions.specs.Decode.{special_of}
use Rattle.instructions.specs.Decode.{source_dest_of, combine_of, two_source_of, capability_of, decode_of}
use Rattle.instructions.specs.declared.Alu.{Alu}
use Rattle.instructions.specs.declared.Csr.{Csr}
use Rattle.instructions.specs.declared.IntegerInstruction.TheVariants.{OpImm, Op}
use Rattle.instructions.specs.declared.Instruction.{Instruction}
use Rattle.instructions.specs.declared.Instruction.TheVariants.{Integer, Illegal}
use Rattle.short_forms.specs.Meaning.{is_legal}
use Rattle.forms.specs.Shapes.{three, two, bare, upper_of, pred_of, succ_of, is_tso}
use Rattle.forms.specs.Rows.{row_count, fixed_bits, formats, csr_number, integer_shape, jump_shape, memory_shape, capability_shape, system_shape}
use Rattle.forms.specs.Rows.{instruction_shape}
use Rattle.forms.specs.Encoding.{place_r, place_i, place_of, encode_of, chosen, restored}
use Rattle.forms.specs.contracts.Format.{the_type}
use Rattle.forms.specs.declared.Format.{Format}
use Rattle.forms.specs.declared.Format.TheVariants.{R, I, S, B, U, J, Pair, CsrImmediate, NoOperands}
use Rattle.forms.specs.declared.Shape.{Shape}
use Rattle.forms.proofs.Fit.{Fit, fit3, fit2, fit0}
use Rattle.forms.proofs.Formats.{format_r, format_p, format_n, format_i, format_s, format_b, format_u, format_j}

-- what holds of an instruction that a word w decodes to: v is the word made again of it
pub record Good (w v : ℕ) (i : Instruction) : Type 0 where
  pub again : w < 2 ^ 32 → restored w (instruction_shape w i) ≡ v
  pub legal : ltb (instruction_shape w i).row row_count ≡ is_legal i
  pub fit : Fit (instruction_shape w i)

-- what holds on both sides of a test
tested : {A : Type 0} (Q : A → Type 0) (x k : ℕ) (a b : A) → (x ≡ k → Q a) → ((x ≡ k → ⊥) → Q b) → Q (cond (eqb x k) a b)
tested Q x k a b f g = by_test (eqb x k) (λ t. rw t (f (eqb-true x k t))) (λ t. rw t (g (eqb-false x k t)))

four : (x : ℕ) → (x ≡ 0 → ⊥) → (x ≡ 1 → ⊥) → (x ≡ 2 → ⊥) → (x ≡ 3 → ⊥) → 4 ≤ x
four x a b c d = omega arith

last : (x : ℕ) → x < 8 → 4 ≤ x → (x ≡ 4 → ⊥) → (x ≡ 5 → ⊥) → (x ≡ 6 → ⊥) → x ≡ 7
last x h k a b c = omega arith

-- the last of eight
seven : (w : ℕ) → 4 ≤ funct3 w → (funct3 w ≡ 4 → ⊥) → (funct3 w ≡ 5 → ⊥) → (funct3 w ≡ 6 → ⊥) → funct3 w ≡ 7
seven w k a b c = last (funct3 w) (omega arith) k a b c

-- its row's word, made again
made : (w : ℕ) (s : Shape) (f : Format) → ltb s.row row_count ≡ true → get_or formats s.row R ≡ f
    → wrap (get_or fixed_bits s.row 0 + place_of f s.a s.b s.c) ≡ w → restored w s ≡ w
unfolding restored encode_of
made w s f l m e = rw (l, m) e

both : (a b : Bool) → (a && b) ≡ true → (a ≡ true) × (b ≡ true)
both true true e = (refl, refl)
both true false e = (refl, e)
both false b e = absurd (false≢true e)

module _ (w : ℕ) where
  abbrev row_of : Instruction → ℕ
  row_of i = (instruction_shape w i).row

  abbrev fixed_of : Instruction → ℕ
  fixed_of i = get_or fixed_bits (row_of i) 0

  -- it has a row, of format f, and its fixed bits are x
  abbrev stands : Instruction → (f : Format) (x : ℕ) → Bool
  stands i f x = is_legal i && (ltb (row_of i) row_count && (sameb the_type (get_or formats (row_of i) R) f && eqb (fixed_of i) x))

  good : (i : Instruction) (f : Format) (x : ℕ) (s : Shape) → instruction_shape w i ≡ s → stands i f x ≡ true → Fit s
      → (w < 2 ^ 32 → fixed_of i ≡ x → wrap (get_or fixed_bits s.row 0 + place_of f s.a s.b s.c) ≡ w) → Good w w i
  good i f x s e t p g =
      let b = sameb the_type (get_or formats (row_of i) R) f in
      let u = both (is_legal i) (ltb (row_of i) row_count && (b && eqb (fixed_of i) x)) t in
      let v = both (ltb (row_of i) row_count) (b && eqb (fixed_of i) x) u.1 in
      let y = both b (eqb (fixed_of i) x) v.1 in
      record {
        again = λ h. made w (instruction_shape w i) f v.0 (same_true the_type tt (get_or formats (row_of i) R) f y.0) (rw e (g h (eqb-true (fixed_of
            i) x y.1)));
        legal = v.0 ∙ sym u.0;
        fit = rw e p;
      }

  word_i : immediate_i w < 2 ^ 32
  unfolding immediate_i
  word_i = sign_extend_word (upper12 w) 12 (omega arith)

  word_s : immediate_s w < 2 ^ 32
  unfolding immediate_s
  word_s = sign_extend_word (funct7 w * 2 ^ 5 + rd_of w) 12 (omega arith)

  word_b : immediate_b w < 2 ^ 32
  unfolding immediate_b
  word_b = sign_extend_word (w / 2 ^ 31 % 2 * 2 ^ 12 + w / 2 ^ 7 % 2 * 2 ^ 11 + w / 2 ^ 25 % 2 ^ 6 * 2 ^ 5 + w / 2 ^ 8 % 2 ^ 4 * 2) 13 (omega arith)

  word_j : immediate_j w < 2 ^ 32
  unfolding immediate_j
  word_j = sign_extend_word (w / 2 ^ 31 % 2 * 2 ^ 20 + w / 2 ^ 12 % 2 ^ 8 * 2 ^ 12 + w / 2 ^ 20 % 2 * 2 ^ 11 + w / 2 ^ 21 % 2 ^ 10 * 2) 21 (omega arith)

  word_u : upper_of w < 2 ^ 32
  word_u = sign_extend_word (w / 2 ^ 12 % 2 ^ 20) 20 (omega arith)

  -- the formats: what is listed of i, its format, and its fixed bits
  module _ (i : Instruction) where
    abbrev Three : (a b c : ℕ) → Type 0
    Three a b c = instruction_shape w i ≡ three (row_of i) a b c

    abbrev Two : (b c : ℕ) → Type 0
    Two b c = instruction_shape w i ≡ two (row_of i) b c

    row_r : Three (rd_of w) (rs1_of w) (rs2_of w) → stands i R (opcode (fixed_of i) + funct3 (fixed_of i) * 2 ^ 12 + funct7 (fixed_of i) * 2 ^ 25) ≡ true
        → opcode w ≡ opcode (fixed_of i) → funct3 w ≡ funct3 (fixed_of i) → funct7 w ≡ funct7 (fixed_of i)
        → Good w w i
    unfolding place_of
    row_r s t o p q =
        good i R _ _ s t (fit3 (row_of i) (rd_of w) (rs1_of w) (rs2_of w) (omega arith) (omega arith) (omega arith))
        (λ h e. format_r w h (fixed_of i) (omega arith))

    row_p : Two (rd_of w) (rs1_of w)
        → stands i Pair (opcode (fixed_of i) + funct3 (fixed_of i) * 2 ^ 12 + rs2_of (fixed_of i) * 2 ^ 20 + funct7 (fixed_of i) * 2 ^ 25) ≡ true
        → opcode w ≡ opcode (fixed_of i) → funct3 w ≡ funct3 (fixed_of i) → rs2_of w ≡ rs2_of (fixed_of i) → funct7 w ≡ funct7 (fixed_of i)
        → Good w w i
    unfolding place_of
    row_p s t o p q r =
        good i Pair _ _ s t (fit2 (row_of i) (rd_of w) (rs1_of w) (omega arith) (omega arith))
        (λ h e. format_p w h (fixed_of i) (omega arith))

    row_n : Three (rd_of w) (rs1_of w) (upper12 w) → stands i I (opcode (fixed_of i) + funct3 (fixed_of i) * 2 ^ 12) ≡ true → opcode w ≡ opcode (fixed_of i)
        → funct3 w ≡ funct3 (fixed_of i)
        → Good w w i
    unfolding place_of
    row_n s t o p =
        good i I _ _ s t (fit3 (row_of i) (rd_of w) (rs1_of w) (upper12 w) (omega arith) (omega arith) (omega arith))
        (λ h e. format_n w h (fixed_of i) (omega arith))

    row_i : Three (rd_of w) (rs1_of w) (immediate_i w) → stands i I (opcode (fixed_of i) + funct3 (fixed_of i) * 2 ^ 12) ≡ true
        → opcode w ≡ opcode (fixed_of i) → funct3 w ≡ funct3 (fixed_of i)
        → Good w w i
    unfolding place_of
    row_i s t o p =
        good i I _ _ s t (fit3 (row_of i) (rd_of w) (rs1_of w) (immediate_i w) (omega arith) (omega arith) word_i)
        (λ h e. format_i w h (fixed_of i) (omega arith))

    row_s : Three (rs1_of w) (rs2_of w) (immediate_s w) → stands i S (opcode (fixed_of i) + funct3 (fixed_of i) * 2 ^ 12) ≡ true
        → opcode w ≡ opcode (fixed_of i) → funct3 w ≡ funct3 (fixed_of i)
        → Good w w i
    unfolding place_of
    row_s s t o p =
        good i S _ _ s t (fit3 (row_of i) (rs1_of w) (rs2_of w) (immediate_s w) (omega arith) (omega arith) word_s)
        (λ h e. format_s w h (fixed_of i) (omega arith))

    row_b : Three (rs1_of w) (rs2_of w) (immediate_b w) → stands i B (opcode (fixed_of i) + funct3 (fixed_of i) * 2 ^ 12) ≡ true
        → opcode w ≡ opcode (fixed_of i) → funct3 w ≡ funct3 (fixed_of i)
        → Good w w i
    unfolding place_of
    row_b s t o p =
        good i B _ _ s t (fit3 (row_of i) (rs1_of w) (rs2_of w) (immediate_b w) (omega arith) (omega arith) word_b)
        (λ h e. format_b w h (fixed_of i) (omega arith))

    row_u : Two (rd_of w) (upper_of w) → stands i U (opcode (fixed_of i)) ≡ true → opcode w ≡ opcode (fixed_of i)
        → Good w w i
    unfolding place_of
    row_u s t o =
        good i U _ _ s t (fit2 (row_of i) (rd_of w) (upper_of w) (omega arith) word_u)
        (λ h e. format_u w h (fixed_of i) (omega arith))

    row_j : Two (rd_of w) (immediate_j w) → stands i J (opcode (fixed_of i)) ≡ true → opcode w ≡ opcode (fixed_of i)
        → Good w w i
    unfolding place_of
    row_j s t o =
        good i J _ _ s t (fit2 (row_of i) (rd_of w) (immediate_j w) (omega arith) word_j)
        (λ h e. format_j w h (fixed_of i) (omega arith))

    -- the whole word is fixed
    row_w : instruction_shape w i ≡ bare (row_of i) → stands i NoOperands (fixed_of i) ≡ true → w ≡ fixed_of i → Good w w i
    unfolding place_of
    row_w s t o = good i NoOperands _ _ s t (fit0 (row_of i)) (λ h e. omega arith)

    -- an operand that is a number of its own, and not a field of the word: of a CSR, before or after the source; of a special register
    row_c : Three (rd_of w) (rs1_of w) (instruction_shape w i).c → stands i I (opcode (fixed_of i) + funct3 (fixed_of i) * 2 ^ 12) ≡ true
        → upper12 w ≡ (instruction_shape w i).c → opcode w ≡ opcode (fixed_of i) → funct3 w ≡ funct3 (fixed_of i)
        → Good w w i
    unfolding place_of
    row_c s t n o p =
        good i I _ _ s t (fit3 (row_of i) (rd_of w) (rs1_of w) _ (omega arith) (omega arith) (omega arith))
        (λ h e. ap (λ (m : ℕ). wrap (fixed_of i + place_i (rd_of w) (rs1_of w) m)) (sym n) ∙ format_n w h (fixed_of i) (omega arith))

    row_v : Three (rd_of w) (instruction_shape w i).b (rs1_of w) → stands i CsrImmediate (opcode (fixed_of i) + funct3 (fixed_of i) * 2 ^ 12) ≡ true
        → upper12 w ≡ (instruction_shape w i).b → opcode w ≡ opcode (fixed_of i) → funct3 w ≡ funct3 (fixed_of i)
        → Good w w i
    unfolding place_of
    row_v s t n o p =
        good i CsrImmediate _ _ s t (fit3 (row_of i) (rd_of w) _ (rs1_of w) (omega arith) (omega arith) (omega arith))
        (λ h e. ap (λ (m : ℕ). wrap (fixed_of i + place_i (rd_of w) (rs1_of w) m)) (sym n) ∙ format_n w h (fixed_of i) (omega arith))

    row_q : Three (rd_of w) (rs1_of w) (instruction_shape w i).c
        → stands i R (opcode (fixed_of i) + funct3 (fixed_of i) * 2 ^ 12 + funct7 (fixed_of i) * 2 ^ 25) ≡ true → rs2_of w ≡ (instruction_shape w i).c
        → opcode w ≡ opcode (fixed_of i) → funct3 w ≡ funct3 (fixed_of i) → funct7 w ≡ funct7 (fixed_of i)
        → Good w w i
    unfolding place_of
    row_q s t n o p q =
        good i R _ _ s t (fit3 (row_of i) (rd_of w) (rs1_of w) _ (omega arith) (omega arith) (omega arith))
        (λ h e. ap (λ (m : ℕ). wrap (fixed_of i + place_r (rd_of w) (rs1_of w) m)) (sym n) ∙ format_r w h (fixed_of i) (omega arith))

  none : Good w w Illegal
  unfolding restored instruction_shape is_legal
  none = record { again = λ h. refl; legal = refl; fit = fit0 255 }

  naming : (n : ℕ) (i : Instruction) → Good w w i → Good w w (naming_of n i)
  naming n i p = by_test (ltb n 16) (λ t. rw t p) (λ t. rw t none)

  test : (x k : ℕ) (i j : Instruction) → (x ≡ k → Good w w i) → Good w w j → Good w w (cond (eqb x k) i j)
  test x k i j f g = by_test (eqb x k) (λ t. rw t (f (eqb-true x k t))) (λ t. rw t g)

  -- the decoder's tests, to a depth that leaves room for more
  load : opcode w ≡ 0x03 → Good w w (load_of (funct3 w) (rd_of w) (rs1_of w) (immediate_i w))
  unfolding load_of instruction_shape memory_shape is_legal fixed_bits formats
  load o = search (naming, test, none, row_i) depth 40

  store : opcode w ≡ 0x23 → Good w w (store_of (funct3 w) (rs1_of w) (rs2_of w) (immediate_s w))
  unfolding store_of instruction_shape memory_shape is_legal fixed_bits formats
  store o = search (naming, test, none, row_s) depth 40

  branch : opcode w ≡ 0x63 → Good w w (branch_of (funct3 w) (rs1_of w) (rs2_of w) (immediate_b w))
  unfolding branch_of instruction_shape jump_shape is_legal fixed_bits formats
  branch o = search (naming, test, none, row_b) depth 40

  jalr : opcode w ≡ 0x67 → Good w w (jalr_of (funct3 w) (rd_of w) (rs1_of w) (immediate_i w))
  unfolding jalr_of instruction_shape jump_shape is_legal fixed_bits formats
  jalr o = search (naming, test, none, row_i) depth 40

  lui : opcode w ≡ 0x37 → Good w w (lui_of (rd_of w) (immediate_u w))
  unfolding lui_of instruction_shape integer_shape is_legal fixed_bits formats
  lui o = search (naming, row_u) depth 40

  auipcc : opcode w ≡ 0x17 → Good w w (auipcc_of (rd_of w) (offset_aui w))
  unfolding auipcc_of instruction_shape capability_shape is_legal fixed_bits formats
  auipcc o = search (naming, row_u) depth 40

  auicgp : opcode w ≡ 0x7b → Good w w (auicgp_of (rd_of w) (offset_aui w))
  unfolding auicgp_of instruction_shape capability_shape is_legal fixed_bits formats
  auicgp o = search (naming, row_u) depth 40

  jal : opcode w ≡ 0x6f → Good w w (jal_of (rd_of w) (immediate_j w))
  unfolding jal_of instruction_shape jump_shape is_legal fixed_bits formats
  jal o = search (naming, row_j) depth 40

  alu_immediate : opcode w ≡ 0x13 → (funct3 w ≡ 1 → ⊥) → (funct3 w ≡ 5 → ⊥)
      → Good w w (Integer (OpImm (alu_of (funct3 w)) (rd_of w) (rs1_of w) (immediate_i w)))
  unfolding alu_of instruction_shape integer_shape is_legal fixed_bits formats
  alu_immediate o p q =
      let Q : Alu → Type 0 = λ a. Good w w (Integer (OpImm a (rd_of w) (rs1_of w) (immediate_i w))) in
      (tested Q (funct3 w) 0 _ _ (λ e. row_i _ refl refl o e) (λ n₀.
      (tested Q (funct3 w) 1 _ _ (λ e. absurd (p e)) (λ n₁.
      (tested Q (funct3 w) 2 _ _ (λ e. row_i _ refl refl o e) (λ n₂.
      (tested Q (funct3 w) 3 _ _ (λ e. row_i _ refl refl o e) (λ n₃.
      (tested Q (funct3 w) 4 _ _ (λ e. row_i _ refl refl o e) (λ n₄.
      (tested Q (funct3 w) 5 _ _ (λ e. absurd (q e)) (λ n₅.
      (tested Q (funct3 w) 6 _ _ (λ e. row_i _ refl refl o e) (λ n₆.
      (row_i _ refl refl o (seven w (four (funct3 w) n₀ n₁ n₂ n₃) n₄ n₅ n₆))))))))))))))))

  op_imm : opcode w ≡ 0x13 → Good w w (op_imm_of (funct3 w) (funct7 w) (rd_of w) (rs1_of w) (rs2_of w) (immediate_i w))
  unfolding op_imm_of shift_left_of shift_right_of instruction_shape integer_shape is_legal fixed_bits formats
  op_imm o =
      naming (rd_of w) _ (naming (rs1_of w) _ (
      (tested (Good w w) (funct3 w) 1 _ _ (λ e. search (test, none, row_r)) (λ n.
      (tested (Good w w) (funct3 w) 5 _ _ (λ e. search (test, none, row_r)) (λ m.
      alu_immediate o n m))))))

  alu : opcode w ≡ 0x33 → funct7 w ≡ 0 → Good w w (Integer (Op (alu_of (funct3 w)) (rd_of w) (rs1_of w) (rs2_of w)))
  unfolding alu_of instruction_shape integer_shape is_legal fixed_bits formats
  alu o f =
      let Q : Alu → Type 0 = λ a. Good w w (Integer (Op a (rd_of w) (rs1_of w) (rs2_of w))) in
      (tested Q (funct3 w) 0 _ _ (λ e. row_r _ refl refl o e f) (λ n₀.
      (tested Q (funct3 w) 1 _ _ (λ e. row_r _ refl refl o e f) (λ n₁.
      (tested Q (funct3 w) 2 _ _ (λ e. row_r _ refl refl o e f) (λ n₂.
      (tested Q (funct3 w) 3 _ _ (λ e. row_r _ refl refl o e f) (λ n₃.
      (tested Q (funct3 w) 4 _ _ (λ e. row_r _ refl refl o e f) (λ n₄.
      (tested Q (funct3 w) 5 _ _ (λ e. row_r _ refl refl o e f) (λ n₅.
      (tested Q (funct3 w) 6 _ _ (λ e. row_r _ refl refl o e f) (λ n₆.
      (row_r _ refl refl o (seven w (four (funct3 w) n₀ n₁ n₂ n₃) n₄ n₅ n₆) f)))))))))))))))

  multiply : opcode w ≡ 0x33 → funct7 w ≡ 1 → Good w w (multiply_of (funct3 w) (rd_of w) (rs1_of w) (rs2_of w))
  unfolding multiply_of instruction_shape integer_shape is_legal fixed_bits formats
  multiply o f =
      (tested (Good w w) (funct3 w) 0 _ _ (λ e. row_r _ refl refl o e f) (λ n₀.
      (tested (Good w w) (funct3 w) 1 _ _ (λ e. row_r _ refl refl o e f) (λ n₁.
      (tested (Good w w) (funct3 w) 2 _ _ (λ e. row_r _ refl refl o e f) (λ n₂.
      (tested (Good w w) (funct3 w) 3 _ _ (λ e. row_r _ refl refl o e f) (λ n₃.
      (tested (Good w w) (funct3 w) 4 _ _ (λ e. row_r _ refl refl o e f) (λ n₄.
      (tested (Good w w) (funct3 w) 5 _ _ (λ e. row_r _ refl refl o e f) (λ n₅.
      (tested (Good w w) (funct3 w) 6 _ _ (λ e. row_r _ refl refl o e f) (λ n₆.
      (row_r _ refl refl o (seven w (four (funct3 w) n₀ n₁ n₂ n₃) n₄ n₅ n₆) f)))))))))))))))

  op : opcode w ≡ 0x33 → Good w w (op_of (funct3 w) (funct7 w) (rd_of w) (rs1_of w) (rs2_of w))
  unfolding op_of op_by_of op32_of instruction_shape integer_shape is_legal fixed_bits formats
  op o = search (naming, test, none, alu, multiply, row_r) depth 40

  special : opcode w ≡ 0x5b → funct3 w ≡ 0 → funct7 w ≡ 0x01 → Good w w (special_of (rs2_of w) (rd_of w) (rs1_of w))
  unfolding special_of instruction_shape system_shape is_legal fixed_bits formats
  special o p q = search (test, none, row_q) depth 40

  source_dest : opcode w ≡ 0x5b → funct3 w ≡ 0 → funct7 w ≡ 0x7f → Good w w (source_dest_of (rs2_of w) (rd_of w) (rs1_of w))
  unfolding source_dest_of instruction_shape capability_shape is_legal fixed_bits formats
  source_dest o p q = search (test, none, row_p) depth 40

  two_source : opcode w ≡ 0x5b → funct3 w ≡ 0 → Good w w (two_source_of (funct7 w) (rd_of w) (rs1_of w) (rs2_of w))
  unfolding two_source_of combine_of instruction_shape capability_shape is_legal fixed_bits formats
  two_source o p = search (special, source_dest, naming, test, none, row_r) depth 40

  capability : opcode w ≡ 0x5b → Good w w (capability_of (funct3 w) (funct7 w) (rd_of w) (rs1_of w) (rs2_of w) (immediate_i w) (upper12 w))
  unfolding capability_of instruction_shape capability_shape is_legal fixed_bits formats
  capability o = search (two_source, naming, test, none, row_i, row_n) depth 40

  whole : Good w w (whole_of w)
  unfolding whole_of instruction_shape system_shape jump_shape is_legal fixed_bits formats
  whole = search (test, none, row_w) depth 40

  csrs : (csr : Csr) → opcode w ≡ 0x73 → upper12 w ≡ csr_number csr → Good w w (csr_of (funct3 w) csr (rd_of w) (rs1_of w))
  unfolding csr_of csr_register_of csr_immediate_of instruction_shape system_shape is_legal fixed_bits formats
  csrs csr o u = search (naming, test, none, row_c, row_v) depth 40

  system : opcode w ≡ 0x73 → Good w w (system_of w (funct3 w) (upper12 w) (rd_of w) (rs1_of w))
  unfolding system_of
  system o = search (whole, csrs, test, none) depth 40

  -- FENCE and FENCE.TSO: what does not matter is 0
  fence : opcode w ≡ 0x0f → Good w (chosen w) (fence_of (funct3 w))
  unfolding fence_of restored instruction_shape encode_of place_of fixed_bits formats system_shape is_legal chosen
  fence o =
      tested (Good w (chosen w)) (funct3 w) 0 _ _
      (λ e. by_test (is_tso w)
      (λ t. record { again = λ h. rw (eq-eqb (opcode w) 0x0f o, eq-eqb (funct3 w) 0 e, t) refl; legal = rw t refl; fit = rw t (fit0 116) })
      (λ t. record {
        again = λ h. rw (eq-eqb (opcode w) 0x0f o, eq-eqb (funct3 w) 0 e, t) (omega arith);
        legal = rw t refl;
        fit = rw t (fit2 41 (pred_of w) (succ_of w) (omega arith) (omega arith));
      }))
      (λ n. record { again = λ h. rw (eq-eqb (opcode w) 0x0f o, ne_eqb (funct3 w) 0 n) refl; legal = refl; fit = fit0 255 })

  no_fence : (opcode w ≡ 0x0f → ⊥) → opcode w ≡ 0x0f → Good w w (fence_of (funct3 w))
  no_fence n o = absurd (n o)

  unfenced : (opcode w ≡ 0x0f → ⊥) → w ≡ chosen w
  unfolding chosen
  unfenced n = rw (ne_eqb (opcode w) 0x0f n) refl

  others : (opcode w ≡ 0x0f → ⊥) → Good w w (decode_of w)
  unfolding decode_of
  others n = search (load, no_fence, op_imm, auipcc, store, op, lui, capability, branch, jalr, jal, system, auicgp, test, none) depth 40

  decode_fence : opcode w ≡ 0x0f → decode_of w ≡ fence_of (funct3 w)
  unfolding decode_of
  decode_fence o = rw o refl

  pub long_good : Good w (chosen w) (decode_of w)
  long_good =
      by_test (eqb (opcode w) 0x0f)
      (λ t. let o = eqb-true (opcode w) 0x0f t in rw (decode_fence o) (fence o))
      (λ t. let n = eqb-false (opcode w) 0x0f t in rw (← (unfenced n)) (others n))
