-- The long form of a hint is a hint: each form of the list names register 0 as what it writes, by itself or by `unless_hint`.
use mathlib.Core.Path.{◌≡◌, refl, sym, ◌∙◌}
use mathlib.Core.Bool.{true, true≢false}
use Prim.Native.Nat.{ℕ}
use lib.Dec.{eqb, ltb}
use Rattle.words.proofs.Word.{by_test}
use Rattle.instructions.specs.Decode.{decode_of, naming_of}
use Rattle.instructions.specs.declared.Instruction.{Instruction}
use Rattle.short_forms.specs.Forms.{short_of}
use Rattle.short_forms.specs.Long.{unless_hint, long_form}
use Rattle.short_forms.specs.Meaning.{meaning_of, is_legal}
use Rattle.short_forms.specs.Hints.{Hint, of_lui, of_op_imm, of_op, HintForm, c_nop, c_addi, c_li, c_lui, c_mv, c_add, c_slli_to_zero, c_slli}
use Rattle.short_forms.specs.Hints.{c_srli, c_srai, HintHalf}
use Rattle.short_forms.specs.declared.ShortForm.{ShortForm}
use Rattle.short_forms.proofs.Laws.{half_means, half_legal}

-- register 0, copied to itself or not
unless_zero : (operand : ℕ) → unless_hint 0 operand ≡ 0
unfolding unless_hint
unless_zero operand = by_test (eqb operand 0) (λ t. rw t refl) (λ t. rw t refl)

-- a legal instruction that names a register is the instruction
named : (n : ℕ) (i : Instruction) → is_legal (naming_of n i) ≡ true → (is_legal i ≡ true → Hint i) → Hint (naming_of n i)
unfolding is_legal
named n i l h = by_test (ltb n 16) (λ t. rw t (h (rw t at l))) (λ t. absurd (true≢false (sym (rw t at l))))

meant : (s : ShortForm) → HintForm s → is_legal (meaning_of s) ≡ true → Hint (meaning_of s)
unfolding meaning_of unless_hint
meant _ (c_nop {value}) l = rw (unless_zero value) of_op_imm
meant _ (c_addi {rd}) l = named rd _ l (λ k. of_op_imm)
meant _ c_li l = of_op_imm
meant _ c_lui l = of_lui
meant _ (c_mv {rs2}) l = named rs2 _ l (λ k. of_op)
meant _ (c_add {rs2}) l = named rs2 _ l (λ k. of_op)
meant _ (c_slli_to_zero {shamt}) l = rw (unless_zero shamt) of_op_imm
meant _ (c_slli {rd}) l = named rd _ l (λ k. of_op_imm)
meant _ c_srli l = of_op_imm
meant _ c_srai l = of_op_imm

pub half_hint : (h : ℕ) → HintHalf h → Hint (decode_of (long_form h))
half_hint h k = rw (half_means h) (meant (short_of h) k.listed (rw (half_means h) at (half_legal h ∙ k.legal_here)))
