-- Each legal half does what its long form does: once over all halves, by the family of the instruction that the long form decodes to.
use mathlib.Core.Path.{◌≡◌, refl, sym, ◌∙◌}
use mathlib.Core.Bool.{true, true≢false}
use mathlib.Core.List.{List}
use Prim.Native.Nat.{ℕ}
use Rattle.capability.specs.declared.Capability.{Capability}
use Rattle.instructions.specs.Decode.{decode_of}
use Rattle.instructions.specs.declared.Instruction.{Instruction}
use Rattle.instructions.specs.declared.Instruction.TheVariants.{Integer, Jump, Memory, Capability as Capabilities, System, Illegal}
use Rattle.short_forms.specs.Forms.{short_of}
use Rattle.short_forms.specs.Long.{long_form}
use Rattle.short_forms.specs.Meaning.{legal, is_legal}
use Rattle.short_forms.specs.Standing.{half_bytes, long_bytes}
use Rattle.short_forms.proofs.Laws.{half_legal}
use Rattle.state.specs.Registers.{pcc_of, mstatus_of}
use Rattle.state.specs.Lent.{Lent}
use Rattle.state.specs.Effects.{stored_by}
use Rattle.state.specs.declared.Effect.{Effect}
use Rattle.jump_instructions.specs.Lengths.{LengthOnly, alike, links}
use Rattle.jump_instructions.proofs.Lengths.{jump_length}
use Rattle.commit.specs.Commit.{retires}
use Rattle.execution.specs.Step.{effect_of, instruction_in, word_in, length_in, trap_or, effect_in}
use Rattle.machine_laws.specs.Short.{as_long, as_half, AsLong}

module _ (n k : ℕ) (regs : List ℕ) (m : Lent) where
  -- the word itself counts for mtval of an illegal one alone
  effect_length : (i : Instruction) → is_legal i ≡ true → (v w : ℕ) → LengthOnly n k m.board.edition (pcc_of regs) (mstatus_of regs) (effect_of n i v regs m)
      (effect_of k i w regs m)
  unfolding effect_of is_legal
  effect_length (Integer i) h v w = alike
  effect_length (Jump i) h v w = jump_length n k m.board.edition i regs
  effect_length (Memory i) h v w = alike
  effect_length (Capabilities i) h v w = alike
  effect_length (System i) h v w = alike
  effect_length Illegal h v w = absurd (true≢false (sym h))

module _ {n k edition : ℕ} {pcc : Capability} {mstatus : ℕ} where
  same_stores : (d e : Effect) → LengthOnly n k edition pcc mstatus d e → stored_by e ≡ stored_by d
  same_stores d _ alike = refl
  same_stores _ _ links = refl

  same_retire : (d e : Effect) → LengthOnly n k edition pcc mstatus d e → retires e ≡ retires d
  unfolding retires
  same_retire d _ alike = refl
  same_retire _ _ links = refl

pub short_as_long : (h : ℕ) → legal (short_of h) ≡ true → (regs : List ℕ) (m : Lent) → AsLong h regs m
unfolding effect_in trap_or length_in instruction_in word_in
short_as_long h l regs m =
    let e = effect_length long_bytes half_bytes regs m (decode_of (long_form h)) (half_legal h ∙ l) (long_form h) h in
    record { effects = e; stores = same_stores (as_long h regs m) (as_half h regs m) e; retire = same_retire (as_long h regs m) (as_half h regs m) e }
