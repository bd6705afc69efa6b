-- A half beside its long form. Document 02, 3. Assumes nothing.
use Rattle.std.specs.Prelude.{◌≡◌, List, ℕ}
use Rattle.short_forms.specs.Long.{long_form}
use Rattle.short_forms.specs.Standing.{half_bytes, long_bytes}
use Rattle.state.specs.Registers.{pcc_of, mstatus_of}
use Rattle.state.specs.Lent.{Lent}
use Rattle.state.specs.Effects.{stored_by}
use Rattle.state.specs.declared.Effect.{Effect}
use Rattle.jump_instructions.specs.Lengths.{LengthOnly}
use Rattle.fetch.specs.declared.Fetched.TheVariants.{Long, Half}
use Rattle.commit.specs.Commit.{retires}
use Rattle.execution.specs.Step.{effect_in}
use Rattle.std.specs.Prelude.{Ok}

-- what the long form does where it stands as a long word, and what the half does
abbrev pub as_long : (half : ℕ) → (regs : List ℕ) → Lent → Effect
as_long h regs m = effect_in (Ok (Long (long_form h))) regs m

abbrev pub as_half : (half : ℕ) → (regs : List ℕ) → Lent → Effect
as_half h regs m = effect_in (Ok (Half h)) regs m

-- Of a legal half they are the same, links apart: so they store the same, and both retire or both trap. (PCC's next address is what `registers_after` makes of
-- the length: law `next_alone` of crate commit. An illegal half differs in mtval.)
pub record AsLong (h : ℕ) (regs : List ℕ) (m : Lent) : Type 0 where
  pub effects : LengthOnly long_bytes half_bytes m.board.edition (pcc_of regs) (mstatus_of regs) (as_long h regs m) (as_half h regs m)
  pub stores : stored_by (as_half h regs m) ≡ stored_by (as_long h regs m)
  pub retire : retires (as_half h regs m) ≡ retires (as_long h regs m)
