-- The answer of the definition has the number and the values that the promise gives. Assumes nothing.
use Rattle.std.proofs.Common.{◌≡◌, ℕ, ◌+◌, Bool, true, false, cond, refl, Result, Ok, Err}
use Rattle.bounds.specs.Cutting.{past_end, region_answer, cut_of, answer_number, answer_low, answer_high, answer_exact, CutPromise}
use Rattle.bounds.specs.declared.CutRegion.{CutRegion}
use Rattle.bounds.specs.declared.CutError.{CutError}
use Rattle.bounds.specs.declared.CutError.TheVariants.{PastEnd}

-- by the test alone, for any region
record Numbers (past : Bool) (c : CutRegion) : Type 0 where
  number_is : answer_number (cond past (Err PastEnd) (Ok c)) ≡ cond past 6 0
  low_is : answer_low (cond past (Err PastEnd) (Ok c)) ≡ cond past 0 c.region.low
  high_is : answer_high (cond past (Err PastEnd) (Ok c)) ≡ cond past 0 c.region.high
  exact_is : answer_exact (cond past (Err PastEnd) (Ok c)) ≡ cond past 0 (cond c.exact 1 0)

numbers : (past : Bool) (c : CutRegion) → Numbers past c
numbers true c = record { number_is = refl; low_is = refl; high_is = refl; exact_is = refl }
numbers false c = record { number_is = refl; low_is = refl; high_is = refl; exact_is = refl }

pub cut_promised : (base length : ℕ) → CutPromise base length (cut_of base length)
unfolding cut_of
cut_promised base length =
    let end : ℕ = base + length in
    let n = numbers (past_end base length) (region_answer base end) in
    record { answer_is = refl; number_is = n.number_is; low_is = n.low_is; high_is = n.high_is; exact_is = n.exact_is }

-- so has any answer that is that of the definition
pub answer_promised : (base length : ℕ) (answer : Result CutRegion CutError) → answer ≡ cut_of base length → CutPromise base length answer
answer_promised base length answer h = rw h (cut_promised base length)
