-- A cut's answer as plain numbers: document 01's number of the answer, and its values.
-- Assumes nothing.
use Rattle.std.specs.Prelude.{◌≡◌, ℕ, Result}
use Rattle.bounds.specs.Cutting.{answer_number, answer_low, answer_high, answer_exact, cut_of}
use Rattle.bounds.specs.declared.CutRegion.{CutRegion}
use Rattle.bounds.specs.declared.CutError.{CutError}
use Rattle.label.specs.declared.Numbers.{Numbers}

pub record Says (r : Numbers) (a : Result CutRegion CutError) : Type 0 where
  pub number_is : r.number ≡ answer_number a
  pub low_is : r.low ≡ answer_low a
  pub high_is : r.high ≡ answer_high a
  pub exact_is : r.exact ≡ answer_exact a

-- the numbers of one request that the four functions for C promise
pub record CutNumbers (base length number low high exact : ℕ) : Type 0 where
  pub number_is : number ≡ answer_number (cut_of base length)
  pub low_is : low ≡ answer_low (cut_of base length)
  pub high_is : high ≡ answer_high (cut_of base length)
  pub exact_is : exact ≡ answer_exact (cut_of base length)
