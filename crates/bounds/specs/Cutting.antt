-- The cut of a request [base, end): document 01, "Cutting bounds". The answer to a request of two words: document 01, "Answers", numbers 0 and 6.
-- Assumes nothing.
use Rattle.std.specs.Prelude.{◌≡◌, ℕ, zero, suc, ◌+◌, ◌-◌, ◌*◌, ◌/◌, ◌%◌, ◌^◌, Bool, cond, ◌&&◌, ◌==◌, nat_le, nat_lt, Result, Ok, Err}
use Rattle.std.specs.Int.Count.{count_leading_zeros}
use Rattle.metadata.specs.Word.{with_bounds}
use Rattle.bounds.specs.Bounds.{low_at, high_at}
use Rattle.bounds.specs.declared.CutRegion.{CutRegion}
use Rattle.bounds.specs.declared.CutError.{CutError}
use Rattle.bounds.specs.declared.CutError.TheVariants.{PastEnd}

-- x over 2^e, rounded down and rounded up
unfoldable pub floor_at : (e x : ℕ) → ℕ
floor_at e x = x / 2 ^ e

unfoldable pub ceil_at : (e x : ℕ) → ℕ
ceil_at e x = (x + (2 ^ e - 1)) / 2 ^ e

-- x rounded down and rounded up to a multiple of 2^e
abbrev pub round_down : (e x : ℕ) → ℕ
round_down e x = floor_at e x * 2 ^ e

abbrev pub round_up : (e x : ℕ) → ℕ
round_up e x = ceil_at e x * 2 ^ e

-- exponent e fits the request: rounded outwards to units of 2^e, it is at most 511 units long
unfoldable pub fits_at : (base end e : ℕ) → Bool
fits_at base end e = nat_le (round_up e end) (round_down e base + 511 * 2 ^ e)

-- the first of e, e + 1, .. (count of them) that fits, else 24
unfoldable pub first_fit : (count e base end : ℕ) → ℕ
first_fit zero e base end = 24
first_fit (suc n) e base end = let r = first_fit n (suc e) base end in cond (fits_at base end e) e r

-- the least exponent that fits, of 0 to 14 and 24
unfoldable pub cut_exponent : (base end : ℕ) → ℕ
cut_exponent base end = first_fit 15 0 base end

-- the field E of an exponent: 15 stands for 24
unfoldable pub scale_field : (e : ℕ) → ℕ
scale_field e = cond (e == 24) 15 e

-- B and T: the last nine bits of the rounded ends, counted in units of 2^e
unfoldable pub cut_base : (base end : ℕ) → ℕ
cut_base base end = floor_at (cut_exponent base end) base % 2 ^ 9

unfoldable pub cut_top : (base end : ℕ) → ℕ
cut_top base end = ceil_at (cut_exponent base end) end % 2 ^ 9

-- a metadata word with the cut's E, T and B
unfoldable pub with_cut : (metadata base end : ℕ) → ℕ
with_cut w base end = with_bounds w (scale_field (cut_exponent base end)) (cut_top base end) (cut_base base end)

-- rounding changes neither end: what CSetBoundsExact asks
unfoldable pub unrounded : (base end : ℕ) → Bool
unrounded base end = round_down (cut_exponent base end) base == base && round_up (cut_exponent base end) end == end

-- the cut's region: what its fields decode to at its address, base
unfoldable pub cut_low : (base end : ℕ) → ℕ
cut_low base end = low_at base (with_cut 0 base end)

unfoldable pub cut_high : (base end : ℕ) → ℕ
cut_high base end = high_at base (with_cut 0 base end)

-- whether the answer is called exact: the region is the request
unfoldable pub cut_exact : (base end : ℕ) → Bool
cut_exact base end = cut_low base end == base && cut_high base end == end

-- the request ends past 2^32: refusal 6
abbrev pub past_end : (base length : ℕ) → Bool
past_end base length = nat_lt (2 ^ 32) (base + length)

-- the region of a cut, and whether it is exact
abbrev pub region_answer : (base end : ℕ) → CutRegion
region_answer base end = record { region = record { low = cut_low base end; high = cut_high base end }; exact = cut_exact base end }

-- the answer to a cut asked by plain numbers: a refusal, or the region
unfoldable pub cut_of : (base length : ℕ) → Result CutRegion CutError
cut_of base length = cond (past_end base length) (Err PastEnd) (Ok (region_answer base (base + length)))

-- the paper's number of an answer, and its values; where refused there is no region, and each value is 0
abbrev pub answer_number : Result CutRegion CutError → ℕ
answer_number (Ok c) = 0
answer_number (Err PastEnd) = 6

abbrev pub answer_low : Result CutRegion CutError → ℕ
answer_low (Ok c) = c.region.low
answer_low (Err e) = 0

abbrev pub answer_high : Result CutRegion CutError → ℕ
answer_high (Ok c) = c.region.high
answer_high (Err e) = 0

abbrev pub answer_exact : Result CutRegion CutError → ℕ
answer_exact (Ok c) = cond c.exact 1 0
answer_exact (Err e) = 0

-- what is promised of the answer: which it is, and the paper's number and values of it
pub record CutPromise (base length : ℕ) (answer : Result CutRegion CutError) : Type 0 where
  pub answer_is : answer ≡ cut_of base length
  pub number_is : answer_number answer ≡ cond (past_end base length) 6 0
  pub low_is : answer_low answer ≡ cond (past_end base length) 0 (cut_low base (base + length))
  pub high_is : answer_high answer ≡ cond (past_end base length) 0 (cut_high base (base + length))
  pub exact_is : answer_exact answer ≡ cond (past_end base length) 0 (cond (cut_exact base (base + length)) 1 0)

-- The exponent that the length's leading zeros propose. The cut's is that one or the next, where 15 and above stand for 24.
unfoldable pub suggestion : (length : ℕ) → ℕ
suggestion length = 23 - count_leading_zeros 32 length
