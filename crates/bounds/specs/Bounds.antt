-- The bounds that a metadata word's E, T and B give at an address. Document 01, "Capability word"; CHERIoT report, 7.13.3 and Appendix A, getCapBoundsBits.
-- Assumes nothing.
use Rattle.std.specs.Prelude.{◌≡◌, ℕ, ◌+◌, ◌-◌, ◌*◌, ◌/◌, ◌%◌, ◌^◌, ◌<◌, ◌≤◌, cond, ◌==◌, nat_lt}
use Rattle.metadata.specs.Word.{scale_of, top_of, base_of}
use Rattle.bounds.specs.declared.Region.{Region}

-- the exponent that a field E stands for: E itself, but 24 for 15
unfoldable pub exponent_of : (E : ℕ) → ℕ
exponent_of E = cond (E == 15) 24 E

-- 1 where x < y, else 0: the paper's h, of mid and B, and t, of T and B
abbrev pub less : (x y : ℕ) → ℕ
less x y = cond (nat_lt x y) 1 0

-- an address in units of 2^e: mid is its last nine bits, up the rest
abbrev pub mid_of : (e address : ℕ) → ℕ
mid_of e address = address / 2 ^ e % 2 ^ 9

abbrev pub up_of : (e address : ℕ) → ℕ
up_of e address = address / 2 ^ (e + 9)

-- The paper's two sums of (up - h), or (up + t - h), blocks of 2^(e+9) and a field's units, low modulo 2^32 and high modulo 2^33.
-- `up - h` may be -1. So 2^33 is added first, a multiple of both moduli and at least 2^(e+9): the difference of natural numbers is then that of whole numbers
-- (laws `low_whole` and `high_whole`).
unfoldable pub low_of : (e B address : ℕ) → ℕ
low_of e B address = (2 ^ 33 + up_of e address * 2 ^ (e + 9) + B * 2 ^ e - less (mid_of e address) B * 2 ^ (e + 9)) % 2 ^ 32

unfoldable pub high_of : (e T B address : ℕ) → ℕ
high_of e T B address = (2 ^ 33 + (up_of e address + less T B) * 2 ^ (e + 9) + T * 2 ^ e - less (mid_of e address) B * 2 ^ (e + 9)) % 2 ^ 33

-- the bounds of a metadata word at an address
unfoldable pub low_at : (address metadata : ℕ) → ℕ
low_at address metadata = low_of (exponent_of (scale_of metadata)) (base_of metadata) address

unfoldable pub high_at : (address metadata : ℕ) → ℕ
high_at address metadata = high_of (exponent_of (scale_of metadata)) (top_of metadata) (base_of metadata) address

unfoldable pub bounds_of : (address metadata : ℕ) → Region
bounds_of address metadata = record { low = low_at address metadata; high = high_at address metadata }

-- a region that the encoding can express: the bounds of some metadata word at some address
pub record Expressible (low high : ℕ) : Type 0 where
  pub metadata : ℕ
  pub address : ℕ
  pub metadata_fits : metadata < 2 ^ 32
  pub address_fits : address < 2 ^ 32
  pub low_is : low ≡ low_at address metadata
  pub high_is : high ≡ high_at address metadata

-- [low, high) contains [base, end), or the latter lies inside the former: of whole numbers, and also where a region is empty
pub record Contains (low high base end : ℕ) : Type 0 where
  pub from : low ≤ base
  pub to : end ≤ high
