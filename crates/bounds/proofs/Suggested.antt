-- The cut's exponent is the one that the length's leading zeros propose, or the next: less than it leaves the length alone above 511 units, and the next
-- leaves it at most 256. Assumes nothing.
use Rattle.std.proofs.Common.{◌≡◌, ℕ, suc, ◌+◌, ◌-◌, ◌*◌, ◌/◌, ◌^◌, ◌<◌, ◌≤◌, true, false, ◌⊎◌, ap, inl, inr, mul-le-mul_right, eq-zero-or-pos, eq-or-lt_of_le}
use Rattle.std.proofs.Common.{div-mul-le_self, arith, pow_pos, pow_mono, pow-add, le-leb}
use native.Mathlib.Nat.{suc_inj, lt-div-mul-add}
use borrow.Author.Tests.{lt-leb}
use lib.Count.{count_leading_zeros, leading_of_zero, leading_top}
use Rattle.bounds.specs.Cutting.{suggestion, floor_at, ceil_at, fits_at, cut_exponent}
use Rattle.bounds.proofs.Rounding.{ceil_ge, ceil_le}
use Rattle.bounds.proofs.Exponent.{exponent_is, exponent_none}

-- the length has its highest bit at 8 + suggestion, or below where suggestion is 0
suggested_above : (n : ℕ) → n < 2 ^ 32 → n < 512 * 2 ^ suggestion n
unfolding suggestion
suggested_above n h = go (eq-zero-or-pos n)
  where
    go : (n ≡ 0) ⊎ (0 < n) → n < 512 * 2 ^ (23 - count_leading_zeros 32 n)
    go (inl e) = omega (arith, pow_pos (23 - count_leading_zeros 32 n))
    go (inr p) =
        let (j, e, lo, hi) = leading_top 32 n p h in
        omega (arith, pow_mono {i = suc j} {j = 9 + (23 - count_leading_zeros 32 n)} (omega arith), pow-add 2 9 (23 - count_leading_zeros 32 n))

suggested_below : (n : ℕ) → n < 2 ^ 32 → 0 < suggestion n → 256 * 2 ^ suggestion n ≤ n
unfolding suggestion
suggested_below n h l = go (eq-zero-or-pos n)
  where
    go : (n ≡ 0) ⊎ (0 < n) → 256 * 2 ^ (23 - count_leading_zeros 32 n) ≤ n
    go (inl e) = absurd (omega (arith, ap (count_leading_zeros 32) e, leading_of_zero 32))
    go (inr p) =
        let (j, e, lo, hi) = leading_top 32 n p h in
        omega (arith, pow_mono {i = 8 + (23 - count_leading_zeros 32 n)} {j = j} (omega arith), pow-add 2 8 (23 - count_leading_zeros 32 n))

-- an exponent below the suggestion does not fit: the length alone is more than 511 units
suggested_least : (base n x : ℕ) → n < 2 ^ 32 → x < suggestion n → fits_at base (base + n) x ≡ false
unfolding fits_at floor_at ceil_at
suggested_least base n x h l =
    lt-leb ((base + n + (2 ^ x - 1)) / 2 ^ x * 2 ^ x) (base / 2 ^ x * 2 ^ x + 511 * 2 ^ x)
    (omega (
      arith,
      suggested_below n h (omega arith),
      pow_mono {i = suc x} {j = suggestion n} l,
      ceil_ge (base + n) (pow_pos x),
      div-mul-le_self base (2 ^ x),
      pow_pos x,
    ))

-- a length of at most 256 units fits
short_fits : (base n e : ℕ) → n ≤ 256 * 2 ^ e → fits_at base (base + n) e ≡ true
unfolding fits_at floor_at ceil_at
short_fits base n e h =
    let p : ℕ = 2 ^ e in
    let hp : 0 < p = pow_pos e in
    let up : base + n ≤ (base / p + 257) * p = omega (arith, lt-div-mul-add {a = base} {b = p} hp) in
    le-leb ((base + n + (p - 1)) / p * p) (base / p * p + 511 * p) (omega (arith, mul-le-mul_right p (ceil_le (base + n) (base / p + 257) hp up)))

-- so one more than the suggestion fits, and 24 fits every request, past 2 ^ 32 too
suggested_most : (base n : ℕ) → n < 2 ^ 32 → fits_at base (base + n) (suc (suggestion n)) ≡ true
suggested_most base n h = short_fits base n (suc (suggestion n)) (omega (arith, suggested_above n h))

pub whole_fits : (base n : ℕ) → n < 2 ^ 32 → fits_at base (base + n) 24 ≡ true
whole_fits base n h = short_fits base n 24 (omega arith)

-- ---- the exponent, by the suggestion and one test

pub suggested_fits : (base n : ℕ) → n < 2 ^ 32 → suggestion n ≤ 14 → fits_at base (base + n) (suggestion n) ≡ true
    → cut_exponent base (base + n) ≡ suggestion n
suggested_fits base n h l t = exponent_is base (base + n) (suggestion n) l t (λ y u. suggested_least base n y h u)

-- below suc (suggestion n) nothing fits
below_next : (base n y : ℕ) → n < 2 ^ 32 → fits_at base (base + n) (suggestion n) ≡ false → y < suc (suggestion n) → fits_at base (base + n) y ≡ false
below_next base n y h t u = go (eq-or-lt_of_le u)
  where
    go : (suc y ≡ suc (suggestion n)) ⊎ (suc y < suc (suggestion n)) → fits_at base (base + n) y ≡ false
    go (inl e) = rw (suc_inj e) t
    go (inr l) = suggested_least base n y h (omega arith)

pub suggested_next : (base n : ℕ) → n < 2 ^ 32 → suggestion n < 14 → fits_at base (base + n) (suggestion n) ≡ false
    → cut_exponent base (base + n) ≡ suc (suggestion n)
suggested_next base n h l t = exponent_is base (base + n) (suc (suggestion n)) l (suggested_most base n h) (λ y u. below_next base n y h t u)

pub suggested_past : (base n : ℕ) → n < 2 ^ 32 → 14 < suggestion n → cut_exponent base (base + n) ≡ 24
suggested_past base n h l = exponent_none base (base + n) (λ y u. suggested_least base n y h (omega arith))

pub suggested_last : (base n : ℕ) → n < 2 ^ 32 → 14 ≤ suggestion n → fits_at base (base + n) (suggestion n) ≡ false
    → cut_exponent base (base + n) ≡ 24
suggested_last base n h l t = exponent_none base (base + n) (λ y u. below_next base n y h t (omega arith))
