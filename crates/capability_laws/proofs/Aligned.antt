-- A base and a length in whole units are cut exactly; what CRAM and CRRL round to is such. Assumes nothing.
use mathlib.Core.Path.{◌≡◌, sym, ap, ◌∙◌}
use mathlib.Core.Logic.{◌⊎◌, inl, inr}
use mathlib.Core.Bool.{true}
use Prim.Native.Nat.{ℕ, ◌+◌, ◌-◌, ◌*◌, ◌/◌, ◌%◌, ◌^◌, ◌≤◌, ◌<◌}
use native.Mathlib.Nat.{div-mul-le_self, mul-le-mul_right, mul-div_cancel, mul_assoc, zero-mul, le_of_mul-le-mul_right, sub-add_cancel}
use native.Mathlib.Omega.{arith}
use lib.Arith.{digits_div}
use lib.Bits.{bit_and, and_high}
use lib.Pow.{pow_pos, shr_mod}
use Rattle.bounds.specs.Cutting.{floor_at, ceil_at, round_down, round_up, cut_exponent, unrounded}
use Rattle.bounds.proofs.Rounding.{ceil_le, pow_split}
use Rattle.bounds.proofs.Exponent.{Exponent, cut_exponent_lem}
use Rattle.bounds.proofs.Decode.{whole_space}
use Rattle.capability_laws.proofs.Tests.{both_equal}
use Rattle.capability_laws.proofs.Region.{fits_of, of_fits, ceil_space, cut_least_exponent}

-- the alignment mask rounds down
pub mask_down : (e x : ℕ) → e ≤ 24 → x < 2 ^ 32 → bit_and x (2 ^ 32 - 2 ^ e) ≡ x / 2 ^ e * 2 ^ e
mask_down e x l h =
    let j : 32 - e + e ≡ 32 = sub-add_cancel {n = 32} {m = e} (omega arith) in
    rw j at (and_high x (32 - e) e) ∙ ap (λ y. y * 2 ^ e) (shr_mod (32 - e) e (rw j h))

floor_units : (e x : ℕ) → floor_at e (x * 2 ^ e) ≡ x
unfolding floor_at
floor_units e x = mul-div_cancel x (pow_pos e)

ceil_units : (e x : ℕ) → ceil_at e (x * 2 ^ e) ≡ x
unfolding ceil_at
ceil_units e x = digits_div x {m = 2 ^ e} {r = 2 ^ e - 1} (omega (arith, pow_pos e))

-- a multiple of 2^e is one of each smaller unit, which rounding leaves alone
multiple : (d e x : ℕ) → d ≤ e → (round_down d (x * 2 ^ e) ≡ x * 2 ^ e) × (round_up d (x * 2 ^ e) ≡ x * 2 ^ e)
multiple d e x l =
    let m : x * 2 ^ e ≡ x * 2 ^ (e - d) * 2 ^ d = ap (λ y. x * y) (pow_split l) ∙ sym (mul_assoc x (2 ^ (e - d)) (2 ^ d)) in
    rw m (ap (λ y. y * 2 ^ d) (floor_units d (x * 2 ^ (e - d))), ap (λ y. y * 2 ^ d) (ceil_units d (x * 2 ^ (e - d))))

-- a base x and a length k of whole units of 2^e, at most 511 of them, are cut exactly
pub aligned : (e x k : ℕ) → Exponent e → k ≤ 511 → x * 2 ^ e < 2 ^ 32 → (x + k) * 2 ^ e ≤ 2 ^ 32 → unrounded (x * 2 ^ e) ((x + k) * 2 ^ e) ≡ true
unfolding unrounded
aligned e x k h l word sane =
    let b : ℕ = x * 2 ^ e in
    let f : ℕ = (x + k) * 2 ^ e in
    let u = fits_of b f e (rw (floor_units e x, ceil_units e (x + k)) (omega arith)) in
    let d = (cut_least_exponent b f word (omega arith) sane).is_least e h u in
    let c : ℕ = cut_exponent b f in
    (both_equal (round_down c b) b (round_up c f) f).1 ((multiple c e x d).0, (multiple c e (x + k) d).1)

floor_zero : (e : ℕ) → floor_at e 0 ≡ 0
floor_zero e = ap (floor_at e) (sym (zero-mul (2 ^ e))) ∙ floor_units e 0

ceil_zero : (e : ℕ) → ceil_at e 0 ≡ 0
ceil_zero e = ap (ceil_at e) (sym (zero-mul (2 ^ e))) ∙ ceil_units e 0

-- the length in units of its own cut
module _ (n : ℕ) (length : n < 2 ^ 32) where
  pub short : ceil_at (cut_exponent 0 n) n ≤ 511
  short =
      let e : ℕ = cut_exponent 0 n in
      omega (arith, of_fits 0 n e (cut_least_exponent 0 n (omega arith) (omega arith) (omega arith)).is_fit, floor_zero e)

  round_fits : round_up (cut_exponent 0 n) n ≤ 2 ^ 32
  round_fits =
      let x = cut_exponent_lem 0 n in
      omega (arith, mul-le-mul_right (2 ^ cut_exponent 0 n) (ceil_space (cut_exponent 0 n) n x (omega arith)), whole_space x)

  -- it is not 2^32 where the length is 0, nor where what CRRL gives is not
  pub round_lt : (n ≡ 0) ⊎ (0 < round_up (cut_exponent 0 n) n % 2 ^ 32) → round_up (cut_exponent 0 n) n < 2 ^ 32
  round_lt (inl z) = rw (z, ceil_zero (cut_exponent 0 0), zero-mul) (omega arith)
  round_lt (inr p) = omega (arith, round_fits)

  -- the rounded length, from a base rounded down, ends in the address space
  pub round_end : (base : ℕ) → base + n ≤ 2 ^ 32 → (base / 2 ^ cut_exponent 0 n + ceil_at (cut_exponent 0 n) n) * 2 ^ cut_exponent 0 n ≤ 2 ^ 32
  unfolding ceil_at
  round_end base sane =
      let e : ℕ = cut_exponent 0 n in
      let x : ℕ = base / 2 ^ e in
      let w = whole_space (cut_exponent_lem 0 n) in
      let d = div-mul-le_self base (2 ^ e) in
      let l : x ≤ 2 ^ (32 - e) = le_of_mul-le-mul_right {k = 2 ^ e} (omega (arith, w, d)) (pow_pos e) in
      let y : ℕ = 2 ^ (32 - e) - x in
      let k : x + y ≡ 2 ^ (32 - e) = omega arith in
      let c = ceil_le n y (pow_pos e) (omega (arith, ap (λ z. z * 2 ^ e) k, w, d)) in
      omega (arith, mul-le-mul_right (2 ^ e) c, ap (λ z. z * 2 ^ e) k, w)
