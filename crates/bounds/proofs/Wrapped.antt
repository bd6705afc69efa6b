-- The base's unit modulo 2^64, shifted to its address: 2^64 is a multiple of both moduli, so neither what the shift loses above it nor the multiple that
-- stands in for a block below 0 is seen in the bounds. Assumes nothing.
use Rattle.std.proofs.Common.{◌≡◌, ℕ, ◌+◌, ◌-◌, ◌*◌, ◌/◌, ◌%◌, ◌^◌, ◌<◌, ◌≤◌, sym, ap, ◌∙◌, arith, pow_pos}
use native.Mathlib.Nat.{mul-add-mod_self_right}
use Rattle.bounds.specs.Bounds.{less, low_of, high_of}
use Rattle.bounds.proofs.Program.{unit_le}
use Rattle.bounds.proofs.Decode.{block_of, low_placed, high_placed}

-- ---- the unit: the two differences modulo 2^64, w of the address's unit q and the field B, and r of q and what is left of w

nine_bits : (q B w : ℕ) → B < 512 → (w + B) % 2 ^ 64 ≡ q → w % 512 ≡ (q + 512 - B) % 512
nine_bits q B w b h = omega arith

unit_is : (q m r : ℕ) → q < 2 ^ 32 → m < 512 → r < 2 ^ 64 → (r + m) % 2 ^ 64 ≡ q → r ≡ (2 ^ 64 + (q + 512 - m) - 512) % 2 ^ 64
unit_is q m r l k f h = omega arith

block_unit : (q B : ℕ) → B < 512 → q + 512 - (q + 512 - B) % 512 ≡ block_of q B * 512 + B
block_unit q B b = omega arith

rest_lt : (x : ℕ) → x % 512 < 512
rest_lt x = omega arith

pub base_unit_is : (q B w r : ℕ) → q < 2 ^ 32 → B < 512 → r < 2 ^ 64 → (w + B) % 2 ^ 64 ≡ q → (r + w % 512) % 2 ^ 64 ≡ q
    → r ≡ (2 ^ 64 + (block_of q B * 512 + B) - 512) % 2 ^ 64
base_unit_is q B w r l b f g h =
    let m : ℕ = (q + 512 - B) % 512 in
    rw (← (block_unit q B b)) (unit_is q m r l (rest_lt (q + 512 - B)) f (rw (nine_bits q B w b g) at h))

-- ---- the address

-- numbers that differ by multiples of m
same_rest : (a b m x y : ℕ) → a * m + x ≡ b * m + y → x % m ≡ y % m
same_rest a b m x y e = sym (mul-add-mod_self_right a m x) ∙ ap (λ z. z % m) e ∙ mul-add-mod_self_right b m y

-- a unit u counted from one block below 0, its address s in units of p, and the quotients c and d that the two remainders leave
pieces : (p U u r c s d : ℕ) → U + 512 ≡ 2 ^ 64 + u → U ≡ c * 2 ^ 64 + r → r * p ≡ d * 2 ^ 64 + s → (c * p + d) * 2 ^ 64 + s + 512 * p ≡ 2 ^ 64 * p + u * p
pieces p U u r c s d e f g = omega (arith, ap (λ x. x * p) e, ap (λ x. x * p) f, g)

module _ (p u : ℕ) (p-pos : 0 < p) (p-le : p ≤ 2 ^ 24) where
  -- the address that the shift gives
  abbrev start : ℕ
  start = ((2 ^ 64 + u - 512) % 2 ^ 64 * p) % 2 ^ 64

  abbrev quotients : ℕ
  quotients = (2 ^ 64 + u - 512) / 2 ^ 64 * p + (2 ^ 64 + u - 512) % 2 ^ 64 * p / 2 ^ 64

  whole : quotients * 2 ^ 64 + start + 512 * p ≡ 2 ^ 64 * p + u * p
  whole =
      let U : ℕ = 2 ^ 64 + u - 512 in
      pieces p U u (U % 2 ^ 64) (U / 2 ^ 64) start (U % 2 ^ 64 * p / 2 ^ 64) (omega arith) (omega arith) (omega arith)

  low_rest : start % 2 ^ 32 ≡ (2 ^ 33 + u * p - 512 * p) % 2 ^ 32
  low_rest = same_rest (quotients * 2 ^ 32) ((2 ^ 31 * p - 1) * 2) (2 ^ 32) start (2 ^ 33 + u * p - 512 * p) (omega (arith, whole))

  high_rest : (t : ℕ) → (start + t) % 2 ^ 64 % 2 ^ 33 ≡ (2 ^ 33 + (u * p + t) - 512 * p) % 2 ^ 33
  high_rest t =
      same_rest ((quotients + (start + t) / 2 ^ 64) * 2 ^ 31) (2 ^ 31 * p - 1) (2 ^ 33) ((start + t) % 2 ^ 64) (2 ^ 33 + (u * p + t) - 512 * p)
      (omega (arith, whole))

-- the bounds, by the base's unit and the span of T above B
pub low_start : (e B a : ℕ) → e ≤ 24 → B < 512 → ((2 ^ 64 + (block_of (a / 2 ^ e) B * 512 + B) - 512) % 2 ^ 64 * 2 ^ e) % 2 ^ 64 % 2 ^ 32 ≡ low_of e B a
low_start e B a l b = low_rest (2 ^ e) (block_of (a / 2 ^ e) B * 512 + B) (pow_pos e) (unit_le e l) ∙ sym (low_placed e B a l b)

pub high_start : (e T B a s : ℕ) → e ≤ 24 → B < 512 → B + s ≡ less T B * 512 + T
    → (((2 ^ 64 + (block_of (a / 2 ^ e) B * 512 + B) - 512) % 2 ^ 64 * 2 ^ e) % 2 ^ 64 + s * 2 ^ e) % 2 ^ 64 % 2 ^ 33 ≡ high_of e T B a
high_start e T B a s l b h =
    let k : ℕ = block_of (a / 2 ^ e) B in
    let u : (k * 512 + B) * 2 ^ e + s * 2 ^ e ≡ ((k + less T B) * 512 + T) * 2 ^ e = omega (arith, ap (λ x. x * 2 ^ e) h) in
    high_rest (2 ^ e) (k * 512 + B) (pow_pos e) (unit_le e l) (s * 2 ^ e)
    ∙ ap (λ x. (2 ^ 33 + x - 512 * 2 ^ e) % 2 ^ 33) u
    ∙ sym (high_placed e T B a l b)
