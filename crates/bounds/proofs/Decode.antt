-- The bounds in units of 2^e: the definitions are those of whole numbers, and what a cut's own fields and any other fields decode to.
-- Assumes nothing.
use Rattle.std.proofs.Common.{◌≡◌, ℕ, ◌+◌, ◌-◌, ◌*◌, ◌/◌, ◌%◌, ◌^◌, ◌<◌, ◌≤◌, ◌⊎◌, ap, ◌∙◌, inl, inr, add_assoc, mul-le-mul_right, div-lt_iff_lt-mul}
use Rattle.std.proofs.Common.{mul-lt-mul_of_pos_right, arith, pow_pos, pow_mono, pow-add}
use native.Mathlib.Nat.{div-div-eq-div-mul, mod-add-mod, mul-add-mod_self_right}
use lib.Arith.{digits_mod}
use Rattle.bounds.specs.Bounds.{less, mid_of, up_of, low_of, high_of}
use Rattle.bounds.proofs.Exponent.{Exponent, exponent_le}
use Rattle.bounds.proofs.Program.{Test, test, less_le, space}

-- ---- the definitions are those of whole numbers: with no difference, modulo 2^32 and 2^33

whole : (c m y h : ℕ) → h ≤ c * m → ((c * m + y - h) % m + h) % m ≡ y % m
whole c m y h l = mod-add-mod (c * m + y - h) m h ∙ ap (λ x. x % m) {x = c * m + y - h + h} {y = c * m + y} (omega arith) ∙ mul-add-mod_self_right c m y

-- h * 2^(e+9) is at most 2^33
back_le : (e a b : ℕ) → e ≤ 24 → less a b * 2 ^ (e + 9) ≤ 2 ^ 33
back_le e a b l = omega (arith, mul-le-mul_right (2 ^ (e + 9)) (less_le a b), pow_mono {i = e + 9} {j = 33} (omega arith))

pub low_lt : (e B a : ℕ) → low_of e B a < 2 ^ 32
unfolding low_of
low_lt e B a = omega arith

pub high_lt : (e T B a : ℕ) → high_of e T B a < 2 ^ 33
unfolding high_of
high_lt e T B a = omega arith

pub low_whole : (e B a : ℕ) → e ≤ 24 → (low_of e B a + less (mid_of e a) B * 2 ^ (e + 9)) % 2 ^ 32 ≡ (up_of e a * 2 ^ (e + 9) + B * 2 ^ e) % 2 ^ 32
unfolding low_of
low_whole e B a l =
    let y : ℕ = up_of e a * 2 ^ (e + 9) in
    let h : ℕ = less (mid_of e a) B * 2 ^ (e + 9) in
    ap (λ x. ((x - h) % 2 ^ 32 + h) % 2 ^ 32) (add_assoc (2 ^ 33) y (B * 2 ^ e)) ∙ whole 2 (2 ^ 32) (y + B * 2 ^ e) h (back_le e (mid_of e a) B l)

pub high_whole : (e T B a : ℕ) → e ≤ 24
    → (high_of e T B a + less (mid_of e a) B * 2 ^ (e + 9)) % 2 ^ 33 ≡ ((up_of e a + less T B) * 2 ^ (e + 9) + T * 2 ^ e) % 2 ^ 33
unfolding high_of
high_whole e T B a l =
    let y : ℕ = (up_of e a + less T B) * 2 ^ (e + 9) in
    let h : ℕ = less (mid_of e a) B * 2 ^ (e + 9) in
    ap (λ x. ((x - h) % 2 ^ 33 + h) % 2 ^ 33) (add_assoc (2 ^ 33) y (T * 2 ^ e))
    ∙ whole 1 (2 ^ 33) (y + T * 2 ^ e) h (omega (arith, back_le e (mid_of e a) B l))

-- ---- the address space in units of 2^e

pub whole_space : {e : ℕ} → Exponent e → 2 ^ (32 - e) * 2 ^ e ≡ 2 ^ 32
whole_space {e} x = space e (exponent_le x)

pub unit_below : {e a : ℕ} → Exponent e → a < 2 ^ 32 → a / 2 ^ e < 2 ^ (32 - e)
unit_below {e} {a} x h = (div-lt_iff_lt-mul (pow_pos e)).1 (rw (whole_space x) h)

-- 512 units divide the address space, where e is at most 14
pub many : (e : ℕ) → e ≤ 14 → 2 ^ (32 - e) ≡ 512 * 2 ^ (23 - e)
many e x = ap (λ y. 2 ^ y) (omega arith) ∙ pow-add 2 9 (23 - e)

-- ---- in units of 2^e

-- The 512-unit block that the base stands in, counted from 1, for an address in unit q: up - h + 1. It is 0 where that block lies below 0.
abbrev pub block_of : (q B : ℕ) → ℕ
block_of q B = (q + 512 - B) / 512

block_is : (q B h : ℕ) → B < 512 → Test (q % 512) B h → block_of q B + h ≡ q / 512 + 1
block_is q B h l (inl t) = omega arith
block_is q B h l (inr t) = omega arith

-- so for an address: up - h + 1
pub block_up : (e B a : ℕ) → B < 512 → block_of (a / 2 ^ e) B + less (mid_of e a) B ≡ up_of e a + 1
block_up e B a l = rw (pow-add 2 e 9, ← (div-div-eq-div-mul a (2 ^ e) 512)) (block_is (a / 2 ^ e) B _ l (test _ _))

blocks : (p m u h s f : ℕ) → p * 512 ≤ 2 * m → s + h ≡ u + 1 → 2 * m + u * (p * 512) + f * p - h * (p * 512) ≡ 2 * m + s * (p * 512) + f * p - p * 512
blocks p m u h s f l q = omega (arith, ap (λ x. x * (p * 512)) q)

unit_le : (e : ℕ) → e ≤ 24 → 2 ^ e * 512 ≤ 2 ^ 33
unit_le e l = omega (arith, pow_mono {i = e} {j = 24} l)

-- the sums under the moduli, by the block: the address has no other part in them
pub low_block : (e B a : ℕ) → e ≤ 24 → B < 512 → low_of e B a ≡ (2 * 2 ^ 32 + block_of (a / 2 ^ e) B * (2 ^ e * 512) + B * 2 ^ e - 2 ^ e * 512) % 2 ^ 32
unfolding low_of
low_block e B a l b =
    rw (pow-add 2 e 9, ← (div-div-eq-div-mul a (2 ^ e) 512))
    (ap (λ x. x % 2 ^ 32) (blocks (2 ^ e) (2 ^ 32) (a / 2 ^ e / 512) _ (block_of (a / 2 ^ e) B) B (unit_le e l) (block_is (a / 2 ^ e) B _ b (test _ _))))

pub high_block : (e T B a : ℕ) → e ≤ 24 → B < 512
    → high_of e T B a ≡ (2 * 2 ^ 32 + (block_of (a / 2 ^ e) B + less T B) * (2 ^ e * 512) + T * 2 ^ e - 2 ^ e * 512) % 2 ^ 33
unfolding high_of
high_block e T B a l b =
    rw (pow-add 2 e 9, ← (div-div-eq-div-mul a (2 ^ e) 512))
    (ap (λ x. x % 2 ^ 33) (blocks (2 ^ e) (2 ^ 32) (a / 2 ^ e / 512 + less T B) (less (mid_of e a) B) (block_of (a / 2 ^ e) B + less T B) T (unit_le e l)
    (omega (arith, block_is (a / 2 ^ e) B (less (mid_of e a) B) b (test _ _)))))

-- with the block's units and the field's together
pub low_placed : (e B a : ℕ) → e ≤ 24 → B < 512 → low_of e B a ≡ (2 ^ 33 + (block_of (a / 2 ^ e) B * 512 + B) * 2 ^ e - 512 * 2 ^ e) % 2 ^ 32
low_placed e B a l b = low_block e B a l b ∙ ap (λ x. x % 2 ^ 32) (omega arith)

pub high_placed : (e T B a : ℕ) → e ≤ 24 → B < 512
    → high_of e T B a ≡ (2 ^ 33 + ((block_of (a / 2 ^ e) B + less T B) * 512 + T) * 2 ^ e - 512 * 2 ^ e) % 2 ^ 33
high_placed e T B a l b = high_block e T B a l b ∙ ap (λ x. x % 2 ^ 33) (omega arith)

-- a sum with quotient c and remainder r, in units
in_units : (p K c r s f m : ℕ) → K * p ≡ m → c * K + r + 512 ≡ 2 * K + 512 * s + f → 2 * m + s * (p * 512) + f * p - p * 512 ≡ c * m + r * p
in_units p K c r s f m kp eq = omega (arith, ap (λ x. x * p) eq, ap (λ x. c * x) kp)

pub low_at_lem : (e B a K c r : ℕ) → e ≤ 24 → B < 512 → K * 2 ^ e ≡ 2 ^ 32 → r < K
    → c * K + r + 512 ≡ 2 * K + 512 * block_of (a / 2 ^ e) B + B → low_of e B a ≡ r * 2 ^ e
low_at_lem e B a K c r l b kp hr eq =
    low_block e B a l b
    ∙ ap (λ x. x % 2 ^ 32) (in_units (2 ^ e) K c r _ B (2 ^ 32) kp eq)
    ∙ digits_mod c (rw (← kp) (mul-lt-mul_of_pos_right hr (pow_pos e)))

pub high_at_lem : (e T B a K c r : ℕ) → e ≤ 24 → B < 512 → K * 2 ^ e ≡ 2 ^ 32 → r < 2 * K
    → c * (2 * K) + r + 512 ≡ 2 * K + 512 * (block_of (a / 2 ^ e) B + less T B) + T → high_of e T B a ≡ r * 2 ^ e
high_at_lem e T B a K c r l b kp hr eq =
    high_block e T B a l b
    ∙ ap (λ x. x % 2 ^ 33) (in_units (2 ^ e) K (2 * c) r _ T (2 ^ 32) kp (omega arith) ∙ omega arith)
    ∙ digits_mod c (omega (arith, mul-lt-mul_of_pos_right hr (pow_pos e)))

-- ---- the fields of a region that starts at unit q, that of the address, and ends at unit r, at most 511 further on, decode to that region

own_high_units : (K q r t : ℕ) → q ≤ r → r ≤ q + 511 → Test (r % 512) (q % 512) t
    → 1 * (2 * K) + r + 512 ≡ 2 * K + 512 * (block_of q (q % 512) + t) + r % 512
own_high_units K q r t a b (inl y) = omega arith
own_high_units K q r t a b (inr y) = omega arith

own_low_units : (K q : ℕ) → 2 * K + q + 512 ≡ 2 * K + 512 * block_of q (q % 512) + q % 512
own_low_units K q = omega arith

mid_lt : (q : ℕ) → q % 512 < 512
mid_lt q = omega arith

pub own_low : (e a K : ℕ) → e ≤ 24 → K * 2 ^ e ≡ 2 ^ 32 → a / 2 ^ e < K → low_of e (a / 2 ^ e % 512) a ≡ a / 2 ^ e * 2 ^ e
own_low e a K l kp below = low_at_lem e _ a K 2 _ l (mid_lt (a / 2 ^ e)) kp below (own_low_units K (a / 2 ^ e))

pub own_high : (e a K r : ℕ) → e ≤ 24 → K * 2 ^ e ≡ 2 ^ 32 → a / 2 ^ e ≤ r → r ≤ a / 2 ^ e + 511 → r < 2 * K
    → high_of e (r % 512) (a / 2 ^ e % 512) a ≡ r * 2 ^ e
own_high e a K r l kp start near top =
    high_at_lem e _ _ a K 1 r l (mid_lt (a / 2 ^ e)) kp top (own_high_units K (a / 2 ^ e) r _ start near (test _ _))

-- ---- any fields

-- The region of the fields T and B in block s runs from unit i to unit j of K and twice K. No end r of a request in it, and in the address space, is more than
-- 511 units beyond i. (Its own end j may be: where i wraps below 0, to the top of the address space, j wraps to the top of twice that.)
pub record Facts (K s T B t i j c d : ℕ) : Type 0 where
  pub in_space : i < K
  pub in_twice : j < 2 * K
  pub starts : c * K + i + 512 ≡ 2 * K + 512 * s + B
  pub ends : d * (2 * K) + j + 512 ≡ 2 * K + 512 * (s + t) + T
  pub near : (r : ℕ) → r ≤ j → r ≤ K → r ≤ i + 511

abbrev pub Units : (K s T B t : ℕ) → Type 0
Units K s T B t = (i : ℕ) × (j : ℕ) × (c : ℕ) × (d : ℕ) × Facts K s T B t i j c d

-- Where 512 units divide the address space, every exponent up to 23: a region that does not wrap stands in its block; one that does is in block 0.
abbrev pub Stands : (M s T B t i j : ℕ) → Type 0
Stands M s T B t i j =
    ((0 < s) × (i + 512 ≡ 512 * s + B) × (j + 512 ≡ 512 * (s + t) + T))
    ⊎ ((s ≡ 0) × (i + 512 ≡ 512 * M + B) × (j + 512 ≡ 512 * t + (1 - t) * (1024 * M) + T))

pub units_many : (M q T B t : ℕ) → q < 512 * M → T < 512 → B < 512 → Test T B t → (block_of q B ≡ 0) ⊎ (0 < block_of q B)
    → (i : ℕ) × (j : ℕ) × (c : ℕ) × (d : ℕ) × (Facts (512 * M) (block_of q B) T B t i j c d × Stands M (block_of q B) T B t i j)
units_many M q T B t hq hT hB (inr y) (inr z) = (512 * block_of q B - 512 + B, 512 * block_of q B - 512 + T, 2, 1, (omega arith, inl (omega arith)))
units_many M q T B t hq hT hB (inl y) (inr z) = (512 * block_of q B - 512 + B, 512 * block_of q B + T, 2, 1, (omega arith, inl (omega arith)))
units_many M q T B t hq hT hB (inr y) (inl z) =
    (512 * M - 512 + B, 1024 * M - 512 + T, 1, 0, (omega arith, inr (omega (arith, ap (λ x. (1 - x) * (1024 * M)) y.1))))
units_many M q T B t hq hT hB (inl y) (inl z) = (512 * M - 512 + B, T, 1, 1, (omega arith, inr (omega (arith, ap (λ x. (1 - x) * (1024 * M)) y.1))))

-- Where the address space has 256 units, exponent 24: every block is a multiple of both moduli, and the address has no part in the bounds.
pub units_few : (q T B t : ℕ) → q < 256 → T < 512 → B < 512 → Test T B t → (block_of q B ≡ 0) ⊎ (0 < block_of q B)
    → (c : ℕ) × (d : ℕ) × Facts 256 (block_of q B) T B t (B % 256) T c d
units_few q T B t hq hT hB (inr y) (inr z) = (2 + B / 256, 1, omega arith)
units_few q T B t hq hT hB (inl y) (inr z) = (2 + B / 256, 2, omega arith)
units_few q T B t hq hT hB (inr y) (inl z) = (B / 256, 0, omega arith)
units_few q T B t hq hT hB (inl y) (inl z) = (B / 256, 1, omega arith)
