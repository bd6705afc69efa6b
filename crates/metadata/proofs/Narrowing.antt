-- The permission codes: each of the 64 has one meaning, and a narrowing gives no right that was not there. Computed over all codes and all sets of rights.
-- Assumes nothing.
use mathlib.Core.Path.{◌≡◌, refl, sym, ap, ◌∙◌}
use mathlib.Core.Bool.{Bool, true, false, ◌&&◌}
use Prim.Native.Nat.{ℕ, zero, suc, min, ◌/◌, ◌%◌, ◌^◌, ◌≤◌, ◌<◌}
use native.Mathlib.Nat.{div-div-eq-div-mul, div-one, pow-succ', not-suc-le-zero, min-zero}
use native.Mathlib.Omega.{arith}
use lib.Arith.{bin_ind}
use lib.Bits.{bit_and, and_shr, and_mod, and_le_l, and_comm, and_step, and_zero_r}
use lib.Dec.{T, leb, ltb, eqb, leb→le, ltb→lt, eqb→eq}
use borrow.Author.Tests.{eqb-true, eqb-false}
use Rattle.metadata.specs.Rights.{bit, Has, rights_of, code_of}
use Rattle.choices.proofs.Every.{every, every_at, and_left, and_right}

-- n bits of a are among those of b
within : (n a b : ℕ) → Bool
within zero a b = true
within (suc n) a b = leb (a % 2) (b % 2) && within n (a / 2) (b / 2)

halved : (a k : ℕ) → a / 2 ^ suc k ≡ a / 2 / 2 ^ k
halved a k = ap (λ x. a / x) (pow-succ' 2 k) ∙ sym (div-div-eq-div-mul a 2 (2 ^ k))

within_at : (n a b : ℕ) → T (within n a b) → (k : ℕ) → k < n → bit a k ≤ bit b k
unfolding within
within_at zero a b t k h = absurd (not-suc-le-zero h)
within_at (suc n) a b t zero h = rw (div-one a, div-one b) (leb→le (a % 2) (b % 2) (and_left (leb (a % 2) (b % 2)) _ t))
within_at (suc n) a b t (suc k) h = rw (halved a k, halved b k) (within_at n (a / 2) (b / 2) (and_right (leb (a % 2) (b % 2)) _ t) k (omega arith))

-- each of the 64 codes has one meaning, of twelve rights
code_test : ℕ → Bool
code_test c = eqb (code_of (rights_of c)) c && ltb (rights_of c) 4096

codes : T (every code_test 64)
unfolding code_test rights_of code_of
codes = tt

-- a code holds none but the rights that it was made of
narrow_test : ℕ → Bool
narrow_test r = within 12 (rights_of (code_of r)) r && ltb (code_of r) 64

narrows : T (every narrow_test 4096)
unfolding narrow_test within rights_of code_of
narrows = tt

pub code_of_rights : (c : ℕ) → c < 64 → code_of (rights_of c) ≡ c
unfolding code_test
code_of_rights c h = eqb→eq (code_of (rights_of c)) c (and_left (eqb (code_of (rights_of c)) c) (ltb (rights_of c) 4096) (every_at code_test 64 codes c h))

pub rights_fit : (c : ℕ) → c < 64 → rights_of c < 4096
unfolding code_test
rights_fit c h = ltb→lt (rights_of c) 4096 (and_right (eqb (code_of (rights_of c)) c) (ltb (rights_of c) 4096) (every_at code_test 64 codes c h))

pub code_fits : (r : ℕ) → r < 4096 → code_of r < 64
unfolding narrow_test
code_fits r h = ltb→lt (code_of r) 64 (and_right (within 12 (rights_of (code_of r)) r) (ltb (code_of r) 64) (every_at narrow_test 4096 narrows r h))

pub code_narrows : (r : ℕ) → r < 4096 → (k : ℕ) → k < 12 → bit (rights_of (code_of r)) k ≤ bit r k
unfolding narrow_test
code_narrows r h =
    within_at 12 (rights_of (code_of r)) r (and_left (within 12 (rights_of (code_of r)) r) (ltb (code_of r) 64) (every_at narrow_test 4096 narrows r h))

-- what a mask leaves is in both
pub mask_left : (a m k : ℕ) → bit (bit_and a m) k ≤ bit a k
mask_left a m k = rw (and_shr a m k, and_mod (a / 2 ^ k) (m / 2 ^ k) 1) (and_le_l (a / 2 ^ k % 2) (m / 2 ^ k % 2))

pub mask_right : (a m k : ℕ) → bit (bit_and a m) k ≤ bit m k
mask_right a m k = rw (and_comm a m) (mask_left m a k)

-- the bits of a mask are among some others exactly where the mask leaves itself of them
pub masked_all : (mask a : ℕ) → ((k : ℕ) → Has mask k → Has a k) → bit_and a mask ≡ mask
masked_all =
    bin_ind (λ (m : ℕ). (a : ℕ) → ((k : ℕ) → Has m k → Has a k) → bit_and a m ≡ m) (λ a h. and_zero_r a)
    (λ m rest a h.
    let e = rest (a / 2) (λ k x. sym (ap (λ y. y % 2) (halved a k)) ∙ h (suc k) (ap (λ y. y % 2) (halved m k) ∙ x)) in
    let d : min (a % 2) (m % 2) ≡ m % 2 =
    lowest a m (eqb (m % 2) 1) refl (λ x. ap (λ z. z % 2) (sym (div-one a)) ∙ h 0 (ap (λ z. z % 2) (div-one m) ∙ x)) in
    and_step a m ∙ (rw (e, d) (omega arith)))
  where
    lowest : (a m : ℕ) (b : Bool) → eqb (m % 2) 1 ≡ b → (m % 2 ≡ 1 → a % 2 ≡ 1) → min (a % 2) (m % 2) ≡ m % 2
    lowest a m true t f = let x = eqb-true (m % 2) 1 t in rw (x, f x) refl
    lowest a m false t f = let x : m % 2 ≡ 0 = omega (arith, eqb-false (m % 2) 1 t) in rw x (min-zero (a % 2))

pub masked_each : (mask a : ℕ) → bit_and a mask ≡ mask → (k : ℕ) → Has mask k → Has a k
masked_each mask a e k h =
    let l : bit mask k ≤ bit a k = rw e at (mask_left a mask k) in
    omega (arith, l, h)

-- what a mask leaves of a code's rights has a code
pub masked_rights : (c m : ℕ) → c < 64 → bit_and (rights_of c) m < 4096
masked_rights c m h = omega (arith, and_le_l (rights_of c) m, rights_fit c h)

pub masked_code : (c m : ℕ) → c < 64 → code_of (bit_and (rights_of c) m) < 64
masked_code c m h = code_fits (bit_and (rights_of c) m) (masked_rights c m h)
