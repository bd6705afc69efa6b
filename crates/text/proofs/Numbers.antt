-- Laws of numbers as text: how many digits they have, and what hexadecimal digits in a row are.
-- Assumes nothing.
use mathlib.Core.Bool.{Bool, true, false, cond, and-eq-true_iff}
use mathlib.Core.Path.{◌≡◌, refl, ap}
use mathlib.Core.List.{List, [], ◌∷◌, ◌++◌}
use Prim.Native.Nat.{ℕ, zero, suc, ◌+◌, ◌-◌, ◌*◌, ◌/◌, ◌%◌, ◌^◌, ◌≤◌, ◌<◌}
use native.Mathlib.Nat.{pow-succ', mul-le-mul_right}
use Rattle.std.proofs.Math.Nat.{pow-le-pow_right}
use native.Mathlib.Numerals.{add-one}
use native.Mathlib.Omega.{arith}
use borrow.Author.Tests.{ltb-true, ltb-false, leb-true, leb-false, lt-ltb, le-ltb}
use lib.Dec.{ltb, leb}
use lib.ListN.{length, length-append}
use Rattle.text.specs.Digits.{digit_of, is_digit, all_digits, number_from, glyph, digits, places_within, places_of, decimal, minus, signed}

pub length_digits : (base count n : ℕ) → length (digits base count n) ≡ count
unfolding digits
length_digits base zero n = refl
length_digits base (suc k) n = rw (length-append, length_digits base k (n / base), add-one)

pub digits_none : (base count n : ℕ) → count ≡ 0 → digits base count n ≡ []
unfolding digits
digits_none base zero n h = refl
digits_none base (suc k) n h = absurd (omega arith)

-- the last digit comes after the others
pub digits_last : (base count n : ℕ) → 0 < count → digits base count n ≡ digits base (count - 1) (n / base) ++ (glyph (n % base) ∷ [])
unfolding digits
digits_last base zero n h = absurd (omega arith)
digits_last base (suc k) n h = let e : suc k - 1 ≡ k = omega arith in rw e

-- the bound on the search for a number's places does not matter
bound_free : (f g n : ℕ) → n ≤ f → n ≤ g → places_within f n ≡ places_within g n
unfolding places_within
bound_free zero zero n h k = refl
bound_free zero (suc g) n h k = rw (lt-ltb n 10 (omega arith))
bound_free (suc f) zero n h k = rw (lt-ltb n 10 (omega arith))
bound_free (suc f) (suc g) n h k = go (ltb n 10) refl (bound_free f g (n / 10))
  where
    go : (t : Bool) → ltb n 10 ≡ t → (n / 10 ≤ f → n / 10 ≤ g → places_within f (n / 10) ≡ places_within g (n / 10))
        → places_within (suc f) n ≡ places_within (suc g) n
    go true e r = rw e
    go false e r = let l = ltb-false n 10 e in rw (e, r (omega arith) (omega arith))

pub places_one : (n : ℕ) → n < 10 → places_of n ≡ 1
unfolding places_of places_within
places_one zero h = refl
places_one (suc n) h = rw (lt-ltb (suc n) 10 h)

pub places_more : (n : ℕ) → 10 ≤ n → places_of n ≡ suc (places_of (n / 10))
unfolding places_of places_within
places_more zero h = absurd (omega arith)
places_more (suc n) h = rw (le-ltb (suc n) 10 h) (ap suc (bound_free n (suc n / 10) (suc n / 10) (omega arith) (omega arith)))

pub places_le : (k n : ℕ) → n < 10 ^ suc k → places_of n ≤ suc k
places_le zero n h = rw (places_one n h) (omega arith)
places_le (suc k) n h = go (ltb n 10) refl (places_le k (n / 10))
  where
    go : (t : Bool) → ltb n 10 ≡ t → (n / 10 < 10 ^ suc k → places_of (n / 10) ≤ suc k) → places_of n ≤ suc (suc k)
    go true e r = rw (places_one n (ltb-true n 10 e)) (omega arith)
    go false e r = rw (places_more n (ltb-false n 10 e)) (omega (arith, r (omega (arith, pow-succ' 10 (suc k)))))

-- a number is below the power that its places count
within_above : (f n : ℕ) → n ≤ f → n < 10 ^ places_within f n
unfolding places_within
within_above zero n h = omega arith
within_above (suc f) n h = go (ltb n 10) refl (within_above f (n / 10))
  where
    go : (t : Bool) → ltb n 10 ≡ t → (n / 10 ≤ f → n / 10 < 10 ^ places_within f (n / 10)) → n < 10 ^ places_within (suc f) n
    go true e r = rw e (omega (arith, ltb-true n 10 e))
    go false e r = let l = ltb-false n 10 e in rw (e, pow-succ' 10 (places_within f (n / 10))) (omega (arith, r (omega arith)))

pub places_above : (n : ℕ) → n < 10 ^ places_of n
unfolding places_of
places_above n = within_above n n (omega arith)

-- a number with this logarithm
pub places_log : (n k : ℕ) → 10 ^ k ≤ n → n < 10 * 10 ^ k → places_of n ≡ k + 1
places_log n k h m = go (leb (places_of n) k) refl
  where
    go : (t : Bool) → leb (places_of n) k ≡ t → places_of n ≡ k + 1
    go true e =
        let p : 10 ^ places_of n ≤ 10 ^ k = pow-le-pow_right (omega arith) (leb-true (places_of n) k e) in
        absurd (omega (arith, p, places_above n))
    go false e = omega (arith, leb-false (places_of n) k e, places_le k n (omega (arith, pow-succ' 10 k)))

-- a 64-bit number has at most 20 decimal digits, a word at most 10, and one more in signed decimal
pub decimal_le : (n : ℕ) → n < 2 ^ 64 → length (decimal n) ≤ 20
unfolding decimal
decimal_le n h = rw length_digits (places_le 19 n (omega arith))

pub word_le : (n : ℕ) → n < 2 ^ 32 → length (decimal n) ≤ 10
unfolding decimal
word_le n h = rw length_digits (places_le 9 n (omega arith))

pub signed_le : (v : ℕ) → v < 2 ^ 32 → length (signed v) ≤ 11
unfolding signed
signed_le v h = go (ltb v (2 ^ 31)) refl
  where
    go : (t : Bool) → ltb v (2 ^ 31) ≡ t → length (cond t (decimal v) (minus ∷ decimal (2 ^ 32 - v))) ≤ 11
    go true e = omega (arith, word_le v h)
    go false e = let l = ltb-false v (2 ^ 31) e in omega (arith, word_le (2 ^ 32 - v) (omega arith))

-- one digit d more, where the rest counts p
carry : (v d p q x y z : ℕ) → q ≡ 16 * p → x ≡ (v * 16 + d) * p + z → y ≡ (0 * 16 + d) * p + z → x ≡ v * q + y
carry v d p q x y z e f g = omega (arith, ap (λ (t : ℕ). v * t) e)

-- digits after those that wrote v
pub number_split : (v : ℕ) (l : List ℕ) → number_from v l ≡ v * 16 ^ length l + number_from 0 l
unfolding number_from
number_split v [] = omega arith
number_split v (b ∷ l) =
    carry v (digit_of b) (16 ^ length l) (16 ^ suc (length l)) (number_from v (b ∷ l)) (number_from 0 (b ∷ l)) (number_from 0 l) (pow-succ' 16 (length l))
    (number_split (v * 16 + digit_of b) l) (number_split (0 * 16 + digit_of b) l)

pub digit_lt : (b : ℕ) → is_digit b ≡ true → digit_of b < 16
digit_lt b h = ltb-true (digit_of b) 16 h

carried : (v d p q x : ℕ) → d < 16 → q ≡ 16 * p → x < (v * 16 + d + 1) * p → x < (v + 1) * q
carried v d p q x h e f = omega (arith, ap (λ (t : ℕ). v * t) e, mul-le-mul_right p h)

number_below : (v : ℕ) (l : List ℕ) → all_digits l ≡ true → number_from v l < (v + 1) * 16 ^ length l
unfolding number_from all_digits
number_below v [] h = omega arith
number_below v (b ∷ l) h =
    let t = (and-eq-true_iff (is_digit b) (all_digits l)).0 h in
    carried v (digit_of b) (16 ^ length l) (16 ^ suc (length l)) (number_from v (b ∷ l)) (digit_lt b t.0) (pow-succ' 16 (length l))
    (number_below (v * 16 + digit_of b) l t.1)

-- eight digits write a 32-bit number
pub number_word : (l : List ℕ) → length l ≡ 8 → all_digits l ≡ true → number_from 0 l < 2 ^ 32
number_word l n h = omega (arith, rw n at (number_below 0 l h))

-- eight digits after those of v
pub number_after : (v : ℕ) (l : List ℕ) → length l ≡ 8 → number_from v l ≡ v * 2 ^ 32 + number_from 0 l
number_after v l n = rw n at (number_split v l)
