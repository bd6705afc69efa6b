-- Integers by sign and size, and the word of one: it is read back where it fits its reading, and sums and products of integers are those of words.
use Rattle.std.proofs.Common.{◌≡◌, ℕ, zero, suc, ◌+◌, ◌-◌, ◌*◌, ◌/◌, ◌%◌, ◌^◌, ◌<◌, ◌≤◌, Bool, true, false, leb, ℤ, pos, negsuc, ◌+ℤ◌, ◌*ℤ◌, sym, refl, ap}
use Rattle.std.proofs.Common.{◌∙◌, true≢false, mul_comm, mul-zero, zero-mul, arith, le-leb, leb-false, leb-true}
use lib.IntN.{neg_ℤ-+ℤ}
use borrow.Author.Tests.{lt-leb}
use Rattle.words.specs.Words.{wrap}
use Rattle.words.specs.declared.Reading.{Reading}
use Rattle.words.specs.declared.Reading.TheVariants.{Unsigned, Signed}
use Rattle.words.specs.Multiply.{is_negative, size_of, with_sign, value_of, differ, integer_word}
use Rattle.words.proofs.Word.{by_test}

-- ---- integers by sign and size

pub sign_of_zero : (s : Bool) → with_sign s 0 ≡ pos 0
unfolding with_sign
sign_of_zero true = refl
sign_of_zero false = refl

pub product : (s t : Bool) (m n : ℕ) → with_sign s m *ℤ with_sign t n ≡ with_sign (differ s t) (m * n)
unfolding with_sign differ
product false false m n = refl
product false true m zero = rw (mul-zero m) refl
product false true m (suc n) = refl
product true false zero n = rw (zero-mul n) refl
product true false (suc m) n = refl
product true true zero zero = refl
product true true zero (suc n) = rw (zero-mul (suc n)) refl
product true true (suc m) zero = rw (mul-zero (suc m)) refl
product true true (suc m) (suc n) = refl

pub sum : (s : Bool) (m n : ℕ) → with_sign s m +ℤ with_sign s n ≡ with_sign s (m + n)
unfolding with_sign
sum false m n = refl
sum true m n = sym (neg_ℤ-+ℤ (pos m) (pos n))

pub differ_twice : (s t : Bool) → differ s (differ t s) ≡ t
unfolding differ
differ_twice true true = refl
differ_twice true false = refl
differ_twice false true = refl
differ_twice false false = refl

-- ---- the word of an integer

pub word_lt : (z : ℤ) → integer_word z < 2 ^ 32
unfolding integer_word
word_lt (pos n) = omega arith
word_lt (negsuc n) = omega arith

pub word_natural : (n : ℕ) → integer_word (with_sign false n) ≡ n % 2 ^ 32
unfolding integer_word with_sign
word_natural n = refl

pub word_minus : (n : ℕ) → (integer_word (with_sign true n) + n) % 2 ^ 32 ≡ 0
unfolding integer_word with_sign
word_minus zero = refl
word_minus (suc n) = omega arith

-- minus m is the word of n where both together are a multiple of 2 ^ 32
pub word_negative : (m n k : ℕ) → m + n ≡ 2 ^ 32 * k → integer_word (with_sign true m) ≡ n % 2 ^ 32
word_negative m n k e = omega (arith, word_minus m, word_lt (with_sign true m))

pub same_rest : (m n j k : ℕ) → m + 2 ^ 32 * j ≡ n + 2 ^ 32 * k → m % 2 ^ 32 ≡ n % 2 ^ 32
same_rest m n j k e = omega arith

-- a number as what is left of it and a multiple of 2 ^ 32
rest : (n : ℕ) → n ≡ integer_word (with_sign false n) + 2 ^ 32 * (n / 2 ^ 32)
rest n = omega (arith, word_natural n)

rest_minus : (n : ℕ) → integer_word (with_sign true n) + n ≡ 2 ^ 32 * ((integer_word (with_sign true n) + n) / 2 ^ 32)
rest_minus n = omega (arith, word_minus n)

pub word_sum : (s : Bool) (m n : ℕ) → integer_word (with_sign s (m + n)) ≡ wrap (integer_word (with_sign s m) + integer_word (with_sign s n))
word_sum false m n = omega (arith, word_natural m, word_natural n, word_natural (m + n))
word_sum true m n = minus (integer_word (with_sign true m)) (integer_word (with_sign true n)) _ _ (rest_minus m) (rest_minus n)
  where
    minus : (u v j k : ℕ) → u + m ≡ 2 ^ 32 * j → v + n ≡ 2 ^ 32 * k → integer_word (with_sign true (m + n)) ≡ (u + v) % 2 ^ 32
    minus u v j k e f = word_negative (m + n) (u + v) (j + k) (omega arith)

natural_natural : (m n u v j k : ℕ) → m ≡ u + 2 ^ 32 * j → n ≡ v + 2 ^ 32 * k → m * n + 2 ^ 32 * 0 ≡ u * v + 2 ^ 32 * (u * k + j * v + 2 ^ 32 * (j * k))
natural_natural m n u v j k e f = rw (e, f) (omega arith)

natural_minus : (m n u v j k : ℕ) → m ≡ u + 2 ^ 32 * j → v + n ≡ 2 ^ 32 * k → m * n + u * v ≡ 2 ^ 32 * (k * u + j * n)
natural_minus m n u v j k e f = let g : (v + n) * u ≡ 2 ^ 32 * k * u = ap (λ (x : ℕ). x * u) f in rw e (omega (arith, g))

minus_minus : (m n u v j k : ℕ) → u + m ≡ 2 ^ 32 * j → v + n ≡ 2 ^ 32 * k → m * n + 2 ^ 32 * (k * u) ≡ u * v + 2 ^ 32 * (j * n)
minus_minus m n u v j k e f =
    let g : (v + n) * u ≡ 2 ^ 32 * k * u = ap (λ (x : ℕ). x * u) f in
    let h : (u + m) * n ≡ 2 ^ 32 * j * n = ap (λ (x : ℕ). x * n) e in
    omega (arith, g, h)

pub word_product : (s t : Bool) (m n : ℕ) → integer_word (with_sign (differ s t) (m * n)) ≡ wrap (integer_word (with_sign s m) * integer_word (with_sign t n))
unfolding differ
word_product false false m n = word_natural (m * n) ∙ same_rest (m * n) _ 0 _ (natural_natural m n _ _ _ _ (rest m) (rest n))
word_product false true m n = word_negative (m * n) _ _ (natural_minus m n _ _ _ _ (rest m) (rest_minus n))
word_product true false m n =
    ap (λ (x : ℕ). integer_word (with_sign true x)) (mul_comm m n)
    ∙ word_negative (n * m) _ _ (natural_minus n m _ _ _ _ (rest n) (rest_minus m))
    ∙ ap wrap (mul_comm (integer_word (with_sign false n)) (integer_word (with_sign true m)))
word_product true true m n = word_natural (m * n) ∙ same_rest (m * n) _ _ _ (minus_minus m n _ _ _ _ (rest_minus m) (rest_minus n))

-- ---- words read

-- what sizes the words of a reading have, by their sign
unfoldable pub Fits : Reading → (negative : Bool) (size : ℕ) → Type 0
Fits Unsigned true n = ⊥
Fits Unsigned false n = n < 2 ^ 32
Fits Signed true n = n ≤ 2 ^ 31
Fits Signed false n = n < 2 ^ 31

pub fits : (r : Reading) (x : ℕ) → x < 2 ^ 32 → Fits r (is_negative r x) (size_of r x)
unfolding Fits is_negative size_of
fits Unsigned x h = h
fits Signed x h = by_test (leb (2 ^ 31) x) (λ t. rw t (omega (arith, leb-true (2 ^ 31) x t))) (λ t. rw t (leb-false (2 ^ 31) x t))

pub negative_large : (r : Reading) (x : ℕ) → is_negative r x ≡ true → 2 ^ 31 ≤ x
unfolding is_negative
negative_large Unsigned x t = absurd (true≢false (sym t))
negative_large Signed x t = leb-true (2 ^ 31) x t

pub fits_below : (r : Reading) (s : Bool) (m n : ℕ) → n ≤ m → Fits r s m → Fits r s n
unfolding Fits
fits_below Unsigned true m n l h = h
fits_below Unsigned false m n l h = omega arith
fits_below Signed true m n l h = omega arith
fits_below Signed false m n l h = omega arith

pub word_value : (r : Reading) (x : ℕ) → x < 2 ^ 32 → integer_word (value_of r x) ≡ x
unfolding value_of is_negative size_of
word_value Unsigned x h = word_natural x ∙ omega arith
word_value Signed x h =
    by_test (leb (2 ^ 31) x)
    (λ t. rw t (word_negative (2 ^ 32 - x) x 1 (omega arith) ∙ omega arith))
    (λ t. rw t (word_natural x ∙ omega arith))

pub size_back : (r : Reading) (s : Bool) (n : ℕ) → Fits r s n → size_of r (integer_word (with_sign s n)) ≡ n
unfolding Fits size_of is_negative with_sign integer_word
size_back Unsigned true n h = absurd h
size_back Unsigned false n h = word_natural n ∙ omega arith
size_back Signed true zero h = refl
size_back Signed true (suc n) h =
    let w : integer_word (with_sign true (suc n)) ≡ 2 ^ 32 - suc n = word_negative (suc n) (2 ^ 32 - suc n) 1 (omega arith) ∙ omega arith in
    rw (w, le-leb (2 ^ 31) (2 ^ 32 - suc n) (omega arith)) (omega arith)
size_back Signed false n h =
    let w : integer_word (with_sign false n) ≡ n = word_natural n ∙ omega arith in
    rw (w, lt-leb (2 ^ 31) n h) refl

pub sign_back : (r : Reading) (s : Bool) (n : ℕ) → Fits r s n → (n ≡ 0 → ⊥) → is_negative r (integer_word (with_sign s n)) ≡ s
unfolding Fits is_negative
sign_back Unsigned true n h d = absurd h
sign_back Unsigned false n h d = refl
sign_back Signed true n h d =
    le-leb (2 ^ 31) (integer_word (with_sign true n)) (omega (arith, d, word_negative n (2 ^ 32 - n) 1 (omega arith)))
sign_back Signed false n h d = lt-leb (2 ^ 31) (integer_word (with_sign false n)) (omega (arith, word_natural n))

pub word_of_zero : (s : Bool) → integer_word (with_sign s 0) ≡ 0
unfolding integer_word
word_of_zero s = rw (sign_of_zero s) refl

pub value_of_zero : (r : Reading) → value_of r 0 ≡ pos 0
unfolding value_of is_negative size_of with_sign
value_of_zero Unsigned = refl
value_of_zero Signed = refl

pub value_back : (r : Reading) (s : Bool) (n : ℕ) → Fits r s n → value_of r (integer_word (with_sign s n)) ≡ with_sign s n
unfolding value_of
value_back r s zero h = ap (value_of r) (word_of_zero s) ∙ value_of_zero r ∙ sym (sign_of_zero s)
value_back r s (suc n) h = rw (size_back r s (suc n) h, sign_back r s (suc n) h (λ e. omega arith)) refl
