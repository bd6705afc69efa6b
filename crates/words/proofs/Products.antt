-- The halves of a product, once for all readings of its factors: an integer of 64 bits is its two words, and the product is one. What a high half has
-- to do with the unsigned one, which the code computes.
use Rattle.std.proofs.Common.{◌≡◌, ℕ, zero, suc, ◌+◌, ◌-◌, ◌*◌, ◌/◌, ◌%◌, ◌^◌, ◌<◌, ◌≤◌, Bool, true, false, cond, leb, ℤ, pos, negsuc, ◌+ℤ◌, ◌*ℤ◌, neg_ℤ, sym}
use Rattle.std.proofs.Common.{refl, ap, ◌∙◌, subst, mul-le-mul, arith}
use lib.IntN.{neg_ℤ-+ℤ, -ℤ-+ℤ_cancel}
use lib.Signed.{shr_z}
use Rattle.words.specs.declared.Reading.{Reading}
use Rattle.words.specs.declared.Reading.TheVariants.{Unsigned, Signed}
use Rattle.words.specs.Multiply.{is_negative, size_of, with_sign, value_of, differ, integer_word, product_low, product_high, product_reading, Halves}
use Rattle.words.proofs.Word.{by_test}
use Rattle.words.proofs.Readings as readings
use Rattle.words.proofs.Readings.{Fits}

-- what sizes the integers of 64 bits have, by their sign
unfoldable Fits64 : Reading → (negative : Bool) (size : ℕ) → Type 0
Fits64 Unsigned true n = ⊥
Fits64 Unsigned false n = n < 2 ^ 64
Fits64 Signed true n = n ≤ 2 ^ 63
Fits64 Signed false n = n < 2 ^ 63

most : (m n a b : ℕ) → m ≤ a → n ≤ b → m * n ≤ a * b
most m n a b h k = mul-le-mul {n₁ = m} {m₁ = n} {n₂ = a} {m₂ = b} h k

pub below : (a b : ℕ) → a < 2 ^ 32 → b < 2 ^ 32 → a * b < 2 ^ 64
below a b h k = omega (arith, most a b (2 ^ 32 - 1) (2 ^ 32 - 1) (omega arith) (omega arith))

fits_product : (r p : Reading) (s t : Bool) (m n : ℕ) → Fits r s m → Fits p t n → Fits64 (product_reading r p) (differ s t) (m * n)
unfolding Fits Fits64 differ product_reading
fits_product Unsigned p true t m n h k = absurd h
fits_product Unsigned Unsigned false true m n h k = absurd k
fits_product Unsigned Unsigned false false m n h k = below m n h k
fits_product Unsigned Signed false true m n h k = omega (arith, most m n (2 ^ 32 - 1) (2 ^ 31) (omega arith) k)
fits_product Unsigned Signed false false m n h k = omega (arith, most m n (2 ^ 32 - 1) (2 ^ 31 - 1) (omega arith) (omega arith))
fits_product Signed Unsigned s true m n h k = absurd k
fits_product Signed Unsigned true false m n h k = omega (arith, most m n (2 ^ 31) (2 ^ 32 - 1) h (omega arith))
fits_product Signed Unsigned false false m n h k = omega (arith, most m n (2 ^ 31 - 1) (2 ^ 32 - 1) (omega arith) (omega arith))
fits_product Signed Signed true true m n h k = omega (arith, most m n (2 ^ 31) (2 ^ 31) h k)
fits_product Signed Signed true false m n h k = omega (arith, most m n (2 ^ 31) (2 ^ 31) h (omega arith))
fits_product Signed Signed false true m n h k = omega (arith, most m n (2 ^ 31) (2 ^ 31) (omega arith) k)
fits_product Signed Signed false false m n h k = omega (arith, most m n (2 ^ 31 - 1) (2 ^ 31 - 1) (omega arith) (omega arith))

-- minus (n + w), and w added again
added_again : (x n w : ℕ) → x ≡ suc n + w → neg_ℤ (pos x) +ℤ pos w ≡ negsuc n
added_again x n w e =
    ap (λ (y : ℕ). neg_ℤ (pos y) +ℤ pos w) e
    ∙ ap (λ (z : ℤ). z +ℤ pos w) (neg_ℤ-+ℤ (pos (suc n)) (pos w))
    ∙ -ℤ-+ℤ_cancel (negsuc n) (pos w)

-- the two words of an integer put together
abbrev joined : Reading → ℤ → ℤ
joined r z = value_of r (integer_word (shr_z z (2 ^ 32))) *ℤ pos (2 ^ 32) +ℤ pos (integer_word z)

natural : (r : Reading) (n : ℕ) → Fits r false (n / 2 ^ 32) → joined r (pos n) ≡ pos n
unfolding with_sign
natural r n h =
    ap (λ (z : ℤ). z *ℤ pos (2 ^ 32) +ℤ pos (integer_word (pos n))) (readings.value_back r false (n / 2 ^ 32) h)
    ∙ ap pos (omega (arith, readings.word_natural n))

-- an integer of 64 bits is its two words
two_words : (r : Reading) (s : Bool) (n : ℕ) → Fits64 r s n → joined r (with_sign s n) ≡ with_sign s n
unfolding Fits64 Fits with_sign
two_words Unsigned true n h = absurd h
two_words Unsigned false n h = natural Unsigned n (omega arith)
two_words Signed false n h = natural Signed n (omega arith)
two_words Signed true zero h = natural Signed zero (omega arith)
two_words Signed true (suc n) h =
    let q : ℕ = n / 2 ^ 32 in
    let w : integer_word (negsuc n) ≡ 2 ^ 32 - 1 - n % 2 ^ 32 = omega (arith, readings.word_negative (suc n) (2 ^ 32 - 1 - n % 2 ^ 32) (q + 1) (omega arith)) in
    ap (λ (z : ℤ). z *ℤ pos (2 ^ 32) +ℤ pos (integer_word (negsuc n))) (readings.value_back Signed true (suc q) (omega arith))
    ∙ added_again (suc q * 2 ^ 32) n (integer_word (negsuc n)) (omega (arith, w))

pub low_word : (r p : Reading) (a b : ℕ) → a < 2 ^ 32 → b < 2 ^ 32 → integer_word (value_of r a *ℤ value_of p b) ≡ product_low a b
unfolding value_of product_low
low_word r p a b h k =
    ap integer_word (readings.product (is_negative r a) (is_negative p b) (size_of r a) (size_of p b))
    ∙ readings.word_product (is_negative r a) (is_negative p b) (size_of r a) (size_of p b)
    ∙ rw (readings.word_value r a h, readings.word_value p b k) refl

pub halves : (r p : Reading) (a b : ℕ) → a < 2 ^ 32 → b < 2 ^ 32 → Halves r p a b
unfolding product_high value_of
halves r p a b h k =
    let s = is_negative r a in
    let t = is_negative p b in
    let fit = fits_product r p s t (size_of r a) (size_of p b) (readings.fits r a h) (readings.fits p b k) in
    ap (λ (x : ℕ). value_of (product_reading r p) (product_high r p a b) *ℤ pos (2 ^ 32) +ℤ pos x) (sym (low_word r p a b h k))
    ∙ subst (λ (z : ℤ). joined (product_reading r p) z ≡ z)
    (sym (readings.product s t (size_of r a) (size_of p b)))
    (two_words (product_reading r p) (differ s t) (size_of r a * size_of p b) fit)

-- ---- the high half from the unsigned one, modulo 2 ^ 32: less b where a is negative, and less a where b is

-- a product with a minus, and the one without
high_minus : (m n b : ℕ) → m + n ≡ 2 ^ 32 * b → b < 2 ^ 32 → (integer_word (shr_z (with_sign true m) (2 ^ 32)) + b) % 2 ^ 32 ≡ n / 2 ^ 32
unfolding with_sign integer_word
high_minus zero n b e k = omega arith
high_minus (suc m) n b e k = omega arith

high_natural : (n : ℕ) → integer_word (shr_z (with_sign false n) (2 ^ 32)) ≡ n / 2 ^ 32 % 2 ^ 32
unfolding with_sign integer_word
high_natural n = refl

-- two minus signs
opposite : (a b m n : ℕ) → m + a ≡ 2 ^ 32 → n + b ≡ 2 ^ 32 → m * n + 2 ^ 32 * a + 2 ^ 32 * b ≡ 2 ^ 64 + a * b
opposite a b m n e f =
    let g : (m + a) * (n + b) ≡ 2 ^ 32 * (n + b) = ap (λ (x : ℕ). x * (n + b)) e in
    let i : (m + a) * b ≡ 2 ^ 32 * b = ap (λ (x : ℕ). x * b) e in
    let j : (n + b) * a ≡ 2 ^ 32 * a = ap (λ (x : ℕ). x * a) f in
    omega (arith, g, i, j, f)

-- the size of a word by its sign
abbrev Sized : Bool → ℕ → ℕ → Type 0
Sized true m a = m + a ≡ 2 ^ 32
Sized false m a = m ≡ a

sized : (r : Reading) (a : ℕ) → a < 2 ^ 32 → Sized (is_negative r a) (size_of r a) a
unfolding size_of is_negative
sized Unsigned a h = refl
sized Signed a h = by_test (leb (2 ^ 31) a) (λ t. rw t (omega arith)) (λ t. rw t refl)

by_signs : (s t : Bool) (m n a b : ℕ) → Sized s m a → Sized t n b → a < 2 ^ 32 → b < 2 ^ 32
    → (integer_word (shr_z (with_sign (differ s t) (m * n)) (2 ^ 32)) + cond s b 0 + cond t a 0) % 2 ^ 32 ≡ a * b / 2 ^ 32
unfolding differ
by_signs false false m n a b e f h k =
    rw (e, f) (omega (arith, below a b h k, high_natural (a * b)))
by_signs true false m n a b e f h k =
    let g : (m + a) * b ≡ 2 ^ 32 * b = ap (λ (x : ℕ). x * b) e in
    rw f (omega (arith, high_minus (m * b) (a * b) b (omega (arith, g)) k))
by_signs false true m n a b e f h k =
    let g : (n + b) * a ≡ 2 ^ 32 * a = ap (λ (x : ℕ). x * a) f in
    rw e (omega (arith, high_minus (a * n) (a * b) a (omega (arith, g)) h))
by_signs true true m n a b e f h k =
    omega (arith, below a b h k, opposite a b m n e f, high_natural (m * n))

pub high_of : (r p : Reading) (a b : ℕ) → a < 2 ^ 32 → b < 2 ^ 32
    → (product_high r p a b + cond (is_negative r a) b 0 + cond (is_negative p b) a 0) % 2 ^ 32 ≡ a * b / 2 ^ 32
unfolding product_high value_of
high_of r p a b h k =
    rw (readings.product (is_negative r a) (is_negative p b) (size_of r a) (size_of p b))
    (by_signs (is_negative r a) (is_negative p b) (size_of r a) (size_of p b) a b (sized r a h) (sized p b k) h k)

pub high_unsigned_lem : (a b : ℕ) → a < 2 ^ 32 → b < 2 ^ 32 → product_high Unsigned Unsigned a b ≡ a * b / 2 ^ 32
unfolding product_high value_of is_negative size_of with_sign
high_unsigned_lem a b h k = high_natural (a * b) ∙ omega (arith, below a b h k)

pub high_word : (r p : Reading) (a b : ℕ) → product_high r p a b < 2 ^ 32
unfolding product_high
high_word r p a b = readings.word_lt (shr_z (value_of r a *ℤ value_of p b) (2 ^ 32))

pub low_lt : (a b : ℕ) → product_low a b < 2 ^ 32
unfolding product_low
low_lt a b = omega arith
