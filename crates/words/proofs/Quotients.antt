-- Quotient and remainder, once for both readings: sizes are divided, the signs come together again in divisor * quotient, and what fits its reading is read
-- back from its word. One quotient does not fit: the most negative word by minus one.
use Rattle.std.proofs.Common.{◌≡◌, ℕ, ◌+◌, ◌-◌, ◌*◌, ◌/◌, ◌%◌, ◌^◌, ◌<◌, Bool, true, false, not, eqb, leb, ℤ, ◌+ℤ◌, ◌*ℤ◌, sym, refl, ap, ◌∙◌, subst, mod-lt}
use Rattle.std.proofs.Common.{mul-le-mul_left, zero-mul, div-le_self, div-mul-le_self, arith, ne_eqb, eqb-true}
use native.Mathlib.Nat.{mod-le, div-add-mod}
use mathlib.Core.Bool.{beq}
use lib.IntN.{zero-*ℤ, +ℤ_idl}
use borrow.Author.Tests.{eqb-false}
use Rattle.words.specs.Words.{wrap}
use Rattle.words.specs.declared.Reading.{Reading}
use Rattle.words.specs.declared.Reading.TheVariants.{Unsigned, Signed}
use Rattle.words.specs.Multiply.{is_negative, size_of, with_sign, value_of, differ, integer_word, quotient_of, remainder_of}
use Rattle.words.specs.Multiply.{Overflow, DivisionLaw}
use Rattle.words.proofs.Word.{by_test}
use Rattle.words.proofs.Readings as readings
use Rattle.words.proofs.Readings.{Fits}

pub by_zero : (r : Reading) (a : ℕ) → (quotient_of r a 0 ≡ 2 ^ 32 - 1) × (remainder_of r a 0 ≡ a)
unfolding quotient_of remainder_of
by_zero r a = (refl, refl)

-- two signs differ exactly where they are not the same
pub differ_is : (s t : Bool) → not (beq s t) ≡ differ s t
unfolding differ
differ_is true true = refl
differ_is true false = refl
differ_is false true = refl
differ_is false false = refl

module _ (r : Reading) (a b : ℕ) (d : b ≡ 0 → ⊥) where
  other : eqb b 0 ≡ false
  other = ne_eqb b 0 d

  pub quotient_is : quotient_of r a b ≡ integer_word (with_sign (differ (is_negative r a) (is_negative r b)) (size_of r a / size_of r b))
  unfolding quotient_of
  quotient_is = rw other refl

  pub remainder_is : remainder_of r a b ≡ integer_word (with_sign (is_negative r a) (size_of r a % size_of r b))
  unfolding remainder_of
  remainder_is = rw other refl

-- a divisor that is not zero has a size
pub size_positive : (r : Reading) (b : ℕ) → b < 2 ^ 32 → (b ≡ 0 → ⊥) → 0 < size_of r b
unfolding size_of is_negative
size_positive Unsigned b h d = omega (arith, d)
size_positive Signed b h d = by_test (leb (2 ^ 31) b) (λ t. rw t (omega arith)) (λ t. rw t (omega (arith, d)))

-- the quotient fits, unless 2 ^ 31 is to be divided by 1 and both are negative
fits_quotient : (r : Reading) (s t : Bool) (m d : ℕ) → Fits r s m → Fits r t d → 0 < d
    → (r ≡ Signed → s ≡ true → t ≡ true → m ≡ 2 ^ 31 → d ≡ 1 → ⊥) → Fits r (differ s t) (m / d)
unfolding Fits differ
fits_quotient Unsigned true t m d h k p o = absurd h
fits_quotient Unsigned false true m d h k p o = absurd k
fits_quotient Unsigned false false m d h k p o = omega (arith, div-le_self m d)
fits_quotient Signed false false m d h k p o = omega (arith, div-le_self m d)
fits_quotient Signed false true m d h k p o = omega (arith, div-le_self m d)
fits_quotient Signed true false m d h k p o = omega (arith, div-le_self m d)
fits_quotient Signed true true m d h k p o =
    by_test (eqb d 1)
    (λ t. let e = eqb-true d 1 t in
    by_test (eqb m (2 ^ 31)) (λ u. absurd (o refl refl refl (eqb-true m (2 ^ 31) u) e)) (λ u. rw e (omega (arith, eqb-false m (2 ^ 31) u))))
    (λ t. let two = mul-le-mul_left {m = 2} {n = d} (m / d) (omega (arith, eqb-false d 1 t)) in omega (arith, two, div-mul-le_self m d))

size_negative : (r : Reading) (x : ℕ) → is_negative r x ≡ true → size_of r x ≡ 2 ^ 32 - x
unfolding size_of
size_negative r x t = rw t refl

-- that case is the overflow
overflows : (r : Reading) (a b : ℕ) → a < 2 ^ 32 → b < 2 ^ 32 → r ≡ Signed → is_negative r a ≡ true → is_negative r b ≡ true
    → size_of r a ≡ 2 ^ 31 → size_of r b ≡ 1 → Overflow r a b
overflows r a b h k e s t m d =
    record { read_signed = e; most_negative = omega (arith, size_negative r a s); minus_one = omega (arith, size_negative r b t) }

module _ (r : Reading) (a b : ℕ) (h : a < 2 ^ 32) (k : b < 2 ^ 32) (d : b ≡ 0 → ⊥) where
  abbrev negative : Bool
  negative = is_negative r a

  abbrev quotient : ℕ
  quotient = size_of r a / size_of r b

  abbrev left : ℕ
  left = size_of r a % size_of r b

  -- in sizes
  divided : size_of r b * quotient + left ≡ size_of r a
  divided = div-add-mod (size_of r a) (size_of r b)

  -- the integers themselves, before they are words
  integers : value_of r b *ℤ with_sign (differ negative (is_negative r b)) quotient +ℤ with_sign negative left ≡ value_of r a
  unfolding value_of
  integers =
      ap (λ (z : ℤ). z +ℤ with_sign negative left) (readings.product (is_negative r b) (differ negative (is_negative r b)) (size_of r b) quotient)
      ∙ ap (λ (s : Bool). with_sign s (size_of r b * quotient) +ℤ with_sign negative left) (readings.differ_twice (is_negative r b) negative)
      ∙ readings.sum negative (size_of r b * quotient) left
      ∙ ap (with_sign negative) divided

  fits_left : Fits r negative left
  fits_left = readings.fits_below r negative (size_of r a) left (mod-le (size_of r a) (size_of r b)) (readings.fits r a h)

  word_part : integer_word (with_sign negative (size_of r b * quotient)) ≡ wrap (b * quotient_of r a b)
  unfolding value_of
  word_part =
      ap (λ (s : Bool). integer_word (with_sign s (size_of r b * quotient))) (sym (readings.differ_twice (is_negative r b) negative))
      ∙ readings.word_product (is_negative r b) (differ negative (is_negative r b)) (size_of r b) quotient
      ∙ rw (readings.word_value r b k, quotient_is r a b d) refl

  words : wrap (b * quotient_of r a b + remainder_of r a b) ≡ a
  unfolding value_of
  words =
      let e = ap (λ (n : ℕ). integer_word (with_sign negative n)) divided ∙ readings.word_value r a h in
      omega (arith, e, readings.word_sum negative (size_of r b * quotient) left, word_part, remainder_is r a b d)

  whole : (Overflow r a b → ⊥) → value_of r b *ℤ value_of r (quotient_of r a b) +ℤ value_of r (remainder_of r a b) ≡ value_of r a
  whole o =
      let q = readings.value_back r (differ negative (is_negative r b)) quotient (fits_quotient r negative (is_negative r b) (size_of r a) (size_of r b)
      (readings.fits r a h) (readings.fits r b k) (size_positive r b k d) (λ e s t m n. o (overflows r a b h k e s t m n))) in
      rw (quotient_is r a b d, remainder_is r a b d, q, readings.value_back r negative left fits_left) integers

  smaller : size_of r (remainder_of r a b) < size_of r b
  smaller = rw (remainder_is r a b d, readings.size_back r negative left fits_left) (mod-lt (size_of r a) (size_positive r b k d))

  same_sign : (remainder_of r a b ≡ 0 → ⊥) → is_negative r (remainder_of r a b) ≡ is_negative r a
  same_sign z =
      let nonzero : left ≡ 0 → ⊥ = λ e. z (remainder_is r a b d ∙ ap (λ (n : ℕ). integer_word (with_sign negative n)) e ∙ readings.word_of_zero negative) in
      ap (is_negative r) (remainder_is r a b d) ∙ readings.sign_back r negative left fits_left nonzero

divided_by_zero : (r : Reading) (a : ℕ) → a < 2 ^ 32 → DivisionLaw r a 0
divided_by_zero r a h =
    let e = (by_zero r a).1 in
    record {
      as_words = omega (arith, e, zero-mul (quotient_of r a 0));
      as_integers = λ _. rw (readings.value_of_zero r, e) (ap (λ (z : ℤ). z +ℤ value_of r a) (zero-*ℤ (value_of r (quotient_of r a 0)))
          ∙ +ℤ_idl (value_of r a));
      smaller = λ d. absurd (d refl);
      same_sign = λ _. ap (is_negative r) e;
    }

pub division : (r : Reading) (a b : ℕ) → a < 2 ^ 32 → b < 2 ^ 32 → DivisionLaw r a b
division r a b h k =
    by_test (eqb b 0)
    (λ t. subst (DivisionLaw r a) (sym (eqb-true b 0 t)) (divided_by_zero r a h))
    (λ t. let d = eqb-false b 0 t in
    record {
      as_words = words r a b h k d;
      as_integers = whole r a b h k d;
      smaller = λ _. smaller r a b h k d;
      same_sign = same_sign r a b h k d;
    })

pub quotient_word : (r : Reading) (a b : ℕ) → quotient_of r a b < 2 ^ 32
unfolding quotient_of
quotient_word r a b =
    by_test (eqb b 0)
    (λ t. rw t (omega arith))
    (λ t. rw t (readings.word_lt (with_sign (differ (is_negative r a) (is_negative r b)) (size_of r a / size_of r b))))

pub remainder_word : (r : Reading) (a b : ℕ) → a < 2 ^ 32 → remainder_of r a b < 2 ^ 32
unfolding remainder_of
remainder_word r a b h =
    by_test (eqb b 0) (λ t. rw t h) (λ t. rw t (readings.word_lt (with_sign (is_negative r a) (size_of r a % size_of r b))))
