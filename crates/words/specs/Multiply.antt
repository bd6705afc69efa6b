-- Multiply and divide (RISC-V unprivileged standard, M): words are read as integers, each a sign and a size, and the low 32 bits of a result in two's
-- complement are the word. An integer is pos n, or negsuc n, which is -(n + 1). Assumes nothing.
use Rattle.std.specs.Prelude.{◌≡◌, ℕ, ◌+◌, ◌-◌, ◌*◌, ◌/◌, ◌%◌, ◌^◌, ◌<◌, Bool, true, false, cond, not, ℤ, pos, negsuc, ◌+ℤ◌, ◌*ℤ◌, neg_ℤ, ◌==◌, ◌≢◌, nat_le}
use Rattle.std.specs.Int.Signed.{shr_z}
use Rattle.words.specs.Words.{wrap}
use Rattle.words.specs.declared.Reading.{Reading}
use Rattle.words.specs.declared.Reading.TheVariants.{Unsigned, Signed}

-- read signed, a word from 2 ^ 31 on is 2 ^ 32 less
unfoldable pub is_negative : Reading → ℕ → Bool
is_negative Unsigned x = false
is_negative Signed x = nat_le (2 ^ 31) x

unfoldable pub size_of : Reading → ℕ → ℕ
size_of r x = cond (is_negative r x) (2 ^ 32 - x) x

-- the integer of a sign and a size
unfoldable pub with_sign : (negative : Bool) (size : ℕ) → ℤ
with_sign true n = neg_ℤ (pos n)
with_sign false n = pos n

unfoldable pub value_of : Reading → ℕ → ℤ
value_of r x = with_sign (is_negative r x) (size_of r x)

-- two signs make a minus
unfoldable pub differ : Bool → Bool → Bool
differ true s = not s
differ false s = s

-- the low 32 bits of an integer
unfoldable pub integer_word : ℤ → ℕ
integer_word (pos n) = n % 2 ^ 32
integer_word (negsuc n) = 2 ^ 32 - 1 - n % 2 ^ 32

-- MUL: the low half of the product, the same however the factors are read (`Halves`)
unfoldable pub product_low : (a b : ℕ) → ℕ
product_low a b = wrap (a * b)

-- the high half of the product: MULH reads both signed, MULHSU the first, MULHU none. A shift right (`shr_z`) rounds down
unfoldable pub product_high : Reading → Reading → (a b : ℕ) → ℕ
product_high r s a b = integer_word (shr_z (value_of r a *ℤ value_of s b) (2 ^ 32))

-- DIV, DIVU: the quotient of the sizes, so rounded toward zero; by zero all ones. Of the most negative word by minus one it is 2 ^ 31, which no signed
-- word is: its low 32 bits are the most negative word again
unfoldable pub quotient_of : Reading → (a b : ℕ) → ℕ
quotient_of r a b = cond (b == 0) (2 ^ 32 - 1) (integer_word (with_sign (differ (is_negative r a) (is_negative r b)) (size_of r a / size_of r b)))

-- REM, REMU: what the sizes leave, with the dividend's sign; by zero the dividend
unfoldable pub remainder_of : Reading → (a b : ℕ) → ℕ
remainder_of r a b = cond (b == 0) a (integer_word (with_sign (is_negative r a) (size_of r a % size_of r b)))

-- What is shown of these for all words.

-- the product is signed where a factor is
unfoldable pub product_reading : Reading → Reading → Reading
product_reading Unsigned s = s
product_reading Signed s = Signed

-- high * 2 ^ 32 + low is the product
abbrev pub Halves : Reading → Reading → (a b : ℕ) → Type 0
Halves r s a b = value_of (product_reading r s) (product_high r s a b) *ℤ pos (2 ^ 32) +ℤ pos (product_low a b) ≡ value_of r a *ℤ value_of s b

-- the quotient that is no word of its reading
pub record Overflow (r : Reading) (a b : ℕ) : Type 0 where
  pub read_signed : r ≡ Signed
  pub most_negative : a ≡ 2 ^ 31
  pub minus_one : b ≡ 2 ^ 32 - 1

pub record DivisionLaw (r : Reading) (a b : ℕ) : Type 0 where
  -- dividend = divisor * quotient + remainder: as words always, as integers but for the overflow
  pub as_words : wrap (b * quotient_of r a b + remainder_of r a b) ≡ a
  pub as_integers : (Overflow r a b → ⊥) → value_of r b *ℤ value_of r (quotient_of r a b) +ℤ value_of r (remainder_of r a b) ≡ value_of r a
  -- the remainder is smaller in size than the divisor, and has the dividend's sign if it has one
  pub smaller : (b ≢ 0) → size_of r (remainder_of r a b) < size_of r b
  pub same_sign : (remainder_of r a b ≢ 0) → is_negative r (remainder_of r a b) ≡ is_negative r a
