-- Numbers as ASCII text: hexadecimal digits in lower case, decimal numbers, and words in signed decimal.
-- Assumes nothing.
use Rattle.std.specs.Prelude.{Bool, true, cond, ◌&&◌, List, [], ◌∷◌, ◌++◌, ℕ, zero, suc, ◌+◌, ◌-◌, ◌*◌, ◌/◌, ◌%◌, ◌^◌, ltb, Option, Some, None}

-- the value of a lower-case hexadecimal digit (0 to 9 are 48 to 57, a to f are 97 to 102), and 16 for any other byte
unfoldable pub digit_of : (byte : ℕ) → ℕ
digit_of b = cond (ltb b 48) 16 (cond (ltb b 58) (b - 48) (cond (ltb b 97) 16 (cond (ltb b 103) (b - 87) 16)))

abbrev pub is_digit : (byte : ℕ) → Bool
is_digit b = ltb (digit_of b) 16

-- the value, where the byte is a digit
abbrev pub digit_told : (byte : ℕ) → Option ℕ
digit_told b = cond (is_digit b) (Some (digit_of b)) None

unfoldable pub all_digits : List ℕ → Bool
all_digits [] = true
all_digits (b ∷ l) = is_digit b && all_digits l

-- the number that hexadecimal digits write, the most significant first, after those that wrote v
unfoldable pub number_from : (v : ℕ) → List ℕ → ℕ
number_from v [] = v
number_from v (b ∷ l) = number_from (v * 16 + digit_of b) l

abbrev pub number_of : List ℕ → ℕ
number_of l = number_from 0 l

-- the byte of a digit below 16
unfoldable pub glyph : (digit : ℕ) → ℕ
glyph d = cond (ltb d 10) (48 + d) (87 + d)

-- the last `count` digits of n, the most significant first
unfoldable pub digits : (base count n : ℕ) → List ℕ
digits base zero n = []
digits base (suc k) n = digits base k (n / base) ++ (glyph (n % base) ∷ [])

-- how many decimal digits n has, of at most more + 1; n more are always enough
unfoldable pub places_within : (more n : ℕ) → ℕ
places_within zero n = 1
places_within (suc more) n = let r = places_within more (n / 10) in cond (ltb n 10) 1 (suc r)

unfoldable pub places_of : (n : ℕ) → ℕ
places_of n = places_within n n

-- n in decimal
unfoldable pub decimal : (n : ℕ) → List ℕ
decimal n = digits 10 (places_of n) n

abbrev pub minus : ℕ
minus = 45

-- a word in signed decimal, read in two's complement
unfoldable pub signed : (word : ℕ) → List ℕ
signed v = cond (ltb v (2 ^ 31)) (decimal v) (minus ∷ decimal (2 ^ 32 - v))
