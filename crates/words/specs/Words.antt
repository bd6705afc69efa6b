-- Words of 32 bits as numbers below 2 ^ 32: what the integer instructions compute, bytes of a list, one bit of a list of bytes.
use Rattle.std.specs.Prelude.{ℕ, zero, suc, ◌+◌, ◌-◌, ◌*◌, ◌/◌, ◌%◌, ◌^◌, ◌<◌, Bool, cond, List, [], ◌∷◌, nat_lt, slice_index, slice_set}

-- a sum or a product as the word that is left of it
abbrev pub wrap : ℕ → ℕ
wrap x = x % 2 ^ 32

-- the low n bits of x as a signed number (two's complement), written as a word; from 32 bits on, x itself
unfoldable pub sign_extend : ℕ → ℕ → ℕ
sign_extend x n = cond (nat_lt (2 * (x % 2 ^ n)) (2 ^ n)) (x % 2 ^ n) (x % 2 ^ n + (2 ^ 32 - 2 ^ n))

-- SLL, SRL, SRA: the amount is its low five bits
abbrev pub sll_of : ℕ → ℕ → ℕ
sll_of a k = wrap (a * 2 ^ (k % 32))

abbrev pub srl_of : ℕ → ℕ → ℕ
srl_of a k = a / 2 ^ (k % 32)

-- a negative word is shifted as its complement is
unfoldable pub sra_of : ℕ → ℕ → ℕ
sra_of a k = cond (nat_lt a 2147483648) (a / 2 ^ (k % 32)) (4294967295 - (4294967295 - a) / 2 ^ (k % 32))

-- the word with its sign bit turned over: the order of these is the signed order
abbrev pub flip : ℕ → ℕ
flip x = (x + 2147483648) % 2 ^ 32

abbrev pub less_signed : ℕ → ℕ → Bool
less_signed a b = nat_lt (flip a) (flip b)

-- SLT, SLTU
unfoldable pub slt_of : ℕ → ℕ → ℕ
slt_of a b = cond (less_signed a b) 1 0

unfoldable pub sltu_of : ℕ → ℕ → ℕ
sltu_of a b = cond (nat_lt a b) 1 0

-- n bytes at a place, the lowest first
unfoldable pub le_bytes : ℕ → List ℕ → ℕ → ℕ
le_bytes zero m i = 0
le_bytes (suc n) m i = le_bytes n m i + slice_index m (i + n) * 2 ^ (8 * n)

abbrev pub le8 : List ℕ → ℕ → ℕ
le8 m i = le_bytes 1 m i

abbrev pub le16 : List ℕ → ℕ → ℕ
le16 m i = le_bytes 2 m i

abbrev pub le32 : List ℕ → ℕ → ℕ
le32 m i = le_bytes 4 m i

-- the low n bytes of v put at a place, the lowest first
unfoldable pub set_bytes : ℕ → List ℕ → ℕ → ℕ → List ℕ
set_bytes zero m i v = m
set_bytes (suc n) m i v = slice_set (set_bytes n m i v) (i + n) (v / 2 ^ (8 * n) % 256)

abbrev pub set8 : List ℕ → ℕ → ℕ → List ℕ
set8 m i v = set_bytes 1 m i v

abbrev pub set16 : List ℕ → ℕ → ℕ → List ℕ
set16 m i v = set_bytes 2 m i v

abbrev pub set32 : List ℕ → ℕ → ℕ → List ℕ
set32 m i v = set_bytes 4 m i v

-- bytes put one after another from a place on
unfoldable pub put_list : (bytes : List ℕ) → List ℕ → ℕ → List ℕ
put_list [] m i = m
put_list (b ∷ bs) m i = put_list bs (slice_set m i b) (i + 1)

-- each element is a byte
abbrev pub Bytes : List ℕ → Type 0
Bytes m = (i : ℕ) → slice_index m i < 256

-- bit g: bit (g mod 8) of byte (g div 8), lowest first
unfoldable pub bit_at : List ℕ → ℕ → ℕ
bit_at t g = slice_index t (g / 8) / 2 ^ (g % 8) % 2

-- byte b with bit k set to the lowest bit of v: the bits above, the new one, the bits below
unfoldable pub with_bit : ℕ → ℕ → ℕ → ℕ
with_bit b k v = (b / 2 ^ k / 2 * 2 + v % 2) * 2 ^ k + b % 2 ^ k

unfoldable pub put_bit : List ℕ → ℕ → ℕ → List ℕ
put_bit t g v = slice_set t (g / 8) (with_bit (slice_index t (g / 8)) (g % 8) v)
