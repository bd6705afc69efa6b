-- The twelve rights, the six stored bits that hold them, and narrowing. Document 01, "Capability word"; CHERIoT report, 7.13.1 and Appendix A.
-- Assumes nothing.
use Rattle.std.specs.Prelude.{Bool, cond, ◌&&◌, ◌||◌, ◌≡◌, ℕ, ◌+◌, ◌-◌, ◌*◌, ◌/◌, ◌%◌, ◌^◌, eqb}
use Rattle.std.specs.Int.Bits.{bit_and}
use Rattle.metadata.specs.Word.{permissions_of, with_permissions}

-- bit k of x
abbrev pub bit : (x k : ℕ) → ℕ
bit x k = x / 2 ^ k % 2

-- right k is among the rights r
abbrev pub has : (r k : ℕ) → Bool
has r k = eqb (bit r k) 1

abbrev pub Has : (r k : ℕ) → Type 0
Has r k = bit r k ≡ 1

-- the rights by their places in a mask, lowest bit first (document 01, "Capability word")
abbrev pub GL : ℕ
GL = 0

abbrev pub LG : ℕ
LG = 1

abbrev pub SD : ℕ
SD = 2

abbrev pub LM : ℕ
LM = 3

abbrev pub SL : ℕ
SL = 4

abbrev pub LD : ℕ
LD = 5

abbrev pub MC : ℕ
MC = 6

abbrev pub SR : ℕ
SR = 7

abbrev pub EX : ℕ
EX = 8

abbrev pub US : ℕ
US = 9

abbrev pub SE : ℕ
SE = 10

abbrev pub U0 : ℕ
U0 = 11

-- all twelve
abbrev pub all_rights : ℕ
all_rights = 2 ^ 12 - 1

-- the set that holds the right k where b is 1
abbrev pub right : (k b : ℕ) → ℕ
right k b = b * 2 ^ k

-- The rights of a code: the bits that its row names, and those that the row grants besides. The rows stand in the order of document 01's table.
unfoldable pub rights_of : (code : ℕ) → ℕ
rights_of c =
    right GL (bit c 5)
    + cond (eqb (c / 8 % 4) 3) (right SL (bit c 2) + right LM (bit c 1) + right LG (bit c 0) + (2 ^ LD + 2 ^ MC + 2 ^ SD))
    (cond (eqb (c / 4 % 8) 5) (right LM (bit c 1) + right LG (bit c 0) + (2 ^ LD + 2 ^ MC))
    (cond (eqb (c % 32) 16) (2 ^ SD + 2 ^ MC)
    (cond (eqb (c / 4 % 8) 4) (right LD (bit c 1) + right SD (bit c 0))
    (cond (eqb (c / 8 % 4) 1) (right SR (bit c 2) + right LM (bit c 1) + right LG (bit c 0) + (2 ^ EX + 2 ^ LD + 2 ^ MC))
    (right U0 (bit c 2) + right SE (bit c 1) + right US (bit c 0))))))

-- The code that narrowing picks: GL, and of the rows, in document 01's order of preference, the first whose granted rights are all there; the row
-- of LD and SD, which grants nothing, where one of the two is. What that row has no bit for is lost.
unfoldable pub code_of : (rights : ℕ) → ℕ
code_of r =
    bit r GL * 32
    + cond (has r EX && (has r LD && has r MC)) (8 + bit r SR * 4 + bit r LM * 2 + bit r LG)
    (cond (has r LD && (has r MC && has r SD)) (24 + bit r SL * 4 + bit r LM * 2 + bit r LG)
    (cond (has r LD && has r MC) (20 + bit r LM * 2 + bit r LG)
    (cond (has r SD && has r MC) 16
    (cond (has r LD || has r SD) (16 + bit r LD * 2 + bit r SD)
    (bit r U0 * 4 + bit r SE * 2 + bit r US)))))

-- the rights of a metadata word
abbrev pub word_rights : (w : ℕ) → ℕ
word_rights w = rights_of (permissions_of w)

-- narrowing: the rights that both the word and the mask have, encoded in the word's six stored bits
unfoldable pub narrow_word : (w mask : ℕ) → ℕ
narrow_word w mask = with_permissions w (code_of (bit_and (word_rights w) mask))
