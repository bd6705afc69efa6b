-- Text, or words of a record, written into a lent buffer, as far as the buffer reaches.
-- Assumes nothing.
use Rattle.std.specs.Prelude.{Bool, cond, List, ◌++◌, ◌≡◌, ℕ, ◌+◌, ◌-◌, ◌≤◌, leb, length, take, drop}

abbrev pub tab : ℕ
tab = 9

abbrev pub newline : ℕ
newline = 10

-- the buffer with the text from index `at` on, and every other byte as it was
unfoldable pub put : {A : Type 0} (buffer : List A) (at : ℕ) (text : List A) → List A
put buffer at text = take at buffer ++ text ++ drop (at + length text) buffer

-- as much of the text as the buffer has room for from index `at` on: nothing, where that is past its end
unfoldable pub fitting : {A : Type 0} (buffer : List A) (at : ℕ) (text : List A) → List A
fitting buffer at text = take (length buffer - at) text

-- so much was written, and nothing else: what the buffer is afterwards, and the index after what was written
pub record Puts {A : Type 0} (before : List A) (at : ℕ) (text after : List A) (end : ℕ) : Type 0 where
  pub ends : end ≡ at + length (fitting before at text)
  pub bytes : after ≡ put before at (fitting before at text)

-- a text that fits was written whole
pub record Placed (before : List ℕ) (at : ℕ) (text after : List ℕ) (end : ℕ) : Type 0 where
  pub fits : at + length text ≤ length before
  pub ends : end ≡ at + length text
  pub bytes : after ≡ put before at text

-- A whole answer into a lent output: it is written from the output's start on, or, where it does not fit, nothing is. Document 02, 7.
abbrev pub fits_in : (text buffer : List ℕ) → Bool
fits_in text buffer = leb (length text) (length buffer)

unfoldable pub delivered : (text buffer : List ℕ) → List ℕ
delivered text buffer = cond (fits_in text buffer) (put buffer 0 text) buffer

pub record Delivers (text before after : List ℕ) (done : Bool) : Type 0 where
  pub done_is : done ≡ fits_in text before
  pub after_is : after ≡ delivered text before
