-- A sheet read into records of seven words in a lent buffer. Document 02, 7.
-- Assumes nothing.
use Rattle.std.specs.Prelude.{false, cond, List, ◌≡◌, ℕ, length, Result, Ok, Err}
use Rattle.text.specs.Writing.{fits_in, delivered}
use Rattle.sheets.specs.Numbers.{bad_line, no_room, answer_number, answer_value}
use Rattle.sheets.specs.Records.{sheet_words}
use Rattle.sheets.specs.Scanning.{read_of}
use Rattle.sheets.specs.Sheet.{Answer, sheet, bad}
use Rattle.sheets.specs.declared.SheetError.{SheetError}
use Rattle.sheets.specs.declared.SheetError.TheVariants.{Bad, NoRoom}

-- how many records; or the first bad line; or, judged last, too little room
unfoldable pub read_answer : Answer → (buffer : List ℕ) → Result ℕ SheetError
read_answer (sheet rs rest) out = cond (fits_in (sheet_words rs) out) (Ok (length rs)) (Err NoRoom)
read_answer (bad n) out = Err (Bad n)

-- the buffer afterwards: the records and, after them, what was there; a refusal changes nothing
unfoldable pub read_after : Answer → (buffer : List ℕ) → List ℕ
read_after (sheet rs rest) out = delivered (sheet_words rs) out
read_after (bad n) out = out

-- both of what was read
unfoldable pub number_of : Answer → (buffer : List ℕ) → ℕ
number_of (sheet rs rest) out = cond (fits_in (sheet_words rs) out) 0 no_room
number_of (bad n) out = bad_line

unfoldable pub value_of : Answer → (buffer : List ℕ) → ℕ
value_of (sheet rs rest) out = cond (fits_in (sheet_words rs) out) (length rs) 0
value_of (bad n) out = n

pub record ReadsInto (text before after : List ℕ) (answer : Result ℕ SheetError) : Type 0 where
  pub answer_is : answer ≡ read_answer (read_of false text) before
  pub number_is : answer_number answer ≡ number_of (read_of false text) before
  pub value_is : answer_value answer ≡ value_of (read_of false text) before
  pub after_is : after ≡ read_after (read_of false text) before
