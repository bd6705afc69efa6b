-- A sheet's text from records of seven words, in a lent buffer. Document 02, 7.
-- Assumes nothing.
use Rattle.std.specs.Prelude.{cond, List, [], ◌≡◌, ℕ, length, Result, Ok, Err}
use Rattle.text.specs.Writing.{fits_in, delivered}
use Rattle.sheets.specs.Numbers.{bad_line, no_room, answer_number, answer_value}
use Rattle.sheets.specs.Records.{judged}
use Rattle.sheets.specs.Sheet.{sheet_text, Answer, sheet, bad}
use Rattle.sheets.specs.declared.BadLine.{BadLine}
use Rattle.sheets.specs.declared.Region.{Region}
use Rattle.sheets.specs.declared.SheetError.{SheetError}
use Rattle.sheets.specs.declared.SheetError.TheVariants.{Bad, NoRoom}

-- what records are judged to be, as an answer: nothing is left of them
abbrev pub judged_as : Result (List Region) BadLine → Answer
judged_as (Ok rs) = sheet rs []
judged_as (Err e) = bad e.line

-- how many bytes; or the first bad record; or, judged last, too little room
unfoldable pub write_answer : Answer → (buffer : List ℕ) → Result ℕ SheetError
write_answer (sheet rs rest) out = cond (fits_in (sheet_text rs) out) (Ok (length (sheet_text rs))) (Err NoRoom)
write_answer (bad n) out = Err (Bad n)

-- the buffer afterwards: the text and, after it, what was there; a refusal changes nothing
unfoldable pub write_after : Answer → (buffer : List ℕ) → List ℕ
write_after (sheet rs rest) out = delivered (sheet_text rs) out
write_after (bad n) out = out

-- both of what the records were judged to be
unfoldable pub number_of : Answer → (buffer : List ℕ) → ℕ
number_of (sheet rs rest) out = cond (fits_in (sheet_text rs) out) 0 no_room
number_of (bad n) out = bad_line

unfoldable pub value_of : Answer → (buffer : List ℕ) → ℕ
value_of (sheet rs rest) out = cond (fits_in (sheet_text rs) out) (length (sheet_text rs)) 0
value_of (bad n) out = n

pub record Writes (words before after : List ℕ) (answer : Result ℕ SheetError) : Type 0 where
  pub answer_is : answer ≡ write_answer (judged words) before
  pub number_is : answer_number answer ≡ number_of (judged words) before
  pub value_is : answer_value answer ≡ value_of (judged words) before
  pub after_is : after ≡ write_after (judged words) before
