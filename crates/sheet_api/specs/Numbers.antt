-- The answers about sheets as one number for C: what it is, times 2 ^ 48, and the rest, which is never so large that anything is cut off: a line at most
-- 65 (`bad_line_le`, `bad_record_le`), a sheet at most 2,944 bytes (`sheet_le`), a list at most 2,176 (`list_le`).
-- Assumes nothing.
use Rattle.std.specs.Prelude.{false, cond, List, ◌≡◌, ℕ, ◌+◌, ◌*◌, ◌%◌, ◌^◌, ltb, Result}
use Rattle.fit.specs.Fit.{Choice, choice_of, line_of, outcome, place_of, verdict_of}
use Rattle.fit.specs.declared.NoFit.{NoFit}
use Rattle.sheets.specs.Numbers.{error_number, error_line, number_in, value_in}
use Rattle.sheets.specs.Records.{judged}
use Rattle.sheets.specs.Scanning.{read_of}
use Rattle.sheets.specs.declared.SheetError.{SheetError}
use Rattle.sheet_reader.specs.Words.{read_answer, read_after}
use Rattle.sheet_writer.specs.Writing.{write_answer, write_after}
use Rattle.sheet_compare.specs.Compare as Compare
use Rattle.sheet_compare.specs.Compare.{compare_answer, compare_after}
use Rattle.sheet_compare.specs.declared.CompareError.{CompareError}

-- a number and, in the places below it, the rest
abbrev pub beside : (place number rest : ℕ) → ℕ
beside place number rest = number * place + rest % place

abbrev pub numbered : (number rest : ℕ) → ℕ
numbered number rest = beside (2 ^ 48) number rest

-- an answer's number and its value; those of a refusal are given, as its own crate has them
abbrev pub packed : {E : Type 0} (number line : E → ℕ) → Result ℕ E → ℕ
packed number line a = numbered (number_in number a) (value_in line a)

abbrev pub read_number : Result ℕ SheetError → ℕ
read_number a = packed error_number error_line a

abbrev pub write_number : Result ℕ SheetError → ℕ
write_number a = packed error_number error_line a

abbrev pub compare_number : Result ℕ CompareError → ℕ
compare_number a = packed Compare.error_number Compare.error_line a

-- the image's number times 2 ^ 40, and where its payload begins
abbrev pub placed_at : (image place : ℕ) → ℕ
placed_at image place = beside (2 ^ 40) image place

-- from this number on no image is chosen: that with a bad sheet's line, or 0
abbrev pub no_fit : ℕ
no_fit = 16

unfoldable pub fit_packed : (number place line : ℕ) → ℕ
fit_packed number place line = cond (ltb number no_fit) (placed_at number place) (numbered number line)

unfoldable pub fit_number : Result Choice NoFit → ℕ
fit_number c = fit_packed (verdict_of c) (place_of c) (line_of c)

-- what the functions for C promise: the number, and the lent output as it is left
pub record ReadNumbered (text before after : List ℕ) (number : ℕ) : Type 0 where
  pub number_is : number ≡ read_number (read_answer (read_of false text) before)
  pub after_is : after ≡ read_after (read_of false text) before

pub record WriteNumbered (words before after : List ℕ) (number : ℕ) : Type 0 where
  pub number_is : number ≡ write_number (write_answer (judged words) before)
  pub after_is : after ≡ write_after (judged words) before

pub record CompareNumbered (first second before after : List ℕ) (number : ℕ) : Type 0 where
  pub number_is : number ≡ compare_number (compare_answer (read_of false first) (read_of false second) before)
  pub after_is : after ≡ compare_after (read_of false first) (read_of false second) before

pub record FitNumbered (board first second : List ℕ) (number : ℕ) : Type 0 where
  pub number_is : number ≡ fit_number (choice_of first second (outcome board first second))
