-- The numbers of refusals about sheets: 10 is that of document 02, 7; 13 and 14 are chosen (docs/DECISIONS.md). What is answered has 0.
-- Assumes nothing.
use native.Mathlib.Omega.{arith}
use Rattle.std.specs.Prelude.{ℕ, ◌^◌, ◌<◌, Result, Ok, Err}
use Rattle.sheets.specs.declared.SheetError.{SheetError}
use Rattle.sheets.specs.declared.SheetError.TheVariants.{Bad, NoRoom}

-- too little room
abbrev pub no_room : ℕ
no_room = 10

-- a bad line, and one of the second sheet
abbrev pub bad_line : ℕ
bad_line = 13

abbrev pub bad_second : ℕ
bad_second = 14

-- an answer's number and its value: how much was written, or which line, 0 where there is none; a refusal's are given
abbrev pub number_in : {E : Type 0} (number : E → ℕ) → Result ℕ E → ℕ
number_in number (Ok n) = 0
number_in number (Err e) = number e

abbrev pub value_in : {E : Type 0} (line : E → ℕ) → Result ℕ E → ℕ
value_in line (Ok n) = n
value_in line (Err e) = line e

-- of a sheet that is read or written
abbrev pub error_number : SheetError → ℕ
error_number (Bad n) = bad_line
error_number NoRoom = no_room

abbrev pub error_line : SheetError → ℕ
error_line (Bad n) = n
error_line NoRoom = 0

abbrev pub answer_number : Result ℕ SheetError → ℕ
answer_number a = number_in error_number a

abbrev pub answer_value : Result ℕ SheetError → ℕ
answer_value a = value_in error_line a

-- a number leaves room for a line beside it
pub error_fits : (e : SheetError) → error_number e < 2 ^ 16
error_fits (Bad n) = omega arith
error_fits NoRoom = omega arith
