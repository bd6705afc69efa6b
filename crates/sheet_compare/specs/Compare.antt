-- Two sheets compared: the answer, and the list of the names that differ, made by taking the least that is left again and again. What is listed is what
-- Lists.antt says (`compared_lists`). Document 02, 7.
-- Assumes nothing.
use native.Mathlib.Omega.{arith}
use Rattle.std.specs.Prelude.{Bool, true, false, cond, ◌&&◌, ◌||◌, List, [], ◌∷◌, ◌++◌, ◌≡◌, ℕ}
use Rattle.std.specs.Prelude.{zero, suc, ◌^◌, ◌<◌, ltb, eqb, length, Option, None, Some, Result, Ok, Err}
use Rattle.std.specs.List.{list_any, fold}
use Rattle.std.specs.Option.{option_map_or}
use Rattle.text.specs.Writing.{newline, fits_in, delivered}
use Rattle.sheets.specs.Numbers.{bad_line, bad_second, no_room, number_in, value_in}
use Rattle.sheets.specs.Scanning.{no_name, read_of}
use Rattle.sheets.specs.Sheet.{letters_of, same, Answer, sheet, bad}
use Rattle.sheets.specs.declared.Region.{Region}
use Rattle.sheet_compare.specs.declared.CompareError.{CompareError}
use Rattle.sheet_compare.specs.declared.CompareError.TheVariants.{BadFirst, BadSecond, NoRoom}

-- the order of names: by the first byte in which they differ; so a name that is the front of another comes before it
unfoldable pub less : (a b : List ℕ) → Bool
less [] b = false
less (x ∷ a) [] = false
less (x ∷ a) (y ∷ b) = ltb x y || (eqb x y && less a b)

-- one name a line
unfoldable pub names_text : List (List ℕ) → List ℕ
names_text [] = []
names_text (n ∷ ns) = (letters_of n ++ (newline ∷ [])) ++ names_text ns

-- the same name, start, size and rights
unfoldable pub equal : (r s : Region) → Bool
equal r s = same r.name s.name && (eqb r.start s.start && (eqb r.size s.size && eqb r.rights s.rights))

unfoldable pub stands : (r : Region) (sheet : List Region) → Bool
stands r rs = list_any (equal r) rs

-- a region, where it comes after the last name and before the least name so far, if any was picked, and does not stand in the other sheet
unfoldable pub sooner : (picked : Option (List ℕ)) (name : List ℕ) → Bool
sooner picked name = option_map_or (less name) picked true

unfoldable pub considered : (last : List ℕ) (picked : Option (List ℕ)) (r : Region) (other : List Region) → Option (List ℕ)
considered last p r other = cond (less last r.name) (cond (sooner p r.name) (cond (stands r other) p (Some r.name)) p) p

unfoldable pub least_of : (last : List ℕ) (picked : Option (List ℕ)) (regions other : List Region) → Option (List ℕ)
least_of last p regions other = fold (λ q r. considered last q r other) p regions

-- the least name after the last that differs, if any: its region stands in one sheet and not in the other
unfoldable pub next_name : (last : List ℕ) (a b : List Region) → Option (List ℕ)
next_name last a b = least_of last (least_of last None a b) b a

-- the names after the last, at most so many
unfoldable pub names_after : (most : ℕ) (last : List ℕ) (a b : List Region) → List (List ℕ)
names_after zero last a b = []
names_after (suc k) last a b = option_map_or (λ name. name ∷ names_after k name a b) (next_name last a b) []

-- two sheets have at most 128 names
abbrev pub most_names : ℕ
most_names = 128

unfoldable pub differing : (a b : List Region) → List (List ℕ)
differing a b = names_after most_names no_name a b

abbrev pub list_text : (a b : List Region) → List ℕ
list_text a b = names_text (differing a b)

-- the answer: a sheet that is bad, the first one first; else the list's length or, judged last, too little room
unfoldable pub compare_answer : Answer → Answer → (buffer : List ℕ) → Result ℕ CompareError
compare_answer (bad n) second out = Err (BadFirst n)
compare_answer (sheet a rest) (bad n) out = Err (BadSecond n)
compare_answer (sheet a rest) (sheet b rest2) out = cond (fits_in (list_text a b) out) (Ok (length (list_text a b))) (Err NoRoom)

-- the buffer afterwards: the list and, after it, what was there; a refusal changes nothing
unfoldable pub compare_after : Answer → Answer → (buffer : List ℕ) → List ℕ
compare_after (bad n) second out = out
compare_after (sheet a rest) (bad n) out = out
compare_after (sheet a rest) (sheet b rest2) out = delivered (list_text a b) out

-- a refusal's number, and its line
abbrev pub error_number : CompareError → ℕ
error_number (BadFirst n) = bad_line
error_number (BadSecond n) = bad_second
error_number NoRoom = no_room

abbrev pub error_line : CompareError → ℕ
error_line (BadFirst n) = n
error_line (BadSecond n) = n
error_line NoRoom = 0

-- the number leaves room for a line beside it
pub error_fits : (e : CompareError) → error_number e < 2 ^ 16
error_fits (BadFirst n) = omega arith
error_fits (BadSecond n) = omega arith
error_fits NoRoom = omega arith

-- an answer's number and its value: how many bytes, or which line
abbrev pub answer_number : Result ℕ CompareError → ℕ
answer_number a = number_in error_number a

abbrev pub answer_value : Result ℕ CompareError → ℕ
answer_value a = value_in error_line a

-- both of what the sheets were read as
unfoldable pub number_of : Answer → Answer → (buffer : List ℕ) → ℕ
number_of (bad n) second out = bad_line
number_of (sheet a rest) (bad n) out = bad_second
number_of (sheet a rest) (sheet b rest2) out = cond (fits_in (list_text a b) out) 0 no_room

unfoldable pub value_of : Answer → Answer → (buffer : List ℕ) → ℕ
value_of (bad n) second out = n
value_of (sheet a rest) (bad n) out = n
value_of (sheet a rest) (sheet b rest2) out = cond (fits_in (list_text a b) out) (length (list_text a b)) 0

pub record Compares (first second before after : List ℕ) (answer : Result ℕ CompareError) : Type 0 where
  pub answer_is : answer ≡ compare_answer (read_of false first) (read_of false second) before
  pub number_is : answer_number answer ≡ number_of (read_of false first) (read_of false second) before
  pub value_is : answer_value answer ≡ value_of (read_of false first) (read_of false second) before
  pub after_is : after ≡ compare_after (read_of false first) (read_of false second) before
