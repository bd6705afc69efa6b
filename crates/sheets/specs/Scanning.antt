-- A sheet read line by line, and a line byte by byte: the state within a line, and the answer. What it reads is what the text says (`read_says`).
-- Assumes nothing.
use Rattle.std.specs.Prelude.{Bool, true, false, cond, ◌&&◌, not, List, [], ◌∷◌, ◌++◌, length, get_or, take, drop, replicate}
use Rattle.std.specs.Prelude.{Option, Some, None, Result, Ok, Err, IfOk}
use Rattle.std.specs.Prelude.{◌≡◌, ℕ, ◌+◌, ◌-◌, ◌*◌, ◌%◌, ◌^◌, ◌≤◌, ltb, eqb}
use Rattle.text.specs.Digits.{digit_of}
use Rattle.text.specs.Writing.{tab, newline}
use Rattle.sheets.specs.Sheet.{most_regions, name_bytes, word, is_letter, admitted, Answer, sheet, bad}
use Rattle.sheets.specs.declared.Region.{Region}
use Rattle.sheets.specs.declared.Field.{Field}
use Rattle.sheets.specs.declared.Field.TheVariants.{Word, Name, Start, Size, Rights, Spoiled}
use Rattle.sheets.specs.declared.Scan.{Scan}
use Rattle.sheets.specs.declared.BadLine.{BadLine}
use Rattle.sheets.specs.declared.Reading.{Reading}

-- in field f, of which n bytes were read, with what was read before: how many letters, and the numbers
abbrev pub scan : (field : Field) (count letters start size rights : ℕ) → Scan
scan f n l a b c = record { field = f; count = n; letters = l; start = a; size = b; rights = c }

abbrev pub start_scan : Scan
start_scan = scan Word 0 0 0 0 0

-- a line that is ill-formed whatever follows
abbrev pub spoiled : Scan
spoiled = scan Spoiled 0 0 0 0 0

-- the next field, f
abbrev pub next_field : (f : Field) → Scan → Scan
next_field f s = scan f 0 s.letters s.start s.size s.rights

-- the field after the name, which had as many letters as were counted
abbrev pub after_name : Scan → Scan
after_name s = scan Start 0 s.count s.start s.size s.rights

-- a byte of `region`, or the tab after it
unfoldable pub in_word : (s : Scan) (byte : ℕ) → Scan
in_word s b =
    cond (ltb s.count 6) (cond (eqb b (get_or word s.count 0)) (scan s.field (s.count + 1) s.letters s.start s.size s.rights) spoiled)
    (cond (eqb b tab) (next_field Name s) spoiled)

-- a letter of the name, of which there are at most sixteen, or the tab after at least one
unfoldable pub in_name : (s : Scan) (byte : ℕ) → Scan
in_name s b =
    cond (is_letter b)
    (cond (ltb s.count name_bytes) (scan s.field (s.count + 1) s.letters s.start s.size s.rights) spoiled)
    (cond (eqb b tab) (cond (ltb 0 s.count) (after_name s) spoiled) spoiled)

-- a digit more
abbrev pub with_digit : (v byte : ℕ) → ℕ
with_digit v b = v % 2 ^ 28 * 16 + digit_of b

-- a digit of a number, which is v so far, of eight digits, or the tab after them
abbrev pub in_number : (count v byte : ℕ) (more : ℕ → Scan) (next : Scan) → Scan
in_number n v b more next = cond (ltb n 8) (cond (ltb (digit_of b) 16) (more (with_digit v b)) spoiled) (cond (eqb b tab) next spoiled)

unfoldable pub in_start : (s : Scan) (byte : ℕ) → Scan
in_start s b = in_number s.count s.start b (λ v. scan s.field (s.count + 1) s.letters v s.size s.rights) (next_field Size s)

unfoldable pub in_size : (s : Scan) (byte : ℕ) → Scan
in_size s b = in_number s.count s.size b (λ v. scan s.field (s.count + 1) s.letters s.start v s.rights) (next_field Rights s)

-- the bit of a right's letter, and 0 for any other byte
unfoldable pub right_of : (byte : ℕ) → ℕ
right_of b = cond (eqb b 114) 1 (cond (eqb b 119) 2 (cond (eqb b 120) 4 0))

unfoldable pub in_rights : (s : Scan) (byte : ℕ) → Scan
in_rights s b = cond (ltb s.rights (right_of b)) (scan s.field 0 s.letters s.start s.size (s.rights + right_of b)) spoiled

-- a byte of the line, by the field
abbrev pub advanced_in : Field → (s : Scan) (byte : ℕ) → Scan
advanced_in Word s b = in_word s b
advanced_in Name s b = in_name s b
advanced_in Start s b = in_start s b
advanced_in Size s b = in_size s b
advanced_in Rights s b = in_rights s b
advanced_in Spoiled s b = spoiled

unfoldable pub advanced : (s : Scan) (byte : ℕ) → Scan
advanced s b = advanced_in s.field s b

-- the bytes of a line
unfoldable pub line_read : Scan → (line : List ℕ) → Scan
line_read s [] = s
line_read s (b ∷ l) = line_read (advanced s b) l

-- the line may end here
abbrev pub is_last : Field → Bool
is_last Word = false
is_last Name = false
is_last Start = false
is_last Size = false
is_last Rights = true
is_last Spoiled = false

unfoldable pub whole : Scan → Bool
whole s = is_last s.field && ltb 0 s.rights

-- a name in sixteen bytes, with zeros after its letters
unfoldable pub padded : (letters : List ℕ) → List ℕ
padded l = l ++ replicate (name_bytes - length l) 0

-- where a line's name begins, and the region of a line that left the state s
abbrev pub name_place : ℕ
name_place = 7

unfoldable pub region_in : (line : List ℕ) → Scan → Region
region_in line s = record { name = padded (take s.letters (drop name_place line)); start = s.start; size = s.size; rights = s.rights }

-- the region, where the line may end there
unfoldable pub region_told : (line : List ℕ) → Scan → Option Region
region_told line s = cond (whole s) (Some (region_in line s)) None

abbrev pub scan_of : (line : List ℕ) → Scan
scan_of line = line_read start_scan line

abbrev pub region_of : (line : List ℕ) → Region
region_of line = region_in line (scan_of line)

-- the line is that of a region that may be the next one
unfoldable pub takes : (before : List Region) (line : List ℕ) → Bool
takes before line = whole (scan_of line) && admitted before (region_of line)

unfoldable pub is_empty : (line : List ℕ) → Bool
is_empty [] = true
is_empty (b ∷ l) = false

-- the sheet's end after the regions
unfoldable pub ended : (before : List Region) (rest : List ℕ) → Answer
ended before rest = cond (eqb (length before) 0) (bad 1) (sheet before rest)

unfoldable pub at_end : (image : Bool) (before : List Region) (line : List ℕ) → Answer
at_end image before line = cond (not image && is_empty line) (ended before []) (bad (length before + 1))

unfoldable pub at_newline : (image : Bool) (before : List Region) (line rest : List ℕ) (more : Answer) → Answer
at_newline image before line rest more = cond (image && is_empty line) (ended before rest) (cond (takes before line) more (bad (length before + 1)))

-- the answer for the text from here on, after the regions before and so much of a line
unfoldable pub read_from : (image : Bool) (before : List Region) (line text : List ℕ) → Answer
read_from image before line [] = at_end image before line
read_from image before line (b ∷ l) =
    let more = read_from image (before ++ (region_of line ∷ [])) [] l in
    let next = read_from image before (line ++ (b ∷ [])) l in
    cond (eqb b newline) (at_newline image before line l more) next

unfoldable pub read_of : (image : Bool) (text : List ℕ) → Answer
read_of image text = read_from image [] [] text

-- the bytes before the first newline
unfoldable pub first_line : List ℕ → List ℕ
first_line [] = []
first_line (b ∷ l) = let r = first_line l in cond (eqb b newline) [] (b ∷ r)

-- the line from an index on: the state at its end, and where that is
pub record Lined (text : List ℕ) (from : ℕ) (s : Scan) (end : ℕ) : Type 0 where
  pub scan_is : s ≡ scan_of (first_line (drop from text))
  pub end_is : end ≡ from + length (first_line (drop from text))

-- no name
abbrev pub no_name : List ℕ
no_name = replicate name_bytes 0

-- a bad line
abbrev pub bad_at : (line : ℕ) → BadLine
bad_at n = record { line = n }

-- a region that may be taken was, and one that may not changes nothing
pub record Takes (may : Bool) (before : List Region) (r : Region) (after : List Region) (taken : Bool) : Type 0 where
  pub taken_is : taken ≡ may
  pub after_is : after ≡ cond may (before ++ (r ∷ [])) before

-- a sheet that ends here: with no region its first line is bad
unfoldable pub ended_as : List Region → Result (List Region) BadLine
ended_as rs = cond (eqb (length rs) 0) (Err (bad_at 1)) (Ok rs)

-- a reading that is a bad line, and one of a sheet that ends at an index
abbrev pub refused_at : (line : ℕ) → Result Reading BadLine
refused_at n = Err (bad_at n)

unfoldable pub closed_at : (regions : List Region) (end : ℕ) → Result Reading BadLine
closed_at rs end = cond (eqb (length rs) 0) (refused_at 1) (Ok (record { sheet = rs; end = end }))

-- the answer that a reading holds
unfoldable pub answer_of : (text : List ℕ) → Result Reading BadLine → Answer
answer_of text (Ok r) = sheet r.sheet (drop r.end text)
answer_of text (Err e) = bad e.line

-- the reading of an answer
unfoldable pub reading_of : (text : List ℕ) → Answer → Result Reading BadLine
reading_of text (sheet rs rest) = Ok (record { sheet = rs; end = length text - length rest })
reading_of text (bad n) = Err (bad_at n)

-- what `read` promises: its reading, whole; what that says; and that it counts no more than there are
pub record Reads (image : Bool) (text : List ℕ) (r : Result Reading BadLine) : Type 0 where
  pub reading_is : r ≡ reading_of text (read_of image text)
  pub answer_is : answer_of text r ≡ read_of image text
  pub fits : IfOk r (λ x. (length x.sheet ≤ most_regions) × (x.end ≤ length text))
