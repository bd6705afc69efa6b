-- Reading an input byte by byte, in blocks of any sizes: the state between two bytes, and what is written meanwhile.
-- Assumes nothing.
use Rattle.std.specs.Prelude.{◌≡◌, ℕ, suc, ◌+◌, ◌-◌, ◌*◌, ◌/◌, ◌%◌, ◌^◌, Bool, true, false, cond, ◌&&◌, List, [], ◌∷◌, ◌++◌, length, take, ◌==◌, nat_lt}
use Rattle.std.specs.Prelude.{Option, Some, None, option_and_then, fold}
use Rattle.bounds.specs.Cutting.{cut_of}
use Rattle.text.specs.Digits.{digit_of, is_digit, decimal}
use Rattle.text.specs.Writing.{tab, newline, Placed}
use Rattle.cut_lines.specs.Lines.{cut_text, bad_text}
use Rattle.cut_lines.specs.Writing.{longest}
use Rattle.cut_lines.specs.declared.Fields.{Fields}
use Rattle.cut_lines.specs.declared.Scan.{Scan}
use Rattle.cut_lines.specs.declared.Progress.{Progress}

-- at the start of line n
abbrev pub start_of : (n : ℕ) → Scan
start_of n = record { number = n; fields = Some (record { place = 0; value = 0 }) }

-- what a line may have at a place: a tab at place 8, a digit at each other place below 17
unfoldable pub expected : (place byte : ℕ) → Bool
expected p b = cond (p == 8) (b == tab) (is_digit b && nat_lt p 17)

-- the digits so far and a byte more; the value has the last sixteen
unfoldable pub value_with : (place value byte : ℕ) → ℕ
value_with p v b = cond (p == 8) v ((v * 2 ^ 4) % 2 ^ 64 + digit_of b)

-- one more byte of a line that may yet be well-formed, and a line that is ill-formed whatever follows
abbrev pub accepted : (f : Fields) (byte : ℕ) → Fields
accepted f b = record { place = f.place + 1; value = value_with f.place f.value b }

abbrev pub spoiled : Option Fields
spoiled = None

unfoldable pub longer : (f : Fields) (byte : ℕ) → Option Fields
longer f b = cond (expected f.place b) (Some (accepted f b)) spoiled

-- a byte of the line
unfoldable pub advanced : (s : Scan) (byte : ℕ) → Scan
advanced s b = record { number = s.number; fields = option_and_then (λ f. longer f b) s.fields }

-- a byte of the line was read; its seventeen bytes were as they should be
abbrev pub has_begun : Option Fields → Bool
has_begun (Some f) = nat_lt 0 f.place
has_begun None = true

abbrev pub is_whole : Option Fields → Bool
is_whole (Some f) = f.place == 17
is_whole None = false

-- what is written for the line that was read
unfoldable pub outcome : Option Fields → List ℕ
outcome (Some f) = cond (f.place == 17) (cut_text (cut_of (f.value / 2 ^ 32) (f.value % 2 ^ 32))) bad_text
outcome None = bad_text

unfoldable pub answered : Scan → List ℕ
answered s = decimal s.number ++ (tab ∷ outcome s.fields)

-- any byte of the input: a newline ends the line, and the next line starts
unfoldable pub stepped : (s : Scan) (byte : ℕ) → Scan
stepped s b = cond (b == newline) (start_of ((s.number + 1) % 2 ^ 64)) (advanced s b)

unfoldable pub step_text : (s : Scan) (byte : ℕ) → List ℕ
step_text s b = cond (b == newline) (answered s) []

-- the bytes of a line, the bytes of an input, and what is written for these
abbrev pub read_line : Scan → (line : List ℕ) → Scan
read_line s l = fold advanced s l

unfoldable pub scanned : Scan → (input : List ℕ) → Scan
scanned s l = fold stepped s l

unfoldable pub scan_text : Scan → (input : List ℕ) → List ℕ
scan_text s [] = []
scan_text s (b ∷ l) = step_text s b ++ scan_text (stepped s b) l

-- what is written at the end of the input: a last line without a newline, if one has begun
unfoldable pub last_text : Scan → List ℕ
last_text s = cond (has_begun s.fields) (answered s) []

-- How many bytes of the input are taken with so much room for text: each while there is room for the longest line.
unfoldable pub taken : Scan → (input : List ℕ) (room : ℕ) → ℕ
taken s [] room = 0
taken s (b ∷ l) room = let r = taken (stepped s b) l (room - length (step_text s b)) in cond (nat_lt room longest) 0 (suc r)

-- one block: how much of it was taken, the state after that, and the text, from the buffer's start on
pub record Processed (s : Scan) (input before after : List ℕ) (p : Progress) : Type 0 where
  pub read_is : p.read ≡ taken s input (length before)
  pub scan_is : p.scan ≡ scanned s (take p.read input)
  pub text_is : Placed before 0 (scan_text s (take p.read input)) after p.written

-- A run over an input: each call of `process` gets a block that goes on where the one before stopped, and what it says it wrote is kept; at the
-- end comes the last line. The index has what was read in all, and what was written in all.
pub data Session : Scan → (input text : List ℕ) → Type 0 where
  ended : {s : Scan} → Session s [] (last_text s)
  block : {s : Scan} {bytes before after rest text : List ℕ} {p : Progress} → Processed s bytes before after p → Session p.scan rest text
      → Session s (take p.read bytes ++ rest) (take p.written after ++ text)
