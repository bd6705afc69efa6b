-- Two images and one board: which image fits, and its payload. Document 02, 12.
-- Assumes nothing.
use native.Mathlib.Omega.{arith}
use Rattle.std.specs.Prelude.{Bool, true, false, cond, ◌&&◌, List, [], ◌≡◌, ℕ, ◌+◌, ◌-◌, ◌^◌, ◌<◌, leb, eqb, length, drop, Result, Ok, Err}
use Rattle.std.specs.Int.Bits.{bit_and}
use Rattle.std.specs.List.{list_any, list_all}
use Rattle.sheets.specs.Scanning.{read_of}
use Rattle.sheets.specs.Sheet.{Answer, sheet, bad}
use Rattle.sheets.specs.declared.Region.{Region}
use Rattle.fit.specs.declared.Fitting.{Fitting}
use Rattle.fit.specs.declared.Image.{Image}
use Rattle.fit.specs.declared.Image.TheVariants.{First, Second}
use Rattle.fit.specs.declared.NoFit.{NoFit}
use Rattle.fit.specs.declared.NoFit.TheVariants.{Neither, BadBoard, BadFirst, BadSecond}

-- region r lies in the board's region b, which has its rights
unfoldable pub within : (r b : Region) → Bool
within r b = leb b.start r.start && (leb (r.start + r.size) (b.start + b.size) && eqb (bit_and r.rights b.rights) r.rights)

-- in one of the board's regions
unfoldable pub held : (r : Region) (board : List Region) → Bool
held r board = list_any (within r) board

-- each of the image's regions
unfoldable pub fits : (board image : List Region) → Bool
fits board image = list_all (λ r. held r board) image

-- What comes of two images and a board: the payload of the one that fits, or why there is none.
pub data Outcome : Type 0 where
  first : (payload : List ℕ) → Outcome
  second : (payload : List ℕ) → Outcome
  neither : Outcome
  bad_board : (line : ℕ) → Outcome
  bad_first : (line : ℕ) → Outcome
  bad_second : (line : ℕ) → Outcome

-- the first one that fits
unfoldable pub chosen : (board : List Region) (one : List Region) (payload : List ℕ) (two : List Region) (other : List ℕ) → Outcome
chosen board one payload two other = cond (fits board one) (first payload) (cond (fits board two) (second other) neither)

-- a bad sheet's line, or what comes next
unfoldable pub or_bad : (named : ℕ → Outcome) → Answer → (next : Outcome) → Outcome
or_bad named (bad n) next = named n
or_bad named (sheet rs rest) next = next

unfoldable pub regions_of : Answer → List Region
regions_of (bad n) = []
regions_of (sheet rs rest) = rs

unfoldable pub rest_of : Answer → List ℕ
rest_of (bad n) = []
rest_of (sheet rs rest) = rest

-- the sheets are judged in this order: the board's, the first image's, the second's
unfoldable pub judged : (board one two : Answer) → Outcome
judged board one two =
    let pick = chosen (regions_of board) (regions_of one) (rest_of one) (regions_of two) (rest_of two) in
    or_bad bad_board board (or_bad bad_first one (or_bad bad_second two pick))

-- the board's text is a sheet; an image's is a sheet, an empty line and the payload
unfoldable pub outcome : (board image image2 : List ℕ) → Outcome
outcome board image image2 = judged (read_of false board) (read_of true image) (read_of true image2)

-- the part that is handed back
unfoldable pub payload_of : Outcome → List ℕ
payload_of (first p) = p
payload_of (second p) = p
payload_of neither = []
payload_of (bad_board n) = []
payload_of (bad_first n) = []
payload_of (bad_second n) = []

-- the image that is chosen, and where its payload begins; it runs to the image's end
pub record Choice : Type 0 where
  pub image : Image
  pub at : ℕ

abbrev pub chosen_at : Image → (place : ℕ) → Choice
chosen_at image place = record { image = image; at = place }

unfoldable pub choice_of : (image image2 : List ℕ) → Outcome → Result Choice NoFit
choice_of image image2 (first p) = Ok (chosen_at First (length image - length p))
choice_of image image2 (second p) = Ok (chosen_at Second (length image2 - length p))
choice_of image image2 neither = Err Neither
choice_of image image2 (bad_board n) = Err (BadBoard n)
choice_of image image2 (bad_first n) = Err (BadFirst n)
choice_of image image2 (bad_second n) = Err (BadSecond n)

-- the part that a choice names, of any images
abbrev pub of_image : {A : Type 0} → Image → (x x2 : A) → A
of_image First x x2 = x
of_image Second x x2 = x2

unfoldable pub part_of : (image image2 : List ℕ) → Result Choice NoFit → List ℕ
part_of image image2 (Ok c) = drop c.at (of_image c.image image image2)
part_of image image2 (Err e) = []

-- an image's number; and that of a refusal: 16 neither fits, 17 to 19 a bad sheet, the board's, the first image's, the second's
abbrev pub image_number : Image → ℕ
image_number First = 1
image_number Second = 2

abbrev pub refusal_number : NoFit → ℕ
refusal_number Neither = 16
refusal_number (BadBoard n) = 17
refusal_number (BadFirst n) = 18
refusal_number (BadSecond n) = 19

-- the first bad line, 0 where no sheet is bad
abbrev pub refusal_line : NoFit → ℕ
refusal_line Neither = 0
refusal_line (BadBoard n) = n
refusal_line (BadFirst n) = n
refusal_line (BadSecond n) = n

-- the number leaves room for the line beside it
pub refusal_fits : (e : NoFit) → refusal_number e < 2 ^ 16
refusal_fits Neither = omega arith
refusal_fits (BadBoard n) = omega arith
refusal_fits (BadFirst n) = omega arith
refusal_fits (BadSecond n) = omega arith

-- a choice's number and values: the payload's place in its image, and the first bad line, 0 where there is none
unfoldable pub verdict_of : Result Choice NoFit → ℕ
verdict_of (Ok c) = image_number c.image
verdict_of (Err e) = refusal_number e

unfoldable pub place_of : Result Choice NoFit → ℕ
place_of (Ok c) = c.at
place_of (Err e) = 0

unfoldable pub line_of : Result Choice NoFit → ℕ
line_of (Ok c) = 0
line_of (Err e) = refusal_line e

-- the same of an answer: the part, empty where there is none, the number and the line
abbrev pub part_in : Result Fitting NoFit → List ℕ
part_in (Ok f) = f.payload.now
part_in (Err e) = []

abbrev pub number_in : Result Fitting NoFit → ℕ
number_in (Ok f) = image_number f.image
number_in (Err e) = refusal_number e

abbrev pub line_in : Result Fitting NoFit → ℕ
line_in (Ok f) = 0
line_in (Err e) = refusal_line e

-- what is handed back: the part, the number and a bad sheet's line
pub record Handed (board image image2 part : List ℕ) (number line : ℕ) : Type 0 where
  pub part_is : part ≡ payload_of (outcome board image image2)
  pub number_is : number ≡ verdict_of (choice_of image image2 (outcome board image image2))
  pub line_is : line ≡ line_of (choice_of image image2 (outcome board image image2))
