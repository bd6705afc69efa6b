-- The cutting program's text: what is written for a line, and for a whole input. Document 01, "Cases".
-- Assumes nothing.
use Rattle.std.specs.Prelude.{ℕ, suc, Bool, cond, ◌&&◌, List, [], ◌∷◌, ◌++◌, length, take, drop, ◌==◌, slice_index, Result, Ok, Err}
use Rattle.bounds.specs.Cutting.{cut_of}
use Rattle.bounds.specs.declared.CutRegion.{CutRegion}
use Rattle.bounds.specs.declared.CutError.{CutError}
use Rattle.bounds.specs.declared.CutError.TheVariants.{PastEnd}
use Rattle.text.specs.Digits.{all_digits, number_of, digits, decimal}
use Rattle.text.specs.Writing.{tab, newline}

-- `cut<TAB>low<TAB>high<TAB>exact` and a newline
abbrev pub header_text : List ℕ
header_text = 99 ∷ 117 ∷ 116 ∷ tab ∷ 108 ∷ 111 ∷ 119 ∷ tab ∷ 104 ∷ 105 ∷ 103 ∷ 104 ∷ tab ∷ 101 ∷ 120 ∷ 97 ∷ 99 ∷ 116 ∷ newline ∷ []

-- `yes` and `no`, `bad<TAB>6`, `bad<TAB>line`, each with its newline
abbrev pub yes_text : List ℕ
yes_text = 121 ∷ 101 ∷ 115 ∷ newline ∷ []

abbrev pub no_text : List ℕ
no_text = 110 ∷ 111 ∷ newline ∷ []

abbrev pub refused_text : List ℕ
refused_text = 98 ∷ 97 ∷ 100 ∷ tab ∷ 54 ∷ newline ∷ []

abbrev pub bad_text : List ℕ
bad_text = 98 ∷ 97 ∷ 100 ∷ tab ∷ 108 ∷ 105 ∷ 110 ∷ 101 ∷ newline ∷ []

-- a well-formed line: eight digits, a tab, eight digits
unfoldable pub well_formed : (line : List ℕ) → Bool
well_formed l = length l == 17 && (all_digits (take 8 l) && (slice_index l 8 == tab && all_digits (drop 9 l)))

-- the cut that a well-formed line asks for
unfoldable pub requested : (line : List ℕ) → Result CutRegion CutError
requested l = cut_of (number_of (take 8 l)) (number_of (drop 9 l))

-- a region's low in eight digits and its high in nine, and whether it is exact
abbrev pub region_text : (cut : CutRegion) → List ℕ
region_text c = digits 16 8 c.region.low ++ (tab ∷ digits 16 9 c.region.high) ++ (tab ∷ cond c.exact yes_text no_text)

unfoldable pub cut_text : Result CutRegion CutError → List ℕ
cut_text (Ok c) = region_text c
cut_text (Err PastEnd) = refused_text

-- what is written for line n, well-formed or not
unfoldable pub line_text : (n : ℕ) (line : List ℕ) → List ℕ
line_text n l = decimal n ++ (tab ∷ cond (well_formed l) (cut_text (requested l)) bad_text)

-- the lines of an input; a last one without a newline is one too
unfoldable pub start_line : (byte : ℕ) → List (List ℕ) → List (List ℕ)
start_line b [] = (b ∷ []) ∷ []
start_line b (l ∷ ls) = (b ∷ l) ∷ ls

unfoldable pub lines_of : (input : List ℕ) → List (List ℕ)
lines_of [] = []
lines_of (b ∷ rest) = cond (b == newline) ([] ∷ lines_of rest) (start_line b (lines_of rest))

unfoldable pub lines_text : (n : ℕ) (lines : List (List ℕ)) → List ℕ
lines_text n [] = []
lines_text n (l ∷ ls) = line_text n l ++ lines_text (suc n) ls

-- what is written for a whole input: the header, and its lines, numbered from 1
unfoldable pub text_of : (input : List ℕ) → List ℕ
text_of input = header_text ++ lines_text 1 (lines_of input)
