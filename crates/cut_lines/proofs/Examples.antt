-- Document 01's example and the inputs at the edge, computed from the definitions.
-- Assumes nothing.
use Rattle.std.proofs.Common.{◌≡◌, ℕ, List, [], ◌∷◌, ◌++◌, refl}
use Rattle.metadata.specs.Word.{scale_of, top_of, base_of, with_bounds}
use Rattle.bounds.specs.Bounds.{exponent_of, low_of, high_of, low_at, high_at}
use Rattle.bounds.specs.Cutting.{floor_at, ceil_at, fits_at, first_fit, cut_exponent, scale_field, cut_base, cut_top, with_cut, cut_low, cut_high, cut_exact}
use Rattle.bounds.specs.Cutting.{cut_of}
use Rattle.text.specs.Digits.{digit_of, all_digits, number_from, glyph, digits, places_within, places_of, decimal}
use Rattle.text.specs.Writing.{tab, newline}
use Rattle.cut_lines.specs.Lines.{header_text, bad_text}
use Rattle.cut_lines.specs.Lines.{well_formed, requested, cut_text, line_text, start_line, lines_of, lines_text, text_of}

-- `20000001<TAB>00000200` and `ffffffff<TAB>00000002`
abbrev pub request1 : List ℕ
request1 = 50 ∷ 48 ∷ 48 ∷ 48 ∷ 48 ∷ 48 ∷ 48 ∷ 49 ∷ tab ∷ 48 ∷ 48 ∷ 48 ∷ 48 ∷ 48 ∷ 50 ∷ 48 ∷ 48 ∷ []

abbrev pub request2 : List ℕ
request2 = 102 ∷ 102 ∷ 102 ∷ 102 ∷ 102 ∷ 102 ∷ 102 ∷ 102 ∷ tab ∷ 48 ∷ 48 ∷ 48 ∷ 48 ∷ 48 ∷ 48 ∷ 48 ∷ 50 ∷ []

-- `1<TAB>20000000<TAB>020000202<TAB>no` and `2<TAB>bad<TAB>6`, each with its newline
abbrev pub line1 : List ℕ
line1 =
    49 ∷ tab ∷ 50 ∷ 48 ∷ 48 ∷ 48 ∷ 48 ∷ 48 ∷ 48 ∷ 48 ∷ tab ∷ 48 ∷ 50 ∷ 48 ∷ 48 ∷ 48 ∷ 48 ∷ 50 ∷ 48 ∷ 50 ∷ tab ∷ 110 ∷ 111 ∷ newline ∷ []

abbrev pub line2 : List ℕ
line2 = 50 ∷ tab ∷ 98 ∷ 97 ∷ 100 ∷ tab ∷ 54 ∷ newline ∷ []

-- the second request has no newline
pub example : text_of (request1 ++ (newline ∷ request2)) ≡ header_text ++ line1 ++ line2
unfolding text_of lines_of start_line lines_text line_text well_formed requested cut_text digit_of all_digits number_from glyph digits places_within places_of
    decimal
    cut_of cut_low cut_high cut_exact with_cut cut_top cut_base scale_field cut_exponent first_fit fits_at ceil_at floor_at low_at high_at low_of high_of
    exponent_of with_bounds
    scale_of top_of base_of
example = refl

-- of an empty input the header alone is written
pub empty_input : text_of [] ≡ header_text
unfolding text_of lines_of lines_text
empty_input = refl

-- a newline alone is one line, and it is ill-formed
pub newline_alone : text_of (10 ∷ []) ≡ header_text ++ (49 ∷ tab ∷ bad_text)
unfolding text_of lines_of lines_text line_text well_formed glyph digits places_within places_of decimal
newline_alone = refl
