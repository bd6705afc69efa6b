-- Laws of the lists that the code walks: names, earlier regions, lines.
-- Assumes nothing.
use mathlib.Core.Bool.{Bool, true, false, cond}
use mathlib.Core.Path.{◌≡◌, refl, ap}
use mathlib.Core.List.{List, [], ◌∷◌}
use Prim.Native.Nat.{ℕ, suc, ◌+◌, ◌≤◌, ◌<◌}
use native.Mathlib.Numerals.{add-one}
use native.Mathlib.Omega.{arith}
use borrow.Author.Tests.{eq-eqb, ne_eqb}
use lib.ListN.{length, get_or, take, drop, drop_of_length-le, length-take}
use lib.Seq.{drop-cons}
use Rattle.std.specs.List.{prefix_len, take_while}
use Rattle.sheets.specs.Sheet.{is_letter, letters_of}
use Rattle.text.specs.Writing.{newline}
use Rattle.sheets.specs.Scanning.{first_line}
use Rattle.sheets.specs.declared.Region.{Region}

-- the letters in front, as `take_while` gives them, and how many
pub letters_prefix : (l : List ℕ) → length (take_while is_letter l) ≡ length (letters_of l)
unfolding letters_of
letters_prefix [] = refl
letters_prefix (b ∷ l) = go (is_letter b) (letters_prefix l)
  where
    go : (t : Bool) → length (take_while is_letter l) ≡ length (letters_of l)
        → length (take (cond t (1 + prefix_len is_letter l) 0) (b ∷ l)) ≡ length (cond t (b ∷ letters_of l) [])
    go true r = let e : 1 + prefix_len is_letter l ≡ suc (prefix_len is_letter l) = omega arith in rw e (ap suc r)
    go false r = refl

pub letters_le : (l : List ℕ) → length (letters_of l) ≤ length l
unfolding letters_of
letters_le [] = omega arith
letters_le (b ∷ l) = go (is_letter b) (letters_le l)
  where
    go : (t : Bool) → length (letters_of l) ≤ length l → length (cond t (b ∷ letters_of l) []) ≤ suc (length l)
    go true h = omega arith
    go false h = omega arith

pub letters_take : (l : List ℕ) → take (length (letters_of l)) l ≡ letters_of l
unfolding letters_of
letters_take [] = refl
letters_take (b ∷ l) = go (is_letter b) (letters_take l)
  where
    go : (t : Bool) → take (length (letters_of l)) l ≡ letters_of l → take (length (cond t (b ∷ letters_of l) [])) (b ∷ l) ≡ cond t (b ∷ letters_of l) []
    go true r = ap (λ (x : List ℕ). b ∷ x) r
    go false r = refl

-- a line, from index i on
pub line_turn : (l : List ℕ) (i : ℕ) → i < length l → (get_or l i 0 ≡ newline → ⊥) → first_line (drop i l) ≡ get_or l i 0 ∷ first_line (drop (i + 1) l)
unfolding first_line
line_turn l i h e = rw (add-one i, drop-cons l i 0 h, ne_eqb (get_or l i 0) newline e)

pub line_newline : (l : List ℕ) (i : ℕ) → i < length l → get_or l i 0 ≡ newline → first_line (drop i l) ≡ []
unfolding first_line
line_newline l i h e = rw (drop-cons l i 0 h, eq-eqb (get_or l i 0) newline e)

pub line_end : (l : List ℕ) (i : ℕ) → length l ≤ i → first_line (drop i l) ≡ []
unfolding first_line
line_end l i h = rw (drop_of_length-le l h)

-- the first n of 64 places, and one more
pub taken_length : (rs : List Region) (n : ℕ) → n ≤ 64 → length rs ≡ 64 → length (take n rs) ≡ n
taken_length rs n h e = simp length-take (omega arith)
