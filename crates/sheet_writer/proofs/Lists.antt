-- Lines one after the other, and the parts of a line in the order in which they are written.
-- Assumes nothing.
use mathlib.Core.Path.{◌≡◌, refl, sym}
use mathlib.Core.List.{List, [], ◌∷◌, ◌++◌, append_assoc}
use Prim.Native.Nat.{ℕ, ◌+◌, ◌-◌, ◌<◌}
use native.Mathlib.Numerals.{add-one}
use native.Mathlib.Omega.{arith}
use lib.ListN.{length, get_or, take, drop}
use lib.Seq.{take-suc}
use Rattle.text.specs.Digits.{digits}
use Rattle.text.specs.Writing.{tab, newline, Puts}
use Rattle.sheets.specs.Sheet.{word, letters_of, name_of, rights_text, line_text, sheet_text}
use Rattle.sheets.specs.declared.Region.{Region}
use Rattle.sheets.proofs.Lists.{letters_take}

-- one line more
sheet_append : (a b : List Region) → sheet_text (a ++ b) ≡ sheet_text a ++ sheet_text b
unfolding sheet_text
sheet_append [] b = refl
sheet_append (r ∷ a) b = rw (sheet_append a b) (sym (append_assoc (line_text r) (newline ∷ sheet_text a) (sheet_text b)))

pub lines_more : (rs : List Region) (d : Region) (i : ℕ) → i < length rs
    → sheet_text (take i rs) ++ (line_text (get_or rs i d) ++ (newline ∷ [])) ≡ sheet_text (take (i + 1) rs)
unfolding sheet_text
lines_more rs d i h = sym (rw (add-one i, take-suc rs i d h) (sheet_append (take i rs) (get_or rs i d ∷ [])))

-- a region's line and its newline, in the order in which they are written
pub line_puts : {o o₁ : List ℕ} {at n : ℕ} (r : Region)
    → Puts o at (word ++ (tab ∷ letters_of r.name) ++ (tab ∷ digits 16 8 r.start) ++ (tab ∷ digits 16 8 r.size) ++
    (tab ∷ (rights_text r.rights ++ (newline ∷ [])))) o₁ n
    → Puts o at (line_text r ++ (newline ∷ [])) o₁ n
unfolding line_text name_of
line_puts r p = rw (append_assoc (word ++ (tab ∷ letters_of r.name) ++ (tab ∷ digits 16 8 r.start) ++ (tab ∷ digits 16 8 r.size))
    (tab ∷ rights_text r.rights) (newline ∷ [])) p

-- the letters of a name
pub name_puts : {o o₁ : List ℕ} {at n : ℕ} (name : List ℕ) (k : ℕ) → k ≡ length (letters_of name) → Puts o at (take (k - 0) (drop 0 name)) o₁ n
    → Puts o at (letters_of name) o₁ n
name_puts {o} {o₁} {at} {n} name k e p =
    let z : k - 0 ≡ k = omega arith in
    rw (z, e, letters_take name) at p
