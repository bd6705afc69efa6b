-- Map sheets: a region, its line, the text of a sheet, which region may follow which, and the first bad line. Document 02, 7.
-- Assumes nothing.
use Rattle.std.specs.Prelude.{Bool, true, false, cond, ◌&&◌, ◌||◌, not, List, [], ◌∷◌, ◌++◌, ◌≡◌, ℕ, ◌+◌, ◌/◌, ◌%◌, ◌^◌, ◌<◌, ltb, leb, eqb, length, drop}
use Rattle.std.specs.List.{list_all, list_any}
use Rattle.std.specs.Str.{bytes_eq}
use Rattle.text.specs.Digits.{digits}
use Rattle.text.specs.Writing.{tab, newline}
use Rattle.sheets.specs.declared.Region.{Region}

-- at most so many regions to a sheet, and letters to a name
abbrev pub most_regions : ℕ
most_regions = 64

abbrev pub name_bytes : ℕ
name_bytes = 16

-- `region`
abbrev pub word : List ℕ
word = 114 ∷ 101 ∷ 103 ∷ 105 ∷ 111 ∷ 110 ∷ []

-- a to z
unfoldable pub is_letter : (byte : ℕ) → Bool
is_letter b = leb 97 b && leb b 122

-- a region holds its name in sixteen bytes; the name is the letters at their front
unfoldable pub letters_of : List ℕ → List ℕ
letters_of [] = []
letters_of (b ∷ l) = let r = letters_of l in cond (is_letter b) (b ∷ r) []

unfoldable pub name_of : Region → List ℕ
name_of r = letters_of r.name

unfoldable pub all_zero : List ℕ → Bool
all_zero l = list_all (λ b. eqb b 0) l

-- r, w, x, in this order: bits 0, 1, 2
unfoldable pub rights_text : (rights : ℕ) → List ℕ
rights_text n = cond (eqb (n % 2) 1) (114 ∷ []) [] ++ cond (eqb (n / 2 % 2) 1) (119 ∷ []) [] ++ cond (eqb (n / 4 % 2) 1) (120 ∷ []) []

-- a region's line, without its newline
unfoldable pub line_text : Region → List ℕ
line_text r = word ++ (tab ∷ name_of r) ++ (tab ∷ digits 16 8 r.start) ++ (tab ∷ digits 16 8 r.size) ++ (tab ∷ rights_text r.rights)

unfoldable pub sheet_text : List Region → List ℕ
sheet_text [] = []
sheet_text (r ∷ rs) = line_text r ++ (newline ∷ sheet_text rs)

-- a region that a line can say: 1 to 16 letters and zeros after them, words as start and length, at least one right
unfoldable pub formed : Region → Bool
formed r =
    ltb 0 (length (name_of r)) && (eqb (length r.name) name_bytes && (all_zero (drop (length (name_of r)) r.name)
    && (ltb r.start (2 ^ 32) && (ltb r.size (2 ^ 32) && (ltb 0 r.rights && ltb r.rights 8)))))

-- two regions with one name, or with a byte in common
unfoldable pub same : (a b : List ℕ) → Bool
same a b = bytes_eq a b

unfoldable pub clash : (earlier later : Region) → Bool
clash a b = same a.name b.name || (ltb a.start (b.start + b.size) && ltb b.start (a.start + a.size))

unfoldable pub clashes : (earlier : List Region) → Region → Bool
clashes rs r = list_any (λ a. clash a r) rs

-- a region that may be the next one after those: the 64th at most, not empty, with no end past 2 ^ 32, and in no clash
unfoldable pub admitted : (earlier : List Region) → Region → Bool
admitted rs r = ltb (length rs) most_regions && (ltb 0 r.size && (leb (r.start + r.size) (2 ^ 32) && not (clashes rs r)))

unfoldable pub follows : (earlier : List Region) → Region → Bool
follows rs r = formed r && admitted rs r

-- regions of which each may follow those before it
pub data Regions : List Region → Type 0 where
  none : Regions []
  more : {rs : List Region} (r : Region) → Regions rs → follows rs r ≡ true → Regions (rs ++ (r ∷ []))

-- What a text is: the regions of a sheet, and what comes after its end, or the number of its first bad line.
pub data Answer : Type 0 where
  sheet : (regions : List Region) (rest : List ℕ) → Answer
  bad : (line : ℕ) → Answer

-- where a sheet ends: alone at the text's end; in an image at an empty line, and the payload follows
unfoldable pub ending : (image : Bool) (rest : List ℕ) → List ℕ
ending false rest = []
ending true rest = newline ∷ rest

-- a sheet: at least one region, each may follow those before it, and the text is theirs
pub record IsSheet (image : Bool) (text : List ℕ) (rs : List Region) (rest : List ℕ) : Type 0 where
  pub regions : Regions rs
  pub some : 0 < length rs
  pub text_is : text ≡ sheet_text rs ++ ending image rest
  pub alone : image ≡ false → rest ≡ []

-- the first bad line is line n: the lines before it are those of regions, and it is neither the line of one that may follow nor, after at least one
-- region, the sheet's end
pub record FirstBad (image : Bool) (text : List ℕ) (n : ℕ) : Type 0 where
  pub before : List Region
  pub from : List ℕ
  pub regions : Regions before
  pub number : n ≡ length before + 1
  pub text_is : text ≡ sheet_text before ++ from
  pub no_line : (r : Region) (rest : List ℕ) → from ≡ line_text r ++ (newline ∷ rest) → follows before r ≡ true → ⊥
  pub no_end : (rest : List ℕ) → from ≡ ending image rest → length before ≡ 0

abbrev pub Says : (image : Bool) (text : List ℕ) → Answer → Type 0
Says image text (sheet rs rest) = IsSheet image text rs rest
Says image text (bad n) = FirstBad image text n
