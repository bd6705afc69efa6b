-- A region as a record of seven words, for C: the name's sixteen bytes in four words, the lowest first; start; length; rights. Document 02, 7.
-- Assumes nothing.
use Rattle.std.specs.Prelude.{Bool, true, cond, ◌&&◌, List, [], ◌∷◌, ◌++◌, ◌≡◌, ℕ, zero, suc, ◌+◌, ◌*◌, ◌/◌, ◌%◌, ◌^◌, ◌<◌, ltb, eqb, length, get_or}
use Rattle.sheets.specs.Sheet.{follows, Regions, Answer, sheet, bad}
use Rattle.sheets.specs.Scanning.{ended}
use Rattle.sheets.specs.declared.Region.{Region}

abbrev pub record_size : ℕ
record_size = 7

-- four bytes of a name from an index on, the lowest first
unfoldable pub word_at : (name : List ℕ) (at : ℕ) → ℕ
word_at name at = get_or name at 0 + get_or name (at + 1) 0 * 256 + get_or name (at + 2) 0 * 65536 + get_or name (at + 3) 0 * 16777216

unfoldable pub name_words : (name : List ℕ) → List ℕ
name_words name = word_at name 0 ∷ word_at name 4 ∷ word_at name 8 ∷ word_at name 12 ∷ []

unfoldable pub record_words : Region → List ℕ
record_words r = name_words r.name ++ (r.start ∷ r.size ∷ r.rights ∷ [])

unfoldable pub sheet_words : List Region → List ℕ
sheet_words [] = []
sheet_words (r ∷ rs) = record_words r ++ sheet_words rs

-- records of a sheet: at least one region, each may follow those before it, and the words are theirs
pub record AreRecords (words : List ℕ) (rs : List Region) : Type 0 where
  pub regions : Regions rs
  pub some : 0 < length rs
  pub words_are : words ≡ sheet_words rs

-- the first bad record is the nth, as line n of a sheet would be: those before it are records of regions, and it is neither that of one that may follow
-- nor, after at least one record, the end; so words that make no whole record are a bad one, and no words at all are bad as line 1
pub record FirstBadRecord (words : List ℕ) (n : ℕ) : Type 0 where
  pub before : List Region
  pub from : List ℕ
  pub regions : Regions before
  pub number : n ≡ length before + 1
  pub words_are : words ≡ sheet_words before ++ from
  pub no_record : (r : Region) (rest : List ℕ) → from ≡ record_words r ++ rest → follows before r ≡ true → ⊥
  pub no_end : from ≡ [] → length before ≡ 0

abbrev pub SaysRecords : (words : List ℕ) → Answer → Type 0
SaysRecords words (sheet rs rest) = AreRecords words rs
SaysRecords words (bad n) = FirstBadRecord words n

-- each is a word of 32 bits
unfoldable pub all_words : List ℕ → Bool
all_words [] = true
all_words (w ∷ ws) = ltb w (2 ^ 32) && all_words ws

-- How the words are judged, one record after the other. What they are judged to be is what they say (`judged_says`).

-- a word's bytes, the lowest first
abbrev pub word_bytes : (word : ℕ) → List ℕ
word_bytes w = w % 256 ∷ w / 256 % 256 ∷ w / 65536 % 256 ∷ w / 16777216 % 256 ∷ []

-- the record from an index on
unfoldable pub record_at : (words : List ℕ) (at : ℕ) → Region
record_at ws at =
    record {
      name = word_bytes (get_or ws at 0) ++ word_bytes (get_or ws (at + 1) 0) ++ word_bytes (get_or ws (at + 2) 0) ++ word_bytes (get_or ws (at + 3) 0);
      start = get_or ws (at + 4) 0;
      size = get_or ws (at + 5) 0;
      rights = get_or ws (at + 6) 0;
    }

-- `left` records more after those before
unfoldable pub judged_from : (words : List ℕ) (before : List Region) (left : ℕ) → Answer
judged_from ws before zero = cond (eqb (length ws % record_size) 0) (ended before []) (bad (length before + 1))
judged_from ws before (suc left) =
    let it = record_at ws (length before * record_size) in
    let next = judged_from ws (before ++ (it ∷ [])) left in
    cond (follows before it) next (bad (length before + 1))

unfoldable pub judged : (words : List ℕ) → Answer
judged ws = judged_from ws [] (length ws / record_size)
