-- Worked examples of sheets, comparisons and images, for each sentence of document 02, 7 and 12: one table, one statement, of the definitions.
-- Assumes nothing.
use Rattle.std.specs.Prelude.{Bool, true, false, ◌&&◌, List, [], ◌∷◌, ◌++◌, ℕ, ◌+◌, ◌*◌, ◌^◌, eqb, length}
use Prim.Native.String.{String}
use Rattle.fit.specs.Fit.{choice_of, outcome}
use Rattle.sheets.specs.Records.{sheet_words, judged}
use Rattle.sheets.specs.Scanning.{read_of}
use Rattle.sheets.specs.Sheet.{same, sheet_text, Answer, sheet, bad}
use Rattle.sheet_compare.specs.Compare.{list_text}
use Rattle.sheet_api.specs.Bytes.{bytes}
use Rattle.sheet_api.specs.Numbers.{fit_number}

pub data Case : Type 0 where
  -- the text is a sheet of so many regions; it is written as itself, and its words are judged to be it
  good : (text : String) (regions : ℕ) → Case
  -- the text's first bad line
  wrong : (text : String) (line : ℕ) → Case
  -- what a comparison of two sheets lists
  differ : (first second list : String) → Case
  -- the answer for a board and two images, as C has it
  fit : (board first second : String) (number : ℕ) → Case

unfoldable pub judged_good : Answer → (count : ℕ) → Bool
judged_good (sheet rs rest) n = eqb (length rs) n
judged_good (bad line) n = false

unfoldable pub read_good : Answer → (text : List ℕ) (count : ℕ) → Bool
read_good (sheet rs rest) text n = eqb (length rs) n && (same (sheet_text rs) text && judged_good (judged (sheet_words rs)) n)
read_good (bad line) text n = false

unfoldable pub read_bad : Answer → (line : ℕ) → Bool
read_bad (sheet rs rest) n = false
read_bad (bad line) n = eqb line n

unfoldable pub lists : Answer → Answer → (list : List ℕ) → Bool
lists (sheet a x) (sheet b y) list = same (list_text a b) list
lists (sheet a x) (bad n) list = false
lists (bad n) second list = false

unfoldable pub holds : Case → Bool
holds (good text n) = read_good (read_of false (bytes text)) (bytes text) n
holds (wrong text n) = read_bad (read_of false (bytes text)) n
holds (differ a b list) = lists (read_of false (bytes a)) (read_of false (bytes b)) (bytes list)
holds (fit b f s n) = eqb (fit_number (choice_of (bytes f) (bytes s) (outcome (bytes b) (bytes f) (bytes s)))) n

unfoldable pub all : List Case → Bool
all [] = true
all (c ∷ cs) = holds c && all cs

-- 7: the form of a line, and its ways to be another
unfoldable pub forms : List Case
forms =
    good "region\tram\t20000000\t00010000\trw\n" 1
    ∷ good "region\tabcdefghijklmnop\t00000000\t00000001\trwx\n" 1
    ∷ wrong "" 1
    ∷ wrong "\n" 1
    ∷ wrong "region\tram\t20000000\t00010000\trw" 1
    ∷ wrong "Region\tram\t20000000\t00010000\trw\n" 1
    ∷ wrong "region\t\t20000000\t00010000\trw\n" 1
    ∷ wrong "region\tabcdefghijklmnopq\t20000000\t00010000\trw\n" 1
    ∷ wrong "region\tram0\t20000000\t00010000\trw\n" 1
    ∷ wrong "region\tram\t2000000A\t00010000\trw\n" 1
    ∷ wrong "region\tram\t2000000\t00010000\trw\n" 1
    ∷ wrong "region\tram\t20000000\t000010000\trw\n" 1
    ∷ wrong "region\tram\t20000000\t\t00010000\trw\n" 1
    ∷ wrong "region ram 20000000 00010000 rw\n" 1
    ∷ wrong "region\tram\t20000000\t00010000\t\n" 1
    ∷ wrong "region\tram\t20000000\t00010000\twr\n" 1
    ∷ wrong "region\tram\t20000000\t00010000\trr\n" 1
    ∷ wrong "region\tram\t20000000\t00010000\trw \n" 1
    ∷ wrong "region\tram\t20000000\t00010000\trw\n\n" 2
    ∷ []

-- 7: lines of the right form that are bad all the same, and their neighbours that are not
unfoldable pub clashing : List Case
clashing =
    wrong "region\tram\t20000000\t00000000\trw\n" 1
    ∷ good "region\tram\tffffff00\t00000100\tr\n" 1
    ∷ wrong "region\tram\tffffff00\t00000101\tr\n" 1
    ∷ good "region\tb\t00000100\t00000100\tr\nregion\ta\t00000000\t00000100\tr\n" 2
    ∷ wrong "region\tb\t00000100\t00000100\tr\nregion\ta\t00000000\t00000101\tr\n" 2
    ∷ wrong "region\ta\t00000000\t00000100\tr\nregion\ta\t00000100\t00000100\tr\n" 2
    ∷ wrong "region\ta\t00000000\t00000100\tr\nregion\tb\t00000100\t00000000\tr\nregion\ta\t00000200\t00000100\tr\n" 2
    ∷ []

-- 7: comparing
unfoldable pub comparisons : List Case
comparisons =
    differ "region\ta\t00000000\t00000100\tr\n" "region\ta\t00000000\t00000100\tr\n" ""
    ∷ differ "region\ta\t00000000\t00000100\tr\nregion\tb\t00000100\t00000100\tw\n" "region\tb\t00000100\t00000100\tw\nregion\ta\t00000000\t00000100\tr\n" ""
    ∷ differ "region\ta\t00000000\t00000100\tr\n" "region\ta\t00000000\t00000101\tr\n" "a\n"
    ∷ differ "region\tc\t00000000\t00000100\tr\nregion\tab\t00000100\t00000100\tw\n"
    "region\ta\t00000000\t00000100\tr\nregion\tab\t00000100\t00000100\trw\n" "a\nab\nc\n"
    ∷ []

-- 12: the first that fits, an empty payload, one byte too long, a right too many, two board regions that adjoin, and whose sheet is bad
unfoldable pub images : List Case
images =
    fit "region\tram\t00000000\t00000100\trw\n" "region\ta\t00000000\t00000100\tr\n\npay" "region\ta\t00000000\t00000100\tr\n\n" (2 ^ 40 + 30)
    ∷ fit "region\tram\t00000000\t00000100\trw\n" "region\ta\t00000000\t00000101\tr\n\npay" "region\ta\t00000000\t00000100\tr\n\n" (2 * 2 ^ 40 + 30)
    ∷ fit "region\tram\t00000000\t00000100\trw\n" "region\ta\t00000000\t00000100\trx\n\n" "region\ta\t00000000\t00000101\tr\n\n" (16 * 2 ^ 48)
    ∷ fit "region\ta\t00000000\t00000100\tr\nregion\tb\t00000100\t00000100\tr\n"
    "region\ta\t00000080\t00000100\tr\n\n" "region\ta\t00000080\t00000100\tr\n\n" (16 * 2 ^ 48)
    ∷ fit "" "" "" (17 * 2 ^ 48 + 1)
    ∷ fit "region\tram\t00000000\t00000100\trw\n" "region\ta\t00000000\t00000100\tr\n" "region\ta\t00000000\t00000100\tr\n\n" (18 * 2 ^ 48 + 2)
    ∷ fit "region\tram\t00000000\t00000100\trw\n" "region\ta\t00000000\t00000100\tr\n\n" "\n" (19 * 2 ^ 48 + 1)
    ∷ []

unfoldable pub cases : List Case
cases = forms ++ clashing ++ comparisons ++ images
