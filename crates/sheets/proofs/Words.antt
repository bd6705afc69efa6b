-- Records one after the other: the words of sheets.
-- Assumes nothing.
use mathlib.Core.Path.{◌≡◌, refl, sym, ◌∙◌}
use mathlib.Core.List.{List, [], ◌∷◌, ◌++◌, append_assoc, append-nil}
use Prim.Native.Nat.{ℕ, ◌+◌, ◌*◌, ◌<◌}
use native.Mathlib.Numerals.{add-one}
use native.Mathlib.Omega.{arith}
use lib.ListN.{length, get_or, take, length-append}
use lib.Seq.{take-suc}
use Rattle.sheets.specs.Records.{name_words, record_words, sheet_words}
use Rattle.sheets.specs.declared.Region.{Region}

pub words_append : (a b : List Region) → sheet_words (a ++ b) ≡ sheet_words a ++ sheet_words b
unfolding sheet_words
words_append [] b = refl
words_append (r ∷ a) b = rw (words_append a b) (sym (append_assoc (record_words r) (sheet_words a) (sheet_words b)))

pub words_snoc : (a : List Region) (r : Region) → sheet_words (a ++ (r ∷ [])) ≡ sheet_words a ++ record_words r
unfolding sheet_words
words_snoc a r = words_append a (r ∷ []) ∙ rw append-nil

pub words_more : (rs : List Region) (d : Region) (i : ℕ) → i < length rs
    → sheet_words (take i rs) ++ record_words (get_or rs i d) ≡ sheet_words (take (i + 1) rs)
words_more rs d i h = sym (rw (add-one i, take-suc rs i d h) (words_snoc (take i rs) (get_or rs i d)))

pub record_length : (r : Region) → length (record_words r) ≡ 7
unfolding record_words name_words
record_length r = refl

pub words_length : (rs : List Region) → length (sheet_words rs) ≡ length rs * 7
unfolding sheet_words
words_length [] = refl
words_length (r ∷ rs) = rw (length-append, record_length r, words_length rs) (omega arith)
