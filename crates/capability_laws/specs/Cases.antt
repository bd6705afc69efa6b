-- The worked cases of document 01, "Cases", that are marked P: one table, one statement, of the definitions.
-- Assumes nothing.
use Rattle.std.specs.Prelude.{Bool, true, ◌&&◌, List, [], ◌∷◌, ℕ, ◌-◌, ◌^◌, eqb}
use Rattle.metadata.specs.Rights.{SD, LD, word_rights, narrow_word}
use Rattle.bounds.specs.Bounds.{low_at, high_at}
use Rattle.bounds.specs.Cutting.{cut_of, answer_number, answer_low, answer_high, answer_exact}

pub data Case : Type 0 where
  -- metadata with an address is [low, high)
  bounds : (metadata address low high : ℕ) → Case
  -- its rights
  rights : (metadata rights : ℕ) → Case
  -- a word's rights without one of them narrow to what is left
  narrowed : (metadata rights without left : ℕ) → Case
  -- a base and a length give [low, high), which is exact, 1, or not, 0
  cut : (base length low high exact : ℕ) → Case

unfoldable pub holds : Case → Bool
holds (bounds w a l h) = eqb (low_at a w) l && eqb (high_at a w) h
holds (rights w r) = eqb (word_rights w) r
holds (narrowed w r k l) = eqb (word_rights w) r && eqb (word_rights (narrow_word w (2 ^ 12 - 1 - 2 ^ k))) l
holds (cut b n l h e) =
    eqb (answer_number (cut_of b n)) 0 && (eqb (answer_low (cut_of b n)) l && (eqb (answer_high (cut_of b n)) h && eqb (answer_exact (cut_of b n)) e))

unfoldable pub all : List Case → Bool
all [] = true
all (c ∷ cs) = holds c && all cs

unfoldable pub cases : List Case
cases =
    bounds 0x7E3E0000 0 0 0x100000000
    ∷ rights 0x7E3E0000 0x07F
    ∷ rights 0x5E3E0000 0x1EB
    ∷ rights 0x4E3E0000 0xE01
    ∷ narrowed 0x7E3E0000 0x07F SD 0x06B
    ∷ narrowed 0x5E3E0000 0x1EB LD 0x001
    ∷ cut 0x20000001 511 0x20000001 0x20000200 1
    ∷ cut 0x20000001 512 0x20000000 0x20000202 0
    ∷ cut 0x20000001 1021 0x20000000 0x200003FE 0
    ∷ cut 0x20000001 1022 0x20000000 0x20000400 0
    ∷ cut 0x20000000 8372224 0x20000000 0x207FC000 1
    ∷ cut 0x20000000 8372225 0x20000000 0x21000000 0
    ∷ cut 0x20000000 0 0x20000000 0x20000000 1
    ∷ []
