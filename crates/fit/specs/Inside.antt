-- What fitting gives, address by address and right by right; and the images in the other order. Document 02, 12.
-- Assumes nothing.
use Rattle.std.specs.Prelude.{Bool, true, false, ◌&&◌, List, ◌∷◌, ◌≡◌, ℕ, ◌+◌, ◌/◌, ◌%◌, ◌^◌, ◌≤◌, ◌<◌}
use Rattle.sheets.specs.Sheet.{Answer, sheet, bad}
use Rattle.sheets.specs.declared.Region.{Region}
use Rattle.fit.specs.Fit.{fits, Outcome, first, second, neither, bad_board, bad_first, bad_second}

pub data Among (r : Region) : List Region → Type 0 where
  here : {rs : List Region} → Among r (r ∷ rs)
  there : {s : Region} {rs : List Region} → Among r rs → Among r (s ∷ rs)

-- an address of a region, and a right of it (0 r, 1 w, 2 x)
abbrev pub Has : (r : Region) (address : ℕ) → Type 0
Has r a = (r.start ≤ a) × (a < r.start + r.size)

abbrev pub Grants : (r : Region) (right : ℕ) → Type 0
Grants r k = r.rights / 2 ^ k % 2 ≡ 1

-- one region of the board has every address of r, and every right
pub record Inside (r : Region) (board : List Region) : Type 0 where
  pub place : Region
  pub on_board : Among place board
  pub addresses : (a : ℕ) → Has r a → Has place a
  pub rights : (k : ℕ) → Grants r k → Grants place k

-- each region of an image is inside one of the board's
abbrev pub EachInside : (board image : List Region) → Type 0
EachInside board image = (r : Region) → Among r image → Inside r board

-- the answer with the images' numbers exchanged
unfoldable pub swapped : Outcome → Outcome
swapped (first p) = second p
swapped (second p) = first p
swapped neither = neither
swapped (bad_board n) = bad_board n
swapped (bad_first n) = bad_second n
swapped (bad_second n) = bad_first n

-- where the order decides: both images fit, or both have a bad sheet
unfoldable pub alike : (board one two : Answer) → Bool
alike (bad n) one two = false
alike (sheet board none) (bad n) (bad m) = true
alike (sheet board none) (bad n) (sheet two other) = false
alike (sheet board none) (sheet one payload) (bad m) = false
alike (sheet board none) (sheet one payload) (sheet two other) = fits board one && fits board two
