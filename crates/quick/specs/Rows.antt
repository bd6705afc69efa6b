-- What the second engine remembers of a register's reach, and what a remembered row is good for. CHERIoT report, 7.6, 7.13.3 and 7.13.5 (bounds and checks
-- of an access); document 02, 14. Assumes nothing.
use Rattle.std.specs.Prelude.{◌≡◌, ℕ, ◌+◌, ◌%◌, ◌^◌, ◌<◌, ◌≤◌, Bool, true, false, cond, List, length, nat_lt, slice_index, slice_index_or}
use Rattle.bounds.specs.Bounds.{low_at, high_at}
use Rattle.metadata.specs.Rights.{LD, SD, EX}
use Rattle.capability.specs.Capability.{capability, grants, sealed, same_bounds}
use Rattle.capability.specs.declared.Capability.{Capability}
use Rattle.state.specs.Checks.{in_bounds}

-- A row is three numbers: a metadata word, and a range of addresses in its bounds and in memory. The rows of the registers for loads come first, then those
-- for stores, then PCC's.
abbrev pub rows_of_stores : ℕ
rows_of_stores = 48

abbrev pub row_of_pcc : ℕ
row_of_pcc = 96

abbrev pub row_words : ℕ
row_words = 99

-- the right that a row is for
abbrev pub right_of : (row : ℕ) → ℕ
right_of row = cond (nat_lt row rows_of_stores) LD (cond (nat_lt row row_of_pcc) SD EX)

-- what holds of a word m at an address in a row's range
pub record Known (right start size m l h a : ℕ) : Type 0 where
  pub is_open : sealed (capability a m 1) ≡ false
  pub granted : grants (capability a m 1) right ≡ true
  pub low_below : low_at a m ≤ l
  pub high_above : h ≤ high_at a m
  pub from_start : start ≤ l
  pub to_end : h ≤ start + size
  pub same : (b : ℕ) → b < 2 ^ 32 → l ≤ b → b < h → (low_at b m ≡ low_at a m) × (high_at b m ≡ high_at a m)

abbrev pub Row : (right start size m l h : ℕ) → Type 0
Row right start size m l h = (a : ℕ) → a < 2 ^ 32 → l ≤ a → a < h → Known right start size m l h a

-- each row is good
pub record Good (start size : ℕ) (rows : List ℕ) : Type 0 where
  pub long : length rows ≡ row_words
  pub each : (i : ℕ) → i ≤ row_of_pcc → i % 3 ≡ 0 → Row (right_of i) start size (slice_index rows i) (slice_index rows (i + 1)) (slice_index rows (i + 2))

-- width bytes at an address are in a row's range, and so is the address of the capability, which has the row's word
pub record InRow (rows : List ℕ) (i : ℕ) (c : Capability) (address width : ℕ) : Type 0 where
  pub word_is : slice_index_or rows i 0 ≡ c.metadata
  pub own_above : slice_index_or rows (i + 1) 0 ≤ c.address
  pub own_below : c.address < slice_index rows (i + 2)
  pub above : slice_index_or rows (i + 1) 0 ≤ address
  pub below : address + width ≤ slice_index rows (i + 2)

-- what is promised of a capability that reaches width bytes: every check of an access passes, and the bytes are in memory
pub record Reached (right start size : ℕ) (c : Capability) (address width : ℕ) : Type 0 where
  pub is_tagged : c.tag ≡ 1
  pub is_open : sealed c ≡ false
  pub has_right : grants c right ≡ true
  pub in_bounds : in_bounds c address width ≡ true
  pub after_start : start ≤ address
  pub before_end : address + width ≤ start + size
  pub same_bounds : 1 ≤ width → same_bounds c address ≡ true

abbrev pub ReachedIf : Bool → (right start size : ℕ) → Capability → (address width : ℕ) → Type 0
ReachedIf b right start size c address width = b ≡ true → Reached right start size c address width
