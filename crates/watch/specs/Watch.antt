-- The watch record: two ranges of addresses, each with a count of the stores that touched it. Document 02, 14. Assumes nothing.
use Rattle.std.specs.Prelude.{Bool, cond, ◌&&◌, ℕ, ◌+◌, ◌-◌, ◌^◌, ◌≤◌, ◌<◌, ltb}
use Rattle.watch.specs.declared.Range.{Range}
use Rattle.watch.specs.declared.Watch.{Watch}

-- where a count stops
abbrev pub most_hits : ℕ
most_hits = 2 ^ 32 - 1

-- width bytes from an address on share a byte with a range: neither is empty, and each starts before the other's end, a whole number
unfoldable pub hits : Range → (address width : ℕ) → Bool
hits r address width = ltb 0 r.length && (ltb 0 width && (ltb r.start (address + width) && ltb address (r.start + r.length)))

-- a byte in common, which is what a hit is (laws `hit_shares`, `shares_hit`)
pub record Shares (r : Range) (address width : ℕ) : Type 0 where
  pub byte : ℕ
  pub in_range : (r.start ≤ byte) × (byte < r.start + r.length)
  pub in_store : (address ≤ byte) × (byte < address + width)

-- one more, unless the count has stopped
unfoldable pub one_more_hit : (count : ℕ) → ℕ
one_more_hit count = cond (ltb count most_hits) (count + 1) count

-- a range after a store of width bytes at an address: it stays, and its count rises where the store touches it
unfoldable pub range_touched : Range → (address width : ℕ) → Range
range_touched r address width =
    record { start = r.start; length = r.length; count = cond (hits r address width) (one_more_hit r.count) r.count }

-- the record after that store: each range for itself
unfoldable pub touched_at : Watch → (address width : ℕ) → Watch
touched_at w address width = record { first = range_touched w.first address width; second = range_touched w.second address width }

-- nothing watched
abbrev pub no_range : Range
no_range = record { start = 0; length = 0; count = 0 }

abbrev pub no_watch : Watch
no_watch = record { first = no_range; second = no_range }
