-- The invariant: the walk from here on ends where the walk over the whole code does, and spending the lines that are left on the room that is left
-- comes to spending the whole listing on all of it.
use Rattle.std.proofs.Common.{◌≡◌, ◌-◌, ◌≤◌, length}
use Rattle.std.specs.Prelude.{Some}
use Rattle.listing.specs.Rooms.{spent}
use Rattle.listing.specs.Code.{words_at, end_at, text_of, listing_of}
use Rattle.listing.proofs.code.measure.Given as goal

abbrev pub invariant-loop-at : goal.invariant-loop-at
invariant-loop-at l =
    (l.at ≤ length l.code) × (end_at l.code l.at ≡ end_at l.code 0)
    × (spent l.room (length (text_of (words_at l.code l.at))) ≡ spent (Some l.most) (length (listing_of l.code)))

abbrev pub decreases-loop-at : goal.decreases-loop-at
decreases-loop-at l = length l.code - l.at
