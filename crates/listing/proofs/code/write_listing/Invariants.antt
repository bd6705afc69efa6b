-- The invariant: what is written, and then the lines of the words from here on, make the listing.
use Rattle.std.proofs.Common.{◌≡◌, ◌-◌, ◌≤◌, length}
use Rattle.listing.specs.Code.{words_at, text_of, listing_of}
use Rattle.listing.proofs.Walking.{Going}
use Rattle.listing.proofs.code.write_listing.Given as goal

abbrev pub invariant-loop-at : goal.invariant-loop-at
invariant-loop-at l = (l.at ≤ length l.code) × (length l.out ≡ length l.initial.out) × Going (listing_of l.code) (text_of (words_at l.code l.at)) l.initial.out
    l.out l.to

abbrev pub decreases-loop-at : goal.decreases-loop-at
decreases-loop-at l = length l.code - l.at
