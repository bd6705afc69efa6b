-- The invariant: the walk from here on stops where the walk over the whole text does, the lines passed and those left are all, and spending the code
-- that is left on the room that is left comes to spending the whole code on all of it.
use Rattle.std.proofs.Common.{◌≡◌, ◌+◌, ◌-◌, ◌≤◌, length}
use Rattle.std.specs.Prelude.{Some}
use Rattle.listing.specs.Rooms.{spent}
use Rattle.listing.specs.Assembling.{read_at, bad_at, code_of, assembly_of}
use Rattle.listing.proofs.assembling.judge.Given as goal

abbrev pub invariant-loop-at : goal.invariant-loop-at
invariant-loop-at l =
    (l.at ≤ length l.text) × (l.lines ≤ l.at) × (bad_at l.text l.at ≡ bad_at l.text 0) × (l.lines + length (read_at l.text l.at) ≡ length (read_at l.text 0))
    × (spent l.room (length (code_of (read_at l.text l.at))) ≡ spent (Some l.most) (length (assembly_of l.text)))

abbrev pub decreases-loop-at : goal.decreases-loop-at
decreases-loop-at l = length l.text - l.at
