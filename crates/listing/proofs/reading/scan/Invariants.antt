-- The invariant: reading what is left from the present state gives the whole.
use Rattle.std.proofs.Common.{◌≡◌, drop}
use Rattle.listing.specs.Reading.{start, scanned}
use Rattle.listing.proofs.reading.scan.Given as goal

abbrev pub invariant-loop-x : goal.invariant-loop-x
invariant-loop-x l = scanned l.s (drop l.x-index l.text) ≡ scanned start l.text
