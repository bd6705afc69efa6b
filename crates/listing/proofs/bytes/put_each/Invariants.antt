-- `put_each`: the loop keeps that the bytes so far are written.
use lib.ListN.{take}
use Rattle.text.specs.Writing.{Puts}
use Rattle.listing.proofs.bytes.put_each.Given as goal

abbrev pub invariant-loop-b : goal.invariant-loop-b
invariant-loop-b l = Puts l.initial.out l.at (take l.b-index l.bytes) l.out l.end
