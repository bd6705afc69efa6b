-- `read`: the loop keeps `Going`, that what is left reads, after the regions so far, as the whole text. Each way out is one of its laws. Assumes nothing.
use lib.ListN.{length}
use Rattle.sheets.proofs.Walk.{Going}
use Rattle.sheets.proofs.read.Given as goal

abbrev pub invariant-loop-rest : goal.invariant-loop-rest
invariant-loop-rest l = Going l.image l.text l.sheet l.rest

abbrev pub decreases-loop-rest : goal.decreases-loop-rest
decreases-loop-rest l = length l.rest
