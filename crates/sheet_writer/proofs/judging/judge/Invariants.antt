-- `judge`: the loop keeps `Going`, that what is left is judged, after the records so far, as the whole is. Assumes nothing.
use Rattle.sheet_writer.proofs.Verdicts.{Going}
use Rattle.sheet_writer.proofs.judging.judge.Given as goal

abbrev pub invariant-loop-i : goal.invariant-loop-i
invariant-loop-i l = Going l.fn.words l.sheet l.i
