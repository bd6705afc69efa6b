-- `process`: the loop keeps `Going`: the state and the text are those of the bytes taken, and what is still taken makes up the whole. Assumes nothing.
use Rattle.cut_lines.proofs.Blocks.{Going}
use Rattle.cut_lines.proofs.process.Given as goal

abbrev pub invariant-loop-i : goal.invariant-loop-i
invariant-loop-i l = Going l.initial.s l.input l.initial.output l.output l.s l.i l.at
