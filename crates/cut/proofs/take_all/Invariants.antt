-- `take_all`: the state is that of some bytes taken from line 1 on, which were read, and what belongs to them was written. Assumes nothing.
use Rattle.cut.proofs.Blocks.{Reached}
use Rattle.cut.proofs.Moves.{Moved}
use Rattle.cut.proofs.take_all.Given as goal

abbrev pub invariant-loop : goal.invariant-loop
invariant-loop g l =
    Reached l.s
    × Moved l.s (g.R.Read.remaining l.initial.reader) (g.R.Read.remaining l.reader) (g.W.Write.contents l.initial.writer) (g.W.Write.contents l.writer)
