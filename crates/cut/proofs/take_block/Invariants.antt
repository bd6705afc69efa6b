-- `take_block`: of the block a rest is left; what came before led to the state, and what belongs to it was written. Assumes nothing.
use Rattle.std.proofs.Common.{length}
use Rattle.cut.proofs.Blocks.{Part}
use Rattle.cut.proofs.take_block.Given as goal

abbrev pub invariant-loop-rest : goal.invariant-loop-rest
invariant-loop-rest g l =
    Part l.initial.s l.initial.rest (g.W.Write.contents l.initial.writer) l.s l.rest (g.W.Write.contents l.writer)

abbrev pub decreases-loop-rest : goal.decreases-loop-rest
decreases-loop-rest g l = length l.rest
