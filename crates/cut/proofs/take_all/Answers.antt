-- `take_all`: a turn that went on brings the state on, and the last line ends the run. Assumes nothing.
use Rattle.std.proofs.lemmas.Result.{err_from_is_err_and}
use Rattle.cut.proofs.Blocks.{run_start, turn_on, turn_failed}
use Rattle.cut.proofs.Moves.{moved_start, moved_on, moved_end}
use Rattle.cut.proofs.take_all.Goals as goal

pub loop-init : goal.loop-init
loop-init g c = (run_start _ c.start-s.ensures, moved_start _ _ _ c.start-s.ensures)

pub returns-in_err-next-clause-ends : goal.returns-in_err-next-clause-ends
returns-in_err-next-clause-ends g c =
    let p = err_from_is_err_and c.from_residual.result c.from_residual.ensures.1 in
    rw (p.1, p.2) (turn_failed c.loop.s c.take_turn.new.input c.take_turn.new.output.bytes _ c.in_err-next.ensures.turn c.loop.invariant.0)

pub returns-in-None-clause-moved : goal.returns-in-None-clause-moved
returns-in-None-clause-moved g c =
    moved_end _ _ c.write_last.result _ _ _ _ _ _ _ c.loop.invariant.1 (rw c.in-None.is at c.in_ok-next.ensures.moved) c.write_last.ensures.written

pub loop-preserved : goal.loop-preserved
loop-preserved g c =
    let t = c.in-Some.next in
    let input = c.take_turn.new.input in
    let turn = rw c.in-Some.is at c.in_ok-next.ensures.turn in
    let moved = rw c.in-Some.is at c.in_ok-next.ensures.moved in
    (turn_on _ input c.take_turn.new.output.bytes t turn c.loop.invariant.0, moved_on _ t input _ _ _ _ _ _ c.loop.invariant.1 moved)
