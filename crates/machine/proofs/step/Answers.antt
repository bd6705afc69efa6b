-- Refused; or not refused, and the one turn of the loop retires or traps.
use Rattle.std.proofs.lemmas.Result.{err_from_is_err_and}
use Rattle.machine.proofs.Laws as laws
use Rattle.machine.proofs.step.Goals as goal

pub returns-in_err-refusal : goal.returns-in_err-refusal
returns-in_err-refusal c =
    let p = err_from_is_err_and c.from_residual.result c.from_residual.ensures.1 in
    rw (p.1, p.2) (laws.step_refused _ _ _ _ c.in_err-refusal.ensures)

-- retired
pub returns-then-tally-eq1 : goal.returns-then-tally-eq1
returns-then-tally-eq1 c =
    laws.one_retired _ _ _ _ _ _ c.in_ok-refusal.ensures c.take_watched-tally.ensures.0 c.if-tally-eq1.true

-- trapped
pub returns-else-tally-eq1 : goal.returns-else-tally-eq1
returns-else-tally-eq1 c =
    laws.one_trapped _ _ _ _ _ _ c.in_ok-refusal.ensures c.take_watched-tally.ensures.0 c.if-tally-eq1.false
