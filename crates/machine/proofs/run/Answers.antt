-- Refused; or not refused, and the loop's steps are the definition's.
use Rattle.std.proofs.lemmas.Result.{err_from_is_err_and}
use Rattle.machine.proofs.Laws as laws
use Rattle.machine.proofs.run.Goals as goal

pub returns-in_err-refusal : goal.returns-in_err-refusal
returns-in_err-refusal c =
    let p = err_from_is_err_and c.from_residual.result c.from_residual.ensures.1 in
    rw (p.1, p.2) (laws.run_refused _ _ _ _ _ c.in_err-refusal.ensures)

pub returns : goal.returns
returns c = laws.run_done _ _ _ _ _ _ _ c.in_ok-refusal.ensures c.take_watched.ensures.0
