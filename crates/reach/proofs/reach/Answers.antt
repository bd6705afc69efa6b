-- Refused; or not refused, so that memory is no longer than it may be.
use Rattle.std.proofs.Common.{sym}
use Rattle.std.proofs.lemmas.Result.{err_from_is_err_and}
use Rattle.reach.proofs.Laws as laws
use Rattle.reach.proofs.reach.Goals as goal

pub returns-in_err-refusal : goal.returns-in_err-refusal
returns-in_err-refusal c =
    let p = err_from_is_err_and c.from_residual.result c.from_residual.ensures.1 in
    rw (p.1, p.2) (laws.reach_refused _ _ _ _ _ c.in_err-refusal.ensures)

pub first_place-requires : goal.first_place-requires
first_place-requires c = laws.accepted_size _ _ _ _ (sym c.in_ok-refusal.ensures)

pub returns : goal.returns
returns c = laws.reach_done _ _ _ _ _ c.in_ok-refusal.ensures c.first_place.ensures
