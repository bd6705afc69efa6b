-- Refused; or not refused, so that the granule is one of memory, and its number small.
use mathlib.Core.Path.{sym}
use Rattle.std.proofs.lemmas.Result.{err_from_is_err_and}
use Rattle.sweep.proofs.Laws as laws
use Rattle.sweep.proofs.visit.Goals as goal

pub returns-in_err-refusal : goal.returns-in_err-refusal
returns-in_err-refusal c =
    let p = err_from_is_err_and c.from_residual.result c.from_residual.ensures.1 in
    rw (p.1, p.2) (laws.visit_refused _ _ _ _ _ _ c.in_err-refusal.ensures)

pub sweep_granule-requires : goal.sweep_granule-requires
sweep_granule-requires c = laws.few_granules _ _ _ _ _ (sym c.in_ok-refusal.ensures)

pub next_after-requires : goal.next_after-requires
next_after-requires c = laws.few_granules _ _ _ _ _ (sym c.in_ok-refusal.ensures)

pub returns : goal.returns
returns c =
    laws.visit_done _ _ _ _ _ _ _ c.in_ok-refusal.ensures c.sweep_granule.ensures c.next_after.ensures
