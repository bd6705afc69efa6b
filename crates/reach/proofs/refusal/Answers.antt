-- A step's refusal is one here too, but for unsound registers; else what is asked decides.
use Rattle.std.proofs.Common.{◌∙◌}
use Rattle.std.proofs.lemmas.Result.{err_from_is_err_and}
use Rattle.reach.proofs.Laws as laws
use Rattle.reach.proofs.refusal.Goals as goal

pub returns-in_err-but_unsound : goal.returns-in_err-but_unsound
returns-in_err-but_unsound c =
    let p = err_from_is_err_and c.from_residual.result c.from_residual.ensures.1 in
    rw (p.1, p.2) (laws.refused_as_a_step _ _ _ _ _ c.refusal.ensures _ c.in_err-but_unsound.ensures)

pub returns : goal.returns
returns c = c.asked_refusal.ensures ∙ laws.refused_as_asked _ _ _ _ _ c.refusal.ensures c.in_ok-but_unsound.ensures
