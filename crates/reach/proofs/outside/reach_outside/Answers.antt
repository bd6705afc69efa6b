-- Refused; or the first find is none of the range's granules; or it is, and the search goes on behind them.
use Rattle.std.proofs.Common.{sym, ◌∙◌}
use borrow.Author.Tests.{not-true, not-false}
use Rattle.std.proofs.lemmas.Result.{err_from_is_err_and}
use Rattle.reach.proofs.Laws as laws
use Rattle.reach.proofs.Passing as passing
use Rattle.reach.proofs.outside.reach_outside.Goals as goal

pub returns-in_err-outside_refusal : goal.returns-in_err-outside_refusal
returns-in_err-outside_refusal c =
    let p = err_from_is_err_and c.from_residual.result c.from_residual.ensures.1 in
    rw (p.1, p.2) (passing.outside_refused _ _ _ _ _ c.in_err-outside_refusal.ensures)

pub first_place-found-requires : goal.first_place-found-requires
first_place-found-requires c =
    laws.accepted_size _ _ _ _ (passing.accepted_outside _ _ _ _ (sym c.in_ok-outside_refusal.ensures)).0

pub returns-then-not-is_found_hidden : goal.returns-then-not-is_found_hidden
returns-then-not-is_found_hidden c =
    passing.outside_returned _ _ _ _ (sym c.in_ok-outside_refusal.ensures) _ c.first_place-found.ensures
    (sym c.is_found_hidden.ensures ∙ not-true c.is_found_hidden.result c.if-not-is_found_hidden.true-raw)

pub place_behind-requires : goal.place_behind-requires
place_behind-requires c =
    passing.outside_in_order _ _ _ _ (sym c.in_ok-outside_refusal.ensures) _ c.first_place-found.ensures
    (sym c.is_found_hidden.ensures ∙ not-false c.is_found_hidden.result c.if-not-is_found_hidden.false-raw)

pub first_place-requires : goal.first_place-requires
first_place-requires c =
    laws.accepted_size _ _ _ _ (passing.accepted_outside _ _ _ _ (sym c.in_ok-outside_refusal.ensures)).0

pub returns : goal.returns
returns c =
    passing.outside_went_on _ _ _ _ (sym c.in_ok-outside_refusal.ensures) _ c.first_place-found.ensures
    (sym c.is_found_hidden.ensures ∙ not-false c.is_found_hidden.result c.if-not-is_found_hidden.false-raw)
    _ c.place_behind.ensures _ c.first_place.ensures
