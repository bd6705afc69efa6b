-- `oddersnow_calls`: the list's promise, with the answer's number. Assumes nothing.
use mathlib.Core.Path.{ap, sym, ◌∙◌}
use Rattle.call_lists.specs.Lists.{answer_number}
use Rattle.call_lists.proofs.Answers.{listed_number}
use Rattle.call_lists.proofs.exported.oddersnow_calls.Goals as goal

pub returns-in-Ok : goal.returns-in-Ok
returns-in-Ok c = listed_number _ _ _ _ _ _ _ c.run_calls.ensures (sym (ap answer_number c.in-Ok.is))

pub returns-in-Err : goal.returns-in-Err
returns-in-Err c = listed_number _ _ _ _ _ _ _ c.run_calls.ensures (c.number.ensures ∙ sym (ap answer_number c.in-Err.is))
