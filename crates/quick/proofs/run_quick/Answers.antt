-- Refused; or not refused, and the steps are the definition's.
use Rattle.std.proofs.Common.{sym, ◌∙◌}
use Rattle.machine.proofs.Watching as laws
use Rattle.machine_laws.proofs.Refusals.{good_for}
use Rattle.quick.proofs.run_quick.Goals as goal

pub returns-in-Err : goal.returns-in-Err
returns-in-Err c = laws.watched_refused _ _ _ _ _ _ c.in-Err.ensures

pub take_steps-tally-requires : goal.take_steps-tally-requires
take_steps-tally-requires c =
    let g = good_for _ _ _ _ (sym c.in_default.ensures) in
    (g.registers, g.memory.start_aligned)

pub returns : goal.returns
returns c =
    let done = c.take_steps-tally.ensures in
    laws.watched_done _ _ _ _ _ _ _ _ _ c.in_default.ensures done.0 done.1
