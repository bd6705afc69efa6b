-- As `run`, and the record.
use Rattle.machine.proofs.Watching as laws
use Rattle.machine.proofs.watched_run.Goals as goal

pub returns-in-Err : goal.returns-in-Err
returns-in-Err c = laws.watched_refused _ _ _ _ _ _ c.in-Err.ensures

pub returns : goal.returns
returns c =
    laws.watched_done _ _ _ _ _ _ _ _ _ c.in_default.ensures c.take_watched-tally.ensures.0 c.take_watched-tally.ensures.1
