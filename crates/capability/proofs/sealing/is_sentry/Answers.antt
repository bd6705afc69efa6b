-- EX, and the type read lies among the sentries'.
use Rattle.capability.specs.Sealing.{is_sentry}
use Rattle.capability.proofs.sealing.is_sentry.Goals as goal

pub returns : goal.returns
unfolding is_sentry
returns c =
    simp
    (c.both.ensures, c.within.ensures, c.otype.ensures.0, c.has_right.ensures)
