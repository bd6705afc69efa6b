-- The test is tagged, no LM and not sealed; what it does is the law of losing.
use Rattle.capability.proofs.loading.lose_mutable.Goals as goal

pub returns : goal.returns
returns c =
    simp (
      c.loses_if.ensures,
      c.both.ensures,
      c.is_tagged.ensures,
      c.both-open.ensures,
      c.is_sealed.ensures,
      c.has.ensures,
    )
