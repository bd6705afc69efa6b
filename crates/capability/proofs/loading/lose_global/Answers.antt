-- The test is tagged and no LG; what it does is the law of losing.
use Rattle.capability.proofs.loading.lose_global.Goals as goal

pub returns : goal.returns
returns c =
    simp (c.loses_if.ensures, c.both-lost.ensures, c.has.ensures, c.is_tagged.ensures)
