-- Both empty; or each range for itself.
use Rattle.watch.specs.Watch.{touched_at}
use Rattle.watch.proofs.Laws as laws
use Rattle.watch.proofs.Watch.touched.Goals as goal

pub returns-then-self-eq0 : goal.returns-then-self-eq0
returns-then-self-eq0 c = laws.both_stay _ _ _ c.if-self-eq0.true

pub returns : goal.returns
unfolding touched_at
returns c = simp (c.touched.ensures, c.touched-2.ensures)
