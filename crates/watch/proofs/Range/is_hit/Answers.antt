-- Four comparisons joined: both lengths not 0, and each start before the other's end, with no sum cut off.
use borrow.Author.Rules.{rules}
use Rattle.watch.specs.Watch.{hits}
use Rattle.watch.proofs.Range.is_hit.Goals as goal

pub returns : goal.returns
unfolding hits
returns c = search rules
