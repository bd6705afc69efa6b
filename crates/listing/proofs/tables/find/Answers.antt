-- The library's place, or the length, is the definition's.
use Rattle.forms.specs.declared.Row.{Row}
use Rattle.listing.proofs.Loops.{index_is}
use Rattle.listing.proofs.tables.find.Goals as goal

pub returns : goal.returns
returns c = rw (c.unwrap_or.ensures, c.key_place.ensures) (index_is (λ (r : Row). r.1) c.args.key c.args.table.now)
