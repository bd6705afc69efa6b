-- The keys of the table are the definition's.
use Rattle.forms.specs.Rows.{names}
use Rattle.listing.specs.Reading.{key_from, keys}
use Rattle.listing.proofs.tables.row_of.Goals as goal

pub returns : goal.returns
unfolding keys key_from names
returns c = c.find.ensures
