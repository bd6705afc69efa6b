-- The names of the table are the definition's.
use Rattle.std.proofs.Common.{refl}
use Rattle.forms.specs.Rows.{names, name_of}
use Rattle.forms.specs.declared.Row.{Row}
use Rattle.forms.proofs.Entries.{field_at}
use Rattle.listing.proofs.Places.{name_short}
use Rattle.listing.proofs.tables.name_length.Goals as goal

pub returns : goal.returns
unfolding names name_of
returns c = rw (field_at (λ (r : Row). r.0.now)) (refl, name_short c.args.row c.requires)
