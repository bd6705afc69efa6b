-- The names of the table are the definition's.
use Rattle.forms.specs.Rows.{names, name_of}
use Rattle.forms.specs.declared.Row.{Row}
use Rattle.forms.proofs.Entries.{field_at}
use Rattle.listing.proofs.tables.put_name.Goals as goal

pub returns : goal.returns
unfolding names name_of
returns c = rw (c.as_bytes.ensures.value, field_at (λ (r : Row). r.0.now)) at c.put_each.ensures
