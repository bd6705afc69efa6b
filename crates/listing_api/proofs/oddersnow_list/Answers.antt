-- `oddersnow_list` meets its contract.
use mathlib.Core.Path.{◌∙◌}
use Rattle.listing_api.proofs.oddersnow_list.Goals as goal

pub returns : goal.returns
returns c = let p = c.list.ensures in (c.list_packed.ensures ∙ rw (p.number_is, p.value_is), p.bytes_are)
