-- `oddersnow_assemble` meets its contract.
use mathlib.Core.Path.{◌∙◌}
use Rattle.listing_api.proofs.oddersnow_assemble.Goals as goal

pub returns : goal.returns
returns c = let p = c.assemble.ensures in (c.assemble_packed.ensures ∙ rw (p.number_is, p.value_is), p.bytes_are)
