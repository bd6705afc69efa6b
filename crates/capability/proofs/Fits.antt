-- A capability whose tag a test may clear stays good. Assumes nothing.
use mathlib.Core.Bool.{Bool}
use native.Mathlib.Omega.{arith}
use Rattle.capability.specs.declared.Capability.{Capability}
use Rattle.capability.specs.Capability.{Good, keep_tag_if}
use Rattle.capability.proofs.Laws.{kept, kept_le}

pub keep_tag_good : (t : Bool) (c : Capability) → Good c → Good (keep_tag_if t c)
keep_tag_good t c g =
    record { address_fits = g.address_fits; metadata_fits = g.metadata_fits; tag_fits = omega (arith, kept_le (kept t c.tag), g.tag_fits) }
