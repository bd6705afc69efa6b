-- As `rights`.
use mathlib.Core.Path.{◌∙◌, ap}
use native.Mathlib.Omega.{arith}
use Rattle.metadata.specs.Rights.{rights_of}
use Rattle.metadata.proofs.Narrowed.{word_rights_lt}
use Rattle.metadata.proofs.masks.indexed_rights.Goals as goal

pub returns : goal.returns
returns c =
    let code = c.permissions.ensures in
    let e = c.mask_at.ensures ∙ ap rights_of code.0 in
    (e, omega (arith, e, word_rights_lt c.args.metadata))
