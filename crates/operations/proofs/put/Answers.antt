-- What writes c0 is plain; any other register has its place.
use mathlib.Core.Path.{refl}
use Rattle.operations.proofs.Places.{written}
use Rattle.operations.proofs.put.Goals as goal

pub returns : goal.returns
returns c =
    let a = c.args in
    let rd = c.place_of-at.ensures in
    ((a.rd, refl, rd), written _ _ rd c.if-at-eq0.false)
