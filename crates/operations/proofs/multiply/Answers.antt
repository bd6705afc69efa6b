-- What writes c0 is plain; any other register has its place.
use mathlib.Core.Path.{refl}
use Rattle.operations.proofs.Places.{placed, written}
use Rattle.operations.proofs.multiply.Goals as goal

pub returns : goal.returns
returns c =
    let a = c.args in
    let rd = c.place_of-at.ensures in
    let rs1 = c.place_of.ensures in
    let rs2 = c.place_of-2.ensures in
    ((a.rd, a.rs1, a.rs2, refl, rd, rs1, rs2), (written _ _ rd c.if-at-eq0.false, placed _ _ rs1, placed _ _ rs2))
