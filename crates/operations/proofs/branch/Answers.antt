-- An odd offset is plain; else the places are those of the registers.
use mathlib.Core.Path.{refl}
use Rattle.operations.proofs.Places.{placed}
use Rattle.operations.proofs.branch.Goals as goal

pub returns : goal.returns
returns c =
    let a = c.args in
    let rs1 = c.place_of.ensures in
    let rs2 = c.place_of-2.ensures in
    ((a.rs1, a.rs2, refl, rs1, rs2), (placed _ _ rs1, placed _ _ rs2, c.if-offset-ne0.false))
