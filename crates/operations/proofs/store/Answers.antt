-- The kind that the arm was told, or any other; a place is a register's.
use mathlib.Core.Path.{refl}
use Rattle.operations.proofs.Places.{placed}
use Rattle.operations.proofs.store.Goals as goal

pub returns-in-Sw : goal.returns-in-Sw
returns-in-Sw c =
    let a = c.args in
    let rs1 = c.place_of-from.ensures in
    let rs2 = c.place_of-other.ensures in
    rw c.in-Sw.is ((a.rs1, a.rs2, refl, rs1, rs2), (placed _ _ rs1, placed _ _ rs2))

pub returns-in_default : goal.returns-in_default
returns-in_default c =
    let rs1 = c.place_of-from.ensures in
    let rs2 = c.place_of-other.ensures in
    ((_, _, refl, rs1, rs2), (placed _ _ rs1, placed _ _ rs2))
