-- The kind that the arm was told, or any other; a place is a register's.
use mathlib.Core.Path.{refl}
use Rattle.operations.proofs.Places.{placed}
use Rattle.operations.proofs.load.Goals as goal

pub returns-in-Lb : goal.returns-in-Lb
returns-in-Lb c =
    let a = c.args in
    let rd = c.place_of-at.ensures in
    let rs1 = c.place_of-from.ensures in
    rw c.in-Lb.is ((a.rd, a.rs1, refl, rd, rs1), (placed _ _ rd, placed _ _ rs1, tt))

pub returns-in-Lbu : goal.returns-in-Lbu
returns-in-Lbu c =
    let a = c.args in
    let rd = c.place_of-at.ensures in
    let rs1 = c.place_of-from.ensures in
    rw c.in-Lbu.is ((a.rd, a.rs1, refl, rd, rs1), (placed _ _ rd, placed _ _ rs1, tt))

pub returns-in-Lw : goal.returns-in-Lw
returns-in-Lw c =
    let a = c.args in
    let rd = c.place_of-at.ensures in
    let rs1 = c.place_of-from.ensures in
    rw c.in-Lw.is ((a.rd, a.rs1, refl, rd, rs1), (placed _ _ rd, placed _ _ rs1))

pub returns-in_default : goal.returns-in_default
returns-in_default c =
    let rd = c.place_of-at.ensures in
    let rs1 = c.place_of-from.ensures in
    ((_, _, refl, rd, rs1), (placed _ _ rd, placed _ _ rs1))
