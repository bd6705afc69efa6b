-- Where a case has its own function, that one gives the operation of the instruction that the arm was told; the three that add to an address are one.
use Prim.Native.Nat.{ℕ, ◌≤◌}
use mathlib.Core.Path.{refl}
use native.Mathlib.Omega.{arith}
use Rattle.operations.specs.Means.{Place, to_register, to_pcc, to_global}
use Rattle.operations.proofs.Places.{placed}
use Rattle.operations.proofs.of_capability.Goals as goal

lower : {p : ℕ} → Place p → p ≤ 48
lower h = omega (arith, h.0)

pub returns-in-IncAddrImm : goal.returns-in-IncAddrImm
returns-in-IncAddrImm c =
    let rd = c.place_of.ensures in
    let rs1 = c.place_of-in-IncAddrImm.ensures in
    rw c.in-IncAddrImm.is
    ((_, rd, to_register _ refl rs1), (placed _ _ rd, lower (placed _ _ rs1)))

pub returns-in-AuiPcc : goal.returns-in-AuiPcc
returns-in-AuiPcc c =
    let rd = c.place_of-in-AuiPcc.ensures in
    rw c.in-AuiPcc.is ((_, rd, to_pcc refl refl), (placed _ _ rd, omega arith))

pub returns-in-AuiCgp : goal.returns-in-AuiCgp
returns-in-AuiCgp c =
    let rd = c.place_of-in-AuiCgp.ensures in
    rw c.in-AuiCgp.is ((_, rd, to_global refl refl), (placed _ _ rd, omega arith))

pub returns-in-Inspect : goal.returns-in-Inspect
returns-in-Inspect c = rw c.in-Inspect.is c.inspect.ensures

pub returns-in-Combine : goal.returns-in-Combine
returns-in-Combine c = rw c.in-Combine.is c.combine.ensures
