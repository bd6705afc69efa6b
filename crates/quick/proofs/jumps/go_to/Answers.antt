-- PCC lands where its row has the target; else nothing was done.
use Rattle.std.proofs.Common.{refl, arith}
use Rattle.quick.proofs.Targets.{went, stayed}
use Rattle.quick.proofs.jumps.go_to.Goals as goal

pub returns-then-in_row : goal.returns-then-in_row
returns-then-in_row c =
    let args = c.args in
    let read-pcc = c.read_pcc in
    let pre = c.requires in
    let fits = c.ranges in
    let in_row = c.in_row in
    let if1 = c.if-in_row in
    let go_on = c.go_on in
    let a = args in
    went a.start a.size a.rows.now a.regs.now _ read-pcc.result a.to _ pre.1 read-pcc.ensures
    (omega (arith, fits.to)) (in_row.ensures if1.true) go_on.ensures refl

pub returns : goal.returns
returns c =
    let a = c.args in
    stayed a.start a.size a.to a.regs.now _ refl
