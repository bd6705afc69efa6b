-- Taken, it is a jump; not taken, PCC goes on.
use Rattle.std.proofs.Common.{refl}
use Rattle.quick.proofs.Targets.{branch_turned, branch_passed}
use Rattle.quick.proofs.Steady.{steady_on, went_steady}
use Rattle.quick.proofs.jumps.take_branch.Goals as goal

pub returns-then-is_taken : goal.returns-then-is_taken
returns-then-is_taken c =
    let args = c.args in
    let wrapping-add-u32 = c.wrapping_add_u32-target in
    let go-to = c.go_to in
    let is-taken = c.is_taken in
    let read2 = c.read-b in
    let read = c.read-a in
    let if1 = c.if-is_taken in
    let pre = c.requires in
    let a = args in
    let to = wrapping-add-u32 in
    let call = go-to in
    let takes = rw (is-taken.ensures, read2.ensures, read.ensures) at if1.true in (
      branch_turned a.regs.now call.new.regs a.start a.size a.offset to.result call.result to.ensures.value pre.4 call.ensures
          a.kind a.from a.other a.to takes,
      went_steady a.regs.now call.new.regs a.start a.size to.result call.result pre.0 call.ensures,
    )

pub returns : goal.returns
returns c =
    let args = c.args in
    let is-taken = c.is_taken in
    let read2 = c.read-b in
    let read = c.read-a in
    let if1 = c.if-is_taken in
    let go_on = c.go_on in
    let pre = c.requires in
    let a = args in
    let passes = rw (is-taken.ensures, read2.ensures, read.ensures) at if1.false in (
      rw go_on.ensures
          (branch_passed a.regs.now a.start a.offset a.to a.kind a.from a.other passes),
      steady_on a.regs.now _ a.to pre.0 go_on.ensures,
    )
