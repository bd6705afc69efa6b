-- A jump that is taken where PCC reaches its target.
use Rattle.quick.proofs.Targets.{go_turned}
use Rattle.quick.proofs.Steady.{went_steady}
use Rattle.quick.proofs.jumps.take_go.Goals as goal

pub returns : goal.returns
returns c =
    let args = c.args in
    let wrapping-add-u32 = c.wrapping_add_u32-to in
    let go-to = c.go_to in
    let pre = c.requires in
    let a = args in
    let to = wrapping-add-u32 in
    let call = go-to in (
      go_turned a.regs.now call.new.regs a.start a.size a.offset to.result call.result to.ensures.value pre.2 call.ensures,
      went_steady a.regs.now call.new.regs a.start a.size to.result call.result pre.0 call.ensures,
    )
