-- `process`: the loop keeps `Going`: the state and the text are those of the bytes taken, and what is still taken makes up the whole. Assumes nothing.
use Rattle.std.proofs.Common.{◌≡◌, length, sym, ◌∙◌, arith}
use Rattle.cut_lines.proofs.Blocks.{going_start, going_turn, going_end, going_full}
use Rattle.cut_lines.proofs.Putting.{room_told, room_denied}
use Rattle.cut_lines.proofs.process.Goals as goal

pub loop-i-init : goal.loop-i-init
loop-i-init c =
    let a = c.args in
    going_start a.scan a.input.now a.output.now

pub loop-i-preserved : goal.loop-i-preserved
loop-i-preserved c =
    let l = c.loop-i in
    let put = c.put_step-at.ensures in
    let room = room_told l.output l.at c.need_room.result c.need_room.ensures (sym c.is_err.ensures.value ∙ c.if-is_err.false) in
    going_turn l.invariant c.loop-i-test.true room put.0 put.1 c.step-s.ensures

pub returns-then-is_err : goal.returns-then-is_err
returns-then-is_err c =
    let l = c.loop-i in
    going_full l.invariant (room_denied l.output l.at c.need_room.result c.need_room.ensures (sym c.is_err.ensures.value ∙ c.if-is_err.true))

pub returns : goal.returns
returns c =
    let whole : length c.args.input.now ≡ c.loop-i.i = omega (arith, c.loop-i.invariant.within) in
    rw whole (going_end c.loop-i.invariant c.loop-i-test.false)
