-- `take_block`: a piece that was processed and written brings the loop on. Assumes nothing.
use Rattle.std.proofs.Common.{arith}
use Rattle.std.proofs.lemmas.Grind.{common_steps}
use Rattle.cut_lines.proofs.Blocks.{read_le}
use Rattle.cut.proofs.Blocks.{part_start, part_next, left_smaller}
use Rattle.cut.proofs.take_block.Goals as goal

pub loop-rest-init : goal.loop-rest-init
loop-rest-init g c = part_start c.args.scan c.args.input.now _

pub slice_bounds-rest-count : goal.slice_bounds-rest-count
slice_bounds-rest-count g c = read_le c.process-p.ensures

pub slice_bounds-rest-start : goal.slice_bounds-rest-start
slice_bounds-rest-start g c = read_le c.process-p.ensures

pub loop-rest-smaller : goal.loop-rest-smaller
loop-rest-smaller g c =
    let test = c.loop-rest-test.true in
    let told = c.is_empty.ensures in
    left_smaller c.process-p.ensures c.loop-rest.output.room (grind (arith, common_steps))

pub loop-rest-preserved : goal.loop-rest-preserved
loop-rest-preserved g c = part_next c.loop-rest.invariant _ c.process-p.ensures c.in_ok-send.ensures.written
