-- `put_lines`: the loop keeps that the lines of the regions so far are written, as far as there is room. Assumes nothing.
use Rattle.std.proofs.Common.{arith}
use lib.Seq.{take_all}
use Rattle.text.proofs.Putting.{puts_none, puts_then, puts_within}
use Rattle.sheets.specs.Sheet.{sheet_text}
use Rattle.sheet_writer.proofs.Lists.{lines_more}
use Rattle.sheet_writer.proofs.lines.put_lines.Goals as goal

pub loop-r-init : goal.loop-r-init
unfolding sheet_text
loop-r-init c = puts_none c.args.out.now 0

pub loop-r-preserved : goal.loop-r-preserved
loop-r-preserved c =
    rw (lines_more c.args.regions.now _ c.loop-r.r-index c.loop-r-test.true) at (puts_then c.loop-r.invariant c.put_line-at.ensures)

pub returns : goal.returns
returns c =
    let p = c.loop-r.invariant in
    (rw (take_all c.loop-r.r-index c.args.regions.now c.loop-r-test.false) at p, puts_within (omega arith) p)
