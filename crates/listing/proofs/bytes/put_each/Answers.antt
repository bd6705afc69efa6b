-- `put_each`: the loop keeps that the bytes so far are written.
use Rattle.std.proofs.Common.{take-suc, add-one}
use Rattle.text.proofs.Putting.{puts_none, puts_then}
use Rattle.listing.proofs.bytes.put_each.Goals as goal

pub loop-b-init : goal.loop-b-init
loop-b-init c = puts_none c.args.out.now c.args.at

pub loop-b-preserved : goal.loop-b-preserved
loop-b-preserved c =
    rw (add-one c.loop-b.b-index, take-suc c.args.bytes.now c.loop-b.b-index 0 c.loop-b-test.true)
    (puts_then c.loop-b.invariant c.put_byte-end.ensures)
