-- `put_bytes`: as much as there is room for, copied. Assumes nothing.
use Rattle.std.proofs.Common.{arith}
use Rattle.text.proofs.Putting.{puts_copied, puts_past}
use Rattle.text.proofs.put_bytes.Goals as goal

pub returns-then-out-at : goal.returns-then-out-at
returns-then-out-at g c = puts_past _ _ _ c.if-out-at.true

pub returns : goal.returns
returns g c =
    puts_copied c.args.out.now c.args.at c.args.text.now _ _ _ c.min-n.ensures c.copy_from_slice.ensures.after (omega arith)
