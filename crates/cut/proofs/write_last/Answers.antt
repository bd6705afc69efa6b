-- `write_last`: with room for the longest line the last line is in the output, and the write answers whether it was written. Assumes nothing.
use Rattle.std.proofs.Common.{arith}
use Rattle.cut.proofs.Blocks.{writer_starts, writer_text, writer_fits}
use Rattle.cut.proofs.write_last.Goals as goal

pub shared_whole_as_front-send : goal.shared_whole_as_front-send
shared_whole_as_front-send g c =
    let fits = writer_fits c.args.output.now.room c.finish.ensures c.unwrap-end.ensures in
    (omega arith, omega arith)

pub returns-clause-last : goal.returns-clause-last
returns-clause-last g c = record { text_is = writer_starts c.args.output.now.room c.finish.ensures; outcome_is = c.send.ensures.failed }

pub returns-clause-written : goal.returns-clause-written
returns-clause-written g c = rw (writer_text c.args.output.now.room c.finish.ensures c.unwrap-end.ensures) at c.send.ensures.written
