-- `write_header`: with room for the longest line the header is in the output, and is what is written. Assumes nothing.
use Rattle.cut.proofs.Blocks.{writer_starts, writer_text}
use Rattle.cut.proofs.write_header.Goals as goal

pub returns-clause-starts : goal.returns-clause-starts
returns-clause-starts g c = writer_starts c.args.output.now.room c.header.ensures

pub returns-clause-written : goal.returns-clause-written
returns-clause-written g c = rw (writer_text c.args.output.now.room c.header.ensures c.unwrap-end.ensures) at c.send.ensures.written
