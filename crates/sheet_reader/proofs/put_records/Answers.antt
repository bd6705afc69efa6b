-- `put_records`: the loop keeps that the records of the regions so far are written. Assumes nothing.
use Rattle.text.proofs.Putting.{puts_none, puts_then}
use Rattle.sheets.specs.Records.{sheet_words}
use Rattle.sheets.proofs.Words.{words_more}
use Rattle.sheet_reader.proofs.put_records.Goals as goal

pub loop-r-init : goal.loop-r-init
unfolding sheet_words
loop-r-init c = puts_none c.args.out.now 0

pub loop-r-preserved : goal.loop-r-preserved
loop-r-preserved c =
    rw (words_more c.args.regions.now _ c.loop-r.r-index c.loop-r-test.true) at
    (puts_then c.loop-r.invariant (rw c.record_of.ensures at c.put_bytes-at.ensures))
