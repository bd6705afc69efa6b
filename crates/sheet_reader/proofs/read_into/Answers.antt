-- `read_into`: a bad line, the records, or too little room. Assumes nothing.
use Rattle.std.proofs.lemmas.Result.{err_from_is_err_and}
use Rattle.sheets.proofs.Words.{words_length}
use Rattle.sheet_reader.proofs.Lists.{refuses, fills, no_room}
use Rattle.sheet_reader.proofs.read_into.Goals as goal

pub returns-in_err-reading : goal.returns-in_err-reading
returns-in_err-reading c =
    let p = err_from_is_err_and c.from_residual.result c.from_residual.ensures.1 in
    rw (p.1, p.2) (refuses c.in_err-reading.ensures c.args.out.now)

pub returns-then-out-regions : goal.returns-then-out-regions
returns-then-out-regions c =
    let s = c.in_ok-reading.reading.sheet in
    no_room c.in_ok-reading.ensures c.args.out.now (rw (words_length s) (rw c.regions-regions.ensures.0 at c.if-out-regions.true))

pub returns : goal.returns
returns c =
    let s = c.in_ok-reading.reading.sheet in
    let e = c.regions-regions.ensures.0 in
    rw e (fills c.in_ok-reading.ensures (rw (words_length s) (rw e at c.if-out-regions.false)) (rw e at c.put_records.ensures))
