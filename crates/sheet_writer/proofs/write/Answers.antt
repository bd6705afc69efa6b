-- `write`: a bad record; else the text, made whole in a buffer that is long enough for every sheet, and delivered. Assumes nothing.
use Rattle.std.proofs.Common.{refl}
use Rattle.std.proofs.lemmas.Result.{err_from_is_err_and}
use Rattle.sheet_writer.proofs.Making.{refuses, writes, no_room}
use Rattle.sheet_writer.proofs.write.Goals as goal

pub returns-in_err-sheet : goal.returns-in_err-sheet
returns-in_err-sheet c =
    let p = err_from_is_err_and c.from_residual.result c.from_residual.ensures.1 in
    rw (p.1, p.2) (refuses c.args.records.now c.args.out.now c.in_err-sheet.ensures)

pub returns-then-deliver : goal.returns-then-deliver
returns-then-deliver c =
    writes c.args.records.now c.in_ok-sheet.ensures refl (rw c.regions.ensures.0 at c.put_lines-n.ensures.0) c.deliver.ensures c.if-deliver.true

pub returns-else-deliver : goal.returns-else-deliver
returns-else-deliver c =
    no_room c.args.records.now c.in_ok-sheet.ensures refl (rw c.regions.ensures.0 at c.put_lines-n.ensures.0) c.deliver.ensures c.if-deliver.false
