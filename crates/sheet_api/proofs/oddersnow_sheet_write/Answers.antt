-- `oddersnow_sheet_write`: the number of the answer. Assumes nothing.
use Rattle.std.proofs.Common.{ap, ◌∙◌}
use Rattle.sheet_api.specs.Numbers.{write_number}
use Rattle.sheet_api.proofs.oddersnow_sheet_write.Goals as goal

pub returns : goal.returns
returns c =
    let p = c.write.ensures in
    record { number_is = c.packed.ensures ∙ ap write_number p.answer_is; after_is = p.after_is }
