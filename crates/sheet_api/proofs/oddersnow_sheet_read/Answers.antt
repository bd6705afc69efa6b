-- `oddersnow_sheet_read`: the number of the answer. Assumes nothing.
use Rattle.std.proofs.Common.{ap, ◌∙◌}
use Rattle.sheet_api.specs.Numbers.{read_number}
use Rattle.sheet_api.proofs.oddersnow_sheet_read.Goals as goal

pub returns : goal.returns
returns c =
    let p = c.read_into.ensures in
    record { number_is = c.packed.ensures ∙ ap read_number p.answer_is; after_is = p.after_is }
