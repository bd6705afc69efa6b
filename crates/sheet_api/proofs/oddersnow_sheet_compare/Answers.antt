-- `oddersnow_sheet_compare`: the number of the answer. Assumes nothing.
use Rattle.std.proofs.Common.{ap, ◌∙◌}
use Rattle.sheet_api.specs.Numbers.{compare_number}
use Rattle.sheet_api.proofs.oddersnow_sheet_compare.Goals as goal

pub returns : goal.returns
returns c =
    let p = c.compare.ensures in
    record { number_is = c.packed.ensures ∙ ap compare_number p.answer_is; after_is = p.after_is }
