-- `stands`: regions are equal where their fields are. Assumes nothing.
use Rattle.std.proofs.Common.{◌∙◌}
use Rattle.sheets.specs.Sheet.{same}
use Rattle.sheet_compare.specs.Compare.{equal}
use Rattle.sheet_compare.proofs.Standing.{stands_any}
use Rattle.sheet_compare.proofs.names.stands.Goals as goal

pub returns : goal.returns
unfolding equal same
returns c = c.contains.ensures.value ∙ stands_any c.args.r.now c.args.sheet.now
