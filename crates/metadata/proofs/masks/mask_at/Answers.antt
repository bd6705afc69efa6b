-- The entry at the code's place, by the law of all entries.
use borrow.Author.Rules.{rules}
use Rattle.metadata.proofs.Table.{masks, masks_right}
use Rattle.metadata.proofs.masks.mask_at.Goals as goal

pub returns : goal.returns
unfolding masks
returns c = masks_right c.args.code (search rules)
