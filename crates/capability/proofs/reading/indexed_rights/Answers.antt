-- The rights of the metadata word, read by the index.
use Rattle.capability.specs.Capability.{rights}
use borrow.Author.Rules.{rules}
use Rattle.capability.proofs.reading.indexed_rights.Goals as goal

pub returns : goal.returns
unfolding rights
returns c = (c.indexed_rights.ensures.0, search rules)
