-- The rights of the metadata word, with their limit.
use Rattle.capability.specs.Capability.{rights}
use borrow.Author.Rules.{rules}
use Rattle.capability.proofs.reading.rights_of.Goals as goal

pub returns : goal.returns
unfolding rights
returns c = (c.rights.ensures.0, search rules)
