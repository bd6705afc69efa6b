-- The tag is kept by the seal alone, and the word is the narrowed one.
use Rattle.capability.specs.Capability.{narrow_of}
use Rattle.capability.proofs.changing.narrow_rights.Goals as goal

pub returns : goal.returns
unfolding narrow_of
returns c = simp (c.keep_tag_if-kept.ensures, c.narrow-metadata.ensures, c.is_unsealed.ensures)
