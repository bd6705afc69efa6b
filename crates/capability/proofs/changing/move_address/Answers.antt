-- The tag is kept by two tests, unsealed and same bounds; each callee's answer is put in the definition's place.
use Rattle.capability.specs.Capability.{move_of}
use Rattle.capability.proofs.changing.move_address.Goals as goal

pub returns : goal.returns
unfolding move_of
returns c = simp (c.keep_tag_if.ensures, c.both-kept.ensures, c.same_bounds.ensures, c.is_unsealed.ensures)
