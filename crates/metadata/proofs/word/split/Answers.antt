-- Each field as its own function reads it.
use Rattle.metadata.specs.Word.{fields_of, reserved_of}
use Rattle.metadata.proofs.word.split.Goals as goal

pub returns : goal.returns
unfolding fields_of reserved_of
returns c =
    simp (c.permissions.ensures.0, c.otype.ensures.0, c.scale_of.ensures.0, c.top_of.ensures.0, c.base_of.ensures.0)
