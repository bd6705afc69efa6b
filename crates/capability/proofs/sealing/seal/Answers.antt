-- The tag by three tests: not sealed, an authority by SE, a type permitted; the word gets that type.
use Rattle.capability.specs.Sealing.{seal_of, with_object_type}
use Rattle.capability.proofs.sealing.seal.Goals as goal

pub returns : goal.returns
unfolding seal_of with_object_type
returns c = simp (
  c.keep_tag_if-kept.ensures,
  c.with_object_type.ensures,
  c.both.ensures,
  c.is_sealed.ensures,
  c.both-allowed.ensures,
  c.permitted_type.ensures,
  c.authorizes.ensures,
)
