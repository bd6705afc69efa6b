-- The tag by three tests: sealed, an authority by US, its address the type; the word is narrowed, then unsealed.
use Rattle.capability.specs.Sealing.{unseal_of}
use Rattle.capability.proofs.sealing.unseal.Goals as goal

pub returns : goal.returns
unfolding unseal_of
returns c = simp (
  c.keep_tag_if-kept.ensures,
  c.with_type-metadata.ensures,
  c.narrow-narrowed.ensures,
  c.global_mask.ensures,
  c.both.ensures,
  c.is_sealed.ensures,
  c.both-allowed.ensures,
  c.object_type.ensures.0,
  c.authorizes.ensures,
)
