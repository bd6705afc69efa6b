-- Four tests, each its callee's: tag, no seal, the right, its own address in bounds.
use Rattle.capability.specs.Sealing.{authorizes}
use Rattle.capability.proofs.sealing.authorizes.Goals as goal

pub returns : goal.returns
unfolding authorizes
returns c =
    simp (
      c.both-2.ensures,
      c.both.ensures,
      c.is_sealed.ensures,
      c.is_tagged.ensures,
      c.both-granted.ensures,
      c.address_in_bounds.ensures,
      c.has_right.ensures,
    )
