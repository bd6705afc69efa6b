-- Tagged, and none of three rights: the rights are read once, and each test is its callee's.
use Rattle.capability.specs.Loading.{revocable}
use Rattle.capability.proofs.loading.is_revocable.Goals as goal

pub returns : goal.returns
unfolding revocable
returns c =
    simp (
      c.both.ensures,
      c.is_tagged.ensures,
      c.either-spared.ensures,
      c.has-3.ensures,
      c.either-seals.ensures,
      c.has-2.ensures,
      c.has.ensures,
      c.rights_of-held.ensures.0,
    )
