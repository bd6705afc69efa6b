-- The three losses by the authority's rights, read once, are those of the definition.
use Rattle.capability.specs.Loading.{lose_global, lose_mutable, lose_tag, loaded_of}
use Rattle.capability.proofs.loading.loaded.Goals as goal

pub returns : goal.returns
unfolding loaded_of lose_tag lose_mutable lose_global
returns c =
    simp (
      c.lose_tag.ensures,
      c.lose_mutable.ensures,
      c.lose_global.ensures,
      c.rights_of-granted.ensures.0,
    )
