-- The three stored bits, and 8 more where it is sealed without EX; either way below 16.
use Rattle.capability.specs.Sealing.{object_type}
use borrow.Author.Rules.{rules}
use Rattle.capability.proofs.sealing.object_type.Goals as goal

pub returns : goal.returns
unfolding object_type
returns c = (
  simp (
    c.choose.ensures.0,
    c.both.ensures,
    c.has_right.ensures,
    c.is_sealed.ensures,
    c.otype-t.ensures.0,
  ),
  search rules,
)
