-- The rights read, masked, encoded and put back: three callees in a row.
use Rattle.metadata.specs.Rights.{narrow_word}
use Rattle.metadata.proofs.codes.narrow.Goals as goal

pub returns : goal.returns
unfolding narrow_word
returns c = simp (c.with_permissions.ensures, c.encode.ensures.0, c.indexed_rights.ensures.0)
