-- `cut`: the test decides which of the two answers of the definition it is. Assumes nothing.
use Rattle.std.proofs.Common.{◌+◌, ◌^◌, le-ltb, lt-ltb}
use Rattle.bounds.specs.Cutting.{cut_of}
use Rattle.bounds.proofs.Answers.{answer_promised}
use Rattle.bounds.proofs.cutting.cut.Goals as goal

-- past the end
pub returns-then-base-length-gt-SPACE : goal.returns-then-base-length-gt-SPACE
unfolding cut_of
returns-then-base-length-gt-SPACE c =
    let a = c.args in
    answer_promised a.base a.length _ (rw (lt-ltb (2 ^ 32) (a.base + a.length) c.if-base-length-gt-SPACE.true))

-- a region
pub returns : goal.returns
unfolding cut_of
returns c =
    let a = c.args in
    answer_promised a.base a.length _ (rw (c.cut_within.ensures, le-ltb (2 ^ 32) (a.base + a.length) c.if-base-length-gt-SPACE.false))
