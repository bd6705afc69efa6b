-- Each return rewrites with the tests that led there, the definition's own and in its order.
-- Assumes nothing.
use native.Mathlib.Nat.{div-one, zero-add}
use borrow.Author.Rules.{rules}
use Rattle.metadata.specs.Rights.{code_of}
use Rattle.metadata.proofs.codes.encode.Goals as goal

-- EX, LD and MC
pub returns-then-all_three : goal.returns-then-all_three
unfolding code_of
returns-then-all_three c = (
  rw (
    c.code.ensures.0,
    div-one,
    ← c.all_three.ensures,
    c.if-all_three.true,
  ),
  search rules,
)

-- LD, MC and SD
pub returns-then-all_three-2 : goal.returns-then-all_three-2
unfolding code_of
returns-then-all_three-2 c = (
  rw (
    c.code-then-all_three-2.ensures.0,
    div-one,
    ← c.all_three.ensures,
    c.if-all_three.false,
    ← c.all_three-2.ensures,
    c.if-all_three-2.true,
  ),
  search rules,
)

-- LD and MC
pub returns-then-both : goal.returns-then-both
unfolding code_of
returns-then-both c = (
  rw (
    c.code-then-both.ensures.0,
    div-one,
    ← c.all_three.ensures,
    c.if-all_three.false,
    ← c.all_three-2.ensures,
    c.if-all_three-2.false,
    ← c.both.ensures,
    c.if-both.true,
  ),
  search rules,
)

-- SD and MC
pub returns-then-both-2 : goal.returns-then-both-2
unfolding code_of
returns-then-both-2 c = (
  rw (
    c.code-then-both-2.ensures.0,
    div-one,
    ← c.all_three.ensures,
    c.if-all_three.false,
    ← c.all_three-2.ensures,
    c.if-all_three-2.false,
    ← c.both.ensures,
    c.if-both.false,
    ← c.both-2.ensures,
    c.if-both-2.true,
  ),
  search rules,
)

-- LD or SD
pub returns-then-either : goal.returns-then-either
unfolding code_of
returns-then-either c = (
  rw (
    c.code-then-either.ensures.0,
    div-one,
    ← c.all_three.ensures,
    c.if-all_three.false,
    ← c.all_three-2.ensures,
    c.if-all_three-2.false,
    ← c.both.ensures,
    c.if-both.false,
    ← c.both-2.ensures,
    c.if-both-2.false,
    ← c.either.ensures,
    c.if-either.true,
  ),
  search rules,
)

-- none of these
pub returns : goal.returns
unfolding code_of
returns c = (
  rw (
    c.code-2.ensures.0,
    zero-add,
    div-one,
    ← c.all_three.ensures,
    c.if-all_three.false,
    ← c.all_three-2.ensures,
    c.if-all_three-2.false,
    ← c.both.ensures,
    c.if-both.false,
    ← c.both-2.ensures,
    c.if-both-2.false,
    ← c.either.ensures,
    c.if-either.false,
  ),
  search rules,
)
