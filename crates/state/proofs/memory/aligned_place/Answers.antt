-- Two comparisons: below the start is outside, and the end compared from there is the end compared from 0.
use Rattle.std.proofs.Common.{◌+◌, arith, le-leb}
use borrow.Author.Tests.{lt-leb}
use Rattle.state.proofs.memory.aligned_place.Goals as goal

pub returns-then-at-width : goal.returns-then-at-width
returns-then-at-width c =
    simp (
      le-leb _ _ c.if-start-address.true,
      le-leb (c.args.address + c.args.width) (c.args.start + c.args.size)
          (omega (arith, c.if-start-address.true, c.if-at-width.true)),
    )

pub returns-else-at-width : goal.returns-else-at-width
returns-else-at-width c =
    simp (
      le-leb _ _ c.if-start-address.true,
      lt-leb (c.args.address + c.args.width) (c.args.start + c.args.size)
          (omega (arith, c.if-start-address.true, c.if-at-width.false)),
    )

pub returns-else-start-address : goal.returns-else-start-address
returns-else-start-address c = simp (lt-leb _ _ c.if-start-address.false)
