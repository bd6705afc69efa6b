-- The window begins at or below the address in the last two, and it ends above the address in the last.
use Rattle.std.proofs.Common.{◌+◌, arith, le-ltb, lt-ltb, le-leb}
use borrow.Author.Tests.{lt-leb}
use Rattle.state.specs.Memory.{window_at, revocation_at}
use Rattle.state.proofs.memory.revocation_at.Goals as goal

pub returns-then-address-first : goal.returns-then-address-first
unfolding revocation_at
returns-then-address-first c =
    let args = c.args in
    simp (lt-leb (window_at args.board) args.address (omega (arith, c.if-address-first.true)))

pub returns-then-board-at : goal.returns-then-board-at
unfolding revocation_at
returns-then-board-at c =
    let args = c.args in
    simp (
      le-leb (window_at args.board) args.address (omega (arith, c.if-address-first.false)),
      le-ltb args.address (window_at args.board + args.board.window.size) (omega (arith, c.if-address-first.false, c.if-board-at.true)),
    )

pub returns : goal.returns
unfolding revocation_at
returns c =
    let args = c.args in
    simp (
      le-leb (window_at args.board) args.address (omega (arith, c.if-address-first.false)),
      lt-ltb args.address (window_at args.board + args.board.window.size) (omega (arith, c.if-address-first.false, c.if-board-at.false)),
      c.mark_of.ensures,
      c.get_bit.ensures,
    )
