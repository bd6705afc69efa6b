-- `deliver`: with room the text is written whole. Assumes nothing.
use mathlib.Core.Path.{sym}
use native.Mathlib.Omega.{arith}
use borrow.Author.Tests.{le-leb, lt-leb}
use Rattle.text.specs.Writing.{delivered}
use Rattle.text.proofs.Putting.{placed}
use Rattle.text.proofs.deliver.Goals as goal

pub returns-then-text-out : goal.returns-then-text-out
unfolding delivered
returns-then-text-out c =
    let h = c.if-text-out.true in
    record { done_is = sym (le-leb _ _ h); after_is = rw (le-leb _ _ h) (placed (omega arith) c.put_bytes.ensures).bytes }

pub returns-else-text-out : goal.returns-else-text-out
unfolding delivered
returns-else-text-out c = let h = c.if-text-out.false in record { done_is = sym (lt-leb _ _ h); after_is = rw (lt-leb _ _ h) }
