-- The definition's two tests, each decided by the branch taken.
use Rattle.std.proofs.Common.{le-ltb, lt-ltb, le-leb}
use borrow.Author.Tests.{lt-leb}
use Rattle.state.specs.Marks.{below_mark, marked}
use Rattle.state.proofs.marks.move_mark.Goals as goal

pub returns-then-address-csr_at : goal.returns-then-address-csr_at
unfolding below_mark marked
returns-then-address-csr_at c =
    let base = rw c.csr_at.ensures at c.if-csr_at-address.true in
    let mark = rw c.csr_at-then-csr_at-address.ensures at c.if-address-csr_at.true in
    simp (c.set_csr.ensures, c.clear_low.ensures, le-leb _ _ base, lt-ltb _ _ mark)

pub returns-else-address-csr_at : goal.returns-else-address-csr_at
unfolding below_mark marked
returns-else-address-csr_at c =
    let base = rw c.csr_at.ensures at c.if-csr_at-address.true in
    let mark = rw c.csr_at-then-csr_at-address.ensures at c.if-address-csr_at.false in
    simp (le-leb _ _ base, le-ltb _ _ mark)

pub returns-else-csr_at-address : goal.returns-else-csr_at-address
unfolding below_mark marked
returns-else-csr_at-address c =
    let base = rw c.csr_at.ensures at c.if-csr_at-address.false in
    simp (lt-leb _ _ base)
