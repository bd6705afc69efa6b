-- `within`: the tests of the definition, in its order. Assumes nothing.
use Rattle.std.proofs.Common.{◌≡◌, ◌+◌, true, false}
use borrow.Author.Tests.{le-leb, lt-leb}
use lib.Dec.{leb}
use Rattle.fit.specs.Fit.{within}
use Rattle.fit.proofs.within.Goals as goal
use Rattle.fit.proofs.within.Goals.{then-b-r, else-b-r}

pub returns-then-from : goal.returns-then-from
unfolding within
returns-then-from c =
    let r = c.args.r.now in
    let b = c.args.b.now in
    elim c.if-b-r.branch [
      | then-b-r w ↦ let t : leb (r.start + r.size) (b.start + b.size) ≡ true = cc in simp (le-leb b.start r.start w.if-b-r.true, t)
      | else-b-r w ↦ let f = lt-leb b.start r.start w.if-b-r.false in cc
    ]

pub returns-else-from : goal.returns-else-from
unfolding within
returns-else-from c =
    let r = c.args.r.now in
    let b = c.args.b.now in
    elim c.if-b-r.branch [
      | then-b-r w ↦ let t : leb (r.start + r.size) (b.start + b.size) ≡ false = cc in
          simp (le-leb b.start r.start w.if-b-r.true, t, c.if-from.false)
      | else-b-r w ↦ simp (lt-leb b.start r.start w.if-b-r.false, c.if-from.false)
    ]
