-- What a row has is reached; what it has not is filled in.
use Rattle.quick.proofs.Reach.{reached}
use Rattle.std.proofs.Common.{sym, true≢false, arith}
use Rattle.quick.proofs.rows.reaches.Goals as goal

pub returns-then-has : goal.returns-then-has
returns-then-has c =
    let p = c.requires in
    let there = c.has.ensures c.if-has.true in (
      p.3,
      λ h. rw p.2 (reached _ _ _ _ _ _ _ p.3 p.0 p.1 there.0 there.1 (omega (arith, c.ranges.address)) there.2),
    )

pub returns : goal.returns
returns c = (c.fill.ensures, λ h. absurd (true≢false (sym h)))
