-- Each return names the first check that failed: those before it passed.
use Rattle.state.specs.Checks.{access_cause}
use Rattle.state.proofs.checks.access_cause.Goals as goal

-- untagged
pub returns-then-not-is_tagged : goal.returns-then-not-is_tagged
unfolding access_cause
returns-then-not-is_tagged c = simp (← c.is_tagged.ensures, c.if-not-is_tagged.true-raw)

-- sealed
pub returns-then-is_sealed : goal.returns-then-is_sealed
unfolding access_cause
returns-then-is_sealed c =
    simp (← c.is_tagged.ensures, c.if-not-is_tagged.false-raw, ← c.is_sealed.ensures, c.if-is_sealed.true)

-- without the right
pub returns-then-not-has : goal.returns-then-not-has
unfolding access_cause
returns-then-not-has c =
    simp (
      ← c.is_tagged.ensures,
      c.if-not-is_tagged.false-raw,
      ← c.is_sealed.ensures,
      c.if-is_sealed.false,
      ← c.rights_of.ensures.0,
      ← c.has.ensures,
      c.if-not-has.true-raw,
    )

-- out of bounds
pub returns-then-not-in_bounds : goal.returns-then-not-in_bounds
unfolding access_cause
returns-then-not-in_bounds c =
    simp (
      ← c.is_tagged.ensures,
      c.if-not-is_tagged.false-raw,
      ← c.is_sealed.ensures,
      c.if-is_sealed.false,
      ← c.rights_of.ensures.0,
      ← c.has.ensures,
      c.if-not-has.false-raw,
      ← c.in_bounds.ensures,
      c.if-not-in_bounds.true-raw,
    )

-- every check passed
pub returns : goal.returns
unfolding access_cause
returns c =
    simp (
      ← c.is_tagged.ensures,
      c.if-not-is_tagged.false-raw,
      ← c.is_sealed.ensures,
      c.if-is_sealed.false,
      ← c.rights_of.ensures.0,
      ← c.has.ensures,
      c.if-not-has.false-raw,
      ← c.in_bounds.ensures,
      c.if-not-in_bounds.false-raw,
    )
