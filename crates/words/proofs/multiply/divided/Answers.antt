-- The test for zero is the definition's; past it the divisor has a size, and signs and sizes are put together as the definition does.
use Rattle.std.proofs.Common.{sym, rules}
use Rattle.words.proofs.Quotients.{differ_is, by_zero, quotient_is, remainder_is, size_positive}
use Rattle.words.proofs.multiply.divided.Goals as goal

pub returns-then-b-eq0 : goal.returns-then-b-eq0
returns-then-b-eq0 c =
    let a = c.args in
    let zero = by_zero a.reading a.a in
    (rw c.if-b-eq0.true (sym zero.0), rw c.if-b-eq0.true (sym zero.1))

pub nonzero_div-size_a : goal.nonzero_div-size_a
nonzero_div-size_a c =
    let a = c.args in
    rw c.size-size_b.ensures (size_positive a.reading a.b (search rules) c.if-b-eq0.false)

pub nonzero_rem-size_a : goal.nonzero_rem-size_a
nonzero_rem-size_a c =
    let a = c.args in
    rw c.size-size_b.ensures (size_positive a.reading a.b (search rules) c.if-b-eq0.false)

pub returns : goal.returns
returns c =
    let reading = c.args.reading in
    let a = c.args.a in
    let b = c.args.b in (
      simp (
        c.with_sign.ensures,
        differ_is,
        c.is_negative.ensures,
        c.is_negative-negative.ensures,
        c.size-size_a.ensures,
        c.size-size_b.ensures,
      )
          (sym (quotient_is reading a b c.if-b-eq0.false)),
      simp (c.with_sign-2.ensures, c.is_negative-negative.ensures, c.size-size_a.ensures, c.size-size_b.ensures)
          (sym (remainder_is reading a b c.if-b-eq0.false)),
    )
