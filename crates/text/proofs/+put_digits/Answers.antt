-- `put_digits`: the digits before the last, by the function itself, and the last one after them. Assumes nothing.
use native.Mathlib.Nat.{mod-lt}
use Rattle.std.proofs.Common.{arith}
use Rattle.text.proofs.Numbers.{digits_none, digits_last}
use Rattle.text.proofs.Putting.{puts_none, puts_then}
use Rattle.text.proofs.+put_digits.Goals as goal

pub glyph-requires : goal.glyph-requires
glyph-requires t c = omega (arith, mod-lt c.args.n c.requires.0)

pub returns-then-count-eq0 : goal.returns-then-count-eq0
returns-then-count-eq0 t c = rw (digits_none _ _ _ c.if-count-eq0.true) (puts_none _ _)

pub returns-else-count-eq0 : goal.returns-else-count-eq0
returns-else-count-eq0 t c =
    let a = c.args in
    rw (digits_last a.base a.count a.n (omega arith)) (puts_then c.put_digits-end.ensures (rw c.glyph.ensures at c.put_byte.ensures))
