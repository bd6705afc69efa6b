-- `put_signed`: a minus sign where the word is negative, then its magnitude. Assumes nothing.
use mathlib.Core.Path.{◌≡◌}
use Prim.Native.Nat.{◌-◌, ◌^◌}
use native.Mathlib.Omega.{arith}
use borrow.Author.Tests.{lt-ltb, le-ltb}
use Rattle.text.specs.Digits.{signed}
use Rattle.text.proofs.Putting.{puts_then}
use Rattle.text.proofs.put_signed.Goals as goal

pub returns-then-v-lt-SIGN : goal.returns-then-v-lt-SIGN
unfolding signed
returns-then-v-lt-SIGN c =
    rw (lt-ltb _ _ c.if-v-lt-SIGN.true) c.put_decimal.ensures

pub returns-else-v-lt-SIGN : goal.returns-else-v-lt-SIGN
unfolding signed
returns-else-v-lt-SIGN c =
    let v = c.args.v in
    let e : 2 ^ 31 - (v - 2 ^ 31) ≡ 2 ^ 32 - v = omega arith in
    rw (le-ltb _ _ c.if-v-lt-SIGN.false) (rw e at (puts_then c.put_byte-end.ensures c.put_decimal-else-v-lt-SIGN.ensures))
