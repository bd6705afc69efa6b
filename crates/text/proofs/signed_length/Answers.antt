-- `signed_length`: the digits of the magnitude, and one byte for the sign where there is one. Assumes nothing.
use mathlib.Core.Path.{◌≡◌}
use Prim.Native.Nat.{◌-◌, ◌^◌}
use native.Mathlib.Omega.{arith}
use borrow.Author.Rules.{rules}
use borrow.Author.Tests.{lt-ltb, le-ltb}
use Rattle.text.specs.Digits.{places_of, decimal, signed}
use Rattle.text.proofs.Numbers.{length_digits, word_le}
use Rattle.text.proofs.signed_length.Goals as goal

pub returns-then-v-lt-SIGN : goal.returns-then-v-lt-SIGN
unfolding signed decimal
returns-then-v-lt-SIGN c =
    let v = c.args.v in
    let n = length_digits 10 (places_of v) v in
    (rw (lt-ltb _ _ c.if-v-lt-SIGN.true, n) c.places_of.ensures, omega (arith, c.places_of.ensures, n, word_le v (search rules)))

pub returns-else-v-lt-SIGN : goal.returns-else-v-lt-SIGN
unfolding signed decimal
returns-else-v-lt-SIGN c =
    let v = c.args.v in
    let e : 2 ^ 31 - (v - 2 ^ 31) ≡ 2 ^ 32 - v = omega arith in
    let n = length_digits 10 (places_of (2 ^ 32 - v)) (2 ^ 32 - v) in
    let p = rw e at c.places_of-else-v-lt-SIGN.ensures in
    (rw (le-ltb _ _ c.if-v-lt-SIGN.false) (omega (arith, p, n)), omega (arith, p, n, word_le (2 ^ 32 - v) (omega arith)))
