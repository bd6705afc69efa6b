-- Above bit 31 a word has no bit: the quotient is 0.
use mathlib.Core.Path.{◌≡◌}
use Prim.Native.Nat.{◌/◌, ◌^◌}
use native.Mathlib.Omega.{arith}
use native.Mathlib.Nat.{div-eq_of_lt}
use lib.Pow.{pow_mono}
use Rattle.metadata.proofs.codes.has.Goals as goal

pub returns-else-k-lt-WORD_BITS : goal.returns-else-k-lt-WORD_BITS
returns-else-k-lt-WORD_BITS c =
    let r = c.args.rights in
    let k = c.args.k in
    let p = pow_mono {i = 32} {j = k} c.if-k-lt-WORD_BITS.false in
    let q : r / 2 ^ k ≡ 0 = div-eq_of_lt {n = r} {m = 2 ^ k} (omega (arith, p)) in
    rw q
