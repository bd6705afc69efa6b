-- `block`: shifted down and up again a number is no larger, so that nothing is lost above 2^64. Assumes nothing.
use Rattle.std.proofs.Common.{◌*◌, ◌/◌, ◌^◌, mod-eq_of_lt, div-mul-le_self, arith}
use Rattle.bounds.proofs.shifts.Exponent.block.Goals as goal

pub returns : goal.returns
returns c =
    let l = div-mul-le_self c.args.a (2 ^ c.args.self.value) in
    let e = mod-eq_of_lt {n = c.args.a / 2 ^ c.args.self.value * 2 ^ c.args.self.value} {m = 2 ^ 64} (omega (arith, l)) in
    (e, rw e l)
