-- `scaled`: nine bits shifted by at most 24 are below 2^33. Assumes nothing.
use Rattle.std.proofs.Common.{◌+◌, lt_of_lt_of_le, arith, pow_mono, shl_lt, shl_exact}
use Rattle.bounds.proofs.shifts.Exponent.scaled.Goals as goal

pub returns : goal.returns
returns c =
    let k = c.args.self.value in
    let e = shl_exact {a = c.args.b} 9 k 64 (omega arith) (omega arith) in
    (e, rw e (lt_of_lt_of_le (shl_lt 9 k (omega arith)) (pow_mono {i = 9 + k} {j = 33} (omega arith))))
