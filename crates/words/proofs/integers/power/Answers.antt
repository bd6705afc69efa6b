-- A one shifted by less than 32 is not cut off.
use Rattle.std.proofs.Common.{◌∙◌, one-mul, arith, lit<, pow_pos, pow_mono, shl_exact}
use Rattle.words.proofs.integers.power.Goals as goal

pub returns : goal.returns
returns c =
    let e = shl_exact {a = 1} 1 c.args.k 32 (lit< tt) (omega arith) ∙ one-mul _ in
    (e, rw e (pow_pos c.args.k), rw e (pow_mono {i = c.args.k} {j = 31} (omega arith)))
