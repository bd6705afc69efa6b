-- The signed number that the word stands for, shifted.
use Rattle.std.proofs.Common.{rules}
use Rattle.words.proofs.Shifts.{sra_is}
use Rattle.words.proofs.integers.sra.Goals as goal

pub returns : goal.returns
returns c = sra_is c.args.a c.args.k _ _ (search rules) c.cast_signed.ensures c.cast_unsigned.ensures
