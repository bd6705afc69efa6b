-- `oddersnow_cut_high`: the high of the answer's numbers, all 33 bits of it. Assumes nothing.
use native.Mathlib.Omega.{arith}
use Rattle.label.proofs.oddersnow_cut_high.Goals as goal

pub returns : goal.returns
returns c = omega arith
