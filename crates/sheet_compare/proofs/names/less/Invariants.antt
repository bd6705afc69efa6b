-- `less`: the loop keeps that the bytes passed are the same. Assumes nothing.
use mathlib.Core.Path.{◌≡◌}
use Prim.Native.Nat.{◌≤◌}
use lib.ListN.{drop}
use Rattle.sheet_compare.specs.Compare.{less}
use Rattle.sheet_compare.proofs.names.less.Given as goal

abbrev pub invariant-loop-i : goal.invariant-loop-i
invariant-loop-i l = (l.i ≤ 16) × (less (drop l.i l.a) (drop l.i l.b) ≡ less l.a l.b)
