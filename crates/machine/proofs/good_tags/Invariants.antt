-- The loop keeps: what is left of the test from capability i on gives the whole test.
use Prim.Native.Nat.{◌-◌, ◌≤◌}
use mathlib.Core.Path.{◌≡◌}
use Rattle.state.specs.Layout.{capability_count}
use Rattle.machine.specs.Refusals.{good_tags}
use Rattle.machine.proofs.good_tags.Given as goal

abbrev pub invariant-loop-i : goal.invariant-loop-i
invariant-loop-i l = (l.i ≤ capability_count) × (good_tags (capability_count - l.i) l.regs l.i ≡ good_tags capability_count l.regs 0)
