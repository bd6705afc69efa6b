-- The loop keeps: what the steps that are left make of the buffers, counts and watch record is what all n make of the start.
use Prim.Native.Nat.{◌-◌, ◌^◌, ◌<◌}
use mathlib.Core.Path.{◌≡◌, ◌∙◌}
use native.Mathlib.Omega.{arith}
use Rattle.execution.proofs.Laws.{turn_leaves, turn_keeps}
use Rattle.machine.specs.Run.{iterate}
use Rattle.machine.specs.Watching.{watched_by}
use Rattle.machine.proofs.Watching as laws
use Rattle.machine.proofs.take_watched.Goals as goal

pub loop-k-init : goal.loop-k-init
loop-k-init c =
    let n = c.args.n in
    let e : n - 0 ≡ n = omega arith in
    (omega arith, omega arith, omega arith, omega arith, omega arith, rw e, rw e)

pub loop-k-preserved : goal.loop-k-preserved
loop-k-preserved c =
    let was = c.loop-k.invariant in
    let fits : c.args.n < 2 ^ 32 = omega (arith, c.ranges) in
    let stepped = turn_leaves _ _ _ _ c.turn_at-turn.ensures _ c.commit_effect-kept.ensures.1 in
    let kept = turn_keeps _ _ _ _ c.turn_at-turn.ensures _ _ c.commit_effect-kept.ensures.0 in
    let few = laws.turn_few _ _ _ _ _ _ _ _ c.loop-k-test.true was.1 fits stepped kept in
    let counts = laws.turn_counts _ _ _ _ _ _ _ _ c.loop-k-test.true was.1 fits stepped kept in
    let watches = laws.turn_watches _ _ _ _ _ _ _ _ c.loop-k-test.true was.1 fits stepped kept in
    (omega arith, few, omega arith, omega arith, omega arith, counts ∙ was.5, watches ∙ was.6)

pub overflow_sub-result : goal.overflow_sub-result
overflow_sub-result c = omega arith

pub returns : goal.returns
unfolding iterate watched_by
returns c =
    let looped = c.loop-k in
    let n = c.args.n in
    let e : n - looped.k ≡ 0 = omega arith in
    let r : looped.k - looped.kept.trapped ≡ n - looped.kept.trapped = omega arith in
    (rw (e, r) at looped.invariant.5, rw e at looped.invariant.6)
