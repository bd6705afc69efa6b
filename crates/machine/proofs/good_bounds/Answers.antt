-- The loop keeps: what is left of the test from capability i on gives the whole test.
use borrow.Author.Tests.{not-true, not-false}
use borrow.Author.Rules.{rules}
use Prim.Native.Nat.{◌-◌}
use mathlib.Core.Path.{◌≡◌, sym, ◌∙◌}
use mathlib.Core.Bool.{true, false}
use native.Mathlib.Omega.{arith}
use Rattle.state.specs.Layout.{capability_count}
use Rattle.state.specs.Registers.{capability_at}
use Rattle.machine.specs.Refusals.{sound_if_tagged, good_bounds}
use Rattle.machine.proofs.Laws as laws
use Rattle.machine.proofs.good_bounds.Goals as goal

pub returns-then-not-is_sound_if_tagged : goal.returns-then-not-is_sound_if_tagged
returns-then-not-is_sound_if_tagged c =
    let r = c.args.regs.now in
    let i = c.loop-i.i in
    let found : sound_if_tagged (capability_at r i) ≡ false =
    rw (← c.capability_at.ensures)
    (sym c.is_sound_if_tagged.ensures ∙ not-true c.is_sound_if_tagged.result c.if-not-is_sound_if_tagged.true-raw) in
    sym (rw found at (laws.bounds_turn r i c.loop-i-test.true)) ∙ c.loop-i.invariant.1

pub loop-i-preserved : goal.loop-i-preserved
loop-i-preserved c =
    let r = c.args.regs.now in
    let i = c.loop-i.i in
    let found : sound_if_tagged (capability_at r i) ≡ true =
    rw (← c.capability_at.ensures)
    (sym c.is_sound_if_tagged.ensures ∙ not-false c.is_sound_if_tagged.result c.if-not-is_sound_if_tagged.false-raw) in
    (search rules, sym (rw found at (laws.bounds_turn r i c.loop-i-test.true)) ∙ c.loop-i.invariant.1)

pub returns : goal.returns
unfolding good_bounds
returns c = let e : capability_count - c.loop-i.i ≡ 0 = omega arith in rw e at c.loop-i.invariant.1
