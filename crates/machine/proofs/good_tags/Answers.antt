-- The loop keeps: what is left of the test from capability i on gives the whole test.
use borrow.Author.Tests.{le-leb, lt-leb}
use borrow.Author.Rules.{rules}
use Prim.Native.Nat.{◌+◌, ◌-◌, ◌*◌, ◌≤◌, ◌<◌}
use lib.ListN.{get_or}
use mathlib.Core.Path.{◌≡◌, sym, ◌∙◌}
use native.Mathlib.Omega.{arith}
use Rattle.state.specs.Layout.{capability_count, capability_words}
use Rattle.machine.specs.Refusals.{good_tags}
use Rattle.machine.proofs.Laws as laws
use Rattle.machine.proofs.good_tags.Goals as goal

pub returns-then-word_at-gt1 : goal.returns-then-word_at-gt1
returns-then-word_at-gt1 c =
    let r = c.args.regs.now in
    let i = c.loop-i.i in
    let unsound : 1 < get_or r (i * capability_words + 2) 0 = omega (arith, c.if-word_at-gt1.true, c.word_at.ensures) in
    sym (rw (lt-leb (get_or r (i * capability_words + 2) 0) 1 unsound) at (laws.tags_turn r i c.loop-i-test.true))
    ∙ c.loop-i.invariant.1

pub loop-i-preserved : goal.loop-i-preserved
loop-i-preserved c =
    let r = c.args.regs.now in
    let i = c.loop-i.i in
    let sound : get_or r (i * capability_words + 2) 0 ≤ 1 = omega (arith, c.if-word_at-gt1.false, c.word_at.ensures) in
    let turn = laws.tags_turn r i c.loop-i-test.true in
    (search rules, sym (rw (le-leb (get_or r (i * capability_words + 2) 0) 1 sound) at turn) ∙ c.loop-i.invariant.1)

pub returns : goal.returns
unfolding good_tags
returns c = let e : capability_count - c.loop-i.i ≡ 0 = omega arith in rw e at c.loop-i.invariant.1
