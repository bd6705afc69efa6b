-- The loop keeps: the search from place p on gives the whole search.
use borrow.Author.Rules.{rules}
use Prim.Native.Nat.{◌-◌}
use mathlib.Core.Path.{◌≡◌, refl, sym, ◌∙◌}
use native.Mathlib.Omega.{arith}
use lib.ListN.{length}
use Rattle.reach.specs.Reach.{places_in, first_of}
use Rattle.reach.proofs.Search as laws
use Rattle.reach.proofs.first_granule.Goals as goal

pub loop-p-init : goal.loop-p-init
loop-p-init c = (c.requires.0, search rules, refl)

pub clear_from-clear-requires : goal.clear_from-clear-requires
clear_from-clear-requires c =
    omega (arith, c.loop-p-test.true, c.places_in.ensures, c.requires.1)

pub returns-then-clear-eq0 : goal.returns-then-clear-eq0
returns-then-clear-eq0 c =
    let a = c.args in
    laws.memory_found a.q a.mem.now a.tags.now (places_in (length a.mem.now)) c.loop-p.p c.loop-p.invariant.0
    (omega (arith, c.loop-p-test.true, c.places_in.ensures)) (sym c.clear_from-clear.ensures.0 ∙ c.if-clear-eq0.true)
    ∙ c.loop-p.invariant.2

pub overflow_add-p : goal.overflow_add-p
overflow_add-p c =
    omega (
      arith,
      laws.few_places _ _ _ (rw c.places_in.ensures at c.loop-p-test.true) c.clear_from-clear.ensures.1
          c.requires.1,
    )

pub loop-p-smaller : goal.loop-p-smaller
loop-p-smaller c = omega (arith, c.loop-p-test.true, c.places_in.ensures, c.if-clear-eq0.false)

pub loop-p-preserved : goal.loop-p-preserved
loop-p-preserved c =
    let a = c.args in (
      omega (arith, c.loop-p.invariant.0),
      laws.few_places _ _ _ (rw c.places_in.ensures at c.loop-p-test.true) c.clear_from-clear.ensures.1
          c.requires.1,
      rw (← c.clear_from-clear.ensures.0)
          at (laws.memory_turn a.q a.mem.now a.tags.now (places_in (length a.mem.now)) c.loop-p.p c.loop-p.invariant.0)
          ∙ c.loop-p.invariant.2,
    )

pub returns : goal.returns
unfolding first_of
returns c =
    let a = c.args in
    let e : places_in (length a.mem.now) - c.loop-p.p ≡ 0 = omega (arith, c.loop-p-test.false, c.places_in.ensures) in
    rw e at c.loop-p.invariant.2
