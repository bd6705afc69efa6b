-- The loop keeps `Running`; each way round is one law of Turning. A turn that only finds an entry makes no step and is made once (`missed`).
use Rattle.std.proofs.Common.{◌≡◌, ℕ, ◌+◌, ◌-◌, ◌<◌, List, length, get_or, replicate, sym, refl, ap, ◌∙◌, Option, None, Ok, arith}
use lib.ListN.{length-replicate}
use Rattle.capability.specs.declared.Capability.{Capability}
use Rattle.state.specs.Layout.{compare_index}
use Rattle.quick.specs.declared.Found.{Found}
use Rattle.quick.specs.declared.Store.{Store}
use Rattle.machine.specs.Run.{iterate}
use Rattle.machine.specs.Watching.{watched_by}
use Rattle.quick.specs.Turns.{held_at, Took, is_done}
use Rattle.quick.specs.Entries.{entries, absent}
use Rattle.quick.proofs.Forget.{entries_none}
use Rattle.quick.proofs.Reach.{good_empty}
use Rattle.quick.proofs.Turning as laws
use Rattle.quick.proofs.Resting as resting
use Rattle.quick.proofs.Turning.{zeros}
use Rattle.quick.proofs.steps.take_quick.Goals as goal

pub base_of-base-requires : goal.base_of-base-requires
base_of-base-requires c = c.requires.0

pub limit_from-limit-requires : goal.limit_from-limit-requires
limit_from-limit-requires c = (c.requires.0, omega arith)

pub loop-k-init : goal.loop-k-init
loop-k-init c =
    let a = c.args in
    let n = a.n in
    let z : n - 0 ≡ n = omega arith in
    let none : List ℕ = replicate 2048 0 in
    let zs : (j : ℕ) → j < entries → ◌≡◌ {A = ℕ} (get_or none j 0) 0 = λ j l. zeros 2048 j in (
      record {
        in_run = omega arith;
        few_trapped = omega arith;
        whole_file = c.requires.0;
        code_long = length-replicate {A = Found} 2048 absent;
        entries_hold = entries_none a.board.start a.mem.now _ _ none (replicate 2048 absent) zs;
        reach_holds = good_empty a.board.start (length a.mem.now) (replicate 99 0) (length-replicate {A = ℕ} 99 0) (λ i. zeros 99 i);
        calm_holds = (c.base_of-base.ensures, c.limit_from-limit.ensures);
        runs = rw z refl;
        watches = rw z refl;
      },
      refl,
      refl,
      refl,
    )

pub bounds-regs-48 : goal.bounds-regs-48
bounds-regs-48 c = omega (arith, c.loop-k.invariant.0.whole_file)

pub key_of-requires : goal.key_of-requires
key_of-requires c =
    omega (arith, c.loop-k.invariant.0.calm_holds.0, c.slice_known-in-loop-k-1.given 49)

pub entry_for-requires : goal.entry_for-requires
entry_for-requires c = c.slot_of-slot.ensures.1

pub offset_bounds-code-i : goal.offset_bounds-code-i
offset_bounds-code-i c = omega (arith, c.in-Some.ensures.0)

pub bounds-code-i : goal.bounds-code-i
bounds-code-i c = omega (arith, c.in-Some.ensures.0)

pub turn-t-requires : goal.turn-t-requires
turn-t-requires c =
    let r = c.loop-k.invariant.0 in
    let more = c.loop-k-test.true in
    let y = c.in-Some.ensures in
    let key = c.key_of.ensures in
    let given = c.slice_known-in-loop-k-1.given in (
      r.whole_file,
      (laws.here _ _ _ _ _ _ _ _ _ _ _ _ _ _ _ _ r more
          (omega (arith, c.ranges))
          c.requires.1 _ _
          y.0 refl (omega (arith, given 48)) (y.1, y.2 ∙ key)).placed,
      r.reach_holds,
    )

pub overflow_add-k : goal.overflow_add-k
overflow_add-k c =
    let more = c.loop-k-test.true in
    omega (arith, more, c.ranges)

pub loop-k-smaller-in-Ok-None : goal.loop-k-smaller-in-Ok-None
loop-k-smaller-in-Ok-None c =
    omega (arith, c.loop-k-test.true)

pub loop-k-preserved-in-Ok-None : goal.loop-k-preserved-in-Ok-None
loop-k-preserved-in-Ok-None c =
    let l = c.loop-k.invariant in
    let more = c.loop-k-test.true in
    let y = c.in-Some.ensures in
    let key = c.key_of.ensures in
    let given = c.slice_known-in-loop-k-1.given in
    let turned = c.turn-t.ensures in
    let none : ◌≡◌ {A = Option Store} c.in-Ok-None.field-0 None = rw c.in-Ok-None.is at c.in-Ok-None.field-0-is in
    let silent : ◌≡◌ {A = Took} c.turn-t.result (Ok None) = c.in-Ok-None.is ∙ ap (λ (o : Option Store). Ok o) none in (
      laws.way_silent _ _ _ _ _ _ _ _ _ _ _ _ _ _ _ _ l.0 more
          (omega (arith, c.ranges))
          c.requires.1 _ _
          y.0 refl (omega (arith, given 48)) (y.1, y.2 ∙ key) _ _ turned.1 _ turned.0
          silent (laws.compare_fits _ (omega (arith, given compare_index)) (omega (arith, given (compare_index + 1)))),
      omega (arith, l.1, c.regs-1.given),
      omega (arith, l.2, c.mem-1.given),
      omega (arith, l.3, c.tags-1.given),
    )

pub loop-k-smaller-in-Ok : goal.loop-k-smaller-in-Ok
loop-k-smaller-in-Ok c =
    omega (arith, c.loop-k-test.true)

pub loop-k-preserved-in-Ok : goal.loop-k-preserved-in-Ok
loop-k-preserved-in-Ok c =
    let l = c.loop-k.invariant in
    let more = c.loop-k-test.true in
    let y = c.in-Some.ensures in
    let key = c.key_of.ensures in
    let given = c.slice_known-in-loop-k-1.given in
    let turned = c.turn-t.ensures in (
      laws.way_done _ _ _ _ _ _ _ _ _ _ _ _ _ _ _ _ l.0 more
          (omega (arith, c.ranges))
          c.requires.1 _ _
          y.0 refl (omega (arith, given 48)) (y.1, y.2 ∙ key) _ _ turned.1 _ turned.0
          (ap is_done c.in-Ok.is) (laws.compare_fits _ (omega (arith, given compare_index)) (omega (arith, given (compare_index + 1))))
          _ (rw c.in-Ok.is c.noted-watch.ensures) _ (rw c.in-Ok.is c.forget.ensures),
      omega (arith, l.1, c.regs-1.given),
      omega (arith, l.2, c.mem-1.given),
      omega (arith, l.3, c.tags-1.given),
    )

pub read_pcc-requires : goal.read_pcc-requires
read_pcc-requires c =
    let long = c.loop-k.invariant.0.whole_file in
    omega (arith, long, c.regs-1.given)

pub learn-requires : goal.learn-requires
learn-requires c = rw c.mem-1.given c.turn-t.ensures.0

pub overflow_add-trapped : goal.overflow_add-trapped
overflow_add-trapped c =
    let r = c.loop-k.invariant.0 in
    let step = c.take_watched-p.ensures.0 in
    omega (
      arith,
      r.few_trapped,
      c.loop-k-test.true,
      laws.at_most_one _ _ _ _ _ _ step,
      c.ranges,
    )

pub base_of-base-requires-in-Some : goal.base_of-base-requires-in-Some
base_of-base-requires-in-Some c =
    let long = c.loop-k.invariant.0.whole_file in
    omega (arith, long, c.regs-1.given, c.regs-in-Some-1.given)

pub limit_while-limit-requires : goal.limit_while-limit-requires
limit_while-limit-requires c =
    let long = c.loop-k.invariant.0.whole_file in (
      omega (arith, long, c.regs-1.given, c.regs-in-Some-1.given),
      omega (arith, c.loop-k-test.true),
    )

pub loop-k-smaller-in-Some : goal.loop-k-smaller-in-Some
loop-k-smaller-in-Some c =
    omega (arith, c.loop-k-test.true)

pub loop-k-preserved-in-Some : goal.loop-k-preserved-in-Some
loop-k-preserved-in-Some c =
    let l = c.loop-k.invariant in
    let more = c.loop-k-test.true in
    let y = c.in-Some.ensures in
    let key = c.key_of.ensures in
    let given = c.slice_known-in-loop-k-1.given in
    let turned = c.turn-t.ensures in
    let learnt = c.learn.ensures in
    let step = c.take_watched-p.ensures in
    let mem = c.mem-1.given in (
      laws.way_left _ _ _ _ _ _ _ _ _ _ _ _ _ _ _ _ l.0 more
          (omega (arith, c.ranges))
          c.requires.1 _ _
          y.0 refl (omega (arith, given 48)) (y.1, y.2 ∙ key) _ _ turned.1 _ (rw mem at learnt)
          (ap is_done c.in-Err.is) _ _ _ _ _ _
          step.0 step.1 (c.base_of-base-in-Some.ensures, c.limit_while-limit.ensures) _
          (rw c.in-Err.is c.forget-in-Err.ensures),
      omega (arith, l.1, c.regs-1.given, c.regs-in-Some-1.given),
      omega (arith, l.2, mem, c.mem-in-Some-1.given),
      omega (arith, l.3, c.tags-1.given, c.tags-in-Some-1.given),
    )

pub read_pcc-requires-in-loop-k : goal.read_pcc-requires-in-loop-k
read_pcc-requires-in-loop-k c =
    c.loop-k.invariant.0.whole_file

pub base_of-base-requires-in-loop-k : goal.base_of-base-requires-in-loop-k
base_of-base-requires-in-loop-k c =
    c.loop-k.invariant.0.whole_file

pub bounds-regs-68 : goal.bounds-regs-68
bounds-regs-68 c =
    omega (arith, c.loop-k.invariant.0.whole_file)

pub room_at-j-requires : goal.room_at-j-requires
room_at-j-requires c =
    c.slot_of-slot.ensures.1

pub offset_bounds-code-j : goal.offset_bounds-code-j
offset_bounds-code-j c =
    omega (arith, c.room_at-j.ensures.1)

pub bounds-code-j : goal.bounds-code-j
bounds-code-j c =
    omega (arith, c.room_at-j.ensures.1)

pub key_of-requires-in-Some-found : goal.key_of-requires-in-Some-found
key_of-requires-in-Some-found c =
    omega (arith, c.base_of-base-in-loop-k.ensures, c.slice_known-in-loop-k-1.given 49)

pub offset_bounds-keys-j : goal.offset_bounds-keys-j
offset_bounds-keys-j c =
    omega (arith, c.room_at-j.ensures.1)

pub bounds-keys-j : goal.bounds-keys-j
bounds-keys-j c =
    omega (arith, c.room_at-j.ensures.1)

pub overflow_add-at : goal.overflow_add-at
overflow_add-at c =
    omega (arith, c.saturating_sub-at.ensures, c.slice_known-in-loop-k-1.given 48)

pub loop-k-smaller-in-Some-found : goal.loop-k-smaller-in-Some-found
loop-k-smaller-in-Some-found c =
    let first = c.is_tried-tried.ensures c.in-Some-found.ensures.1 in
    rw first (omega (arith, c.loop-k-test.true))

pub loop-k-preserved-in-Some-found : goal.loop-k-preserved-in-Some-found
loop-k-preserved-in-Some-found c =
    let l = c.loop-k in
    let given = c.slice_known-in-loop-k-1.given in
    let slot = c.slot_of-slot.ensures in
    let room = c.room_at-j.ensures in
    let base = c.base_of-base-in-loop-k.ensures in
    let at = c.saturating_sub-at.ensures in
    let low = c.min-low.ensures in
    let high = c.max-high.ensures in
    let pcc : Capability = held_at 48 l.regs in
    let found = rw c.read_pcc-in-loop-k.ensures at c.in-Some-found.ensures.0 (omega (arith, given 49)) (omega (arith, given 48)) in (
      laws.way_found _ _ _ _ _ _ _ _ _ _ _ _ _ _ _ _ l.invariant.0 _ _ pcc room.1 (sym slot.0 ∙ sym room.0)
          (c.key_of-in-Some-found.ensures ∙ ap (λ (b : ℕ). b + get_or l.regs 48 0) base) c.in-Some-found.f found
          _ _ _ (omega (arith, low)) (omega (arith, high)) (omega (arith, low, at)) (omega (arith, high, at)) base,
      l.invariant.1,
      l.invariant.2,
      l.invariant.3,
    )

pub overflow_add-trapped-in-loop-k : goal.overflow_add-trapped-in-loop-k
overflow_add-trapped-in-loop-k c =
    let r = c.loop-k.invariant.0 in
    omega (
      arith,
      r.few_trapped,
      c.loop-k-test.true,
      c.steps_now-m.ensures.0,
      resting.at_most _ _ _ _ _ _ _ c.take_watched-p-in-loop-k.ensures.0,
      c.ranges,
    )

pub base_of-base-requires-in-loop-k-2 : goal.base_of-base-requires-in-loop-k-2
base_of-base-requires-in-loop-k-2 c =
    omega (arith, c.loop-k.invariant.0.whole_file, c.regs-in-loop-k-1.given)

pub overflow_add-k-in-loop-k : goal.overflow_add-k-in-loop-k
overflow_add-k-in-loop-k c =
    omega (arith, c.loop-k-test.true, c.steps_now-m.ensures.0, c.ranges)

pub limit_from-limit-requires-in-loop-k : goal.limit_from-limit-requires-in-loop-k
limit_from-limit-requires-in-loop-k c =
    let long = c.loop-k.invariant.0.whole_file in (
      omega (arith, long, c.regs-in-loop-k-1.given),
      omega (arith, c.loop-k-test.true, c.steps_now-m.ensures.0),
    )

pub loop-k-smaller : goal.loop-k-smaller
loop-k-smaller c =
    let more = c.loop-k-test.true in
    let some = c.steps_now-m.ensures.1 (omega (arith, more)) in
    omega (arith, more, some)

pub loop-k-preserved : goal.loop-k-preserved
loop-k-preserved c =
    let l = c.loop-k.invariant in
    let more = c.loop-k-test.true in
    let step = c.take_watched-p-in-loop-k.ensures in
    let steps = c.steps_now-m.ensures in (
      resting.way_plainly _ _ _ _ _ _ _ _ _ _ _ _ _ _ _ _ l.0 _ (steps.1 (omega (arith, more))) steps.0 _ _ _ _ step.0 step.1
          (omega (arith, c.regs-in-loop-k-1.given)) (omega (arith, c.mem-in-loop-k-1.given))
          (omega (arith, c.ranges)) c.requires.1 _
          c.stored_nothing.ensures _ _ _
          c.clear_unless.ensures
          (c.base_of-base-in-loop-k-2.ensures, c.limit_from-limit-in-loop-k.ensures),
      omega (arith, l.1, c.regs-in-loop-k-1.given),
      omega (arith, l.2, c.mem-in-loop-k-1.given),
      omega (arith, l.3, c.tags-in-loop-k-1.given),
    )

pub overflow_sub-result : goal.overflow_sub-result
overflow_sub-result c =
    let r = c.loop-k.invariant.0 in
    omega (arith, r.few_trapped, r.in_run)

pub shape_of-regs : goal.shape_of-regs
shape_of-regs c = c.loop-k.invariant.1

pub shape_of-mem : goal.shape_of-mem
shape_of-mem c = c.loop-k.invariant.2

pub shape_of-tags : goal.shape_of-tags
shape_of-tags c = c.loop-k.invariant.3

pub returns : goal.returns
unfolding iterate watched_by
returns c =
    let l = c.loop-k in
    let n = c.args.n in
    let r = l.invariant.0 in
    let left = c.loop-k-test.false in
    let e : n - l.k ≡ 0 = omega (arith, left) in
    let q : l.k - l.trapped ≡ n - l.trapped = omega (arith, left, r.in_run) in
    (rw (e, q) at r.runs, rw e at r.watches)
