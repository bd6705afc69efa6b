-- One turn of a run with what it keeps, and the promise of a run with a watch record. Assumes nothing.
use Prim.Native.Nat.{ℕ, zero, suc, ◌+◌, ◌-◌, ◌^◌, ◌≤◌, ◌<◌}
use mathlib.Core.Path.{◌≡◌, refl, sym, ap, ◌∙◌}
use mathlib.Core.Bool.{Bool, true, false, cond}
use mathlib.Core.List.{List}
use Rattle.std.specs.Prelude.{Result, Ok, Err}
use native.Mathlib.Omega.{arith}
use lib.Dec.{eqb}
use borrow.Author.Tests.{eq-eqb, ne_eqb}
use Rattle.watch.specs.Watch.{range_touched, touched_at}
use Rattle.watch.specs.declared.Watch.{Watch}
use Rattle.state.specs.Lent.{State}
use Rattle.state.specs.Effects.{Stored, nothing, bytes, whole, stored_by}
use Rattle.state.specs.declared.Board.{Board}
use Rattle.commit.specs.Commit.{retires}
use Rattle.commit.specs.Kept.{watch_after, kept_after}
use Rattle.commit.specs.declared.Kept.{Kept}
use Rattle.execution.specs.Step.{effect_at, step_of}
use Rattle.machine.specs.Refusals.{refusal_of}
use Rattle.machine.specs.Run.{ran, iterate}
use Rattle.machine.specs.Watching.{watch_step, watched_by, watch_left, WatchPromise, CountPromise, SameRanges}
use Rattle.machine.specs.Refusals.{number_of}
use Rattle.machine.specs.Run.{counts}
use Rattle.machine.specs.declared.answers.Counts.{Counts}
use Rattle.machine.specs.declared.answers.Refusal.{Refusal}
use Rattle.machine.proofs.Laws as laws

-- one turn: what is kept of it, beside the state that it leaves
module _ (board : Board) (n k : ℕ) (revoked : List ℕ) (s after : State) (kept left : Kept) (more : k < n) (few : kept.trapped ≤ k) (fits : n < 2 ^ 32)
    (stepped : after ≡ step_of board revoked s) (counted : left ≡ kept_after board.start (effect_at board revoked s) kept) where
  trapped_is : (b : Bool) → retires (effect_at board revoked s) ≡ b → left.trapped ≡ cond b kept.trapped (kept.trapped + 1)
  unfolding kept_after
  trapped_is true h = rw (counted, h) refl
  trapped_is false h = rw (counted, h) (omega arith)

  pub turn_few : left.trapped ≤ k + 1
  turn_few = go (retires (effect_at board revoked s)) refl
    where
      go : (b : Bool) → retires (effect_at board revoked s) ≡ b → left.trapped ≤ k + 1
      go true h = omega (arith, trapped_is true h)
      go false h = omega (arith, trapped_is false h)

  pub turn_counts : iterate (n - (k + 1)) board revoked (ran after (k + 1 - left.trapped) left.trapped)
      ≡ iterate (n - k) board revoked (ran s (k - kept.trapped) kept.trapped)
  turn_counts = go (retires (effect_at board revoked s)) refl
    where
      go : (b : Bool) → retires (effect_at board revoked s) ≡ b → iterate (n - (k + 1)) board revoked (ran after (k + 1 - left.trapped) left.trapped)
          ≡ iterate (n - k) board revoked (ran s (k - kept.trapped) kept.trapped)
      go true h =
          let e : k + 1 - kept.trapped ≡ k - kept.trapped + 1 = omega arith in
          rw (trapped_is true h, e) (laws.turn_retired board n k revoked s after _ _ more stepped (sym h))
      go false h =
          let e : k + 1 - (kept.trapped + 1) ≡ k - kept.trapped = omega arith in
          rw (trapped_is false h, e) (laws.turn_trapped board n k revoked s after _ _ more stepped (sym h))

  pub turn_watches : watched_by (n - (k + 1)) board revoked after left.watch ≡ watched_by (n - k) board revoked s kept.watch
  unfolding watched_by kept_after
  turn_watches = let d : n - k ≡ suc (n - (k + 1)) = omega arith in rw (d, stepped, counted) refl

-- ---- the promise, by how the run ends

module _ (n : ℕ) (board : Board) (revoked : List ℕ) (s : State) (w : Watch) where
  pub watched_refused : (r : Refusal) → number_of r ≡ refusal_of n board revoked s → WatchPromise n board revoked s s w w (Err r)
  unfolding watch_left
  watched_refused r e =
      let f : eqb (refusal_of n board revoked s) 0 ≡ false = rw (← e) (ne_eqb (number_of r) 0 (laws.number_positive r)) in
      record { run_is = laws.run_refused n board revoked s r e; watch_is = rw f }

  pub watched_done : (after : State) (left : Watch) (r t : ℕ) → 0 ≡ refusal_of n board revoked s → ran after r t ≡ iterate n board revoked (ran s 0 0)
      → left ≡ watched_by n board revoked s w → WatchPromise n board revoked s after w left (Ok (counts r t))
  unfolding watch_left
  watched_done after left r t e g h =
      let f : eqb (refusal_of n board revoked s) 0 ≡ true = eq-eqb (refusal_of n board revoked s) 0 (sym e) in
      record { run_is = laws.run_done n board revoked s after r t e g; watch_is = rw f h }

-- and so of a run whose ranges are plain numbers and whose counts are lent
pub counts_of : (n : ℕ) (board : Board) (revoked : List ℕ) (before after : State) (w left : Watch) (answer : Result Counts Refusal)
    → WatchPromise n board revoked before after w left answer → CountPromise n board revoked before after w left.first.count left.second.count answer
counts_of n board revoked before after w left answer p = record {
  run_is = p.run_is;
  first_is = ap (λ (x : Watch). x.first.count) p.watch_is;
  second_is = ap (λ (x : Watch). x.second.count) p.watch_is;
}

-- ---- the ranges stay

same_step : (start : ℕ) (x : Stored) (w : Watch) → SameRanges w (watch_after start x w)
unfolding touched_at range_touched
same_step start nothing w = record { first_start = refl; first_length = refl; second_start = refl; second_length = refl }
same_step start (bytes width i value) w = record { first_start = refl; first_length = refl; second_start = refl; second_length = refl }
same_step start (whole i value) w = record { first_start = refl; first_length = refl; second_start = refl; second_length = refl }

pub ranges_stay : (n : ℕ) (board : Board) (revoked : List ℕ) (s : State) (w : Watch) → SameRanges w (watched_by n board revoked s w)
unfolding watched_by
ranges_stay zero board revoked s w = record { first_start = refl; first_length = refl; second_start = refl; second_length = refl }
ranges_stay (suc n) board revoked s w =
    let one = same_step board.start (stored_by (effect_at board revoked s)) w in
    let rest = ranges_stay n board revoked (step_of board revoked s) (watch_step board revoked s w) in
    record {
      first_start = rest.first_start ∙ one.first_start;
      first_length = rest.first_length ∙ one.first_length;
      second_start = rest.second_start ∙ one.second_start;
      second_length = rest.second_length ∙ one.second_length;
    }
