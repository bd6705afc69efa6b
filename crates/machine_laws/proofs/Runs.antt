-- A run is its single steps, one after another, and their answers counted, exactly where no register between them is unsound. Document 01, "Answers";
-- document 02, 13. Assumes nothing.
use mathlib.Core.Path.{◌≡◌, refl, ap, ◌∙◌}
use mathlib.Core.Bool.{Bool, true, false, cond}
use mathlib.Core.List.{List}
use Prim.Native.Nat.{ℕ, zero, suc, ◌+◌, ◌≤◌, ◌<◌}
use native.Mathlib.Omega.{arith}
use native.Mathlib.Nat.{add_assoc, zero-add}
use lib.Dec.{eqb}
use borrow.Author.Tests.{eqb-true}
use Rattle.state.specs.Lent.{State}
use Rattle.commit.specs.Commit.{retires}
use Rattle.execution.specs.Step.{effect_at, step_of}
use Rattle.machine.specs.Refusals.{most_steps}
use Rattle.state.specs.declared.Board.{Board}
use Rattle.machine.specs.Run.{step_refusal, step_answer, step_after, Ran, ran, one_more, iterate, ran_from, run_answer, run_after, step_retired, step_trapped}
use Rattle.machine.specs.declared.answers.Step.TheVariants.{Retired, Trapped}
use Rattle.machine.specs.Refusals.{refusal_named}
use Rattle.machine.specs.Run.{counts}
use Rattle.std.specs.Prelude.{Ok, Err}
use Rattle.machine_laws.specs.Steps.{steps_after, retired_in, trapped_in, SoundBetween}
use Rattle.machine_laws.specs.Lent.{GoodState}
use Rattle.machine_laws.proofs.Kept.{good_after}
use Rattle.machine_laws.proofs.Refusals.{good_of, of_good, sound_for, not_too_many}

module _ (board : Board) (revoked : List ℕ) where
  -- a run of 0 steps changes nothing and counts nothing
  pub run_none : (s : State) → iterate 0 board revoked (ran s 0 0) ≡ ran s 0 0
  unfolding iterate
  run_none s = refl

  -- a run of m + n steps is one of m, and one of n from where that ends
  pub run_split : (m n : ℕ) (r : Ran) → iterate (m + n) board revoked r ≡ iterate n board revoked (iterate m board revoked r)
  unfolding iterate
  run_split zero n r = let e : zero + n ≡ n = omega arith in rw e
  run_split (suc m) n r = let e : suc m + n ≡ suc (m + n) = omega arith in rw e (run_split m n (one_more board revoked r))

  -- each step either retires or traps
  pub run_counts : (n : ℕ) (r : Ran) → (iterate n board revoked r).retired + (iterate n board revoked r).trapped ≡ r.retired + r.trapped + n
  unfolding iterate one_more
  run_counts zero r = omega arith
  run_counts (suc n) r = run_counts n (one_more board revoked r) ∙ one (retires (effect_at board revoked r.at))
    where
      one : (b : Bool) → r.retired + cond b 1 0 + (r.trapped + cond b 0 1) + n ≡ r.retired + r.trapped + suc n
      one true = omega arith
      one false = omega arith

  module _ (s : State) (good : step_refusal board revoked s ≡ 0) where
    good_step : step_after board revoked s ≡ step_of board revoked s
    unfolding step_after
    good_step = rw good

    answer_retired : step_retired (step_answer board revoked s) ≡ cond (retires (effect_at board revoked s)) 1 0
    unfolding step_answer
    answer_retired = rw good (go (retires (effect_at board revoked s)))
      where
        go : (b : Bool) → step_retired (Ok (cond b Retired Trapped)) ≡ cond b 1 0
        go true = refl
        go false = refl

    answer_trapped : step_trapped (step_answer board revoked s) ≡ cond (retires (effect_at board revoked s)) 0 1
    unfolding step_answer
    answer_trapped = rw good (go (retires (effect_at board revoked s)))
      where
        go : (b : Bool) → step_trapped (Ok (cond b Retired Trapped)) ≡ cond b 0 1
        go true = refl
        go false = refl

  -- what is lent stays good through a run, sound or not
  pub good_through : (n : ℕ) (r : Ran) → GoodState board revoked r.at → GoodState board revoked (iterate n board revoked r).at
  unfolding iterate one_more
  good_through zero r g = g
  good_through (suc n) r g = good_through n (one_more board revoked r) (good_after board revoked r.at g)

  -- what steps leave does not depend on what was counted before
  left_alike : (n : ℕ) (s : State) (r t p q : ℕ) → (iterate n board revoked (ran s r t)).at ≡ (iterate n board revoked (ran s p q)).at
  unfolding iterate one_more
  left_alike zero s r t p q = refl
  left_alike (suc n) s r t p q = left_alike n (step_of board revoked s) _ _ _ _

  -- ---- none of n single steps is refused

  abbrev Accepted : (n : ℕ) → State → Type 0
  Accepted n s = (k : ℕ) → k < n → step_refusal board revoked (ran_from k board revoked s).at ≡ 0

  -- from a step on
  later_left : (k : ℕ) (s : State) → (ran_from k board revoked (step_of board revoked s)).at ≡ (ran_from (suc k) board revoked s).at
  unfolding iterate one_more
  later_left k s = left_alike k (step_of board revoked s) _ _ _ _

  accepted_later : (n : ℕ) (s : State) → Accepted (suc n) s → Accepted n (step_of board revoked s)
  accepted_later n s h k b = rw (later_left k s) (h (suc k) (omega arith))

  accepted_first : (n : ℕ) (s : State) → Accepted (suc n) s → step_refusal board revoked s ≡ 0
  unfolding iterate
  accepted_first n s h = h 0 (omega arith)

  accepted_where : (n : ℕ) (s : State) → step_refusal board revoked s ≡ 0 → SoundBetween n board revoked s → Accepted n s
  unfolding iterate
  accepted_where n s good between zero b = good
  accepted_where n s good between (suc k) b =
      of_good board revoked (ran_from (suc k) board revoked s).at (good_through (suc k) (ran s 0 0) (good_of board revoked s good))
      (between (suc k) (omega arith) b) 1 (omega arith)

  accepted_steps : (n : ℕ) (s : State) (r t : ℕ) → Accepted n s
      → iterate n board revoked (ran s r t) ≡ ran (steps_after n board revoked s) (r + retired_in n board revoked s) (t + trapped_in n board revoked s)
  unfolding iterate steps_after retired_in trapped_in one_more
  accepted_steps zero s r t h = let a : r + 0 ≡ r = omega arith in let b : t + 0 ≡ t = omega arith in rw (a, b)
  accepted_steps (suc n) s r t h =
      let first = accepted_first n s h in
      rw (good_step s first, answer_retired s first, answer_trapped s first)
      (accepted_steps n (step_of board revoked s) _ _ (accepted_later n s h) ∙ rw (add_assoc, add_assoc))

  -- ---- a run and its steps

  -- buffers and counts after a run are those of its single steps, where no register between these is unsound
  pub run_is_steps : (n : ℕ) (s : State) (r t : ℕ) → step_refusal board revoked s ≡ 0 → SoundBetween n board revoked s
      → iterate n board revoked (ran s r t) ≡ ran (steps_after n board revoked s) (r + retired_in n board revoked s) (t + trapped_in n board revoked s)
  run_is_steps n s r t good between = accepted_steps n s r t (accepted_where n s good between)

  -- the two counts are all of its steps
  pub answers_counted : (n : ℕ) (s : State) → step_refusal board revoked s ≡ 0 → SoundBetween n board revoked s
      → retired_in n board revoked s + trapped_in n board revoked s ≡ n
  answers_counted n s good between =
      let e = run_is_steps n s 0 0 good between in
      let c = run_counts n (ran s 0 0) in
      let r = ap (λ (x : Ran). x.retired) e in
      let t = ap (λ (x : Ran). x.trapped) e in
      omega arith

  -- the public run leaves what n public steps leave, and answers how many of them retired and trapped
  module _ (n : ℕ) (s : State) (good : step_refusal board revoked s ≡ 0) (between : SoundBetween n board revoked s) (few : n ≤ most_steps) where
    pub run_after_lem : run_after n board revoked s ≡ steps_after n board revoked s
    unfolding run_after
    run_after_lem = rw (not_too_many board revoked s good n few) (ap (λ (r : Ran). r.at) (run_is_steps n s 0 0 good between))

    pub run_answer_lem : run_answer n board revoked s ≡ Ok (counts (retired_in n board revoked s) (trapped_in n board revoked s))
    unfolding run_answer
    run_answer_lem =
        rw (not_too_many board revoked s good n few)
        (ap (λ (r : Ran). Ok (counts r.retired r.trapped)) (run_is_steps n s 0 0 good between) ∙ simp zero-add)

  -- a public run of 0 steps changes nothing, and counts 0 and 0
  pub run_of_none : (s : State) → step_refusal board revoked s ≡ 0 → (run_after 0 board revoked s ≡ s) × (run_answer 0 board revoked s ≡ Ok (counts 0 0))
  unfolding steps_after retired_in trapped_in
  run_of_none s good = (
    run_after_lem 0 s good (λ k a b. absurd (omega arith)) (omega arith),
    run_answer_lem 0 s good (λ k a b. absurd (omega arith))
        (omega arith),
  )

  -- ---- and only where none is

  -- a single step is counted at most once, and then it is not refused
  step_counted : (s : State) → step_retired (step_answer board revoked s) + step_trapped (step_answer board revoked s) ≤ 1
  unfolding step_answer
  step_counted s = go (eqb (step_refusal board revoked s) 0) (retires (effect_at board revoked s))
    where
      go : (a b : Bool) → step_retired (cond a (Ok (cond b Retired Trapped)) (Err (refusal_named (step_refusal board revoked s))))
          + step_trapped (cond a (Ok (cond b Retired Trapped)) (Err (refusal_named (step_refusal board revoked s)))) ≤ 1
      go true true = omega arith
      go true false = omega arith
      go false b = omega arith

  counted_accepted : (s : State) → 1 ≤ step_retired (step_answer board revoked s) + step_trapped (step_answer board revoked s) → step_refusal board revoked s
      ≡ 0
  unfolding step_answer
  counted_accepted s h = go (eqb (step_refusal board revoked s) 0) refl h
    where
      go : (a : Bool) → eqb (step_refusal board revoked s) 0 ≡ a
          → 1 ≤ step_retired (cond a (Ok (cond (retires (effect_at board revoked s)) Retired Trapped)) (Err (refusal_named (step_refusal board revoked s))))
          + step_trapped (cond a (Ok (cond (retires (effect_at board revoked s)) Retired Trapped)) (Err (refusal_named (step_refusal board revoked s))))
          → step_refusal board revoked s ≡ 0
      go true q x = eqb-true (step_refusal board revoked s) 0 q
      go false q x = absurd (omega arith)

  counted_most : (n : ℕ) (s : State) → retired_in n board revoked s + trapped_in n board revoked s ≤ n
  unfolding retired_in trapped_in
  counted_most zero s = omega arith
  counted_most (suc n) s = omega (arith, step_counted s, counted_most n (step_after board revoked s))

  all_accepted : (n : ℕ) (s : State) → retired_in n board revoked s + trapped_in n board revoked s ≡ n → Accepted n s
  unfolding iterate retired_in trapped_in
  all_accepted zero s h k b = absurd (omega arith)
  all_accepted (suc n) s h k b =
      let first = counted_accepted s (omega (arith, h, counted_most n (step_after board revoked s))) in
      let after : retired_in n board revoked (step_after board revoked s) + trapped_in n board revoked (step_after board revoked s) ≡ n =
      omega (arith, h, step_counted s, counted_most n (step_after board revoked s)) in
      let rest : retired_in n board revoked (step_of board revoked s) + trapped_in n board revoked (step_of board revoked s) ≡ n =
      rw (good_step s first) at after in
      at first (all_accepted n (step_of board revoked s) rest) k b
    where
      at : step_refusal board revoked s ≡ 0 → Accepted n (step_of board revoked s) → (k : ℕ) → k < suc n
          → step_refusal board revoked (ran_from k board revoked s).at ≡ 0
      at first rest zero b = first
      at first rest (suc k) b = rw (← (later_left k s)) (rest k (omega arith))

  -- where n single steps are all counted, as those of a run are, no register between them was unsound
  pub counted_sound : (n : ℕ) (s : State) → retired_in n board revoked s + trapped_in n board revoked s ≡ n → SoundBetween n board revoked s
  counted_sound n s h k a b = sound_for board revoked (ran_from k board revoked s).at 1 (all_accepted n s h k b)
