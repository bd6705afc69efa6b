-- What the promises of the functions for C shut out: the wrong machines that document 01 lists under "Promises that pin the answer", and a run whose watch
-- record stays. A number that C gets unpacks to the number and the counts of the definition, so what the machine's promises shut out, these do. Assumes
-- nothing.
use Rattle.std.specs.Prelude.{Result, Ok, Err}
use Rattle.machine.specs.Refusals.{refusal_named}
use Rattle.machine.specs.Run.{counts}
use Rattle.machine.specs.declared.answers.Refusal.{Refusal}
use mathlib.Core.Path.{◌≡◌, refl, sym, ap, ◌∙◌}
use mathlib.Core.Bool.{Bool, true, false, cond}
use mathlib.Core.List.{List, ◌∷◌, []}
use Prim.Native.Nat.{ℕ, ◌+◌, ◌/◌, ◌%◌, ◌^◌, ◌≤◌, ◌<◌}
use native.Mathlib.Omega.{arith}
use lib.Dec.{eqb}
use borrow.Author.Tests.{eqb-true, eqb-false}
use Rattle.watch.specs.declared.Watch.{Watch}
use Rattle.instructions.specs.declared.Csr.TheVariants.{Mcause, Mtval}
use Rattle.state.specs.Lent.{State}
use Rattle.state.specs.Registers.{csr_at}
use Rattle.state.specs.Timer.{time_of}
use Rattle.state.specs.declared.Board.{Board}
use Rattle.commit.specs.Commit.{retires}
use Rattle.execution.specs.Step.{effect_at}
use Rattle.machine.specs.Refusals.{refusal_of}
use Rattle.machine.specs.Run.{step_refusal, step_answer, StepPromise, run_answer, RunPromise, retired_of, trapped_of, retired_by, trapped_by}
use Rattle.machine.specs.Run.{step_number, step_retired, step_trapped, run_number, run_retired, run_trapped, ran_from}
use Rattle.machine.specs.Watching.{WatchPromise}
use Rattle.machine.specs.declared.answers.Step.TheVariants.{Retired, Trapped}
use Rattle.machine.specs.declared.answers.Counts.{Counts}
use Rattle.machine.proofs.Laws.{refusal_number, step_small, run_small}
use Rattle.machine_laws.specs.Cases.{Case, board_in, before, top_of_memory, untagged_load, environment_call}
use Rattle.machine_laws.proofs.Worked.{top_worked}
use Rattle.machine_laws.proofs.ShutOut as Plain
use Rattle.bench_api.specs.Packing.{packed, StepPacked, RunPacked}
use Rattle.bench_api.specs.Watches.{WatchPacked}
use Rattle.bench_api.specs.Worked.{storing_board, storing_bits, storing_from, storing_watch}
use Rattle.bench_api.proofs.Worked.{storing_counts}

-- ---- what a packed number tells

-- the three numbers in their places
module _ (number trapped retired : ℕ) (few : trapped < 2 ^ 24) (less : retired < 2 ^ 24) where
  number_in : packed number trapped retired / 2 ^ 48 ≡ number
  number_in = omega (arith, few, less)

  trapped_in : packed number trapped retired / 2 ^ 24 % 2 ^ 24 ≡ trapped
  trapped_in = omega (arith, few, less)

  retired_in : packed number trapped retired % 2 ^ 24 ≡ retired
  retired_in = omega (arith, few, less)

-- number and counts of the machine's own answers
module _ (board : Board) (revoked : List ℕ) (from : State) where
  step_number_of : step_number (step_answer board revoked from) ≡ step_refusal board revoked from
  unfolding step_answer
  step_number_of = go (eqb (step_refusal board revoked from) 0) refl (retires (effect_at board revoked from))
    where
      go : (t : Bool) → eqb (step_refusal board revoked from) 0 ≡ t → (r : Bool)
          → step_number (cond t (Ok (cond r Retired Trapped)) (Err (refusal_named (step_refusal board revoked from)))) ≡ step_refusal board revoked from
      go true q true = sym (eqb-true (step_refusal board revoked from) 0 q)
      go true q false = sym (eqb-true (step_refusal board revoked from) 0 q)
      go false q r = refusal_number 1 board revoked from (eqb-false (step_refusal board revoked from) 0 q)

  step_counts_of : (step_retired (step_answer board revoked from) ≡ retired_of board revoked from)
      × (step_trapped (step_answer board revoked from) ≡ trapped_of board revoked from)
  unfolding step_answer
  step_counts_of = go (eqb (step_refusal board revoked from) 0) (retires (effect_at board revoked from))
    where
      go : (t r : Bool) → (step_retired (cond t (Ok (cond r Retired Trapped)) (Err (refusal_named (step_refusal board revoked from)))) ≡ cond t (cond r 1 0) 0)
          × (step_trapped (cond t (Ok (cond r Retired Trapped)) (Err (refusal_named (step_refusal board revoked from)))) ≡ cond t (cond r 0 1) 0)
      go true true = (refl, refl)
      go true false = (refl, refl)
      go false r = (refl, refl)

  run_number_of : (n : ℕ) → run_number (run_answer n board revoked from) ≡ refusal_of n board revoked from
  unfolding run_answer
  run_number_of n = go (eqb (refusal_of n board revoked from) 0) refl
    where
      go : (t : Bool) → eqb (refusal_of n board revoked from) 0 ≡ t
          → run_number (cond t (Ok (counts (ran_from n board revoked from).retired (ran_from n board revoked from).trapped))
          (Err (refusal_named (refusal_of n board revoked from)))) ≡ refusal_of n board revoked from
      go true q = sym (eqb-true (refusal_of n board revoked from) 0 q)
      go false q = refusal_number n board revoked from (eqb-false (refusal_of n board revoked from) 0 q)

  run_counts_of : (n : ℕ) → (run_retired (run_answer n board revoked from) ≡ retired_by n board revoked from)
      × (run_trapped (run_answer n board revoked from) ≡ trapped_by n board revoked from)
  unfolding run_answer
  run_counts_of n = go (eqb (refusal_of n board revoked from) 0) (ran_from n board revoked from).retired (ran_from n board revoked from).trapped
    where
      go : (b : Bool) (r t : ℕ) → (run_retired (cond b (Ok (counts r t)) (Err (refusal_named (refusal_of n board revoked from)))) ≡ cond b r 0)
          × (run_trapped (cond b (Ok (counts r t)) (Err (refusal_named (refusal_of n board revoked from)))) ≡ cond b t 0)
      go true r t = (refl, refl)
      go false r t = (refl, refl)

  -- who keeps the promise for C keeps the machine's, with the machine's answer
  module _ (after : State) (x : ℕ) (p : StepPacked board revoked from after x) where
    pub step_kept : StepPromise board revoked from after (step_answer board revoked from)
    step_kept = record {
      answer_is = refl;
      number_is = step_number_of;
      retired_is = step_counts_of.0;
      trapped_is = step_counts_of.1;
      registers_are = p.registers_are;
      memory_is = p.memory_is;
      tags_are = p.tags_are;
    }

    few : (trapped_of board revoked from < 2 ^ 24) × (retired_of board revoked from < 2 ^ 24)
    few =
        let s = step_small board revoked from after (step_answer board revoked from) step_kept in
        (omega (arith, s.1, step_counts_of.1), omega (arith, s.2, step_counts_of.0))

    -- and its number tells
    pub step_number_told : x / 2 ^ 48 ≡ step_refusal board revoked from
    step_number_told = ap (λ (y : ℕ). y / 2 ^ 48) p.answer_is ∙ number_in (step_refusal board revoked from) _ _ few.0 few.1

    pub step_trapped_told : x / 2 ^ 24 % 2 ^ 24 ≡ trapped_of board revoked from
    step_trapped_told = ap (λ (y : ℕ). y / 2 ^ 24 % 2 ^ 24) p.answer_is ∙ trapped_in (step_refusal board revoked from) _ _ few.0 few.1

    pub step_retired_told : x % 2 ^ 24 ≡ retired_of board revoked from
    step_retired_told = ap (λ (y : ℕ). y % 2 ^ 24) p.answer_is ∙ retired_in (step_refusal board revoked from) _ _ few.0 few.1

  module _ (n : ℕ) (after : State) (x : ℕ) (p : RunPacked n board revoked from after x) where
    pub run_kept : RunPromise n board revoked from after (run_answer n board revoked from)
    run_kept = record {
      answer_is = refl;
      number_is = run_number_of n;
      retired_is = (run_counts_of n).0;
      trapped_is = (run_counts_of n).1;
      registers_are = p.registers_are;
      memory_is = p.memory_is;
      tags_are = p.tags_are;
    }

    few_of_all : (trapped_by n board revoked from < 2 ^ 24) × (retired_by n board revoked from < 2 ^ 24)
    few_of_all =
        let s = run_small n board revoked from after (run_answer n board revoked from) run_kept in
        (omega (arith, s.1, (run_counts_of n).1), omega (arith, s.2, (run_counts_of n).0))

    pub run_number_told : x / 2 ^ 48 ≡ refusal_of n board revoked from
    run_number_told = ap (λ (y : ℕ). y / 2 ^ 48) p.answer_is ∙ number_in (refusal_of n board revoked from) _ _ few_of_all.0 few_of_all.1

    -- a number below 2^48 is of a run that was made: its counts are those of n steps of the definition, and make up the steps that were asked for
    module _ (low : x < 2 ^ 48) where
      made : refusal_of n board revoked from ≡ 0
      made = omega (arith, low, run_number_told)

      ran_kept : RunPromise n board revoked from after (Ok (counts (ran_from n board revoked from).retired (ran_from n board revoked from).trapped))
      unfolding run_answer
      ran_kept = rw made at run_kept

      pub counts_told : (x % 2 ^ 24 ≡ (ran_from n board revoked from).retired) × (x / 2 ^ 24 % 2 ^ 24 ≡ (ran_from n board revoked from).trapped)
      counts_told =
          let r : retired_by n board revoked from ≡ (ran_from n board revoked from).retired = rw made in
          let t : trapped_by n board revoked from ≡ (ran_from n board revoked from).trapped = rw made in (
            ap (λ (y : ℕ). y % 2 ^ 24) p.answer_is ∙ (retired_in (refusal_of n board revoked from) _ _ few_of_all.0 few_of_all.1 ∙ r),
            ap (λ (y : ℕ). y / 2 ^ 24 % 2 ^ 24) p.answer_is ∙ (trapped_in (refusal_of n board revoked from) _ _ few_of_all.0 few_of_all.1 ∙ t),
          )

      pub counts_sum : x % 2 ^ 24 + x / 2 ^ 24 % 2 ^ 24 ≡ n
      counts_sum = omega (arith, counts_told.0, counts_told.1, Plain.counts_sum board revoked from after n _ _ ran_kept)

-- ---- a machine that refuses all calls

-- the promises at the start state of a worked case
abbrev pub StepAt : Case → (after : State) → (answer : ℕ) → Type 0
StepAt c after x = StepPacked (board_in c) (c.revoked ∷ []) (before c) after x

abbrev pub RunAt : (n : ℕ) → Case → (after : State) → (answer : ℕ) → Type 0
RunAt n c after x = RunPacked n (board_in c) (c.revoked ∷ []) (before c) after x

top_good : step_refusal (board_in top_of_memory) (top_of_memory.revoked ∷ []) (before top_of_memory) ≡ 0
top_good = sym (step_number_of (board_in top_of_memory) (top_of_memory.revoked ∷ []) (before top_of_memory)) ∙ top_worked.number_is

-- there is a start state from which no step, and no run of one, answers a number of a refusal
pub refusing_step_shut_out : (after : State) (x : ℕ) → StepAt top_of_memory after x → 2 ^ 48 ≤ x → ⊥
refusing_step_shut_out after x p high = omega (arith, high, step_number_told _ _ (before top_of_memory) after x p, top_good)

pub refusing_run_shut_out : (after : State) (x : ℕ) → RunAt 1 top_of_memory after x → 2 ^ 48 ≤ x → ⊥
refusing_run_shut_out after x p high = omega (arith, high, run_number_told _ _ (before top_of_memory) 1 after x p, top_good)

-- ---- a step that leaves everything as it was, or has one trap for all

pub unchanging_step_shut_out : (x : ℕ) → StepAt top_of_memory (before top_of_memory) x → ⊥
unchanging_step_shut_out x p = Plain.unchanging_step_shut_out _ (step_kept _ _ (before top_of_memory) (before top_of_memory) x p)

-- one step is not told as trapped
pub trapping_step_shut_out : (after : State) (x : ℕ) → StepAt top_of_memory after x → x / 2 ^ 24 % 2 ^ 24 ≡ 1 → ⊥
unfolding top_of_memory
trapping_step_shut_out after x p e =
    let retired = (step_counts_of (board_in top_of_memory) (top_of_memory.revoked ∷ []) (before top_of_memory)).0 in
    omega (
      arith,
      e,
      step_trapped_told _ _ (before top_of_memory) after x p,
      retired,
      top_worked.retired_is,
      one_of_two (eqb (step_refusal (board_in top_of_memory) (top_of_memory.revoked ∷ []) (before top_of_memory)) 0)
          (retires (effect_at (board_in top_of_memory) (top_of_memory.revoked ∷ []) (before top_of_memory))),
    )
  where
    one_of_two : (t r : Bool) → cond t (cond r 1 0) 0 + cond t (cond r 0 1) 0 ≤ 1
    one_of_two true true = omega arith
    one_of_two true false = omega arith
    one_of_two false r = omega arith

-- of two steps that trap, no one mcause is left by both, and no one mtval
pub one_cause_shut_out : (x y : State) (a b : ℕ) → StepAt untagged_load x a → StepAt environment_call y b
    → csr_at x.regs Mcause ≡ csr_at y.regs Mcause → ⊥
one_cause_shut_out x y a b p q = Plain.one_cause_shut_out x y _ _ (step_kept _ _ (before untagged_load) x a p) (step_kept _ _ (before environment_call) y b q)

pub one_value_shut_out : (x y : State) (a b : ℕ) → StepAt untagged_load x a → StepAt environment_call y b
    → csr_at x.regs Mtval ≡ csr_at y.regs Mtval → ⊥
one_value_shut_out x y a b p q = Plain.one_value_shut_out x y _ _ (step_kept _ _ (before untagged_load) x a p) (step_kept _ _ (before environment_call) y b q)

-- ---- a run of more steps than asked

-- of every start state: no other number of steps leaves what n steps leave
pub more_steps_shut_out : (board : Board) (revoked : List ℕ) (from after : State) → time_of from.regs < 2 ^ 64
    → (n m x y : ℕ) → RunPacked n board revoked from after x → RunPacked m board revoked from after y → x < 2 ^ 48 → y < 2 ^ 48 → m ≡ n
more_steps_shut_out board revoked from after fits n m x y p q low low' =
    Plain.more_steps_shut_out board revoked from after fits n m _ _ _ _ (ran_kept board revoked from n after x p low)
    (ran_kept board revoked from m after y q low')

-- ---- a run with a watch record: all that is shut out of a run, and a record that stays

pub refusing_watch_shut_out : (after : State) (lent : Watch) (c d x : ℕ)
    → WatchPacked 1 (board_in top_of_memory) (top_of_memory.revoked ∷ []) (before top_of_memory) after lent c d x → 2 ^ 48 ≤ x → ⊥
refusing_watch_shut_out after lent c d x p = refusing_run_shut_out after x p.run_is

pub more_watched_steps_shut_out : (board : Board) (revoked : List ℕ) (from after : State) (lent : Watch) → time_of from.regs < 2 ^ 64
    → (n m c d c' d' x y : ℕ) → WatchPacked n board revoked from after lent c d x → WatchPacked m board revoked from after lent c' d' y
    → x < 2 ^ 48 → y < 2 ^ 48 → m ≡ n
more_watched_steps_shut_out board revoked from after lent fits n m c d c' d' x y p q =
    more_steps_shut_out board revoked from after fits n m x y p.run_is q.run_is

pub watched_counts_told : (board : Board) (revoked : List ℕ) (from after : State) (lent : Watch) (n c d x : ℕ)
    → WatchPacked n board revoked from after lent c d x → x < 2 ^ 48
    → (x % 2 ^ 24 ≡ (ran_from n board revoked from).retired) × (x / 2 ^ 24 % 2 ^ 24 ≡ (ran_from n board revoked from).trapped)
watched_counts_told board revoked from after lent n c d x p = counts_told board revoked from n after x p.run_is

-- the worked store is counted in the first range, and not in the second: no record that stays, and none with its counts swapped, keeps the promise
module _ (after : State) where
  pub staying_record_shut_out : (answer : Result Counts Refusal) → WatchPromise 1 storing_board storing_bits storing_from after storing_watch
      storing_watch answer → ⊥
  staying_record_shut_out answer p = omega (arith, ap (λ (w : Watch). w.first.count) p.watch_is, storing_counts.first_is)

  pub record_told : (left : Watch) (answer : Result Counts Refusal) → WatchPromise 1 storing_board storing_bits storing_from after storing_watch left answer
      → (left.first.count ≡ 6) × (left.second.count ≡ 7)
  record_told left answer p = (
    ap (λ (w : Watch). w.first.count) p.watch_is ∙ storing_counts.first_is,
    ap (λ (w : Watch). w.second.count) p.watch_is ∙ storing_counts.second_is,
  )

  -- and so of the counts that C lends
  pub counts_lent_told : (c d x : ℕ) → WatchPacked 1 storing_board storing_bits storing_from after storing_watch c d x → (c ≡ 6) × (d ≡ 7)
  counts_lent_told c d x p = (p.first_is ∙ storing_counts.first_is, p.second_is ∙ storing_counts.second_is)

  pub staying_counts_shut_out : (d x : ℕ) → WatchPacked 1 storing_board storing_bits storing_from after storing_watch 5 d x → ⊥
  staying_counts_shut_out d x p = omega (arith, (counts_lent_told 5 d x p).0)
