-- What the promises of a step and of a run shut out: the wrong machines that document 01 lists under "Promises that pin the answer". Each law names an answer,
-- or buffers, with which no program keeps the promise. Assumes nothing.
use Rattle.std.specs.Prelude.{Result, Ok, Err, is_err}
use Rattle.machine.specs.Refusals.{refusal_named}
use Rattle.machine.specs.Run.{counts}
use Rattle.machine.specs.declared.answers.Refusal.{Refusal}
use Rattle.machine.proofs.Laws.{refusal_number}
use mathlib.Core.Path.{◌≡◌, refl, sym, ap, ◌∙◌}
use mathlib.Core.Bool.{Bool, true, false, cond, true≢false}
use mathlib.Core.List.{List, [], ◌∷◌}
use Prim.Native.Nat.{ℕ, ◌+◌, ◌*◌, ◌%◌, ◌^◌, ◌≤◌, ◌<◌}
use native.Mathlib.Omega.{arith}
use lib.Dec.{eqb, leb}
use lib.ListN.{get_or}
use borrow.Author.Tests.{eqb-true, eqb-false, leb-true, leb-false}
use Rattle.words.proofs.Word.{by_test}
use Rattle.instructions.specs.declared.Csr.TheVariants.{Mcause, Mtval}
use Rattle.state.specs.Layout.{pcc_index}
use Rattle.state.specs.Registers.{csr_at, set_capability}
use Rattle.state.specs.Lent.{State}
use Rattle.commit.specs.Commit.{retires}
use Rattle.execution.specs.Step.{effect_at}
use Rattle.state.specs.declared.Board.{Board}
use Rattle.machine.specs.Refusals.{refusal_of, most_steps}
use Rattle.machine.specs.Run.{step_refusal, retired_of, trapped_of, step_trapped, step_answer, step_after, StepPromise, run_answer, run_after, RunPromise}
use Rattle.machine.specs.Run.{step_number}
use Rattle.machine.specs.Run.{ran, ran_from}
use Rattle.machine.specs.Run.{step_retired, run_number, run_retired, run_trapped}
use Rattle.machine.specs.declared.answers.Step.{Step}
use Rattle.machine.specs.declared.answers.Step.TheVariants.{Retired, Trapped}
use Rattle.machine.specs.declared.answers.Counts.{Counts}
use Rattle.machine_laws.specs.Cases.{Case, board_in, put, before, top_of_memory, untagged_load, environment_call}
use Rattle.machine_laws.specs.Steps.{steps_after, retired_in, trapped_in, SoundBetween}
use Rattle.machine_laws.proofs.Refusals.{refused_step, refused_too, refused_run, too_many, not_too_many, good_of}
use Rattle.machine_laws.proofs.Runs.{run_counts, run_after_lem, run_answer_lem}
use Rattle.machine_laws.proofs.Worked.{Worked, word_at_lem, top_worked, load_worked, call_worked}
use Rattle.state.specs.Timer.{time_of}
use Rattle.machine_laws.proofs.Timer.{time_after}

-- ---- a machine that refuses all calls

module _ (board : Board) (revoked : List ℕ) (s : State) where
  answer_number : step_number (step_answer board revoked s) ≡ step_refusal board revoked s
  unfolding step_answer
  answer_number = go (eqb (step_refusal board revoked s) 0) refl (retires (effect_at board revoked s))
    where
      go : (t : Bool) → eqb (step_refusal board revoked s) 0 ≡ t → (r : Bool)
          → step_number (cond t (Ok (cond r Retired Trapped)) (Err (refusal_named (step_refusal board revoked s)))) ≡ step_refusal board revoked s
      go true q true = sym (eqb-true (step_refusal board revoked s) 0 q)
      go true q false = sym (eqb-true (step_refusal board revoked s) 0 q)
      go false q r = refusal_number 1 board revoked s (eqb-false (step_refusal board revoked s) 0 q)

  answer_retired : step_retired (step_answer board revoked s) ≡ retired_of board revoked s
  unfolding step_answer
  answer_retired = go (eqb (step_refusal board revoked s) 0) (retires (effect_at board revoked s))
    where
      go : (t r : Bool) → step_retired (cond t (Ok (cond r Retired Trapped)) (Err (refusal_named (step_refusal board revoked s)))) ≡ cond t (cond r 1 0) 0
      go true true = refl
      go true false = refl
      go false r = refl

  answer_trapped : step_trapped (step_answer board revoked s) ≡ trapped_of board revoked s
  unfolding step_answer
  answer_trapped = go (eqb (step_refusal board revoked s) 0) (retires (effect_at board revoked s))
    where
      go : (t r : Bool) → step_trapped (cond t (Ok (cond r Retired Trapped)) (Err (refusal_named (step_refusal board revoked s)))) ≡ cond t (cond r 0 1) 0
      go true true = refl
      go true false = refl
      go false r = refl

  answer_good : step_refusal board revoked s ≡ 0 → is_err (step_answer board revoked s) ≡ false
  unfolding step_answer
  answer_good good = rw good

module _ (board : Board) (revoked : List ℕ) (from after : State) where
  -- of every start state: the number answered is that of the refusal that applies, and 0 where none does
  pub step_number_lem : (a : Result Step Refusal) → StepPromise board revoked from after a → step_number a ≡ step_refusal board revoked from
  step_number_lem a p = p.number_is

  pub run_number_lem : (n : ℕ) (a : Result Counts Refusal) → RunPromise n board revoked from after a → run_number a ≡ refusal_of n board revoked from
  run_number_lem n a p = p.number_is

  -- so no good start state is refused, by any number
  module _ (good : step_refusal board revoked from ≡ 0) where
    pub good_step_not_refused : (r : Refusal) → StepPromise board revoked from after (Err r) → ⊥
    good_step_not_refused r p = true≢false (ap is_err p.answer_is ∙ answer_good board revoked from good)

    pub good_run_not_refused : (n : ℕ) (r : Refusal) → n ≤ most_steps → RunPromise n board revoked from after (Err r) → ⊥
    unfolding run_answer
    good_run_not_refused n r few p = true≢false (ap is_err p.answer_is ∙ rw (not_too_many board revoked from good n few))

-- the promises at the start state of a worked case
abbrev pub StepFrom : Case → (after : State) → Result Step Refusal → Type 0
StepFrom c after a = StepPromise (board_in c) (c.revoked ∷ []) (before c) after a

abbrev pub RunFrom : (n : ℕ) → Case → (after : State) → Result Counts Refusal → Type 0
RunFrom n c after a = RunPromise n (board_in c) (c.revoked ∷ []) (before c) after a

worked_good : (c : Case) → Worked c → step_refusal (board_in c) (c.revoked ∷ []) (before c) ≡ 0
worked_good c w = sym (answer_number (board_in c) (c.revoked ∷ []) (before c)) ∙ w.number_is

top_good : step_refusal (board_in top_of_memory) (top_of_memory.revoked ∷ []) (before top_of_memory) ≡ 0
top_good = worked_good top_of_memory top_worked

-- there is a start state that no step and no run of one refuses
pub refusing_step_shut_out : (after : State) (r : Refusal) → StepFrom top_of_memory after (Err r) → ⊥
refusing_step_shut_out after r p = good_step_not_refused _ _ (before top_of_memory) after top_good r p

pub refusing_run_shut_out : (after : State) (r : Refusal) → RunFrom 1 top_of_memory after (Err r) → ⊥
refusing_run_shut_out after r p = good_run_not_refused _ _ (before top_of_memory) after top_good 1 r (omega arith) p

-- ---- a step that leaves everything as it was

-- PCC's address: after the first worked case's step, and before it
abbrev pcc_in : State → ℕ
pcc_in s = get_or s.regs (pcc_index * 3) 0

pcc_after : (after : State) (a : Result Step Refusal) → StepFrom top_of_memory after a → pcc_in after ≡ 0
unfolding top_of_memory
pcc_after after a p = ap (λ (l : List ℕ). get_or l (pcc_index * 3) 0) p.registers_are ∙ word_at_lem top_of_memory.after 0 _ top_worked.words_are

pcc_before : pcc_in (before top_of_memory) ≡ 0xFFFFFFFC
unfolding top_of_memory before put set_capability
pcc_before = refl

pub unchanging_step_shut_out : (a : Result Step Refusal) → StepFrom top_of_memory (before top_of_memory) a → ⊥
unchanging_step_shut_out a p = omega (arith, pcc_before, pcc_after (before top_of_memory) a p)

-- ---- a step with one trap for all

-- one step does not trap, and one does not retire
pub trapping_step_shut_out : (after : State) → StepFrom top_of_memory after (Ok Trapped) → ⊥
unfolding top_of_memory
trapping_step_shut_out after p = omega (arith, ap step_retired p.answer_is, top_worked.retired_is)

pub retiring_step_shut_out : (after : State) → StepFrom environment_call after (Ok Retired) → ⊥
unfolding environment_call
retiring_step_shut_out after p = omega (arith, ap step_retired p.answer_is, call_worked.retired_is)

-- of two steps that trap, no one mcause is left by both, and no one mtval
pub one_cause_shut_out : (x y : State) (a b : Result Step Refusal) → StepFrom untagged_load x a → StepFrom environment_call y b
    → csr_at x.regs Mcause ≡ csr_at y.regs Mcause → ⊥
unfolding untagged_load environment_call
one_cause_shut_out x y a b p q e =
    omega (
      arith,
      ap (λ (l : List ℕ). csr_at l Mcause) p.registers_are,
      ap (λ (l : List ℕ). csr_at l Mcause) q.registers_are,
      word_at_lem untagged_load.after 7 _ load_worked.words_are,
      word_at_lem environment_call.after 7 _ call_worked.words_are,
    )

pub one_value_shut_out : (x y : State) (a b : Result Step Refusal) → StepFrom untagged_load x a → StepFrom environment_call y b
    → csr_at x.regs Mtval ≡ csr_at y.regs Mtval → ⊥
unfolding untagged_load environment_call
one_value_shut_out x y a b p q e =
    omega (
      arith,
      ap (λ (l : List ℕ). csr_at l Mtval) p.registers_are,
      ap (λ (l : List ℕ). csr_at l Mtval) q.registers_are,
      word_at_lem untagged_load.after 8 _ load_worked.words_are,
      word_at_lem environment_call.after 8 _ call_worked.words_are,
    )

-- ---- a run of more steps than asked, and wrong counts

module _ (board : Board) (revoked : List ℕ) (from after : State) where
  one_step : run_after 1 board revoked from ≡ step_after board revoked from
  unfolding steps_after
  one_step =
      by_test (eqb (step_refusal board revoked from) 0)
      (λ t. run_after_lem board revoked 1 from (eqb-true (step_refusal board revoked from) 0 t) (λ k a b. absurd (omega arith)) (omega arith))
      (λ t. let h = eqb-false (step_refusal board revoked from) 0 t in
      refused_run board revoked from 1 (refused_too board revoked from h 1) ∙ sym (refused_step board revoked from h))

  -- of every start state: a run of one leaves what the promise of a step says
  pub run_of_one : (a : Result Counts Refusal) → RunPromise 1 board revoked from after a → StepPromise board revoked from after (step_answer board revoked from)
  run_of_one a p =
      record {
        answer_is = refl;
        number_is = answer_number board revoked from;
        retired_is = answer_retired board revoked from;
        trapped_is = answer_trapped board revoked from;
        registers_are = p.registers_are ∙ ap (λ (s : State). s.regs) one_step;
        memory_is = p.memory_is ∙ ap (λ (s : State). s.mem) one_step;
        tags_are = p.tags_are ∙ ap (λ (s : State). s.tags) one_step;
      }

  module _ (n retired trapped : ℕ) (p : RunPromise n board revoked from after (Ok (counts retired trapped))) where
    not_refused : refusal_of n board revoked from ≡ 0
    not_refused = sym (run_number_lem board revoked from after n (Ok (counts retired trapped)) p)

    ran_good : step_refusal board revoked from ≡ 0
    ran_good =
        by_test (eqb (step_refusal board revoked from) 0) (eqb-true (step_refusal board revoked from) 0)
        (λ t. let h = eqb-false (step_refusal board revoked from) 0 t in absurd (refused_too board revoked from h n not_refused))

    ran_few : n ≤ most_steps
    ran_few =
        by_test (leb n most_steps) (leb-true n most_steps)
        (λ t. absurd (omega (arith, not_refused, too_many board revoked from ran_good n (leb-false n most_steps t))))

    -- of every start state: the counts are those of n steps of the definition
    pub counts_are : (retired ≡ (ran_from n board revoked from).retired) × (trapped ≡ (ran_from n board revoked from).trapped)
    unfolding run_answer
    counts_are =
        let e : Ok (counts retired trapped) ≡ Ok (counts (ran_from n board revoked from).retired (ran_from n board revoked from).trapped) =
        p.answer_is ∙ rw not_refused in
        (ap run_retired e, ap run_trapped e)

    -- and of the single steps, each with its own answer, where no register between them is unsound
    pub counts_of_steps : SoundBetween n board revoked from → (retired ≡ retired_in n board revoked from) × (trapped ≡ trapped_in n board revoked from)
    counts_of_steps between =
        let e = p.answer_is ∙ run_answer_lem board revoked n from ran_good between ran_few in
        (ap run_retired e, ap run_trapped e)

    -- they make up the steps that were asked for: 1 where one was
    pub counts_sum : retired + trapped ≡ n
    counts_sum = omega (arith, counts_are.0, counts_are.1, run_counts board revoked n (ran from 0 0))

    -- and time tells them
    ran_time : time_of from.regs < 2 ^ 64 → time_of after.regs ≡ (time_of from.regs + n) % 2 ^ 64
    unfolding run_after
    ran_time fits =
        let left : run_after n board revoked from ≡ (ran_from n board revoked from).at = rw not_refused in
        ap time_of p.registers_are ∙ (ap (λ (s : State). time_of s.regs) left
        ∙ time_after board revoked n (ran from 0 0) (good_of board revoked from ran_good).registers fits)

-- of every start state: no other number of steps leaves what n steps leave
pub more_steps_shut_out : (board : Board) (revoked : List ℕ) (from after : State) → time_of from.regs < 2 ^ 64
    → (n m retired trapped retired' trapped' : ℕ) → RunPromise n board revoked from after (Ok (counts retired trapped))
    → RunPromise m board revoked from after (Ok (counts retired' trapped')) → m ≡ n
more_steps_shut_out board revoked from after fits n m retired trapped retired' trapped' p q =
    let x = ran_time board revoked from after n retired trapped p fits in
    let y = ran_time board revoked from after m retired' trapped' q fits in
    let a = ran_few board revoked from after n retired trapped p in
    let b = ran_few board revoked from after m retired' trapped' q in
    omega (arith, x, y, a, b, fits)
