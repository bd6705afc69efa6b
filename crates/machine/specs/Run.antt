-- The answers of a step and a run, and what they leave. Document 01, "Answers". Assumes nothing.
use Rattle.std.specs.Prelude.{Result, Ok, Err, cond, List, ◌≡◌, ℕ, zero, suc, ◌+◌, eqb}
use Rattle.state.specs.Lent.{State}
use Rattle.state.specs.declared.Board.{Board}
use Rattle.commit.specs.Commit.{retires}
use Rattle.execution.specs.Step.{effect_at, step_of}
use Rattle.machine.specs.Refusals.{number_in, refusal_named, refusal_of}
use Rattle.machine.specs.declared.answers.Refusal.{Refusal}
use Rattle.machine.specs.declared.answers.Step.{Step}
use Rattle.machine.specs.declared.answers.Step.TheVariants.{Retired, Trapped}
use Rattle.machine.specs.declared.answers.Counts.{Counts}

-- ---- the paper's number and values of each answer; a refused call has both counts 0

abbrev pub step_number : Result Step Refusal → ℕ
step_number a = number_in a

abbrev pub step_retired : Result Step Refusal → ℕ
step_retired (Ok Retired) = 1
step_retired (Ok Trapped) = 0
step_retired (Err refusal) = 0

abbrev pub step_trapped : Result Step Refusal → ℕ
step_trapped (Ok Retired) = 0
step_trapped (Ok Trapped) = 1
step_trapped (Err refusal) = 0

abbrev pub run_number : Result Counts Refusal → ℕ
run_number a = number_in a

abbrev pub run_retired : Result Counts Refusal → ℕ
run_retired (Ok counts) = counts.retired
run_retired (Err refusal) = 0

abbrev pub run_trapped : Result Counts Refusal → ℕ
run_trapped (Ok counts) = counts.trapped
run_trapped (Err refusal) = 0

-- ---- one step

-- the refusal of a single step
abbrev pub step_refusal : Board → (revoked : List ℕ) → State → ℕ
step_refusal board revoked s = refusal_of 1 board revoked s

unfoldable pub step_answer : Board → (revoked : List ℕ) → State → Result Step Refusal
step_answer board revoked s =
    cond (eqb (step_refusal board revoked s) 0) (Ok (cond (retires (effect_at board revoked s)) Retired Trapped))
    (Err (refusal_named (step_refusal board revoked s)))

unfoldable pub step_after : Board → (revoked : List ℕ) → State → State
step_after board revoked s = cond (eqb (step_refusal board revoked s) 0) (step_of board revoked s) s

-- 1 where it retires, 1 where it traps, and 0 for both where it is refused
abbrev pub retired_of : Board → (revoked : List ℕ) → State → ℕ
retired_of board revoked s = cond (eqb (step_refusal board revoked s) 0) (cond (retires (effect_at board revoked s)) 1 0) 0

abbrev pub trapped_of : Board → (revoked : List ℕ) → State → ℕ
trapped_of board revoked s = cond (eqb (step_refusal board revoked s) 0) (cond (retires (effect_at board revoked s)) 0 1) 0

-- what a step promises: its answer, with its number and counts, and all that was lent as it leaves it
pub record StepPromise (board : Board) (revoked : List ℕ) (before after : State) (answer : Result Step Refusal) : Type 0 where
  pub answer_is : answer ≡ step_answer board revoked before
  pub number_is : step_number answer ≡ step_refusal board revoked before
  pub retired_is : step_retired answer ≡ retired_of board revoked before
  pub trapped_is : step_trapped answer ≡ trapped_of board revoked before
  pub registers_are : after.regs ≡ (step_after board revoked before).regs
  pub memory_is : after.mem ≡ (step_after board revoked before).mem
  pub tags_are : after.tags ≡ (step_after board revoked before).tags

-- ---- a run

-- the buffers, with how many steps so far retired and trapped
pub record Ran : Type 0 where
  pub at : State
  pub retired : ℕ
  pub trapped : ℕ

abbrev pub ran : State → (retired trapped : ℕ) → Ran
ran s r t = record { at = s; retired = r; trapped = t }

unfoldable pub one_more : Board → (revoked : List ℕ) → Ran → Ran
one_more board revoked r =
    ran (step_of board revoked r.at) (r.retired + cond (retires (effect_at board revoked r.at)) 1 0)
    (r.trapped + cond (retires (effect_at board revoked r.at)) 0 1)

-- n single steps
unfoldable pub iterate : (n : ℕ) → Board → (revoked : List ℕ) → Ran → Ran
iterate zero board revoked r = r
iterate (suc n) board revoked r = iterate n board revoked (one_more board revoked r)

abbrev pub ran_from : (n : ℕ) → Board → (revoked : List ℕ) → State → Ran
ran_from n board revoked s = iterate n board revoked (ran s 0 0)

abbrev pub counts : (retired trapped : ℕ) → Counts
counts r t = record { retired = r; trapped = t }

unfoldable pub run_answer : (n : ℕ) → Board → (revoked : List ℕ) → State → Result Counts Refusal
run_answer n board revoked s =
    cond (eqb (refusal_of n board revoked s) 0) (Ok (counts (ran_from n board revoked s).retired (ran_from n board revoked s).trapped))
    (Err (refusal_named (refusal_of n board revoked s)))

unfoldable pub run_after : (n : ℕ) → Board → (revoked : List ℕ) → State → State
run_after n board revoked s = cond (eqb (refusal_of n board revoked s) 0) (ran_from n board revoked s).at s

-- how many of the steps retired and trapped; 0 and 0 where the run is refused
abbrev pub retired_by : (n : ℕ) → Board → (revoked : List ℕ) → State → ℕ
retired_by n board revoked s = cond (eqb (refusal_of n board revoked s) 0) (ran_from n board revoked s).retired 0

abbrev pub trapped_by : (n : ℕ) → Board → (revoked : List ℕ) → State → ℕ
trapped_by n board revoked s = cond (eqb (refusal_of n board revoked s) 0) (ran_from n board revoked s).trapped 0

-- what a run promises
pub record RunPromise (n : ℕ) (board : Board) (revoked : List ℕ) (before after : State) (answer : Result Counts Refusal) : Type 0 where
  pub answer_is : answer ≡ run_answer n board revoked before
  pub number_is : run_number answer ≡ refusal_of n board revoked before
  pub retired_is : run_retired answer ≡ retired_by n board revoked before
  pub trapped_is : run_trapped answer ≡ trapped_by n board revoked before
  pub registers_are : after.regs ≡ (run_after n board revoked before).regs
  pub memory_is : after.mem ≡ (run_after n board revoked before).mem
  pub tags_are : after.tags ≡ (run_after n board revoked before).tags
