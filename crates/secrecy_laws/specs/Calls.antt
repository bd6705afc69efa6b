-- Calls one after another: what they answer and what they leave. Board and revocation bits may differ from call to call. Assumes nothing.
use Rattle.std.specs.Prelude.{Option, Result, List, [], ◌∷◌, ◌++◌, ◌≡◌, ℕ, ◌<◌}
use Rattle.watch.specs.declared.Watch.{Watch}
use Rattle.state.specs.Lent.{State, state}
use Rattle.state.specs.Effects.{Stored, stored_by}
use Rattle.state.specs.declared.Board.{Board}
use Rattle.execution.specs.Step.{effect_at}
use Rattle.machine.specs.Refusals.{refusal_of}
use Rattle.machine.specs.Run.{step_answer, step_after, run_answer, run_after, ran_from, step_number, step_retired, step_trapped, run_number, run_retired}
use Rattle.machine.specs.Run.{run_trapped}
use Rattle.machine.specs.Watching.{watch_left}
use Rattle.machine.specs.declared.answers.Refusal.{Refusal}
use Rattle.machine.specs.declared.answers.Step.{Step}
use Rattle.machine.specs.declared.answers.Counts.{Counts}
use Rattle.sweep.specs.Visits.{visit_answer, tags_after}
use Rattle.bench_api.specs.Packing.{packed, packed_visit}
use Rattle.authority_laws.specs.Gain.{Reached, at_start, by_step, by_run, by_c_step, by_c_run, by_visit, by_c_visit}

-- a step, a run, a run with a watch record, a visit of the sweeper
pub data Call : Type 0 where
  step : (board : Board) → (revoked : List ℕ) → Call
  run : (n : ℕ) → (board : Board) → (revoked : List ℕ) → Call
  watched : (n : ℕ) → (board : Board) → (revoked : List ℕ) → Watch → Call
  visit : (g : ℕ) → (board : Board) → (revoked : List ℕ) → Call

-- with the record as the run leaves it
pub data Answer : Type 0 where
  to_step : Result Step Refusal → Answer
  to_run : Result Counts Refusal → Answer
  to_watched : Result Counts Refusal → Watch → Answer
  to_visit : Result (Option ℕ) Refusal → Answer

unfoldable pub answer_of : Call → State → Answer
answer_of (step board revoked) s = to_step (step_answer board revoked s)
answer_of (run n board revoked) s = to_run (run_answer n board revoked s)
answer_of (watched n board revoked w) s = to_watched (run_answer n board revoked s) (watch_left n board revoked s w)
answer_of (visit g board revoked) s = to_visit (visit_answer board revoked s.mem s.tags g)

unfoldable pub left_by : Call → State → State
left_by (step board revoked) s = step_after board revoked s
left_by (run n board revoked) s = run_after n board revoked s
left_by (watched n board revoked w) s = run_after n board revoked s
left_by (visit g board revoked) s = state s.regs s.mem (tags_after board revoked s.mem s.tags g)

-- what some calls answer, and what they leave
unfoldable pub answers : List Call → State → List Answer
answers [] s = []
answers (c ∷ cs) s = answer_of c s ∷ answers cs (left_by c s)

unfoldable pub left : List Call → State → State
left [] s = s
left (c ∷ cs) s = left cs (left_by c s)

-- A property of memory's start, which is the board's, in each step and run. A sweep reads every granule and asks nothing: its answer goes by sizes, and what it
-- does to a granule's tag by that granule alone.
abbrev pub AtStart : (P : ℕ → Type 0) → Call → Type 0
AtStart P (step board revoked) = P board.start
AtStart P (run n board revoked) = P board.start
AtStart P (watched n board revoked w) = P board.start
AtStart P (visit g board revoked) = Unit {0}

unfoldable pub EachStart : (P : ℕ → Type 0) → List Call → Type 0
EachStart P [] = Unit {0}
EachStart P (c ∷ cs) = AtStart P c × EachStart P cs

-- ---- what is stored in a call

-- x is what one of n steps from s stores, where they are not refused
pub record StoredIn (n : ℕ) (board : Board) (revoked : List ℕ) (s : State) (x : Stored) : Type 0 where
  pub before : ℕ
  pub is_one : before < n
  pub made : refusal_of n board revoked s ≡ 0
  pub is_next : stored_by (effect_at board revoked (ran_from before board revoked s).at) ≡ x

abbrev pub Stores : Call → State → Stored → Type 0
Stores (step board revoked) s x = StoredIn 1 board revoked s x
Stores (run n board revoked) s x = StoredIn n board revoked s x
Stores (watched n board revoked w) s x = StoredIn n board revoked s x
Stores (visit g board revoked) s x = ⊥

-- ---- by code that keeps its promises

-- the calls of what was reached, the first first; one for C is the call that it stands for
unfoldable pub calls_of : {s a : State} → Reached s a → List Call
calls_of at_start = []
calls_of (by_step board revoked answer r p) = calls_of r ++ (step board revoked ∷ [])
calls_of (by_run n board revoked answer r p) = calls_of r ++ (run n board revoked ∷ [])
calls_of (by_c_step board revoked answer r p) = calls_of r ++ (step board revoked ∷ [])
calls_of (by_c_run n board revoked answer r p) = calls_of r ++ (run n board revoked ∷ [])
calls_of (by_visit g board revoked answer r same p) = calls_of r ++ (visit g board revoked ∷ [])
calls_of (by_c_visit g board revoked answer r same p) = calls_of r ++ (visit g board revoked ∷ [])

-- what they told: each answer as the number that C gets
unfoldable pub told_by : {s a : State} → Reached s a → List ℕ
told_by at_start = []
told_by (by_step board revoked answer r p) = told_by r ++ (packed (step_number answer) (step_trapped answer) (step_retired answer) ∷ [])
told_by (by_run n board revoked answer r p) = told_by r ++ (packed (run_number answer) (run_trapped answer) (run_retired answer) ∷ [])
told_by (by_c_step board revoked answer r p) = told_by r ++ (answer ∷ [])
told_by (by_c_run n board revoked answer r p) = told_by r ++ (answer ∷ [])
told_by (by_visit g board revoked answer r same p) = told_by r ++ (packed_visit answer ∷ [])
told_by (by_c_visit g board revoked answer r same p) = told_by r ++ (answer ∷ [])
