-- The answers of a step, a run and a visit of the sweeper as one number for C. Document 01, "Answers"; document 02, 10. Assumes nothing.
use Rattle.std.specs.Prelude.{Option, Result, List, ◌≡◌, ℕ, ◌+◌, ◌*◌, ◌^◌}
use Rattle.state.specs.Lent.{State}
use Rattle.machine.specs.Refusals.{refusal_of}
use Rattle.machine.specs.Run.{run_number, run_retired, run_trapped, step_refusal, step_after, retired_of, trapped_of, run_after, retired_by, trapped_by}
use Rattle.state.specs.declared.Board.{Board}
use Rattle.sweep.specs.Visits.{visit_answer, tags_after, visit_number, visit_last, visit_next}
use Rattle.machine.specs.declared.answers.Refusal.{Refusal}
use Rattle.machine.specs.declared.answers.Counts.{Counts}

-- number * 2^48 + trapped * 2^24 + retired
abbrev pub packed : (number trapped retired : ℕ) → ℕ
packed number trapped retired = number * 2 ^ 48 + trapped * 2 ^ 24 + retired

-- of an answer
abbrev pub packed_answer : Result Counts Refusal → ℕ
packed_answer a = packed (run_number a) (run_trapped a) (run_retired a)

abbrev pub packed_step : Board → (revoked : List ℕ) → State → ℕ
packed_step board revoked s = packed (step_refusal board revoked s) (trapped_of board revoked s) (retired_of board revoked s)

abbrev pub packed_run : (n : ℕ) → Board → (revoked : List ℕ) → State → ℕ
packed_run n board revoked s = packed (refusal_of n board revoked s) (trapped_by n board revoked s) (retired_by n board revoked s)

-- what oddersnow_step promises: its answer, and all that was lent as it leaves it
pub record StepPacked (board : Board) (revoked : List ℕ) (before after : State) (answer : ℕ) : Type 0 where
  pub answer_is : answer ≡ packed_step board revoked before
  pub registers_are : after.regs ≡ (step_after board revoked before).regs
  pub memory_is : after.mem ≡ (step_after board revoked before).mem
  pub tags_are : after.tags ≡ (step_after board revoked before).tags

-- and oddersnow_run
pub record RunPacked (n : ℕ) (board : Board) (revoked : List ℕ) (before after : State) (answer : ℕ) : Type 0 where
  pub answer_is : answer ≡ packed_run n board revoked before
  pub registers_are : after.regs ≡ (run_after n board revoked before).regs
  pub memory_is : after.mem ≡ (run_after n board revoked before).mem
  pub tags_are : after.tags ≡ (run_after n board revoked before).tags

-- the board of plain numbers
abbrev pub board_of : (start windowStart windowSize edition : ℕ) → Board
board_of start windowStart windowSize edition = record { start = start; window = record { start = windowStart; size = windowSize }; edition = edition }

-- ---- the sweeper

-- number * 2^48 + last * 2^32 + next
abbrev pub packed_visit : Result (Option ℕ) Refusal → ℕ
packed_visit a = visit_number a * 2 ^ 48 + visit_last a * 2 ^ 32 + visit_next a

-- what oddersnow_sweep promises: its answer, and the tags as it leaves them; nothing else is lent to it for writing
pub record VisitPacked (board : Board) (revoked mem : List ℕ) (granule : ℕ) (before after : List ℕ) (answer : ℕ) : Type 0 where
  pub answer_is : answer ≡ packed_visit (visit_answer board revoked mem before granule)
  pub tags_are : after ≡ tags_after board revoked mem before granule
