-- The watch record over a run. Document 02, 14. Assumes nothing.
use Rattle.std.specs.Prelude.{Result, cond, List, ◌≡◌, ℕ, zero, suc, eqb}
use Rattle.watch.specs.declared.Watch.{Watch}
use Rattle.state.specs.Lent.{State}
use Rattle.state.specs.Effects.{stored_by}
use Rattle.state.specs.declared.Board.{Board}
use Rattle.commit.specs.Kept.{watch_after}
use Rattle.execution.specs.Step.{effect_at, step_of}
use Rattle.machine.specs.Refusals.{refusal_of}
use Rattle.machine.specs.Run.{RunPromise}
use Rattle.machine.specs.declared.answers.Refusal.{Refusal}
use Rattle.machine.specs.declared.answers.Counts.{Counts}

-- the record after the next step from a state
abbrev pub watch_step : Board → (revoked : List ℕ) → State → Watch → Watch
watch_step board revoked s w = watch_after board.start (stored_by (effect_at board revoked s)) w

-- after n single steps
unfoldable pub watched_by : (n : ℕ) → Board → (revoked : List ℕ) → State → Watch → Watch
watched_by zero board revoked s w = w
watched_by (suc n) board revoked s w = watched_by n board revoked (step_of board revoked s) (watch_step board revoked s w)

-- as a run leaves it: a refused one changes nothing of it
unfoldable pub watch_left : (n : ℕ) → Board → (revoked : List ℕ) → State → Watch → Watch
watch_left n board revoked s w = cond (eqb (refusal_of n board revoked s) 0) (watched_by n board revoked s w) w

-- what a run with a record promises: all that a run does, and the record
pub record WatchPromise (n : ℕ) (board : Board) (revoked : List ℕ) (before after : State) (lent left : Watch) (answer : Result Counts Refusal) : Type 0 where
  pub run_is : RunPromise n board revoked before after answer
  pub watch_is : left ≡ watch_left n board revoked before lent

-- the record of plain numbers
abbrev pub watch_of : (start1 length1 count1 start2 length2 count2 : ℕ) → Watch
watch_of start1 length1 count1 start2 length2 count2 =
    record { first = record { start = start1; length = length1; count = count1 }; second = record { start = start2; length = length2; count = count2 } }

-- what a run with ranges as numbers and lent counts promises: all that a run does, and both counts
pub record CountPromise (n : ℕ) (board : Board) (revoked : List ℕ) (before after : State) (lent : Watch) (count1 count2 : ℕ)
    (answer : Result Counts Refusal) : Type 0
  where
    pub run_is : RunPromise n board revoked before after answer
    pub first_is : count1 ≡ (watch_left n board revoked before lent).first.count
    pub second_is : count2 ≡ (watch_left n board revoked before lent).second.count

-- a record's ranges are those of another: a run moves its counts alone (law `ranges_stay`)
pub record SameRanges (lent left : Watch) : Type 0 where
  pub first_start : left.first.start ≡ lent.first.start
  pub first_length : left.first.length ≡ lent.first.length
  pub second_start : left.second.start ≡ lent.second.start
  pub second_length : left.second.length ≡ lent.second.length
