-- The turn of an operation, and what it leaves of what the next one asks. Document 02, 14. Assumes nothing.
use Rattle.std.specs.Prelude.{◌≡◌, ℕ, ◌+◌, ◌%◌, ◌^◌, Bool, true, false, List, length, slice_index, slice_index_or}
use Rattle.instructions.specs.declared.Instruction.{Instruction}
use Rattle.operations.specs.Means.{Means}
use Rattle.operations.specs.declared.Operation.{Operation}
use Rattle.state.specs.Registers.{mstatus_of}
use Rattle.state.specs.Timer.{time_of, compare_of}
use Rattle.state.specs.Lent.{State}
use Rattle.state.specs.declared.Board.{Board}
use Rattle.execution.specs.Step.{effect_of, seen}
use Rattle.quick.specs.Turns.{Stands, Took, is_done, Turned}

-- ---- what a turn that is done leaves of what the next one asks

-- PCC's word and tag, the status, compare and the file's length stay, and time goes one on
pub record Steady (before after : List ℕ) : Type 0 where
  pub word_stays : slice_index_or after 49 0 ≡ slice_index before 49
  pub tag_stays : slice_index_or after 50 0 ≡ slice_index before 50
  pub status_stays : mstatus_of after ≡ mstatus_of before
  pub compare_stays : compare_of after ≡ compare_of before
  pub time_goes : time_of after ≡ (time_of before + 1) % 2 ^ 64
  pub long_stays : length after ≡ length before

abbrev pub SteadyIf : Bool → (before after : List ℕ) → Type 0
SteadyIf true before after = Steady before after
SteadyIf false before after = Unit {0}

-- The turn of an operation: for every instruction that it stands for, where PCC stands at it, what is promised for the instruction's effect.
abbrev pub TurnedBy : Board → (revoked : List ℕ) → Operation → (bytes : ℕ) → (before after : State) → Took → Type 0
TurnedBy board revoked op n before after t =
    (x : Instruction) → (word m a : ℕ) → Means op x → Stands before.regs m a n
    → Turned board.start n (effect_of n x word before.regs (seen board revoked before)) before after t × SteadyIf (is_done t) before.regs after.regs
