-- Bytes of memory and of the tags stay bytes over a step. Assumes nothing.
use mathlib.Core.List.{List}
use Prim.Native.Nat.{ℕ}
use Rattle.words.specs.Words.{Bytes}
use Rattle.state.specs.Lent.{State}
use Rattle.state.specs.Effects.{stored_by}
use Rattle.state.specs.declared.Board.{Board}
use Rattle.commit.specs.Commit.{apply_effect}
use Rattle.commit.proofs.Bytes.{memory_bytes, tag_bytes}
use Rattle.execution.specs.Step.{effect_at, step_of}

pub bytes_stay : (board : Board) (revoked : List ℕ) (s : State) → Bytes s.mem → Bytes s.tags
    → Bytes (step_of board revoked s).mem × Bytes (step_of board revoked s).tags
unfolding step_of apply_effect
bytes_stay board revoked s h k =
    let x = stored_by (effect_at board revoked s) in
    (memory_bytes x s.mem h, tag_bytes x s.mem s.tags k)
