-- A step is its turn applied: what the loop over steps knows of its two calls is what `step_of` says. Assumes nothing.
use mathlib.Core.List.{List}
use mathlib.Core.Path.{◌≡◌, ap, ◌∙◌}
use Prim.Native.Nat.{ℕ}
use Rattle.state.specs.Lent.{State}
use Rattle.state.specs.declared.Board.{Board}
use Rattle.commit.specs.Commit.{apply_effect}
use Rattle.commit.specs.Kept.{kept_after}
use Rattle.commit.specs.declared.Kept.{Kept}
use Rattle.execution.specs.Step.{effect_at, turn_of, step_of}
use Rattle.execution.specs.declared.Turn.{Turn}

module _ (board : Board) (revoked : List ℕ) (s : State) (t : Turn) (turned : t ≡ turn_of board revoked s) where
  pub turn_keeps : (kept left : Kept) → left ≡ kept_after board.start t.effect kept → left ≡ kept_after board.start (effect_at board revoked s) kept
  turn_keeps kept left h = h ∙ ap (λ x. kept_after board.start x.effect kept) turned

  pub turn_leaves : (after : State) → after ≡ apply_effect board.start t.bytes t.effect s → after ≡ step_of board revoked s
  unfolding step_of
  turn_leaves after h = h ∙ ap (λ x. apply_effect board.start x.bytes x.effect s) turned
