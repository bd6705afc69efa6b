-- A run with a watch record for C: the ranges as plain numbers, the counts lent. Document 02, 14. Assumes nothing.
use Rattle.std.specs.Prelude.{List, ◌≡◌, ℕ}
use Rattle.watch.specs.declared.Watch.{Watch}
use Rattle.state.specs.Lent.{State}
use Rattle.state.specs.declared.Board.{Board}
use Rattle.machine.specs.Watching.{watch_left}
use Rattle.bench_api.specs.Packing.{RunPacked}

-- what a run with a record promises: all that oddersnow_run does, and both counts as it leaves them
pub record WatchPacked (n : ℕ) (board : Board) (revoked : List ℕ) (before after : State) (lent : Watch) (count1 count2 answer : ℕ) : Type 0 where
  pub run_is : RunPacked n board revoked before after answer
  pub first_is : count1 ≡ (watch_left n board revoked before lent).first.count
  pub second_is : count2 ≡ (watch_left n board revoked before lent).second.count
