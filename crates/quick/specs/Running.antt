-- What the loop of the second engine keeps: the steps that are left make of the buffers, counts and record what all n make of the start; each entry is what
-- memory says; and what is remembered of reach and of quiet is so. Document 02, 14. Assumes nothing.
use Rattle.std.specs.Prelude.{◌≡◌, ℕ, ◌-◌, ◌≤◌, List, length}
use Rattle.watch.specs.declared.Watch.{Watch}
use Rattle.quick.specs.declared.Found.{Found}
use Rattle.state.specs.Layout.{register_words}
use Rattle.state.specs.Lent.{State}
use Rattle.state.specs.declared.Board.{Board}
use Rattle.machine.specs.Run.{ran, iterate}
use Rattle.machine.specs.Watching.{watched_by}
use Rattle.quick.specs.Rows.{Good}
use Rattle.quick.specs.Entries.{entries, Entries, Calm}

pub record Running (board : Board) (revoked : List ℕ) (n : ℕ) (s₀ : State) (w₀ : Watch) (s : State) (code : List Found) (keys rows : List ℕ)
    (low high base limit : ℕ) (watch : Watch) (trapped k : ℕ) : Type 0 where
  pub in_run : k ≤ n
  pub few_trapped : trapped ≤ k
  pub whole_file : length s.regs ≡ register_words
  pub code_long : length code ≡ entries
  pub entries_hold : Entries board.start s.mem low high keys code
  pub reach_holds : Good board.start (length s.mem) rows
  pub calm_holds : Calm base k limit s.regs
  pub runs : iterate (n - k) board revoked (ran s (k - trapped) trapped) ≡ iterate n board revoked (ran s₀ 0 0)
  pub watches : watched_by (n - k) board revoked s watch ≡ watched_by n board revoked s₀ w₀
