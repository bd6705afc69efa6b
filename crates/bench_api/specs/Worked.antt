-- A run of one step with a watch record, worked out: a store of one byte, into one range and beside the other. Document 02, 14. Assumes nothing.
use Rattle.std.specs.Prelude.{List, [], ◌∷◌, ℕ}
use Rattle.watch.specs.declared.Watch.{Watch}
use Rattle.capability.specs.Capability.{integer}
use Rattle.state.specs.Lent.{State}
use Rattle.state.specs.declared.Board.{Board}
use Rattle.machine.specs.Watching.{watch_of}
use Rattle.machine_laws.specs.Cases.{Case, execute, data_at, board_in, before}

-- SB c0, 8(c1) in a memory at 0x20000000, the first instruction there; c1 at memory's start, to load and store
unfoldable pub storing : Case
storing =
    record {
      start = 0x20000000;
      pcc = execute 0x20000000;
      c1 = data_at 0x20000000;
      mstatus = 0;
      given = [];
      held = integer 0;
      tags = 0;
      revoked = 0;
      instruction = 0x00008423;
      retired = 1;
      after = [];
      tags_after = 0;
    }

abbrev pub storing_board : Board
storing_board = board_in storing

abbrev pub storing_bits : List ℕ
storing_bits = storing.revoked ∷ []

abbrev pub storing_from : State
storing_from = before storing

-- the byte stored is the last of the first range, which has 5 stores so far, and lies before the second, which has 7
abbrev pub storing_watch : Watch
storing_watch = watch_of 0x20000000 9 5 0x20000009 4 7
