-- A machine that uses its authority: its three instructions load a capability from memory, cut a piece out of it, and store the piece. Document 02, 9.
-- Assumes nothing.
use Rattle.std.specs.Prelude.{List, [], ◌∷◌, ℕ, ◌+◌, replicate}
use Rattle.words.specs.Words.{set32}
use Rattle.capability.specs.Capability.{capability}
use Rattle.capability.specs.declared.Capability.{Capability}
use Rattle.state.specs.Layout.{register_words, pcc_index, mtcc_index}
use Rattle.state.specs.Registers.{set_capability}
use Rattle.state.specs.Lent.{State, state, report_edition}
use Rattle.state.specs.declared.Board.{Board}

-- 64 bytes of memory from 0x20000000, nothing revoked
abbrev pub board : Board
board = record { start = 0x20000000; window = record { start = 0; size = 64 }; edition = report_edition }

abbrev pub revoked : List ℕ
revoked = 0 ∷ []

-- what is tagged at the start: PCC and c1, [0x20000000, 0x20000040), and in granule 1 [0x20000010, 0x20000020)
abbrev pub code : Capability
code = capability 0x20000010 0x5E008000 1

abbrev pub room : Capability
room = capability 0x20000000 0x7E008000 1

abbrev pub kept : Capability
kept = capability 0x20000018 0x7E004010 1

-- the piece of that, [0x20000018, 0x2000001C)
abbrev pub piece : Capability
piece = capability 0x20000018 0x7E003818 1

-- what is not tagged, and would be the whole space if it were: MTCC; a sealed value, in c4; and the bytes of granule 5
abbrev pub no_handler : Capability
no_handler = capability 0x20000020 0x5E3E0000 0

abbrev pub no_sealed : Capability
no_sealed = capability 0x20000000 0x7E7E0000 0

abbrev pub no_stored : Capability
no_stored = capability 0x20000000 0x7E3E0000 0

-- address, then metadata, at a place of memory
abbrev put : (mem : List ℕ) → (i : ℕ) → Capability → List ℕ
put mem i c = set32 (set32 mem i c.address) (i + 4) c.metadata

-- at PCC: CLC c2, 8(c1); CSetBoundsImm c3, c2, 4; CSC c3, 32(c1)
unfoldable pub worked : State
worked =
    state
    (set_capability (set_capability (set_capability (set_capability (replicate register_words 0) 1 room) 4 no_sealed) pcc_index code) mtcc_index no_handler)
    (set32 (set32 (set32 (put (put (replicate 64 0) 8 kept) 40 no_stored) 16 0x0080B103) 20 0x004121DB) 24 0x0230B023)
    (2 ∷ [])
