-- Bounds on both sides of sound, and a start whose first instruction loads a value that is not. Document 02, 13. Assumes nothing.
use Rattle.std.specs.Prelude.{Bool, true, cond, ◌&&◌, List, [], ◌∷◌, ℕ, eqb, replicate}
use Rattle.words.specs.Words.{set32}
use Rattle.capability.specs.Capability.{capability, low, high}
use Rattle.capability.specs.declared.Capability.{Capability}
use Rattle.state.specs.Layout.{register_words, capability_count, pcc_index}
use Rattle.state.specs.Registers.{set_capability}
use Rattle.state.specs.Lent.{State, state, report_edition}
use Rattle.state.specs.declared.Board.{Board}
use Rattle.machine.specs.Refusals.{good_bounds}

-- ---- a register file with one capability in it

-- its place, the capability with its bounds, and whether such a register file is refused, 8, or not, 0
pub record One : Type 0 where
  pub place : ℕ
  pub value : Capability
  pub low : ℕ
  pub high : ℕ
  pub number : ℕ

abbrev number_of : One → ℕ
number_of c = cond (good_bounds capability_count (set_capability (replicate register_words 0) c.place c.value) 0) 0 8

unfoldable pub told : List One → Bool
told [] = true
told (c ∷ cs) = (eqb (low c.value) c.low && (eqb (high c.value) c.high && eqb (number_of c) c.number)) && told cs

abbrev one : (place address metadata tag low high number : ℕ) → One
one place address metadata tag low high number =
    record { place = place; value = capability address metadata tag; low = low; high = high; number = number }

unfoldable pub ones : List One
ones =
    -- the whole space, and its last byte
    one 1 0 0x7E3E0000 1 0 0x100000000 0
    ∷ one 1 0xFFFFFFFF 0x7E0001FF 1 0xFFFFFFFF 0x100000000 0
    -- an end one past the space
    ∷ one 1 0xFFFFFFFF 0x7E0003FF 1 0xFFFFFFFF 0x100000001 8
    -- an empty region; low above high by the least that the encoding has
    ∷ one 1 0x05000000 0x7E3C0A05 1 0x05000000 0x05000000 0
    ∷ one 1 0x05000000 0x7E3C0805 1 0x05000000 0x04000000 8
    -- by nearly the whole space; and high far past its end: the base of a region around address 0 wraps
    ∷ one 1 0 0x7E000808 1 0xFFFFFE08 0x4 8
    ∷ one 1 0 0x7E002008 1 0xFFFFFE08 0x1FFFFFE10 8
    -- the same bounds untagged; sealed; in the last general register, PCC and the last special one
    ∷ one 1 0 0x7E000808 0 0xFFFFFE08 0x4 0
    ∷ one 1 0 0x7E400808 1 0xFFFFFE08 0x4 8
    ∷ one 15 0 0x7E000808 1 0xFFFFFE08 0x4 8
    ∷ one 16 0 0x7E000808 1 0xFFFFFE08 0x4 8
    ∷ one 20 0 0x7E000808 1 0xFFFFFE08 0x4 8
    ∷ []

-- ---- a run that loads one

-- 64 bytes of memory from 0x20000000, nothing revoked
abbrev pub board : Board
board = record { start = 0x20000000; window = record { start = 0; size = 64 }; edition = report_edition }

abbrev pub revoked : List ℕ
revoked = 0 ∷ []

-- PCC and c1 are for all of memory; granule 1 holds a tagged value with low above high
abbrev code : Capability
code = capability 0x20000010 0x5E008000 1

abbrev room : Capability
room = capability 0x20000000 0x7E008000 1

abbrev pub stored : Capability
stored = capability 0 0x7E000808 1

-- at PCC: CLC c2, 8(c1); ADDI x3, x0, 5
unfoldable pub loader : State
loader =
    state
    (set_capability (set_capability (replicate register_words 0) 1 room) pcc_index code)
    (set32 (set32 (set32 (set32 (replicate 64 0) 8 stored.address) 12 stored.metadata) 16 0x0080B103) 20 0x00500193)
    (2 ∷ [])
