-- Two machines with other bytes and tags in hidden granules: they load what they may, store to a hidden granule, and try to load from it. Assumes nothing.
use Rattle.std.specs.Prelude.{Bool, [], ◌∷◌, ℕ, replicate}
use Rattle.words.specs.Words.{set32, put_bit}
use Rattle.capability.specs.Capability.{capability}
use Rattle.capability.specs.declared.Capability.{Capability}
use Rattle.state.specs.Layout.{register_words, pcc_index}
use Rattle.state.specs.Registers.{set_capability}
use Rattle.state.specs.Lent.{State, state}
use Rattle.reach.specs.Reach.{query_of}
use Rattle.reach.specs.Outside.{in_range}

-- memory is from 0x20000000 to 0x20000040, and its second half, granules 4 to 7, is hidden
abbrev pub hidden : ℕ → Bool
hidden = in_range 0x20000000 (query_of 0x20000020 0x20 0)

-- PCC may execute and load in the first half; c1 may load and store in [0x20000010, 0x20000020)
abbrev program : Capability
program = capability 0x20000000 0x5E004000 1

abbrev shown : Capability
shown = capability 0x20000010 0x7E004010 1

-- c3 may store in the second half, and not load
abbrev dropbox : Capability
dropbox = capability 0x20000020 0x62008020 1

-- as c1, at its last granule: eight bytes on is the second half
abbrev edge : Capability
edge = capability 0x20000018 0x7E004010 1

-- all of memory, to load and store: in hidden granule 4, tagged
abbrev all : Capability
all = capability 0x20000030 0x7E008000 1

-- at PCC: LW c2, 0(c1); SW c2, 8(c3); CLC c4, 0(c3)
abbrev with : (c1 c3 : Capability) → State
with c1 c3 =
    state (set_capability (set_capability (set_capability (replicate register_words 0) 1 c1) 3 c3) pcc_index program)
    (set32 (set32 (set32 (set32 (set32 (set32 (replicate 64 0) 0 0x0000A103) 4 0x0021A423) 8 0x0001B203) 16 42) 32 all.address) 36 all.metadata)
    (16 ∷ [])

-- the same with another word in granule 6 and no tag in granule 4
abbrev changed : State → State
changed s = state s.regs (set32 s.mem 48 7) (put_bit s.tags 4 0)

unfoldable pub one : State
one = with shown dropbox

unfoldable pub other : State
other = changed (with shown dropbox)

-- both with c1 for all of memory: it may load from granule 6
unfoldable pub one_open : State
one_open = with all dropbox

unfoldable pub other_open : State
other_open = changed (with all dropbox)

-- c3 may neither load nor store in the second half, though the program tries: what stands there alone has authority over it
unfoldable pub alone : State
alone = with shown edge
