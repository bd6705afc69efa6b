-- Places in the lent memory, capabilities in it, and revocation. Document 01, "What is lent", "Loading capabilities". Assumes nothing.
use Rattle.std.specs.Prelude.{ℕ, ◌+◌, ◌-◌, ◌/◌, ◌%◌, cond, ◌&&◌, List, ◌==◌, nat_le, nat_lt}
use Rattle.words.specs.Words.{le32, bit_at}
use Rattle.capability.specs.Capability.{capability}
use Rattle.capability.specs.declared.Capability.{Capability}
use Rattle.instructions.specs.declared.LoadKind.{LoadKind}
use Rattle.instructions.specs.declared.LoadKind.TheVariants.{Lb, Lh, Lw, Lbu, Lhu}
use Rattle.instructions.specs.declared.StoreKind.{StoreKind}
use Rattle.instructions.specs.declared.StoreKind.TheVariants.{Sb, Sh, Sw}
use Rattle.state.specs.declared.Board.{Board}
use Rattle.state.specs.declared.Place.{Place}
use Rattle.state.specs.declared.Place.TheVariants.{At, Misaligned, Outside}
use Rattle.state.specs.declared.Revocation.{Revocation}

-- how many bytes a load or a store touches
abbrev pub load_width : LoadKind → ℕ
load_width Lb = 1
load_width Lh = 2
load_width Lw = 4
load_width Lbu = 1
load_width Lhu = 2

abbrev pub store_width : StoreKind → ℕ
store_width Sb = 1
store_width Sh = 2
store_width Sw = 4

-- bytes of memory to a granule, which has one tag and one revocation bit
abbrev pub granule_bytes : ℕ
granule_bytes = 8

-- an access of width bytes at an address of a memory of size bytes from start: alignment, then access ("Traps")
unfoldable pub place_of : (start size address width : ℕ) → Place
place_of start size address width =
    cond (address % width == 0)
    (cond (nat_le start address && nat_le (address + width) (start + size)) (At (address - start)) Outside)
    Misaligned

-- the capability at a place: address, then metadata, little-endian, and the granule's tag
unfoldable pub capability_in : (mem tags : List ℕ) → (i : ℕ) → Capability
capability_in mem tags i = capability (le32 mem i) (le32 mem (i + 4)) (bit_at tags (i / granule_bytes))

-- the address of the window's first granule, which is granule 0 of the revocation bits (document 02, 5)
abbrev pub window_at : Board → ℕ
window_at board = board.start + board.window.start

abbrev pub mark_of : (bit : ℕ) → Revocation
mark_of bit = cond (bit == 1) Revocation.Marked Revocation.Clear

-- what the revocation bits say of the granule that holds an address; outside the window there is no bit
unfoldable pub revocation_at : Board → (revoked : List ℕ) → (address : ℕ) → Revocation
revocation_at board revoked address =
    cond (nat_le (window_at board) address && nat_lt address (window_at board + board.window.size))
    (mark_of (bit_at revoked ((address - window_at board) / granule_bytes)))
    Revocation.Outside
