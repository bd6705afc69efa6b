-- The window of the revocation bits beside document 01's lookup, whose bits are for all of memory; and lookups at its edges. Document 02, 5; document 01,
-- "What is lent" and "Loading capabilities". Assumes nothing.
use Rattle.std.specs.Prelude.{Bool, true, false, cond, ◌&&◌, List, [], ◌∷◌, ◌≡◌, ℕ, ◌+◌, ◌-◌, ◌/◌, eqb, leb, ltb, length}
use Rattle.words.specs.Words.{bit_at}
use Rattle.state.specs.Lent.{State, report_edition}
use Rattle.state.specs.Memory.{granule_bytes, revocation_at}
use Rattle.state.specs.declared.Board.{Board}
use Rattle.state.specs.declared.Revocation.{Revocation}
use Rattle.state.specs.declared.Revocation.TheVariants.{Outside, Clear, Marked}
use Rattle.machine.specs.Refusals.{block_bytes}

-- the window is all of memory
pub record WholeWindow (board : Board) (size : ℕ) : Type 0 where
  pub from_start : board.window.start ≡ 0
  pub to_end : board.window.size ≡ size

-- document 01's lookup: the bit of the granule that holds an address is set; outside memory there is none
abbrev pub revoked_in_memory : (start size : ℕ) → (revoked : List ℕ) → (address : ℕ) → Bool
revoked_in_memory start size revoked address =
    cond (leb start address && ltb address (start + size)) (eqb (bit_at revoked ((address - start) / granule_bytes)) 1) false

-- document 01's lengths: both buffers have a bit for each granule of memory
abbrev pub bits_for_memory : (revoked : List ℕ) → State → Bool
bits_for_memory revoked s = eqb (length s.tags) (length s.mem / block_bytes) && eqb (length revoked) (length s.mem / block_bytes)

-- ---- worked lookups

pub record Lookup : Type 0 where
  pub board : Board
  pub revoked : List ℕ
  pub address : ℕ
  pub says : Revocation

abbrev number : Revocation → ℕ
number Outside = 0
number Clear = 1
number Marked = 2

unfoldable pub told : List Lookup → Bool
told [] = true
told (l ∷ ls) = eqb (number (revocation_at l.board l.revoked l.address)) (number l.says) && told ls

-- memory from a start, and its window
abbrev windowed : (start windowStart windowSize : ℕ) → Board
windowed start windowStart windowSize =
    record { start = start; window = record { start = windowStart; size = windowSize }; edition = report_edition }

-- in [0x20000040, 0x200000C0) the first and the last granule are marked
abbrev heap : (address : ℕ) → Revocation → Lookup
heap address says = record { board = windowed 0x20000000 0x40 0x80; revoked = 0x01 ∷ 0x80 ∷ []; address = address; says = says }

-- an empty window after 256 bytes
abbrev empty : (address : ℕ) → Lookup
empty address = record { board = windowed 0x20000000 0x100 0; revoked = []; address = address; says = Outside }

-- the last 64 bytes of the address space, of 1 MiB; the last granule is marked
abbrev last : (address : ℕ) → Revocation → Lookup
last address says = record { board = windowed 0xFFF00000 0xFFFC0 0x40; revoked = 0x80 ∷ []; address = address; says = says }

unfoldable pub lookups : List Lookup
lookups =
    -- its first and last bytes, and those before and after
    heap 0x2000003F Outside
    ∷ heap 0x20000040 Marked
    ∷ heap 0x200000BF Marked
    ∷ heap 0x200000C0 Outside
    -- the granules inside
    ∷ heap 0x20000047 Marked
    ∷ heap 0x20000048 Clear
    ∷ heap 0x200000B7 Clear
    ∷ heap 0x200000B8 Marked
    -- memory's first byte, below memory, and the ends of the address space
    ∷ heap 0x20000000 Outside
    ∷ heap 0x1FFFFFFF Outside
    ∷ heap 0x00000000 Outside
    ∷ heap 0xFFFFFFFF Outside
    ∷ empty 0x200000FF
    ∷ empty 0x20000100
    ∷ last 0xFFFFFFBF Outside
    ∷ last 0xFFFFFFC0 Clear
    ∷ last 0xFFFFFFFF Marked
    ∷ []
