-- Decoded code that is kept: what an entry is, what a store leaves of the entries, and how long no step needs more than its entry. Document 02, 14. Assumes
-- nothing.
use Rattle.std.specs.Prelude.{◌≡◌, ℕ, ◌+◌, ◌-◌, ◌*◌, ◌/◌, ◌%◌, ◌^◌, ◌<◌, ◌≤◌, Bool, true, false, cond, ◌&&◌, ◌⊎◌, List, length, ◌≢◌, nat_lt}
use Rattle.std.specs.Prelude.{slice_index, slice_index_or, slice_set, Option, None, Some, Ok}
use Rattle.words.specs.Words.{wrap, le_bytes}
use Rattle.metadata.specs.Rights.{bit}
use Rattle.metadata.specs.Rights.{EX}
use Rattle.short_forms.specs.Standing.{is_long, half_bytes, long_bytes}
use Rattle.state.specs.Checks.{access_cause, execute_cause, no_cause}
use Rattle.capability.specs.Capability.{move_of}
use Rattle.capability.specs.declared.Capability.{Capability}
use Rattle.quick.specs.declared.Found.{Found}
use Rattle.quick.specs.declared.Store.{Store}
use Rattle.instructions.specs.declared.Instruction.{Instruction}
use Rattle.operations.specs.Means.{Means, Placed}
use Rattle.operations.specs.declared.Operation.{Operation}
use Rattle.operations.specs.declared.Operation.TheVariants.{Plain}
use Rattle.state.specs.Registers.{mstatus_of}
use Rattle.state.specs.Status.{MIE}
use Rattle.state.specs.Timer.{time_of, compare_of}
use Rattle.fetch.specs.Fetch.{Met}
use Rattle.fetch.specs.declared.Fetched.TheVariants.{Long, Half}
use Rattle.execution.specs.Step.{instruction_in, length_in}
use Rattle.watch.specs.Watch.{touched_at}
use Rattle.watch.specs.declared.Watch.{Watch}
use Rattle.quick.specs.Turns.{pcc_at}

-- ---- entries

-- how many slots there are, and entries: each slot has two
abbrev pub slots : ℕ
slots = 1024

abbrev pub entries : ℕ
entries = 2048

-- the slot of an address, and that of an entry
abbrev pub slot_of : (a : ℕ) → ℕ
slot_of a = a / 2 % slots

abbrev pub slot_at : (j : ℕ) → ℕ
slot_at j = j % slots

-- PCC passes every check of a fetch of four bytes, which are in memory
pub record Open (start size : ℕ) (pcc : Capability) : Type 0 where
  pub is_tagged : pcc.tag ≡ 1
  pub is_even : pcc.address % 2 ≡ 0
  pub is_above : start ≤ pcc.address
  pub is_inside : pcc.address + 4 ≤ start + size
  pub allowed : access_cause pcc EX execute_cause pcc.address long_bytes ≡ no_cause

-- what stands at an address, whose four bytes are in memory
abbrev pub there_of : (start : ℕ) → (mem : List ℕ) → (a : ℕ) → Met
there_of start mem a =
    cond (is_long (le_bytes half_bytes mem (a - start))) (Ok (Long (le_bytes long_bytes mem (a - start)))) (Ok (Half (le_bytes half_bytes mem (a - start))))

-- What is known of an address: a fetch there through the word m passes every check, an instruction of some bytes stands there, and PCC is itself after it.
pub record Decoded (start : ℕ) (mem : List ℕ) (m a bytes : ℕ) (x : Instruction) : Type 0 where
  pub word_fits : m < 2 ^ 32
  pub address_fits : a < 2 ^ 32
  pub is_open : Open start (length mem) (pcc_at m a)
  pub length_is : length_in (there_of start mem a) ≡ bytes
  pub reads : instruction_in (there_of start mem a) ≡ x
  pub goes_on : move_of (pcc_at m a) (wrap (a + bytes)) ≡ pcc_at m (wrap (a + bytes))

-- the key of a word and an address
abbrev pub key_of : (m a : ℕ) → ℕ
key_of m a = m * 2 ^ 32 + a

-- what entry j says: its key's address has its slot, lies in the hull from low to high, counted from memory's start, and holds what the operation means
pub record Entry (start : ℕ) (mem : List ℕ) (low high j key bytes : ℕ) (op : Operation) : Type 0 where
  pub word : ℕ
  pub address : ℕ
  pub instruction : Instruction
  pub key_is : key ≡ key_of word address
  pub slot_is : slot_of address ≡ slot_at j
  pub in_hull : (low ≤ address - start) × (address - start + 4 ≤ high)
  pub decoded : Decoded start mem word address bytes instruction
  pub means : Means op instruction
  pub placed : Placed op

-- each entry that has a key is one
abbrev pub absent : Found
absent = record { bytes = 0; op = Plain }

abbrev pub Entries : (start : ℕ) → (mem : List ℕ) → (low high : ℕ) → (keys : List ℕ) → (code : List Found) → Type 0
Entries start mem low high keys code =
    (j : ℕ) → j < entries → (slice_index keys j ≢ 0)
    → Entry start mem low high j (slice_index keys j) (slice_index_or code j absent).bytes (slice_index_or code j absent).op

-- the entry that a step stands at for a key, where there is one
abbrev pub ReadyAt : Option ℕ → (k limit : ℕ) → (keys : List ℕ) → (key : ℕ) → Type 0
ReadyAt None k limit keys key = Unit {0}
ReadyAt (Some i) k limit keys key = (i < entries) × (k < limit) × (slice_index keys i ≡ key)

-- ---- how one is made

abbrev pub OpenIf : Bool → (start size : ℕ) → Capability → Type 0
OpenIf b start size pcc = b ≡ true → Open start size pcc

-- what is found, where anything is: an instruction of some bytes, after which PCC is itself
pub record FoundOf (pcc : Capability) (bytes : ℕ) (x : Instruction) (f : Found) : Type 0 where
  pub bytes_are : f.bytes ≡ bytes
  pub is_itself : (move_of pcc (wrap (pcc.address + bytes))).tag ≡ 1
  pub op_means : Means f.op x
  pub op_placed : Placed f.op

abbrev pub FoundAs : (pcc : Capability) → (bytes : ℕ) → Instruction → Option Found → Type 0
FoundAs pcc bytes x None = Unit {0}
FoundAs pcc bytes x (Some f) = FoundOf pcc bytes x f

pub record FoundAt (start : ℕ) (mem : List ℕ) (pcc : Capability) (f : Found) : Type 0 where
  pub is_tagged : pcc.tag ≡ 1
  pub stands_there : Instruction
  pub is_decoded : Decoded start mem pcc.metadata pcc.address f.bytes stands_there
  pub op_means : Means f.op stands_there
  pub op_placed : Placed f.op

abbrev pub FoundIf : (start : ℕ) → (mem : List ℕ) → (pcc : Capability) → Option Found → Type 0
FoundIf start mem pcc None = Unit {0}
FoundIf start mem pcc (Some f) = pcc.metadata < 2 ^ 32 → pcc.address < 2 ^ 32 → FoundAt start mem pcc f

-- anything is found only where nothing was looked up just now
abbrev pub FirstLook : (missed : Bool) → Option Found → Type 0
FirstLook missed None = Unit {0}
FirstLook missed (Some f) = missed ≡ false

-- ---- what a store leaves of them

-- no entry at the slot of a half's number
abbrev pub cleared_slot : (half : ℕ) → (keys : List ℕ) → List ℕ
cleared_slot half keys = slice_set (slice_set keys (half % slots) 0) (half % slots + slots) 0

-- nor at the five slots around an address
abbrev pub cleared_near : (address : ℕ) → (keys : List ℕ) → List ℕ
cleared_near address keys =
    let first = address / 2 + slots - 1 in
    cleared_slot (first + 4) (cleared_slot (first + 3) (cleared_slot (first + 2) (cleared_slot (first + 1) (cleared_slot first keys))))

-- width bytes at a place touch the hull
abbrev pub touches_hull : (low high at width : ℕ) → Bool
touches_hull low high at width = nat_lt low (at + width) && nat_lt at high

abbrev pub forgotten : (low high start : ℕ) → Option Store → (keys : List ℕ) → List ℕ
forgotten low high start None keys = keys
forgotten low high start (Some s) keys = cond (touches_hull low high s.at s.width) (cleared_near (start + s.at) keys) keys

-- no entry, unless nothing was stored
abbrev pub ClearedUnless : (nothing : Bool) → (before after : List ℕ) → Type 0
ClearedUnless true before after = after ≡ before
ClearedUnless false before after = (j : ℕ) → j < entries → slice_index after j ≡ 0

-- ---- how long PCC's word and tag stay and no interrupt is due

-- for some steps to come: MIE is 0, or time is that far below compare
abbrev pub Quiet : (left : ℕ) → (regs : List ℕ) → Type 0
Quiet left regs = (left ≡ 0) ⊎ ((bit (mstatus_of regs) MIE ≡ 0) ⊎ (time_of regs + left ≤ compare_of regs))

-- Where steps are left, PCC's tag is set, its word is not 0, so that its key is none that was cleared, and no interrupt is due in them. In no step at all
-- nothing is asked, so a time past compare has no steps left.
abbrev pub QuietUntil : (k limit : ℕ) → (regs : List ℕ) → Type 0
QuietUntil k limit regs = k < limit → (slice_index regs 50 ≡ 1) × (slice_index regs 49 ≢ 0) × Quiet (limit - k) regs

-- and the key's word is PCC's
abbrev pub Calm : (base k limit : ℕ) → (regs : List ℕ) → Type 0
Calm base k limit regs = (base ≡ slice_index regs 49 * 2 ^ 32) × QuietUntil k limit regs

-- ---- the record after a turn that is done

abbrev pub noted_at : Watch → (start : ℕ) → Option Store → Watch
noted_at w start None = w
noted_at w start (Some s) = touched_at w ((start + s.at) % 2 ^ 32) s.width
