-- Views of an effect: what it stores, what it writes to the register file, and each capability and each word of both. What is said of all effects is said of
-- a view, once. Document 01, "What is lent"; CHERIoT report, 7.7. Assumes nothing.
use Rattle.std.specs.Prelude.{ℕ, ◌+◌, ◌*◌, ◌%◌, ◌<◌, ◌≤◌, List, slice_index}
use Rattle.capability.specs.Capability.{integer}
use Rattle.capability.specs.declared.Capability.{Capability}
use Rattle.instructions.specs.declared.Csr.{Csr}
use Rattle.instructions.specs.declared.Scr.{Scr}
use Rattle.state.specs.Layout.{capability_count, capability_words}
use Rattle.state.specs.Memory.{store_width, granule_bytes}
use Rattle.state.specs.declared.Effect.{Effect}
use Rattle.state.specs.declared.Effect.TheVariants.{Advance, Write, Store, StoreCapability, Jump, WriteScr, WriteCsr, Trap}

-- ---- what an effect stores

-- nothing; the low bytes of a word at a place; a capability at a place
pub data Stored : Type 0 where
  nothing : Stored
  bytes : (width place value : ℕ) → Stored
  whole : (place : ℕ) → Capability → Stored

abbrev pub stored_by : Effect → Stored
stored_by Advance = nothing
stored_by (Write rd value) = nothing
stored_by (Store kind i value) = bytes (store_width kind) i value
stored_by (StoreCapability i value) = whole i value
stored_by (Jump rd link target mstatus) = nothing
stored_by (WriteScr rd old scr value) = nothing
stored_by (WriteCsr rd old csr value) = nothing
stored_by (Trap cause value) = nothing

-- width bytes at place i, at least one, lie in a memory of size bytes, and in one granule of it
pub record OneGranule (i width size : ℕ) : Type 0 where
  pub some : 1 ≤ width
  pub inside : i + width ≤ size
  pub together : i % granule_bytes + width ≤ granule_bytes

-- a store does
abbrev pub Within : (size : ℕ) → Stored → Type 0
Within size nothing = Unit {0}
Within size (bytes width i value) = OneGranule i width size
Within size (whole i value) = OneGranule i granule_bytes size

abbrev pub StoresWithin : (size : ℕ) → Effect → Type 0
StoresWithin size e = Within size (stored_by e)

-- the effect stores nothing
abbrev pub Nothing : Stored → Type 0
Nothing nothing = Unit {0}
Nothing (bytes width i value) = ⊥
Nothing (whole i value) = ⊥

abbrev pub Storeless : Effect → Type 0
Storeless e = Nothing (stored_by e)

-- ---- what an effect writes to the register file

-- a capability to a general register, or none
pub data Result : Type 0 where
  none : Result
  given : (rd : ℕ) → Capability → Result

-- a special register, a CSR, or neither
pub data Beside : Type 0 where
  neither : Beside
  special : Scr → Capability → Beside
  control : Csr → ℕ → Beside

-- PCC: on by the instruction's length; where a jump goes, with mstatus; to a trap's entry, with all that a trap writes, of which mcause and mtval are its own
pub data Next : Type 0 where
  onward : Next
  jumps : (target : Capability) → (mstatus : ℕ) → Next
  enters : (cause value : ℕ) → Next

-- one after the other
pub record Writes : Type 0 where
  pub result : Result
  pub beside : Beside
  pub next : Next

abbrev pub writes : Result → Beside → Next → Writes
writes r b x = record { result = r; beside = b; next = x }

abbrev pub writes_of : Effect → Writes
writes_of Advance = writes none neither onward
writes_of (Write rd value) = writes (given rd value) neither onward
writes_of (Store kind i value) = writes none neither onward
writes_of (StoreCapability i value) = writes none neither onward
writes_of (Jump rd link target mstatus) = writes (given rd link) neither (jumps target mstatus)
writes_of (WriteScr rd old scr value) = writes (given rd old) (special scr value) onward
writes_of (WriteCsr rd old csr value) = writes (given rd (integer old)) (control csr value) onward
writes_of (Trap cause value) = writes none neither (enters cause value)

-- ---- each of what it writes

-- each capability that an effect writes, to a register or to memory, has a property
abbrev pub EachCapability : (Capability → Type 0) → Effect → Type 0
EachCapability P Advance = Unit {0}
EachCapability P (Write rd value) = P value
EachCapability P (Store kind i value) = Unit {0}
EachCapability P (StoreCapability i value) = P value
EachCapability P (Jump rd link target mstatus) = P link × P target
EachCapability P (WriteScr rd old scr value) = P old × P value
EachCapability P (WriteCsr rd old csr value) = Unit {0}
EachCapability P (Trap cause value) = Unit {0}

-- and each number
abbrev pub EachWord : (ℕ → Type 0) → Effect → Type 0
EachWord P Advance = Unit {0}
EachWord P (Write rd value) = Unit {0}
EachWord P (Store kind i value) = P value
EachWord P (StoreCapability i value) = Unit {0}
EachWord P (Jump rd link target mstatus) = P mstatus
EachWord P (WriteScr rd old scr value) = Unit {0}
EachWord P (WriteCsr rd old csr value) = P old × P value
EachWord P (Trap cause value) = P cause × P value

-- ---- tags

-- a tag of 0 or 1
abbrev pub GoodTag : Capability → Type 0
GoodTag c = c.tag ≤ 1

-- each capability of an effect has such a tag
abbrev pub GoodEffect : Effect → Type 0
GoodEffect e = EachCapability GoodTag e

-- each capability of the register file has such a tag
abbrev pub GoodTags : (regs : List ℕ) → Type 0
GoodTags regs = (i : ℕ) → i < capability_count → slice_index regs (i * capability_words + 2) ≤ 1
