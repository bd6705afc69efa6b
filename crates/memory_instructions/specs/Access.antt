-- Loads and stores. CHERIoT report, 7.6, 7.7, 7.8 and 9.4 (CLC, CSC); document 01, "Loading capabilities" and "Traps". Assumes nothing.
use Rattle.std.specs.Prelude.{◌≡◌, ℕ, ◌+◌, Bool, false, not, ◌&&◌, List, length}
use Rattle.words.specs.Words.{wrap, sign_extend, le_bytes}
use Rattle.metadata.specs.Rights.{LD, SD, MC, SL, GL}
use Rattle.capability.specs.Capability.{integer, keep_tag_if, low, grants, sealed, tagged}
use Rattle.capability.specs.Loading.{loaded_of, revocable}
use Rattle.capability.specs.declared.Capability.{Capability}
use Rattle.instructions.specs.declared.LoadKind.{LoadKind}
use Rattle.instructions.specs.declared.LoadKind.TheVariants.{Lb, Lh, Lw, Lbu, Lhu}
use Rattle.instructions.specs.declared.StoreKind.{StoreKind}
use Rattle.instructions.specs.declared.MemoryInstruction.{MemoryInstruction}
use Rattle.instructions.specs.declared.MemoryInstruction.TheVariants as Instruction
use Rattle.state.specs.Registers.{register_at, integer_at}
use Rattle.state.specs.Lent.{Lent}
use Rattle.state.specs.Memory.{load_width, store_width, place_of, capability_in, revocation_at, granule_bytes}
use Rattle.state.specs.Checks.{checked, fail_if, access_cause, in_bounds, no_cause, tag_cause, seal_cause, bounds_cause, load_cause, store_cause}
use Rattle.state.specs.Checks.{store_capability_cause}
use Rattle.state.specs.Checks.{store_local_cause}
use Rattle.state.specs.Checks.{load_misaligned, load_fault, store_misaligned, store_fault}
use Rattle.state.specs.declared.Board.{Board}
use Rattle.state.specs.declared.Place.{Place}
use Rattle.state.specs.declared.Place.TheVariants.{At, Misaligned, Outside}
use Rattle.state.specs.declared.Revocation.{Revocation}
use Rattle.state.specs.declared.Effect.{Effect}
use Rattle.state.specs.declared.Effect.TheVariants.{Write, Store, StoreCapability, Trap}

-- the bytes read, sign-extended or not
unfoldable pub loaded_value : LoadKind → (mem : List ℕ) → (i : ℕ) → ℕ
loaded_value Lb mem i = sign_extend (le_bytes 1 mem i) 8
loaded_value Lh mem i = sign_extend (le_bytes 2 mem i) 16
loaded_value Lw mem i = le_bytes 4 mem i
loaded_value Lbu mem i = le_bytes 1 mem i
loaded_value Lhu mem i = le_bytes 2 mem i

-- a place that is none traps with the address (document 01, "Traps"); elsewhere the access is made
abbrev pub DoneAt : Place → (misaligned fault address : ℕ) → (access : ℕ → Effect → Type 0) → Effect → Type 0
DoneAt Misaligned misaligned fault address access e = e ≡ Trap misaligned address
DoneAt Outside misaligned fault address access e = e ≡ Trap fault address
DoneAt (At i) misaligned fault address access e = access i e

unfoldable pub load_at : Place → LoadKind → (rd address : ℕ) → (mem : List ℕ) → Effect
load_at Misaligned kind rd address mem = Trap load_misaligned address
load_at Outside kind rd address mem = Trap load_fault address
load_at (At i) kind rd address mem = Write rd (integer (loaded_value kind mem i))

unfoldable pub load_effect : LoadKind → (rd rs1 address : ℕ) → (authority : Capability) → (start : ℕ) → (mem : List ℕ) → Effect
load_effect kind rd rs1 address authority start mem =
    checked rs1 (access_cause authority LD load_cause address (load_width kind))
    (load_at (place_of start (length mem) address (load_width kind)) kind rd address mem)

unfoldable pub store_at : Place → StoreKind → (address value : ℕ) → Effect
store_at Misaligned kind address value = Trap store_misaligned address
store_at Outside kind address value = Trap store_fault address
store_at (At i) kind address value = Store kind i value

unfoldable pub store_effect : StoreKind → (rs1 address value : ℕ) → (authority : Capability) → (start size : ℕ) → Effect
store_effect kind rs1 address value authority start size =
    checked rs1 (access_cause authority SD store_cause address (store_width kind))
    (store_at (place_of start size address (store_width kind)) kind address value)

-- the revocation test by what the bits say of a value's low bound: outside the window counts as clear (document 02, 5)
abbrev pub revoked_by : Revocation → Capability → Bool
revoked_by Revocation.Outside v = false
revoked_by Revocation.Clear v = false
revoked_by Revocation.Marked v = revocable v

-- the revocation test
unfoldable pub revoked_value : Board → (revoked : List ℕ) → Capability → Bool
revoked_value board revoked v = revoked_by (revocation_at board revoked (low v)) v

-- the load filter: the losses of the authority's missing rights, then revocation
unfoldable pub filtered : (authority value : Capability) → Lent → Capability
filtered authority value m =
    keep_tag_if (not (revoked_value m.board m.revoked (loaded_of authority value))) (loaded_of authority value)

-- CLC: the checks of a load, then the filter
unfoldable pub load_capability_at : Place → (rd address : ℕ) → (authority : Capability) → Lent → Effect
load_capability_at Misaligned rd address authority m = Trap load_misaligned address
load_capability_at Outside rd address authority m = Trap load_fault address
load_capability_at (At i) rd address authority m = Write rd (filtered authority (capability_in m.mem m.tags i) m)

unfoldable pub load_capability_effect : (rd rs1 address : ℕ) → (authority : Capability) → Lent → Effect
load_capability_effect rd rs1 address authority m =
    checked rs1 (access_cause authority LD load_cause address granule_bytes)
    (load_capability_at (place_of m.board.start (length m.mem) address granule_bytes) rd address authority m)

-- CSC: tag, seal, SD, then MC for a tagged value, SL for a tagged value that is not global, then bounds
unfoldable pub store_capability_check : (authority value : Capability) → (address : ℕ) → ℕ
store_capability_check authority value address =
    fail_if (not (tagged authority)) tag_cause
    (fail_if (sealed authority) seal_cause
    (fail_if (not (grants authority SD)) store_cause
    (fail_if (tagged value && not (grants authority MC)) store_capability_cause
    (fail_if (tagged value && (not (grants value GL) && not (grants authority SL))) store_local_cause
    (fail_if (not (in_bounds authority address granule_bytes)) bounds_cause
    no_cause)))))

unfoldable pub store_capability_at : Place → (address : ℕ) → (value : Capability) → Effect
store_capability_at Misaligned address value = Trap store_misaligned address
store_capability_at Outside address value = Trap store_fault address
store_capability_at (At i) address value = StoreCapability i value

unfoldable pub store_capability_effect : (rs1 address : ℕ) → (value authority : Capability) → (start size : ℕ) → Effect
store_capability_effect rs1 address value authority start size =
    checked rs1 (store_capability_check authority value address)
    (store_capability_at (place_of start size address granule_bytes) address value)

-- the address of an access: the sum wraps
abbrev pub address_of : (regs : List ℕ) → (rs1 offset : ℕ) → ℕ
address_of regs rs1 offset = wrap (integer_at regs rs1 + offset)

unfoldable pub memory_effect : MemoryInstruction → (regs : List ℕ) → Lent → Effect
memory_effect (Instruction.Load kind rd rs1 offset) regs m =
    load_effect kind rd rs1 (address_of regs rs1 offset) (register_at regs rs1) m.board.start m.mem
memory_effect (Instruction.Store kind rs1 rs2 offset) regs m =
    store_effect kind rs1 (address_of regs rs1 offset) (integer_at regs rs2) (register_at regs rs1) m.board.start (length m.mem)
memory_effect (Instruction.LoadCapability rd rs1 offset) regs m = load_capability_effect rd rs1 (address_of regs rs1 offset) (register_at regs rs1) m
memory_effect (Instruction.StoreCapability rs1 rs2 offset) regs m =
    store_capability_effect rs1 (address_of regs rs1 offset) (register_at regs rs2) (register_at regs rs1) m.board.start (length m.mem)
