-- What a turn promises of a load or a store, by the places of its registers. Document 02, 14; CHERIoT report, 7.6 to 7.8. Assumes nothing.
use Rattle.std.specs.Prelude.{◌≡◌, ℕ, ◌+◌, ◌*◌, ◌%◌, ◌≤◌, Bool, false, not, ◌&&◌, List, length}
use Rattle.words.specs.Words.{wrap, set_bytes}
use Rattle.metadata.specs.Rights.{MC, SL, GL}
use Rattle.capability.specs.Capability.{grants, tagged}
use Rattle.capability.specs.declared.Capability.{Capability}
use Rattle.instructions.specs.declared.LoadKind.{LoadKind}
use Rattle.instructions.specs.declared.StoreKind.{StoreKind}
use Rattle.state.specs.Registers.{register_at, integer_at}
use Rattle.state.specs.Lent.{State, state, Lent}
use Rattle.state.specs.Memory.{store_width}
use Rattle.memory_instructions.specs.Access.{load_effect, store_effect, load_capability_effect, store_capability_effect, address_of}
use Rattle.quick.specs.Turns.{Stands, Took, Turned}

-- the place of a register's first word in the register file, and that it is one
abbrev pub place_of_register : (r : ℕ) → ℕ
place_of_register r = r % 16 * 3

abbrev pub Place : (at : ℕ) → Type 0
Place at = (at ≤ 45) × (at % 3 ≡ 0)

abbrev pub Aligned : (address width : ℕ) → Type 0
Aligned address width = address % width ≡ 0

-- the bytes of a store put in memory
abbrev pub stored_bytes : StoreKind → (mem : List ℕ) → (i value : ℕ) → List ℕ
stored_bytes kind mem i value = set_bytes (store_width kind) mem i value

-- an authority has the rights that a store of a value asks beside SD
pub record MayHold (authority value : Capability) : Type 0 where
  pub mutable : (tagged value && not (grants authority MC)) ≡ false
  pub kept_local : (tagged value && (not (grants value GL) && not (grants authority SL))) ≡ false

-- the turn of each instruction that has these places: of a load
pub record Loads (kind : LoadKind) (at from offset to start : ℕ) (mem before after : List ℕ) (t : Took) : Type 0 where
  pub turned : (rd rs1 m a bytes : ℕ) → Stands before m a bytes → to ≡ wrap (a + bytes) → at ≡ place_of_register rd → from ≡ place_of_register rs1
      → (tags : List ℕ)
      → Turned start bytes (load_effect kind rd rs1 (address_of before rs1 offset) (register_at before rs1) start mem) (state before mem tags)
      (state after mem tags) t

-- of a store
pub record Stores (kind : StoreKind) (from other offset to start : ℕ) (before after : State) (t : Took) : Type 0 where
  pub turned : (rs1 rs2 m a bytes : ℕ) → Stands before.regs m a bytes → to ≡ wrap (a + bytes) → from ≡ place_of_register rs1 → other ≡ place_of_register rs2
      → Turned start bytes
      (store_effect kind rs1 (address_of before.regs rs1 offset) (integer_at before.regs rs2) (register_at before.regs rs1) start
      (length before.mem)) before after t

-- of CLC
pub record LoadsCapability (at from offset to : ℕ) (l : Lent) (before after : List ℕ) (t : Took) : Type 0 where
  pub turned : (rd rs1 m a bytes : ℕ) → Stands before m a bytes → to ≡ wrap (a + bytes) → at ≡ place_of_register rd → from ≡ place_of_register rs1
      → Turned l.board.start bytes (load_capability_effect rd rs1 (address_of before rs1 offset) (register_at before rs1) l)
      (state before l.mem l.tags) (state after l.mem l.tags) t

-- of CSC
pub record StoresCapability (from other offset to start : ℕ) (before after : State) (t : Took) : Type 0 where
  pub turned : (rs1 rs2 m a bytes : ℕ) → Stands before.regs m a bytes → to ≡ wrap (a + bytes) → from ≡ place_of_register rs1 → other ≡ place_of_register rs2
      → Turned start bytes
      (store_capability_effect rs1 (address_of before.regs rs1 offset) (register_at before.regs rs2) (register_at before.regs rs1) start
      (length before.mem)) before after t
