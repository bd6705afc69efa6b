-- Every capability and word that an instruction of this family loads or stores, and every address that a trap reports, fits. Assumes nothing.
use Rattle.std.proofs.Common.{ℕ, not, List, arith}
use Rattle.words.specs.Words.{Bytes, le_bytes}
use Rattle.words.proofs.Word.{sign_extend_word}
use Rattle.words.proofs.Bytes.{le_bytes_lt}
use Rattle.capability.specs.Loading.{loaded_of}
use Rattle.capability.specs.declared.Capability.{Capability}
use Rattle.capability.proofs.Laws.{integer_good, loaded_good}
use Rattle.capability.specs.Capability.{Good}
use Rattle.capability.proofs.Fits.{keep_tag_good}
use Rattle.instructions.specs.Range.{Word}
use Rattle.instructions.specs.declared.LoadKind.{LoadKind}
use Rattle.instructions.specs.declared.LoadKind.TheVariants.{Lb, Lh, Lw, Lbu, Lhu}
use Rattle.instructions.specs.declared.StoreKind.{StoreKind}
use Rattle.instructions.specs.declared.MemoryInstruction.{MemoryInstruction}
use Rattle.instructions.specs.declared.MemoryInstruction.TheVariants as Instruction
use Rattle.state.specs.Registers.{register_at}
use Rattle.state.specs.Lent.{Lent}
use Rattle.state.specs.Memory.{capability_in}
use Rattle.state.specs.Fits.{FitsRegisters, FitsEffect}
use Rattle.state.specs.declared.Place.{Place}
use Rattle.state.specs.declared.Place.TheVariants.{At, Misaligned, Outside}
use Rattle.state.proofs.Fits.{checked_fits, register_fits, integer_fits, capability_in_fits}
use Rattle.memory_instructions.specs.Access.{loaded_value, load_at, load_effect, store_at, store_effect, revoked_value, filtered, load_capability_at}
use Rattle.memory_instructions.specs.Access.{load_capability_effect, store_capability_at, store_capability_effect, memory_effect}

pub loaded_word : (kind : LoadKind) (mem : List ℕ) (i : ℕ) → Bytes mem → Word (loaded_value kind mem i)
unfolding loaded_value
loaded_word Lb mem i b = sign_extend_word (le_bytes 1 mem i) 8 (omega (arith, le_bytes_lt 1 mem i b))
loaded_word Lh mem i b = sign_extend_word (le_bytes 2 mem i) 16 (omega (arith, le_bytes_lt 2 mem i b))
loaded_word Lw mem i b = le_bytes_lt 4 mem i b
loaded_word Lbu mem i b = omega (arith, le_bytes_lt 1 mem i b)
loaded_word Lhu mem i b = omega (arith, le_bytes_lt 2 mem i b)

-- what the load filter leaves of a good value is good
pub filtered_fits : (authority value : Capability) (m : Lent) → Good value → Good (filtered authority value m)
unfolding filtered
filtered_fits authority value m g =
    keep_tag_good (not (revoked_value m.board m.revoked (loaded_of authority value))) (loaded_of authority value)
    (loaded_good authority value g)

-- the address of an access is a word
module _ (address : ℕ) (a : Word address) where
  load_fits : (p : Place) (kind : LoadKind) (rd : ℕ) (mem : List ℕ) → Bytes mem → FitsEffect (load_at p kind rd address mem)
  unfolding load_at
  load_fits Misaligned kind rd mem b = (tt, (omega arith, a))
  load_fits Outside kind rd mem b = (tt, (omega arith, a))
  load_fits (At i) kind rd mem b = (integer_good _ (loaded_word kind mem i b), tt)

  load_capability_fits : (p : Place) (rd : ℕ) (authority : Capability) (m : Lent) → Bytes m.mem → FitsEffect (load_capability_at p rd address authority m)
  unfolding load_capability_at
  load_capability_fits Misaligned rd authority m b = (tt, (omega arith, a))
  load_capability_fits Outside rd authority m b = (tt, (omega arith, a))
  load_capability_fits (At i) rd authority m b =
      (filtered_fits authority (capability_in m.mem m.tags i) m (capability_in_fits m.mem m.tags i b), tt)

  store_fits : (p : Place) (kind : StoreKind) (value : ℕ) → Word value → FitsEffect (store_at p kind address value)
  unfolding store_at
  store_fits Misaligned kind value h = (tt, (omega arith, a))
  store_fits Outside kind value h = (tt, (omega arith, a))
  store_fits (At i) kind value h = (tt, h)

  store_capability_fits : (p : Place) (value : Capability) → Good value → FitsEffect (store_capability_at p address value)
  unfolding store_capability_at
  store_capability_fits Misaligned value g = (tt, (omega arith, a))
  store_capability_fits Outside value g = (tt, (omega arith, a))
  store_capability_fits (At i) value g = (g, tt)

-- whatever the offset: an address wraps
pub memory_fits : (i : MemoryInstruction) (regs : List ℕ) (m : Lent) → FitsRegisters regs → Bytes m.mem → FitsEffect (memory_effect i regs m)
unfolding memory_effect load_effect store_effect load_capability_effect store_capability_effect
memory_fits (Instruction.Load kind rd rs1 offset) regs m h b = checked_fits _ _ _ (load_fits _ (omega arith) _ kind rd m.mem b)
memory_fits (Instruction.Store kind rs1 rs2 offset) regs m h b = checked_fits _ _ _ (store_fits _ (omega arith) _ kind _ (integer_fits regs h rs2))
memory_fits (Instruction.LoadCapability rd rs1 offset) regs m h b = checked_fits _ _ _ (load_capability_fits _ (omega arith) _ rd _ m b)
memory_fits (Instruction.StoreCapability rs1 rs2 offset) regs m h b =
    checked_fits _ _ _ (store_capability_fits _ (omega arith) _ (register_at regs rs2) (register_fits regs h rs2))
