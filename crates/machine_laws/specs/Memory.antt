-- Where a tag can come from. Document 01, "What is lent"; CHERIoT report, 7.7 and 9.4 (CSC). Assumes nothing.
use Rattle.std.specs.Prelude.{List, ◌≡◌, ℕ, ◌/◌}
use Rattle.capability.specs.declared.Capability.{Capability}
use Rattle.instructions.specs.Decode.{decode_of}
use Rattle.instructions.specs.declared.Instruction.TheVariants as Decoded
use Rattle.instructions.specs.declared.MemoryInstruction.TheVariants as Access
use Rattle.state.specs.Registers.{register_at}
use Rattle.state.specs.Memory.{granule_bytes}
use Rattle.state.specs.Effects.{whole, stored_by}
use Rattle.state.specs.declared.Board.{Board}
use Rattle.state.specs.Lent.{State}
use Rattle.execution.specs.Step.{effect_at}
use Rattle.machine_laws.specs.Steps.{word_at}

-- a capability is what a CSC instruction's register rs2 holds
pub record FromRegister (word : ℕ) (regs : List ℕ) (value : Capability) : Type 0 where
  pub rs1 : ℕ
  pub rs2 : ℕ
  pub offset : ℕ
  pub is_csc : decode_of word ≡ Decoded.Memory (Access.StoreCapability rs1 rs2 offset)
  pub is_held : value ≡ register_at regs rs2

-- the step stores a tagged capability of a register, by CSC, at the granule g
pub record StoredTagged (board : Board) (revoked : List ℕ) (s : State) (g : ℕ) : Type 0 where
  pub place : ℕ
  pub value : Capability
  pub is_store : stored_by (effect_at board revoked s) ≡ whole place value
  pub is_granule : g ≡ place / granule_bytes
  pub is_tagged : value.tag ≡ 1
  pub from_register : FromRegister (word_at board s) s.regs value
