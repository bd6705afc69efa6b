-- The instructions whose result is an integer, and what their register then holds: no metadata and no tag. RISC-V standards; CHERIoT report, 7.3 and 8.1.
-- Assumes nothing.
use Rattle.std.specs.Prelude.{ℕ, ◌≡◌}
use Rattle.capability.specs.declared.Capability.{Capability}
use Rattle.instructions.specs.declared.Alu.{Alu}
use Rattle.instructions.specs.declared.MultiplyKind.{MultiplyKind}
use Rattle.instructions.specs.declared.DivideKind.{DivideKind}
use Rattle.instructions.specs.declared.LoadKind.{LoadKind}
use Rattle.instructions.specs.declared.Csr.{Csr}
use Rattle.instructions.specs.declared.CsrKind.{CsrKind}
use Rattle.instructions.specs.declared.Inspection.{Inspection}
use Rattle.instructions.specs.declared.Combination.TheVariants.{SubAddr, TestSubset, SetEqualExact}
use Rattle.instructions.specs.declared.IntegerInstruction.TheVariants.{Lui, OpImm, Op, Multiply, Divide}
use Rattle.instructions.specs.declared.MemoryInstruction.TheVariants.{Load}
use Rattle.instructions.specs.declared.CapabilityInstruction.TheVariants.{Inspect, Combine}
use Rattle.instructions.specs.declared.SystemInstruction.TheVariants.{CsrRegister, CsrImmediate}
use Rattle.instructions.specs.declared.Instruction.{Instruction}
use Rattle.instructions.specs.declared.Instruction.TheVariants as Decoded

-- the instruction writes an integer to register rd
pub data WritesInteger : Instruction → (rd : ℕ) → Type 0 where
  by_lui : {rd value : ℕ} → WritesInteger (Decoded.Integer (Lui rd value)) rd
  by_op_imm : {op : Alu} {rd rs1 value : ℕ} → WritesInteger (Decoded.Integer (OpImm op rd rs1 value)) rd
  by_op : {op : Alu} {rd rs1 rs2 : ℕ} → WritesInteger (Decoded.Integer (Op op rd rs1 rs2)) rd
  by_multiply : {kind : MultiplyKind} {rd rs1 rs2 : ℕ} → WritesInteger (Decoded.Integer (Multiply kind rd rs1 rs2)) rd
  by_divide : {kind : DivideKind} {rd rs1 rs2 : ℕ} → WritesInteger (Decoded.Integer (Divide kind rd rs1 rs2)) rd
  by_load : {kind : LoadKind} {rd rs1 offset : ℕ} → WritesInteger (Decoded.Memory (Load kind rd rs1 offset)) rd
  by_inspection : {what : Inspection} {rd rs1 : ℕ} → WritesInteger (Decoded.Capability (Inspect what rd rs1)) rd
  by_difference : {rd rs1 rs2 : ℕ} → WritesInteger (Decoded.Capability (Combine SubAddr rd rs1 rs2)) rd
  by_subset : {rd rs1 rs2 : ℕ} → WritesInteger (Decoded.Capability (Combine TestSubset rd rs1 rs2)) rd
  by_equality : {rd rs1 rs2 : ℕ} → WritesInteger (Decoded.Capability (Combine SetEqualExact rd rs1 rs2)) rd
  by_csr : {kind : CsrKind} {csr : Csr} {rd rs1 : ℕ} → WritesInteger (Decoded.System (CsrRegister kind csr rd rs1)) rd
  by_csr_immediate : {kind : CsrKind} {csr : Csr} {rd value : ℕ} → WritesInteger (Decoded.System (CsrImmediate kind csr rd value)) rd

-- no metadata and no tag
pub record IsInteger (c : Capability) : Type 0 where
  pub no_metadata : c.metadata ≡ 0
  pub no_tag : c.tag ≡ 0
