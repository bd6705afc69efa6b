-- No instruction of this family stores, and none sets a tag. Assumes nothing.
use Rattle.std.proofs.Common.{ℕ, List, arith}
use Rattle.instructions.specs.declared.IntegerInstruction.{IntegerInstruction}
use Rattle.instructions.specs.declared.IntegerInstruction.TheVariants.{Lui, OpImm, Op, Multiply, Divide}
use Rattle.state.specs.Effects.{Storeless, GoodEffect}
use Rattle.integer_instructions.specs.Integer.{integer_effect}

pub integer_storeless : (i : IntegerInstruction) (regs : List ℕ) → Storeless (integer_effect i regs)
unfolding integer_effect
integer_storeless (Lui rd value) regs = tt
integer_storeless (OpImm op rd rs1 value) regs = tt
integer_storeless (Op op rd rs1 rs2) regs = tt
integer_storeless (Multiply kind rd rs1 rs2) regs = tt
integer_storeless (Divide kind rd rs1 rs2) regs = tt

pub integer_good : (i : IntegerInstruction) (regs : List ℕ) → GoodEffect (integer_effect i regs)
unfolding integer_effect
integer_good (Lui rd value) regs = omega arith
integer_good (OpImm op rd rs1 value) regs = omega arith
integer_good (Op op rd rs1 rs2) regs = omega arith
integer_good (Multiply kind rd rs1 rs2) regs = omega arith
integer_good (Divide kind rd rs1 rs2) regs = omega arith
