-- The integer instructions: LUI, OP-IMM and OP. RISC-V unprivileged standard, RV32E. Sources are the address words, and a result has no metadata
-- and no tag (CHERIoT report, 7.3). Assumes nothing.
use Rattle.std.specs.Prelude.{ℕ, ◌+◌, ◌-◌, ◌^◌, List, bit_and, bit_or, bit_xor}
use Rattle.words.specs.Words.{wrap, sll_of, srl_of, sra_of, slt_of, sltu_of}
use Rattle.words.specs.Multiply.{product_low, product_high, quotient_of, remainder_of}
use Rattle.words.specs.declared.Reading.{Reading}
use Rattle.words.specs.declared.Reading.TheVariants.{Unsigned, Signed}
use Rattle.capability.specs.Capability.{integer}
use Rattle.instructions.specs.declared.Alu.{Alu}
use Rattle.instructions.specs.declared.Alu.TheVariants.{Add, Sub, Sll, Slt, Sltu, Xor, Srl, Sra, Or, And}
use Rattle.instructions.specs.declared.MultiplyKind.{MultiplyKind}
use Rattle.instructions.specs.declared.MultiplyKind.TheVariants.{Mul, Mulh, Mulhsu, Mulhu}
use Rattle.instructions.specs.declared.DivideKind.{DivideKind}
use Rattle.instructions.specs.declared.DivideKind.TheVariants.{Div, Divu, Rem, Remu}
use Rattle.instructions.specs.declared.IntegerInstruction.{IntegerInstruction}
use Rattle.instructions.specs.declared.IntegerInstruction.TheVariants.{Lui, OpImm, Op, Multiply, Divide}
use Rattle.state.specs.Registers.{integer_at}
use Rattle.state.specs.declared.Effect.{Effect}
use Rattle.state.specs.declared.Effect.TheVariants.{Write}

unfoldable pub alu_of : Alu → (a b : ℕ) → ℕ
alu_of Add a b = wrap (a + b)
alu_of Sub a b = wrap (a + 2 ^ 32 - b)
alu_of Sll a b = sll_of a b
alu_of Slt a b = slt_of a b
alu_of Sltu a b = sltu_of a b
alu_of Xor a b = bit_xor a b
alu_of Srl a b = srl_of a b
alu_of Sra a b = sra_of a b
alu_of Or a b = bit_or a b
alu_of And a b = bit_and a b

-- standard, M: the halves of a product
unfoldable pub multiplied_of : MultiplyKind → (a b : ℕ) → ℕ
multiplied_of Mul a b = product_low a b
multiplied_of Mulh a b = product_high Signed Signed a b
multiplied_of Mulhsu a b = product_high Signed Unsigned a b
multiplied_of Mulhu a b = product_high Unsigned Unsigned a b

-- standard, M: quotient and remainder
unfoldable pub reading_of : DivideKind → Reading
reading_of Div = Signed
reading_of Divu = Unsigned
reading_of Rem = Signed
reading_of Remu = Unsigned

unfoldable pub part_of : DivideKind → (quotient remainder : ℕ) → ℕ
part_of Div q r = q
part_of Divu q r = q
part_of Rem q r = r
part_of Remu q r = r

unfoldable pub divided_of : DivideKind → (a b : ℕ) → ℕ
divided_of kind a b = part_of kind (quotient_of (reading_of kind) a b) (remainder_of (reading_of kind) a b)

unfoldable pub integer_effect : IntegerInstruction → (regs : List ℕ) → Effect
integer_effect (Lui rd value) regs = Write rd (integer value)
integer_effect (OpImm op rd rs1 value) regs = Write rd (integer (alu_of op (integer_at regs rs1) value))
integer_effect (Op op rd rs1 rs2) regs = Write rd (integer (alu_of op (integer_at regs rs1) (integer_at regs rs2)))
integer_effect (Multiply kind rd rs1 rs2) regs = Write rd (integer (multiplied_of kind (integer_at regs rs1) (integer_at regs rs2)))
integer_effect (Divide kind rd rs1 rs2) regs = Write rd (integer (divided_of kind (integer_at regs rs1) (integer_at regs rs2)))
