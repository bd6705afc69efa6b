-- Every integer that an instruction of this family writes is a word. Assumes nothing.
use Rattle.std.proofs.Common.{ℕ, List, arith}
use lib.Bits.{or_lt, xor_lt, and_lt}
use Rattle.words.specs.declared.Reading.TheVariants.{Unsigned, Signed}
use Rattle.words.proofs.Products.{low_lt, high_word}
use Rattle.words.proofs.Quotients.{quotient_word, remainder_word}
use Rattle.words.proofs.Word.{sll_word, srl_word, sra_word, slt_bit, sltu_bit}
use Rattle.capability.proofs.Laws as capability
use Rattle.instructions.specs.Range.{Word, IntegerInRange}
use Rattle.instructions.specs.declared.Alu.{Alu}
use Rattle.instructions.specs.declared.Alu.TheVariants.{Add, Sub, Sll, Slt, Sltu, Xor, Srl, Sra, Or, And}
use Rattle.instructions.specs.declared.MultiplyKind.{MultiplyKind}
use Rattle.instructions.specs.declared.MultiplyKind.TheVariants.{Mul, Mulh, Mulhsu, Mulhu}
use Rattle.instructions.specs.declared.DivideKind.{DivideKind}
use Rattle.instructions.specs.declared.DivideKind.TheVariants.{Div, Divu, Rem, Remu}
use Rattle.instructions.specs.declared.IntegerInstruction.{IntegerInstruction}
use Rattle.instructions.specs.declared.IntegerInstruction.TheVariants.{Lui, OpImm, Op, Multiply, Divide}
use Rattle.state.specs.Fits.{FitsRegisters, FitsEffect}
use Rattle.state.proofs.Fits as state
use Rattle.integer_instructions.specs.Integer.{alu_of, multiplied_of, reading_of, part_of, divided_of, integer_effect}

pub alu_word : (op : Alu) (a b : ℕ) → Word a → Word b → Word (alu_of op a b)
unfolding alu_of
alu_word Add a b h k = omega arith
alu_word Sub a b h k = omega arith
alu_word Sll a b h k = sll_word a b
alu_word Slt a b h k = omega (arith, slt_bit a b)
alu_word Sltu a b h k = omega (arith, sltu_bit a b)
alu_word Xor a b h k = xor_lt 32 a b h k
alu_word Srl a b h k = srl_word a b h
alu_word Sra a b h k = sra_word a b
alu_word Or a b h k = or_lt 32 a b h k
alu_word And a b h k = and_lt 32 a b h k

pub multiplied_word : (kind : MultiplyKind) (a b : ℕ) → Word (multiplied_of kind a b)
unfolding multiplied_of
multiplied_word Mul a b = low_lt a b
multiplied_word Mulh a b = high_word Signed Signed a b
multiplied_word Mulhsu a b = high_word Signed Unsigned a b
multiplied_word Mulhu a b = high_word Unsigned Unsigned a b

part_word : (kind : DivideKind) (q r : ℕ) → Word q → Word r → Word (part_of kind q r)
unfolding part_of
part_word Div q r h k = h
part_word Divu q r h k = h
part_word Rem q r h k = k
part_word Remu q r h k = k

pub divided_word : (kind : DivideKind) (a b : ℕ) → Word a → Word (divided_of kind a b)
unfolding divided_of
divided_word kind a b h = part_word kind _ _ (quotient_word (reading_of kind) a b) (remainder_word (reading_of kind) a b h)

pub integer_fits : (i : IntegerInstruction) (regs : List ℕ) → IntegerInRange i → FitsRegisters regs → FitsEffect (integer_effect i regs)
unfolding integer_effect
integer_fits (Lui rd value) regs r h = (capability.integer_good value r.1, tt)
integer_fits (OpImm op rd rs1 value) regs r h = (capability.integer_good _ (alu_word op _ value (state.integer_fits regs h rs1) r.2), tt)
integer_fits (Op op rd rs1 rs2) regs r h = (capability.integer_good _ (alu_word op _ _ (state.integer_fits regs h rs1) (state.integer_fits regs h rs2)), tt)
integer_fits (Multiply kind rd rs1 rs2) regs r h = (capability.integer_good _ (multiplied_word kind _ _), tt)
integer_fits (Divide kind rd rs1 rs2) regs r h = (capability.integer_good _ (divided_word kind _ _ (state.integer_fits regs h rs1)), tt)
