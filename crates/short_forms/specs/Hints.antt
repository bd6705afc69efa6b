-- Which instructions are hints, long words and halves: by the standard's own lists, and not by what they do here. RISC-V unprivileged standard, RV32I and
-- extension C, HINT instructions. Assumes nothing.
use Rattle.std.specs.Prelude.{◌≡◌, true, ℕ}
use Rattle.instructions.specs.declared.Alu.{Alu}
use Rattle.instructions.specs.declared.MultiplyKind.{MultiplyKind}
use Rattle.instructions.specs.declared.DivideKind.{DivideKind}
use Rattle.instructions.specs.declared.IntegerInstruction.TheVariants as integer
use Rattle.instructions.specs.declared.CapabilityInstruction.TheVariants.{AuiPcc}
use Rattle.instructions.specs.declared.SystemInstruction.TheVariants.{Fence}
use Rattle.instructions.specs.declared.Instruction.{Instruction}
use Rattle.instructions.specs.declared.Instruction.TheVariants.{Integer, Capability, System}
use Rattle.short_forms.specs.Forms.{short_of}
use Rattle.short_forms.specs.Meaning.{legal}
use Rattle.short_forms.specs.declared.ShortForm.{ShortForm}
use Rattle.short_forms.specs.declared.ShortForm.TheVariants.{Addi, Li, Lui, Srli, Srai, Slli, Mv, Add}

-- what computes into register 0, NOP and the instructions of M among them; and FENCE, all of which are one instruction here, that with an empty set too
pub data Hint : Instruction → Type 0 where
  of_lui : {value : ℕ} → Hint (Integer (integer.Lui 0 value))
  of_auipc : {offset : ℕ} → Hint (Capability (AuiPcc 0 offset))
  of_op_imm : {op : Alu} {rs1 value : ℕ} → Hint (Integer (integer.OpImm op 0 rs1 value))
  of_op : {op : Alu} {rs1 rs2 : ℕ} → Hint (Integer (integer.Op op 0 rs1 rs2))
  of_multiply : {kind : MultiplyKind} {rs1 rs2 : ℕ} → Hint (Integer (integer.Multiply kind 0 rs1 rs2))
  of_divide : {kind : DivideKind} {rs1 rs2 : ℕ} → Hint (Integer (integer.Divide kind 0 rs1 rs2))
  of_fence : Hint (System Fence)

-- extension C: C.NOP, whatever its immediate; rd 0; an immediate or a shift amount of 0
pub data HintForm : ShortForm → Type 0 where
  c_nop : {value : ℕ} → HintForm (Addi 0 value)
  c_addi : {rd : ℕ} → HintForm (Addi rd 0)
  c_li : {value : ℕ} → HintForm (Li 0 value)
  c_lui : {value : ℕ} → HintForm (Lui 0 value)
  c_mv : {rs2 : ℕ} → HintForm (Mv 0 rs2)
  c_add : {rs2 : ℕ} → HintForm (Add 0 rs2)
  c_slli_to_zero : {shamt : ℕ} → HintForm (Slli 0 shamt)
  c_slli : {rd : ℕ} → HintForm (Slli rd 0)
  c_srli : {rd : ℕ} → HintForm (Srli rd 0)
  c_srai : {rd : ℕ} → HintForm (Srai rd 0)

-- a register above 15 is illegal in a hint too
pub record HintHalf (h : ℕ) : Type 0 where
  pub listed : HintForm (short_of h)
  pub legal_here : legal (short_of h) ≡ true
