-- FENCE, WFI, ECALL, EBREAK, the CSR instructions and CSpecialRW. RISC-V standards; CHERIoT report, 7.9, 7.10 and 9.4; document 01, "In and out"; document
-- 02, 6. Assumes nothing.
use Rattle.std.specs.Prelude.{Bool, true, not, cond, List, ℕ, ◌+◌, ◌-◌, ◌%◌, ◌^◌, eqb}
use Rattle.std.specs.Int.Bits.{bit_and, bit_or}
use Rattle.capability.specs.Capability.{integer}
use Rattle.capability.specs.declared.Capability.{Capability}
use Rattle.instructions.specs.declared.CsrKind.{CsrKind}
use Rattle.instructions.specs.declared.CsrKind.TheVariants.{Csrrw, Csrrs, Csrrc}
use Rattle.instructions.specs.declared.Csr.{Csr}
use Rattle.instructions.specs.declared.Csr.TheVariants.{Mstatus, Mcause, Mtval, Mshwm, Mshwmb}
use Rattle.instructions.specs.declared.Scr.{Scr}
use Rattle.instructions.specs.declared.Scr.TheVariants.{Mtcc, Mtdc, Mscratchc, Mepcc}
use Rattle.instructions.specs.declared.SystemInstruction.{SystemInstruction}
use Rattle.instructions.specs.declared.SystemInstruction.TheVariants.{Fence, Wfi, Ecall, Ebreak, CsrRegister, CsrImmediate, SpecialRw}
use Rattle.state.specs.Layout.{general_count, scr_index, scr_number}
use Rattle.state.specs.Registers.{register_at, integer_at, capability_at, pcc_of, csr_at}
use Rattle.state.specs.Addresses.{vector_alignment, return_alignment, legalized}
use Rattle.state.specs.Status.{written_status}
use Rattle.state.specs.Marks.{cleared}
use Rattle.state.specs.Checks.{checked, system_access, pcc_register, breakpoint, environment_call}
use Rattle.state.specs.declared.Effect.{Effect}
use Rattle.state.specs.declared.Effect.TheVariants.{Advance, Write, WriteScr, WriteCsr, Trap}

-- what a CSR instruction asks to write: the operand; the old word with the operand's bits set; or cleared
unfoldable pub csr_asked : CsrKind → (old operand : ℕ) → ℕ
csr_asked Csrrw old operand = operand
csr_asked Csrrs old operand = bit_or old operand
csr_asked Csrrc old operand = bit_and old (2 ^ 32 - 1 - operand)

-- what is written: all of it to mcause and mtval, to mstatus its two bits alone, to the mark pair without its low four bits
unfoldable pub csr_written : Csr → (old asked : ℕ) → ℕ
csr_written Mstatus old asked = written_status old asked
csr_written Mcause old asked = asked
csr_written Mtval old asked = asked
csr_written Mshwm old asked = cleared asked
csr_written Mshwmb old asked = cleared asked

-- CSRRS and CSRRC write nothing at all where they name register 0 or the immediate 0 (Zicsr): another register that holds 0 is written
unfoldable pub csr_writes : CsrKind → (named : ℕ) → Bool
csr_writes Csrrw named = true
csr_writes Csrrs named = not (eqb named 0)
csr_writes Csrrc named = not (eqb named 0)

-- the read, and the write where there is one
unfoldable pub csr_write : (writes : Bool) → Csr → (rd old value : ℕ) → Effect
csr_write writes csr rd old value = cond writes (WriteCsr rd old csr value) (Write rd (integer old))

-- SR on PCC, else cause 24 with register 32, for reads too: Table 7.1 lists none of the CSRs
unfoldable pub csr_effect : CsrKind → Csr → (rd named operand : ℕ) → (regs : List ℕ) → Effect
csr_effect kind csr rd named operand regs =
    checked pcc_register (system_access (pcc_of regs))
    (csr_write (csr_writes kind named) csr rd (csr_at regs csr) (csr_written csr (csr_at regs csr) (csr_asked kind (csr_at regs csr) operand)))

-- a special register read or written: MTCC and MEPCC by the address-move rule
unfoldable pub scr_value : Scr → Capability → Capability
scr_value Mtcc c = legalized vector_alignment c
scr_value Mtdc c = c
scr_value Mscratchc c = c
scr_value Mepcc c = legalized return_alignment c

-- CSpecialRW: cd takes the special register's value, and the special register cs1's where cs1 is not c0
unfoldable pub special_write : Scr → (rd rs1 : ℕ) → (old value : Capability) → Effect
special_write scr rd rs1 old value = cond (eqb (rs1 % general_count) 0) (Write rd old) (WriteScr rd old scr value)

unfoldable pub special_effect : Scr → (rd rs1 : ℕ) → (regs : List ℕ) → Effect
special_effect scr rd rs1 regs =
    checked (pcc_register + scr_number scr) (system_access (pcc_of regs))
    (special_write scr rd rs1 (scr_value scr (capability_at regs (scr_index scr))) (scr_value scr (register_at regs rs1)))

-- FENCE and WFI only retire; both traps have mtval 0
unfoldable pub system_effect : SystemInstruction → (regs : List ℕ) → Effect
system_effect Fence regs = Advance
system_effect Wfi regs = Advance
system_effect Ecall regs = Trap environment_call 0
system_effect Ebreak regs = Trap breakpoint 0
system_effect (CsrRegister kind csr rd rs1) regs = csr_effect kind csr rd (rs1 % general_count) (integer_at regs rs1) regs
system_effect (CsrImmediate kind csr rd value) regs = csr_effect kind csr rd value value regs
system_effect (SpecialRw scr rd rs1) regs = special_effect scr rd rs1 regs
