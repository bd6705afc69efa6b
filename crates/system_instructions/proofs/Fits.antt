-- Every capability and word that an instruction of this family writes fits. Assumes nothing.
use mathlib.Core.List.{List}
use Prim.Native.Nat.{ℕ, ◌-◌, ◌%◌, ◌^◌}
use native.Mathlib.Omega.{arith}
use lib.Bits.{or_lt, and_lt}
use lib.Dec.{eqb}
use Rattle.capability.specs.declared.Capability.{Capability}
use Rattle.capability.proofs.Laws.{integer_good}
use Rattle.system_instructions.proofs.Laws.{csr_holds}
use Rattle.capability.specs.Capability.{Good}
use Rattle.instructions.specs.Range.{Word, SystemInRange}
use Rattle.instructions.specs.declared.CsrKind.{CsrKind}
use Rattle.instructions.specs.declared.CsrKind.TheVariants.{Csrrw, Csrrs, Csrrc}
use Rattle.instructions.specs.declared.Csr.{Csr}
use Rattle.instructions.specs.declared.Csr.TheVariants.{Mstatus, Mcause, Mtval, Mshwm, Mshwmb}
use Rattle.instructions.specs.declared.Scr.{Scr}
use Rattle.instructions.specs.declared.Scr.TheVariants.{Mtcc, Mtdc, Mscratchc, Mepcc}
use Rattle.instructions.specs.declared.SystemInstruction.{SystemInstruction}
use Rattle.instructions.specs.declared.SystemInstruction.TheVariants.{Fence, Wfi, Ecall, Ebreak, CsrRegister, CsrImmediate, SpecialRw}
use Rattle.state.specs.Layout.{general_count, scr_index}
use Rattle.state.specs.Registers.{capability_at, register_at, csr_at}
use Rattle.state.specs.Marks.{cleared}
use Rattle.state.specs.Fits.{FitsRegisters, FitsEffect}
use Rattle.state.specs.declared.Effect.TheVariants.{Write, WriteScr}
use Rattle.state.specs.Addresses.{vector_alignment, return_alignment}
use Rattle.state.proofs.Laws.{cond_holds, scr_place}
use Rattle.state.proofs.Fits.{checked_fits, capability_fits, register_fits, integer_fits, csr_fits, legalized_fits, written_status_fits}
use Rattle.system_instructions.specs.System.{csr_asked, csr_written, csr_effect, scr_value, special_write, special_effect, system_effect}

asked_fits : (kind : CsrKind) (old operand : ℕ) → Word old → Word operand → Word (csr_asked kind old operand)
unfolding csr_asked
asked_fits Csrrw old operand h k = k
asked_fits Csrrs old operand h k = or_lt 32 old operand h k
asked_fits Csrrc old operand h k = and_lt 32 old (2 ^ 32 - 1 - operand) h (omega arith)

written_fits : (csr : Csr) (old asked : ℕ) → Word old → Word asked → Word (csr_written csr old asked)
unfolding csr_written cleared
written_fits Mstatus old asked h k = written_status_fits old h asked
written_fits Mcause old asked h k = k
written_fits Mtval old asked h k = k
written_fits Mshwm old asked h k = omega arith
written_fits Mshwmb old asked h k = omega arith

scr_fits : (scr : Scr) (c : Capability) → Good c → Good (scr_value scr c)
unfolding scr_value
scr_fits Mtcc c g = legalized_fits vector_alignment c g
scr_fits Mtdc c g = g
scr_fits Mscratchc c g = g
scr_fits Mepcc c g = legalized_fits return_alignment c g

write_fits : (scr : Scr) (rd rs1 : ℕ) (old value : Capability) → Good old → Good value → FitsEffect (special_write scr rd rs1 old value)
unfolding special_write
write_fits scr rd rs1 old value g h = cond_holds FitsEffect (eqb (rs1 % general_count) 0) (Write rd old) (WriteScr rd old scr value) (g, tt) ((g, h), tt)

module _ (regs : List ℕ) (h : FitsRegisters regs) where
  special_fits : (scr : Scr) → Good (capability_at regs (scr_index scr))
  special_fits scr = capability_fits regs h (scr_index scr) (scr_place scr).1

  effect_fits : (kind : CsrKind) (csr : Csr) (rd named operand : ℕ) → Word operand → FitsEffect (csr_effect kind csr rd named operand regs)
  unfolding csr_effect
  effect_fits kind csr rd named operand k =
      let old = csr_fits regs h csr in
      checked_fits _ _ _
      (csr_holds FitsEffect _ csr rd _ _ (tt, (old, written_fits csr (csr_at regs csr) _ old (asked_fits kind (csr_at regs csr) operand old k)))
      (integer_good (csr_at regs csr) old, tt))

  pub system_fits : (i : SystemInstruction) → SystemInRange i → FitsEffect (system_effect i regs)
  unfolding system_effect special_effect
  system_fits Fence r = (tt, tt)
  system_fits Wfi r = (tt, tt)
  system_fits Ecall r = (tt, (omega arith, omega arith))
  system_fits Ebreak r = (tt, (omega arith, omega arith))
  system_fits (CsrRegister kind csr rd rs1) r = effect_fits kind csr rd _ _ (integer_fits regs h rs1)
  system_fits (CsrImmediate kind csr rd value) r = effect_fits kind csr rd value value (omega (arith, r.1))
  system_fits (SpecialRw scr rd rs1) r =
      checked_fits _ _ _
      (write_fits scr rd rs1 _ _ (scr_fits scr (capability_at regs (scr_index scr)) (special_fits scr))
      (scr_fits scr (register_at regs rs1) (register_fits regs h rs1)))
