-- No instruction of this family stores, and none sets a tag other than 0 or 1. Assumes nothing.
use mathlib.Core.Bool.{Bool}
use mathlib.Core.List.{List}
use Prim.Native.Nat.{ℕ, ◌%◌}
use native.Mathlib.Omega.{arith}
use lib.Dec.{eqb}
use Rattle.capability.specs.Capability.{integer}
use Rattle.capability.specs.declared.Capability.{Capability}
use Rattle.instructions.specs.declared.Csr.{Csr}
use Rattle.instructions.specs.declared.Scr.{Scr}
use Rattle.instructions.specs.declared.Scr.TheVariants.{Mtcc, Mtdc, Mscratchc, Mepcc}
use Rattle.instructions.specs.declared.SystemInstruction.{SystemInstruction}
use Rattle.instructions.specs.declared.SystemInstruction.TheVariants.{Fence, Wfi, Ecall, Ebreak, CsrRegister, CsrImmediate, SpecialRw}
use Rattle.state.specs.Layout.{general_count, scr_index}
use Rattle.state.specs.Registers.{capability_at, register_at}
use Rattle.state.specs.Effects.{Storeless, GoodTag, GoodTags, GoodEffect}
use Rattle.state.specs.declared.Effect.{Effect}
use Rattle.state.specs.declared.Effect.TheVariants.{Write, WriteScr, WriteCsr}
use Rattle.state.specs.Addresses.{vector_alignment, return_alignment}
use Rattle.state.proofs.Laws.{cond_holds, checked_holds, capability_tag, register_tag, legalized_tag, scr_place}
use Rattle.system_instructions.specs.System.{csr_write, csr_effect, scr_value, special_write, special_effect, system_effect}

write_storeless : (scr : Scr) (rd rs1 : ℕ) (old value : Capability) → Storeless (special_write scr rd rs1 old value)
unfolding special_write
write_storeless scr rd rs1 old value = cond_holds Storeless (eqb (rs1 % general_count) 0) (Write rd old) (WriteScr rd old scr value) tt tt

-- what holds of a CSR's write and of its read alone
pub csr_holds : (P : Effect → Type 0) (writes : Bool) (csr : Csr) (rd old value : ℕ) → P (WriteCsr rd old csr value) → P (Write rd (integer old))
    → P (csr_write writes csr rd old value)
unfolding csr_write
csr_holds P writes csr rd old value h k = cond_holds P writes (WriteCsr rd old csr value) (Write rd (integer old)) h k

pub system_storeless : (i : SystemInstruction) (regs : List ℕ) → Storeless (system_effect i regs)
unfolding system_effect csr_effect special_effect
system_storeless Fence regs = tt
system_storeless Wfi regs = tt
system_storeless Ecall regs = tt
system_storeless Ebreak regs = tt
system_storeless (CsrRegister kind csr rd rs1) regs = checked_holds Storeless _ _ _ (λ n v. tt) (csr_holds Storeless _ csr rd _ _ tt tt)
system_storeless (CsrImmediate kind csr rd value) regs = checked_holds Storeless _ _ _ (λ n v. tt) (csr_holds Storeless _ csr rd _ _ tt tt)
system_storeless (SpecialRw scr rd rs1) regs = checked_holds Storeless _ _ _ (λ n v. tt) (write_storeless scr rd rs1 _ _)

scr_tag : (scr : Scr) (c : Capability) → GoodTag c → GoodTag (scr_value scr c)
unfolding scr_value
scr_tag Mtcc c h = legalized_tag vector_alignment c h
scr_tag Mtdc c h = h
scr_tag Mscratchc c h = h
scr_tag Mepcc c h = legalized_tag return_alignment c h

write_good : (scr : Scr) (rd rs1 : ℕ) (old value : Capability) → GoodTag old → GoodTag value → GoodEffect (special_write scr rd rs1 old value)
unfolding special_write
write_good scr rd rs1 old value h k = cond_holds GoodEffect (eqb (rs1 % general_count) 0) (Write rd old) (WriteScr rd old scr value) h (h, k)

pub system_good : (i : SystemInstruction) (regs : List ℕ) → GoodTags regs → GoodEffect (system_effect i regs)
unfolding system_effect csr_effect special_effect
system_good Fence regs h = tt
system_good Wfi regs h = tt
system_good Ecall regs h = tt
system_good Ebreak regs h = tt
system_good (CsrRegister kind csr rd rs1) regs h = checked_holds GoodEffect _ _ _ (λ n v. tt) (csr_holds GoodEffect _ csr rd _ _ tt (omega arith))
system_good (CsrImmediate kind csr rd value) regs h = checked_holds GoodEffect _ _ _ (λ n v. tt) (csr_holds GoodEffect _ csr rd _ _ tt (omega arith))
system_good (SpecialRw scr rd rs1) regs h =
    checked_holds GoodEffect _ _ _ (λ n v. tt)
    (write_good scr rd rs1 _ _ (scr_tag scr (capability_at regs (scr_index scr)) (capability_tag regs (scr_index scr) (scr_place scr).1 h))
    (scr_tag scr (register_at regs rs1) (register_tag regs rs1 h)))
