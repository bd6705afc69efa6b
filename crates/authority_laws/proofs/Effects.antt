-- A closed property of all that stands in registers and memory holds of each capability that an instruction writes. A clause for each instruction.
-- Assumes nothing.
use mathlib.Core.Path.{◌≡◌, refl}
use mathlib.Core.Bool.{Bool, not}
use mathlib.Core.List.{List}
use Prim.Native.Nat.{ℕ, ◌%◌}
use native.Mathlib.Omega.{arith}
use lib.Dec.{eqb}
use lib.ListN.{length}
use Rattle.capability.specs.Capability.{Good, integer, clear_tag, move_of}
use Rattle.capability.specs.Sealing.{with_object_type}
use Rattle.capability.specs.Loading.{loaded_of}
use Rattle.capability.specs.declared.Capability.{Capability}
use Rattle.instructions.specs.declared.Scr.{Scr}
use Rattle.instructions.specs.declared.Scr.TheVariants.{Mtcc, Mtdc, Mscratchc, Mepcc}
use Rattle.instructions.specs.declared.IntegerInstruction.{IntegerInstruction}
use Rattle.instructions.specs.declared.IntegerInstruction.TheVariants as Integers
use Rattle.instructions.specs.declared.JumpInstruction.{JumpInstruction}
use Rattle.instructions.specs.declared.JumpInstruction.TheVariants as Jumps
use Rattle.instructions.specs.declared.MemoryInstruction.{MemoryInstruction}
use Rattle.instructions.specs.declared.MemoryInstruction.TheVariants as Access
use Rattle.instructions.specs.declared.CapabilityInstruction.{CapabilityInstruction}
use Rattle.instructions.specs.declared.CapabilityInstruction.TheVariants as Capabilities
use Rattle.instructions.specs.declared.SystemInstruction.{SystemInstruction}
use Rattle.instructions.specs.declared.SystemInstruction.TheVariants as System
use Rattle.instructions.specs.declared.Instruction.{Instruction}
use Rattle.state.specs.Layout.{general_count, pcc_index, mepcc_index, scr_index}
use Rattle.state.specs.Registers.{capability_at, register_at, integer_at, pcc_of, mstatus_of}
use Rattle.state.specs.Addresses.{target_alignment, vector_alignment, return_alignment}
use Rattle.state.specs.Lent.{Lent}
use Rattle.state.specs.Memory.{load_width, store_width, place_of, capability_in, granule_bytes}
use Rattle.state.specs.Checks.{checked, fetch_misaligned}
use Rattle.state.specs.Effects.{EachCapability}
use Rattle.state.specs.Fits.{FitsRegisters}
use Rattle.state.specs.declared.Place.{Place}
use Rattle.state.specs.declared.Place.TheVariants.{At, Misaligned, Outside}
use Rattle.state.specs.declared.Effect.{Effect}
use Rattle.state.specs.declared.Effect.TheVariants.{Advance, Write, WriteScr, Trap}
use Rattle.state.proofs.Laws.{Placed, cond_holds, checked_holds, placed, place_within, granule_width, scr_place}
use Rattle.state.proofs.Fits.{register_fits}
use Rattle.integer_instructions.specs.Integer.{integer_effect}
use Rattle.jump_instructions.specs.Jumps.{link_of, aligned, jal_effect, jalr_effect, taken_effect, branch_effect, mret_effect, jump_effect}
use Rattle.memory_instructions.specs.Access.{load_at, load_effect, store_at, store_effect, revoked_value, filtered, load_capability_at, load_capability_effect}
use Rattle.memory_instructions.specs.Access.{store_capability_at, store_capability_effect, address_of, memory_effect}
use Rattle.capability_instructions.specs.Derivation.{global_pointer, capability_effect}
use Rattle.capability_instructions.proofs.Derived.{Derived, cut, cut_exactly, sealed, unsealed, narrowed, moved, untagged}
use Rattle.capability_instructions.proofs.Laws.{combined_derived}
use Rattle.system_instructions.specs.System.{csr_effect, scr_value, special_write, special_effect, system_effect}
use Rattle.system_instructions.proofs.Laws.{csr_holds}
use Rattle.execution.specs.Step.{effect_of}
use Rattle.machine_laws.specs.Editions.{NoJump}
use Rattle.authority_laws.proofs.Operations.{From, from_both, type_from, move_from}
use Rattle.authority_laws.proofs.Makers.{Made, made_both, keep_made, unsealed_made, seal_made, unseal_made, narrow_made, loaded_made, move_made}
use Rattle.authority_laws.proofs.Makers.{legalized_made, set_bounds_made, set_bounds_exact_made}
use Rattle.authority_laws.proofs.Closed.{Carried, Files, Granules}

-- what the load filter leaves, whatever is revoked
pub filtered_made : (authority value : Capability) (m : Lent) → Made value (filtered authority value m)
unfolding filtered
filtered_made authority value m =
    let v = loaded_of authority value in
    made_both {b = v} (loaded_made authority value) (keep_made (not (revoked_value m.board m.revoked v)) v)

-- PCC at another address and of another type: a link, whatever the instruction's bytes, the edition and the link's type
pub link_from : (bytes edition : ℕ) (pcc : Capability) (mstatus : ℕ) → From pcc (link_of bytes edition pcc mstatus)
unfolding link_of
link_from bytes edition pcc mstatus = from_both (move_from pcc _) (type_from _ _)

-- where a jump goes: its register, unsealed, at another address
pub target_made : (c : Capability) (target : ℕ) → Made c (move_of (with_object_type c 0) target)
target_made c target = made_both (unsealed_made c) (move_made (with_object_type c 0) target)

module _ (P : Capability → Type 0) (closed : Carried P) where
  number : (x : ℕ) → P (integer x)
  number x = closed.untagged (integer x) refl

  -- what is said of an effect holds where checks come before it
  passes : (r cause : ℕ) (e : Effect) → EachCapability P e → EachCapability P (checked r cause e)
  passes r cause e h = checked_holds (EachCapability P) r cause e (λ n v. tt) h

  targeted : (r cause target : ℕ) (e : Effect) → EachCapability P e → EachCapability P (checked r cause (aligned target e))
  unfolding aligned
  targeted r cause target e h =
      passes r cause (aligned target e) (cond_holds (EachCapability P) (eqb (target % target_alignment) 0) e (Trap fetch_misaligned target) h tt)

  -- by the operation that made it
  derived_carried : (c d r : Capability) → Derived c d r → Good c → P c → P r
  derived_carried c d r (cut n) g h = closed.derived (set_bounds_made c n g.address_fits) h
  derived_carried c d r (cut_exactly n) g h = closed.derived (set_bounds_exact_made c n g.address_fits) h
  derived_carried c d r sealed g h = closed.derived (seal_made c d) h
  derived_carried c d r unsealed g h = closed.derived (unseal_made c d) h
  derived_carried c d r (narrowed mask) g h = closed.derived (narrow_made c mask) h
  derived_carried c d r (moved a w) g h = closed.derived (move_made c a) h
  derived_carried c d r (untagged s t w) g h = closed.untagged s t

  scr_carried : (scr : Scr) (c : Capability) → P c → P (scr_value scr c)
  unfolding scr_value
  scr_carried Mtcc c h = closed.derived (legalized_made vector_alignment c) h
  scr_carried Mtdc c h = h
  scr_carried Mscratchc c h = h
  scr_carried Mepcc c h = closed.derived (legalized_made return_alignment c) h

  special_carried : (scr : Scr) (rd rs1 : ℕ) (old value : Capability) → P old → P value → EachCapability P (special_write scr rd rs1 old value)
  unfolding special_write
  special_carried scr rd rs1 old value h k = cond_holds (EachCapability P) (eqb (rs1 % general_count) 0) (Write rd old) (WriteScr rd old scr value) h (h, k)

  integer_carried : (i : IntegerInstruction) (regs : List ℕ) → EachCapability P (integer_effect i regs)
  unfolding integer_effect
  integer_carried (Integers.Lui rd value) regs = number _
  integer_carried (Integers.OpImm op rd rs1 value) regs = number _
  integer_carried (Integers.Op op rd rs1 rs2) regs = number _
  integer_carried (Integers.Multiply kind rd rs1 rs2) regs = number _
  integer_carried (Integers.Divide kind rd rs1 rs2) regs = number _

  module _ (regs : List ℕ) (fits : FitsRegisters regs) (holds : Files P regs) where
    general : (r : ℕ) → P (register_at regs r)
    general r = holds.file (r % general_count) (omega arith)

    pcc : P (pcc_of regs)
    pcc = holds.file pcc_index (omega arith)

    branch_carried : (takes : Bool) (target : ℕ) → EachCapability P (branch_effect takes target regs)
    unfolding branch_effect taken_effect
    branch_carried takes target =
        cond_holds (EachCapability P) takes (taken_effect target regs) Advance (targeted _ _ _ _ (number 0, closed.derived (move_made (pcc_of regs) _) pcc)) tt

    -- the link alone may break such a property
    jump_carried : ((c r : Capability) → From c r → P c → P r) → (bytes edition : ℕ) (i : JumpInstruction) → EachCapability P (jump_effect bytes edition i regs)
    unfolding jump_effect jal_effect jalr_effect mret_effect
    jump_carried linked bytes edition (Jumps.Jal rd offset) =
        targeted _ _ _ _ (linked _ _ (link_from bytes edition (pcc_of regs) (mstatus_of regs)) pcc, closed.derived (move_made (pcc_of regs) _) pcc)
    jump_carried linked bytes edition (Jumps.Jalr rd rs1 offset) =
        targeted _ _ _ _
        (linked _ _ (link_from bytes edition (pcc_of regs) (mstatus_of regs)) pcc, closed.derived (target_made (register_at regs rs1) _) (general rs1))
    jump_carried linked bytes edition (Jumps.Branch kind rs1 rs2 offset) = branch_carried _ _
    jump_carried linked bytes edition Jumps.Mret =
        passes _ _ _ (number 0, closed.derived (legalized_made return_alignment (capability_at regs mepcc_index)) (holds.file mepcc_index (omega arith)))

    capability_carried : (i : CapabilityInstruction) → EachCapability P (capability_effect i regs)
    unfolding capability_effect clear_tag
    capability_carried (Capabilities.AuiPcc rd offset) = closed.derived (move_made (pcc_of regs) _) pcc
    capability_carried (Capabilities.AuiCgp rd offset) = closed.derived (move_made (register_at regs global_pointer) _) (general global_pointer)
    capability_carried (Capabilities.IncAddrImm rd rs1 offset) = closed.derived (move_made (register_at regs rs1) _) (general rs1)
    capability_carried (Capabilities.SetBoundsImm rd rs1 n) =
        closed.derived (set_bounds_made (register_at regs rs1) n (register_fits regs fits rs1).address_fits) (general rs1)
    capability_carried (Capabilities.Move rd rs1) = general rs1
    capability_carried (Capabilities.ClearTag rd rs1) = closed.untagged _ refl
    capability_carried (Capabilities.Inspect what rd rs1) = number _
    capability_carried (Capabilities.Combine what rd rs1 rs2) =
        let c = register_at regs rs1 in
        let d = register_at regs rs2 in
        derived_carried c d _ (combined_derived what c d) (register_fits regs fits rs1) (general rs1)

    system_carried : (i : SystemInstruction) → EachCapability P (system_effect i regs)
    unfolding system_effect csr_effect special_effect
    system_carried System.Fence = tt
    system_carried System.Wfi = tt
    system_carried System.Ecall = tt
    system_carried System.Ebreak = tt
    system_carried (System.CsrRegister kind csr rd rs1) = passes _ _ _ (csr_holds (EachCapability P) _ csr rd _ _ tt (number _))
    system_carried (System.CsrImmediate kind csr rd value) = passes _ _ _ (csr_holds (EachCapability P) _ csr rd _ _ tt (number _))
    system_carried (System.SpecialRw scr rd rs1) =
        passes _ _ _
        (special_carried scr rd rs1 _ _ (scr_carried scr (capability_at regs (scr_index scr)) (holds.file (scr_index scr) (scr_place scr).1))
        (scr_carried scr (register_at regs rs1) (general rs1)))

    module _ (m : Lent) (start : m.board.start % granule_bytes ≡ 0) (memory : Granules P m.mem m.tags) where
      abbrev place : (address width : ℕ) → Place
      place address width = place_of m.board.start (length m.mem) address width

      loaded_carried : (p : Place) (rd address : ℕ) (authority : Capability) → Placed p granule_bytes (length m.mem)
          → EachCapability P (load_capability_at p rd address authority m)
      unfolding load_capability_at
      loaded_carried Misaligned rd address authority h = tt
      loaded_carried Outside rd address authority h = tt
      loaded_carried (At i) rd address authority h = closed.derived (filtered_made authority (capability_in m.mem m.tags i) m) (memory i h)

      memory_carried : (i : MemoryInstruction) → EachCapability P (memory_effect i regs m)
      unfolding memory_effect load_effect store_effect load_capability_effect store_capability_effect load_at store_at store_capability_at
      memory_carried (Access.Load kind rd rs1 offset) =
          let a : ℕ = address_of regs rs1 offset in
          passes _ _ _ (placed (EachCapability P) (λ p. load_at p kind rd a m.mem) tt tt (λ i. number _) (place a (load_width kind)))
      memory_carried (Access.Store kind rs1 rs2 offset) =
          let a : ℕ = address_of regs rs1 offset in
          passes _ _ _ (placed (EachCapability P) (λ p. store_at p kind a (integer_at regs rs2)) tt tt (λ i. tt) (place a (store_width kind)))
      memory_carried (Access.LoadCapability rd rs1 offset) =
          passes _ _ _ (loaded_carried _ rd _ (register_at regs rs1) (place_within m.board.start (length m.mem) _ granule_bytes granule_width start))
      memory_carried (Access.StoreCapability rs1 rs2 offset) =
          let a : ℕ = address_of regs rs1 offset in
          passes _ _ _ (placed (EachCapability P) (λ p. store_capability_at p a (register_at regs rs2)) tt tt (λ i. general rs2) (place a granule_bytes))

      -- every instruction but the jumps
      pub other_carried : (bytes : ℕ) (i : Instruction) (word : ℕ) → NoJump i → EachCapability P (effect_of bytes i word regs m)
      unfolding effect_of
      other_carried bytes (Instruction.Integer i) word n = integer_carried i regs
      other_carried bytes (Instruction.Jump i) word n = absurd n
      other_carried bytes (Instruction.Memory i) word n = memory_carried i
      other_carried bytes (Instruction.Capability i) word n = capability_carried i
      other_carried bytes (Instruction.System i) word n = system_carried i
      other_carried bytes Instruction.Illegal word n = tt

      -- every instruction
      pub effect_carried : ((c r : Capability) → From c r → P c → P r) → (bytes : ℕ) (i : Instruction) (word : ℕ)
          → EachCapability P (effect_of bytes i word regs m)
      unfolding effect_of
      effect_carried linked bytes (Instruction.Integer i) word = integer_carried i regs
      effect_carried linked bytes (Instruction.Jump i) word = jump_carried linked bytes m.board.edition i
      effect_carried linked bytes (Instruction.Memory i) word = memory_carried i
      effect_carried linked bytes (Instruction.Capability i) word = capability_carried i
      effect_carried linked bytes (Instruction.System i) word = system_carried i
      effect_carried linked bytes Instruction.Illegal word = tt
