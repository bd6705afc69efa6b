-- Jumps, branches and MRET, once over the editions. CHERIoT report, 7.5, 7.11 and 9.4 (CJAL, CJALR); RISC-V standards. Assumes nothing.
use Rattle.std.specs.Prelude.{ℕ, ◌+◌, ◌*◌, ◌/◌, ◌%◌, Bool, cond, not, ◌&&◌, ◌||◌, List, ◌==◌, nat_lt}
use Rattle.words.specs.Words.{wrap, less_signed}
use Rattle.metadata.specs.Word.{type_of}
use Rattle.metadata.specs.Rights.{EX}
use Rattle.capability.specs.Capability.{integer, move_of, grants, sealed, tagged}
use Rattle.capability.specs.Sealing.{with_object_type}
use Rattle.capability.specs.declared.Capability.{Capability}
use Rattle.instructions.specs.declared.BranchKind.{BranchKind}
use Rattle.instructions.specs.declared.BranchKind.TheVariants.{Beq, Bne, Blt, Bge, Bltu, Bgeu}
use Rattle.instructions.specs.declared.JumpInstruction.{JumpInstruction}
use Rattle.instructions.specs.declared.JumpInstruction.TheVariants.{Jal, Jalr, Branch, Mret}
use Rattle.state.specs.Layout.{mepcc_index}
use Rattle.state.specs.Registers.{register_at, integer_at, capability_at, pcc_of, pc_of, mstatus_of}
use Rattle.state.specs.Addresses.{target_bytes, target_alignment, return_alignment, legalized}
use Rattle.state.specs.Status.{return_status}
use Rattle.state.specs.Checks.{checked, fail_if, in_bounds, system_access, pcc_register, no_cause, tag_cause, seal_cause, execute_cause, bounds_cause}
use Rattle.state.specs.Checks.{fetch_misaligned}
use Rattle.state.specs.declared.Effect.{Effect}
use Rattle.state.specs.declared.Effect.TheVariants.{Advance, Jump, Trap}
use Rattle.jump_instructions.specs.Editions.{accepts, link_type, jump_status}

-- the link of a jump of some bytes: PCC after it, by the address-move rule, sealed
unfoldable pub link_of : (bytes edition : ℕ) → (pcc : Capability) → (mstatus : ℕ) → Capability
link_of bytes edition pcc mstatus = with_object_type (move_of pcc (wrap (pcc.address + bytes))) (link_type edition mstatus)

-- a jump to a target that is not aligned traps with the target
unfoldable pub aligned : (target : ℕ) → Effect → Effect
aligned target e = cond (target % target_alignment == 0) e (Trap fetch_misaligned target)

-- the target of a jump has room for an instruction
unfoldable pub target_cause : Capability → (target : ℕ) → ℕ
target_cause c target = fail_if (not (in_bounds c target target_bytes)) bounds_cause no_cause

-- CJAL
unfoldable pub jal_effect : (bytes edition rd target : ℕ) → (regs : List ℕ) → Effect
jal_effect bytes edition rd target regs =
    checked pcc_register (target_cause (pcc_of regs) target)
    (aligned target (Jump rd (link_of bytes edition (pcc_of regs) (mstatus_of regs)) (move_of (pcc_of regs) target) (mstatus_of regs)))

-- CJALR: tag; sealed, and not accepted or the offset not 0; execute; bounds
unfoldable pub jalr_cause : (edition rd rs1 : ℕ) → (c : Capability) → (offset target : ℕ) → ℕ
jalr_cause edition rd rs1 c offset target =
    fail_if (not (tagged c)) tag_cause
    (fail_if (sealed c && (not (accepts edition c rd rs1) || not (offset == 0))) seal_cause
    (fail_if (not (grants c EX)) execute_cause
    (target_cause c target)))

-- a sentry is unsealed before the address moves
unfoldable pub jalr_effect : (bytes edition rd rs1 offset target : ℕ) → (c : Capability) → (regs : List ℕ) → Effect
jalr_effect bytes edition rd rs1 offset target c regs =
    checked rs1 (jalr_cause edition rd rs1 c offset target)
    (aligned target (Jump rd (link_of bytes edition (pcc_of regs) (mstatus_of regs)) (move_of (with_object_type c 0) target)
    (jump_status edition (type_of c.metadata) (mstatus_of regs))))

unfoldable pub taken : BranchKind → (a b : ℕ) → Bool
taken Beq a b = a == b
taken Bne a b = not (a == b)
taken Blt a b = less_signed a b
taken Bge a b = not (less_signed a b)
taken Bltu a b = nat_lt a b
taken Bgeu a b = not (nat_lt a b)

-- a taken branch: the target's bounds, then its alignment
unfoldable pub taken_effect : (target : ℕ) → (regs : List ℕ) → Effect
taken_effect target regs =
    checked pcc_register (target_cause (pcc_of regs) target) (aligned target (Jump 0 (integer 0) (move_of (pcc_of regs) target) (mstatus_of regs)))

-- not taken, nothing is checked
unfoldable pub branch_effect : (takes : Bool) → (target : ℕ) → (regs : List ℕ) → Effect
branch_effect takes target regs = cond takes (taken_effect target regs) Advance

-- MRET: PCC := MEPCC by the address-move rule, MIE := MPIE, MPIE := 1; MEPCC stays
unfoldable pub mret_effect : (regs : List ℕ) → Effect
mret_effect regs =
    checked pcc_register (system_access (pcc_of regs))
    (Jump 0 (integer 0) (legalized return_alignment (capability_at regs mepcc_index)) (return_status (mstatus_of regs)))

-- what a jump of some bytes does, in an edition
unfoldable pub jump_effect : (bytes edition : ℕ) → JumpInstruction → (regs : List ℕ) → Effect
jump_effect bytes edition (Jal rd offset) regs = jal_effect bytes edition rd (wrap (pc_of regs + offset)) regs
jump_effect bytes edition (Jalr rd rs1 offset) regs =
    jalr_effect bytes edition rd rs1 offset (wrap (integer_at regs rs1 + offset) / 2 * 2) (register_at regs rs1) regs
jump_effect bytes edition (Branch kind rs1 rs2 offset) regs =
    branch_effect (taken kind (integer_at regs rs1) (integer_at regs rs2)) (wrap (pc_of regs + offset)) regs
jump_effect bytes edition Mret regs = mret_effect regs
