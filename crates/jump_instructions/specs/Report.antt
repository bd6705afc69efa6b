-- A jump as the report alone has it, with no edition told; edition 0 is this (law `report_jump_lem`). And what is said of return sentries. CHERIoT report,
-- 7.13.2 and 9.4 (CJAL, CJALR); document 02, 8. Assumes nothing.
use Rattle.std.specs.Prelude.{◌≡◌, ℕ, ◌+◌, ◌*◌, ◌/◌, not, ◌&&◌, ◌||◌, List, ◌==◌}
use Rattle.words.specs.Words.{wrap}
use Rattle.metadata.specs.Word.{type_of}
use Rattle.metadata.specs.Rights.{EX}
use Rattle.capability.specs.Capability.{move_of, grants, sealed, tagged}
use Rattle.capability.specs.Sealing.{with_object_type}
use Rattle.capability.specs.declared.Capability.{Capability}
use Rattle.instructions.specs.declared.JumpInstruction.{JumpInstruction}
use Rattle.instructions.specs.declared.JumpInstruction.TheVariants.{Jal, Jalr, Branch, Mret}
use Rattle.state.specs.Lent.{later_edition}
use Rattle.state.specs.Registers.{register_at, integer_at, pcc_of, pc_of, mstatus_of}
use Rattle.state.specs.Checks.{checked, fail_if, pcc_register, tag_cause, seal_cause, execute_cause}
use Rattle.state.specs.declared.Effect.{Effect}
use Rattle.state.specs.declared.Effect.TheVariants.{Jump}
use Rattle.jump_instructions.specs.Editions.{return_disabling, return_enabling, link_register, no_link, report_accepts, report_link, report_status}
use Rattle.jump_instructions.specs.Jumps.{aligned, target_cause, taken, branch_effect, mret_effect}

-- ---- the report's jump

abbrev pub report_link_of : (bytes : ℕ) → (pcc : Capability) → (mstatus : ℕ) → Capability
report_link_of bytes pcc mstatus = with_object_type (move_of pcc (wrap (pcc.address + bytes))) (report_link mstatus)

abbrev pub report_jal : (bytes rd target : ℕ) → (regs : List ℕ) → Effect
report_jal bytes rd target regs =
    checked pcc_register (target_cause (pcc_of regs) target)
    (aligned target (Jump rd (report_link_of bytes (pcc_of regs) (mstatus_of regs)) (move_of (pcc_of regs) target) (mstatus_of regs)))

abbrev pub report_cause : (c : Capability) → (offset target : ℕ) → ℕ
report_cause c offset target =
    fail_if (not (tagged c)) tag_cause
    (fail_if (sealed c && (not (report_accepts c) || not (offset == 0))) seal_cause
    (fail_if (not (grants c EX)) execute_cause
    (target_cause c target)))

abbrev pub report_jalr : (bytes rd rs1 offset target : ℕ) → (c : Capability) → (regs : List ℕ) → Effect
report_jalr bytes rd rs1 offset target c regs =
    checked rs1 (report_cause c offset target)
    (aligned target (Jump rd (report_link_of bytes (pcc_of regs) (mstatus_of regs)) (move_of (with_object_type c 0) target)
    (report_status (type_of c.metadata) (mstatus_of regs))))

-- branches and MRET know no edition
unfoldable pub report_jump : (bytes : ℕ) → JumpInstruction → (regs : List ℕ) → Effect
report_jump bytes (Jal rd offset) regs = report_jal bytes rd (wrap (pc_of regs + offset)) regs
report_jump bytes (Jalr rd rs1 offset) regs = report_jalr bytes rd rs1 offset (wrap (integer_at regs rs1 + offset) / 2 * 2) (register_at regs rs1) regs
report_jump bytes (Branch kind rs1 rs2 offset) regs =
    branch_effect (taken kind (integer_at regs rs1) (integer_at regs rs2)) (wrap (pc_of regs + offset)) regs
report_jump bytes Mret regs = mret_effect regs

-- ---- return sentries

-- the types of return sentries
pub data ReturnType : ℕ → Type 0 where
  disabling : ReturnType return_disabling
  enabling : ReturnType return_enabling

-- the return, in the one edition that has it: through c1, with no link and no offset
pub record Returns (edition cd cs1 offset : ℕ) : Type 0 where
  pub is_later : edition ≡ later_edition
  pub links_none : cd ≡ no_link
  pub through_link : cs1 ≡ link_register
  pub no_offset : offset ≡ 0
