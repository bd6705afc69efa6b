-- Every capability and word that a jump writes, and every target that a trap reports, fits. Assumes nothing.
use Rattle.std.proofs.Common.{ℕ, ◌%◌, Bool, cond, ◌||◌, eqb, List, arith}
use Rattle.words.specs.Words.{with_bit}
use Rattle.capability.specs.Sealing.{with_object_type, sentry_disabling, sentry_enabling}
use Rattle.capability.specs.declared.Capability.{Capability}
use Rattle.capability.proofs.Laws.{integer_good, move_good, type_good}
use Rattle.capability.specs.Capability.{Good}
use Rattle.instructions.specs.Range.{Word}
use Rattle.instructions.specs.declared.JumpInstruction.{JumpInstruction}
use Rattle.instructions.specs.declared.JumpInstruction.TheVariants.{Jal, Jalr, Branch, Mret}
use Rattle.instructions.specs.declared.Csr.TheVariants.{Mstatus}
use Rattle.state.specs.Layout.{mepcc_index}
use Rattle.state.specs.Registers.{register_at, capability_at, pcc_of, mstatus_of}
use Rattle.state.specs.Addresses.{target_alignment, return_alignment}
use Rattle.state.specs.Lent.{later_edition}
use Rattle.state.specs.Status.{MIE}
use Rattle.state.specs.Checks.{fetch_misaligned, checked}
use Rattle.state.specs.Fits.{FitsRegisters, FitsEffect}
use Rattle.state.specs.declared.Effect.{Effect}
use Rattle.state.specs.declared.Effect.TheVariants.{Advance, Trap}
use Rattle.state.proofs.Laws.{cond_holds}
use Rattle.state.proofs.Fits.{checked_fits, capability_fits, register_fits, pcc_fits, csr_fits, legalized_fits, mie_fits, return_status_fits}
use Rattle.jump_instructions.specs.Editions.{return_disabling, return_enabling, report_status, later_status, jump_status}
use Rattle.jump_instructions.specs.Jumps.{link_of, aligned, jal_effect, jalr_effect, taken_effect, branch_effect, mret_effect, jump_effect}

-- a jump that is checked fits where the jump and its target do
targeted : (r cause target : ℕ) (e : Effect) → Word target → FitsEffect e → FitsEffect (checked r cause (aligned target e))
unfolding aligned
targeted r cause target e t h =
    checked_fits r cause (aligned target e) (cond_holds FitsEffect (eqb (target % target_alignment) 0) e (Trap fetch_misaligned target) h
    (tt, (omega arith, t)))

-- in each edition MIE alone changes
status_fits : (edition t m : ℕ) → Word m → Word (jump_status edition t m)
unfolding jump_status later_status report_status
status_fits edition t m h =
    cond_holds Word (eqb edition later_edition) (later_status t m) (report_status t m)
    (by_mie (eqb t sentry_disabling || eqb t return_disabling) (eqb t sentry_enabling || eqb t return_enabling))
    (by_mie (eqb t sentry_disabling) (eqb t sentry_enabling))
  where
    by_mie : (off on : Bool) → Word (cond off (with_bit m MIE 0) (cond on (with_bit m MIE 1) m))
    by_mie off on = cond_holds Word off (with_bit m MIE 0) _ (mie_fits m 0 h) (cond_holds Word on (with_bit m MIE 1) m (mie_fits m 1 h) h)

module _ (bytes edition : ℕ) (regs : List ℕ) (h : FitsRegisters regs) where
  pub link_fits : Good (link_of bytes edition (pcc_of regs) (mstatus_of regs))
  unfolding link_of
  link_fits = type_good _ _ (move_good (pcc_of regs) _ (pcc_fits regs h) (omega arith))

  mstatus_fits : Word (mstatus_of regs)
  mstatus_fits = csr_fits regs h Mstatus

  jal_fits : (rd target : ℕ) → Word target → FitsEffect (jal_effect bytes edition rd target regs)
  unfolding jal_effect
  jal_fits rd target t = targeted _ _ target _ t ((link_fits, move_good (pcc_of regs) target (pcc_fits regs h) t), mstatus_fits)

  jalr_fits : (rd rs1 offset target : ℕ) (c : Capability) → Word target → Good c → FitsEffect (jalr_effect bytes edition rd rs1 offset target c regs)
  unfolding jalr_effect
  jalr_fits rd rs1 offset target c t g =
      targeted _ _ target _ t ((link_fits, move_good (with_object_type c 0) target (type_good c 0 g) t), status_fits edition _ (mstatus_of regs) mstatus_fits)

  taken_fits : (target : ℕ) → Word target → FitsEffect (taken_effect target regs)
  unfolding taken_effect
  taken_fits target t = targeted _ _ target _ t ((integer_good 0 (omega arith), move_good (pcc_of regs) target (pcc_fits regs h) t), mstatus_fits)

  branch_fits : (takes : Bool) (target : ℕ) → Word target → FitsEffect (branch_effect takes target regs)
  unfolding branch_effect
  branch_fits takes target t = cond_holds FitsEffect takes (taken_effect target regs) Advance (taken_fits target t) (tt, tt)

  mret_fits : FitsEffect (mret_effect regs)
  unfolding mret_effect
  mret_fits =
      checked_fits _ _ _ (
        (integer_good 0 (omega arith), legalized_fits return_alignment (capability_at regs mepcc_index) (capability_fits regs h mepcc_index (omega arith))),
        return_status_fits (mstatus_of regs) mstatus_fits,
      )

  -- whatever the offset: a target wraps
  pub jump_fits : (i : JumpInstruction) → FitsEffect (jump_effect bytes edition i regs)
  unfolding jump_effect
  jump_fits (Jal rd offset) = jal_fits rd _ (omega arith)
  jump_fits (Jalr rd rs1 offset) = jalr_fits rd rs1 offset _ (register_at regs rs1) (omega arith) (register_fits regs h rs1)
  jump_fits (Branch kind rs1 rs2 offset) = branch_fits _ _ (omega arith)
  jump_fits Mret = mret_fits
