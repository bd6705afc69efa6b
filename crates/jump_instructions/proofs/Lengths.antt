-- A jump's length stands in its link alone; and from an even PCC every decoded jump has an even target, so that the check of it never fails.
use Rattle.std.proofs.Common.{◌≡◌, ℕ, ◌+◌, ◌%◌, Bool, true, false, cond, eqb, List, arith, eq-eqb}
use Rattle.words.specs.Words.{wrap}
use Rattle.capability.specs.declared.Capability.{Capability}
use Rattle.instructions.specs.Range.{JumpInRange}
use Rattle.instructions.specs.declared.JumpInstruction.{JumpInstruction}
use Rattle.instructions.specs.declared.JumpInstruction.TheVariants.{Jal, Jalr, Branch, Mret}
use Rattle.state.specs.Addresses.{target_alignment}
use Rattle.state.specs.Checks.{checked, fetch_misaligned}
use Rattle.state.specs.Registers.{pcc_of, pc_of, mstatus_of, integer_at}
use Rattle.state.specs.declared.Effect.{Effect}
use Rattle.state.specs.declared.Effect.TheVariants.{Advance, Trap}
use Rattle.state.proofs.Laws.{cond_holds, checked_trap, checked_both}
use Rattle.jump_instructions.specs.Jumps.{aligned, jal_effect, jalr_effect, taken, taken_effect, branch_effect, mret_effect, jump_effect}
use Rattle.jump_instructions.specs.Lengths.{LengthOnly, alike, links, NoMisaligned}

-- ---- the link

module _ (n k edition : ℕ) (pcc : Capability) (mstatus : ℕ) where
  aligned_both : (target : ℕ) (d e : Effect) → LengthOnly n k edition pcc mstatus d e → LengthOnly n k edition pcc mstatus (aligned target d) (aligned target e)
  unfolding aligned
  aligned_both target d e h = go (eqb (target % target_alignment) 0)
    where
      go : (b : Bool) → LengthOnly n k edition pcc mstatus (cond b d (Trap fetch_misaligned target)) (cond b e (Trap fetch_misaligned target))
      go true = h
      go false = alike

  targeted_both : (r cause target : ℕ) (d e : Effect) → LengthOnly n k edition pcc mstatus d e
      → LengthOnly n k edition pcc mstatus (checked r cause (aligned target d)) (checked r cause (aligned target e))
  targeted_both r cause target d e h = checked_both (LengthOnly n k edition pcc mstatus) r cause _ _ (λ v. alike) (aligned_both target d e h)

pub jump_length : (n k edition : ℕ) (i : JumpInstruction) (regs : List ℕ)
    → LengthOnly n k edition (pcc_of regs) (mstatus_of regs) (jump_effect n edition i regs) (jump_effect k edition i regs)
unfolding jump_effect jal_effect jalr_effect
jump_length n k edition (Jal rd offset) regs = targeted_both n k edition (pcc_of regs) (mstatus_of regs) _ _ _ _ _ links
jump_length n k edition (Jalr rd rs1 offset) regs = targeted_both n k edition (pcc_of regs) (mstatus_of regs) _ _ _ _ _ links
jump_length n k edition (Branch kind rs1 rs2 offset) regs = alike
jump_length n k edition Mret regs = alike

-- ---- the target

-- after a check and at an even target
targeted : (r cause target : ℕ) (e : Effect) → target % target_alignment ≡ 0 → NoMisaligned e → NoMisaligned (checked r cause (aligned target e))
unfolding aligned
targeted r cause target e even h =
    checked_trap NoMisaligned r cause (aligned target e) (λ v q. absurd (omega arith)) (rw (eq-eqb (target % target_alignment) 0 even) h)

module _ (regs : List ℕ) (even : pc_of regs % target_alignment ≡ 0) where
  from_pc : (offset : ℕ) → offset % 2 ≡ 0 → wrap (pc_of regs + offset) % target_alignment ≡ 0
  from_pc offset e = omega (arith, even)

  pub jump_aligned : (n edition : ℕ) (i : JumpInstruction) → JumpInRange i → NoMisaligned (jump_effect n edition i regs)
  unfolding jump_effect jal_effect jalr_effect branch_effect taken_effect mret_effect
  jump_aligned n edition (Jal rd offset) r = targeted _ _ _ _ (from_pc offset r.2) tt
  jump_aligned n edition (Jalr rd rs1 offset) r = targeted _ _ _ _ (omega arith) tt
  jump_aligned n edition (Branch kind rs1 rs2 offset) r =
      cond_holds NoMisaligned (taken kind (integer_at regs rs1) (integer_at regs rs2)) (taken_effect (wrap (pc_of regs + offset)) regs) Advance
      (targeted _ _ _ _ (from_pc offset r.3) tt) tt
  jump_aligned n edition Mret r = checked_trap NoMisaligned _ _ _ (λ v q. absurd (omega arith)) tt
