-- No jump stores, and none sets a tag other than 0 or 1. Assumes nothing.
use Rattle.std.proofs.Common.{ℕ, ◌%◌, Bool, eqb, List, arith}
use Rattle.capability.specs.Capability.{move_of}
use Rattle.capability.specs.Sealing.{with_object_type}
use Rattle.capability.specs.declared.Capability.{Capability}
use Rattle.capability.proofs.Laws.{move_kept, type_kept}
use Rattle.instructions.specs.declared.JumpInstruction.{JumpInstruction}
use Rattle.instructions.specs.declared.JumpInstruction.TheVariants.{Jal, Jalr, Branch, Mret}
use Rattle.state.specs.Layout.{mepcc_index}
use Rattle.state.specs.Registers.{register_at, capability_at, pcc_of, mstatus_of}
use Rattle.state.specs.Addresses.{target_alignment, return_alignment}
use Rattle.state.specs.Checks.{fetch_misaligned, checked}
use Rattle.state.specs.Effects.{Storeless, GoodTag, GoodTags, GoodEffect}
use Rattle.state.specs.declared.Effect.{Effect}
use Rattle.state.specs.declared.Effect.TheVariants.{Advance, Trap}
use Rattle.state.proofs.Laws.{cond_holds, checked_holds, kept_good, capability_tag, register_tag, pcc_tag, legalized_tag}
use Rattle.jump_instructions.specs.Jumps.{link_of, aligned, jal_effect, jalr_effect, taken_effect, branch_effect, mret_effect, jump_effect}

-- what holds of an effect and of every trap holds of the jump that is checked
targeted : (P : Effect → Type 0) (r cause target : ℕ) (e : Effect) → ((n v : ℕ) → P (Trap n v)) → P e → P (checked r cause (aligned target e))
unfolding aligned
targeted P r cause target e t h =
    checked_holds P r cause (aligned target e) t (cond_holds P (eqb (target % target_alignment) 0) e (Trap fetch_misaligned target) h
    (t fetch_misaligned target))

-- what holds of a jump to each target, and of an advance, holds of a branch
branched : (P : Effect → Type 0) (takes : Bool) (target : ℕ) (regs : List ℕ) → P (taken_effect target regs) → P Advance → P (branch_effect takes target regs)
unfolding branch_effect
branched P takes target regs h k = cond_holds P takes (taken_effect target regs) Advance h k

-- ---- stores

pub jump_storeless : (bytes edition : ℕ) (i : JumpInstruction) (regs : List ℕ) → Storeless (jump_effect bytes edition i regs)
unfolding jump_effect jal_effect jalr_effect taken_effect mret_effect
jump_storeless bytes edition (Jal rd offset) regs = targeted Storeless _ _ _ _ (λ n v. tt) tt
jump_storeless bytes edition (Jalr rd rs1 offset) regs = targeted Storeless _ _ _ _ (λ n v. tt) tt
jump_storeless bytes edition (Branch kind rs1 rs2 offset) regs = branched Storeless _ _ regs (targeted Storeless _ _ _ _ (λ n v. tt) tt) tt
jump_storeless bytes edition Mret regs = checked_holds Storeless _ _ _ (λ n v. tt) tt

-- ---- tags

moved_tag : (c : Capability) (address : ℕ) → GoodTag c → GoodTag (move_of c address)
moved_tag c address h = kept_good c (move_of c address) (move_kept c address) h

typed_tag : (c : Capability) (t : ℕ) → GoodTag c → GoodTag (with_object_type c t)
typed_tag c t h = kept_good c (with_object_type c t) (type_kept c t) h

pub link_tag : (bytes edition : ℕ) (pcc : Capability) (mstatus : ℕ) → GoodTag pcc → GoodTag (link_of bytes edition pcc mstatus)
unfolding link_of
link_tag bytes edition pcc mstatus h = typed_tag _ _ (moved_tag pcc _ h)

jal_good : (bytes edition rd target : ℕ) (regs : List ℕ) → GoodTags regs → GoodEffect (jal_effect bytes edition rd target regs)
unfolding jal_effect
jal_good bytes edition rd target regs h =
    targeted GoodEffect _ _ target _ (λ n v. tt)
    (link_tag bytes edition (pcc_of regs) (mstatus_of regs) (pcc_tag regs h), moved_tag (pcc_of regs) target (pcc_tag regs h))

jalr_good : (bytes edition rd rs1 offset target : ℕ) (c : Capability) (regs : List ℕ) → GoodTag c → GoodTags regs
    → GoodEffect (jalr_effect bytes edition rd rs1 offset target c regs)
unfolding jalr_effect
jalr_good bytes edition rd rs1 offset target c regs g h =
    targeted GoodEffect _ _ target _ (λ n v. tt)
    (link_tag bytes edition (pcc_of regs) (mstatus_of regs) (pcc_tag regs h), moved_tag (with_object_type c 0) target (typed_tag c 0 g))

taken_good : (target : ℕ) (regs : List ℕ) → GoodTags regs → GoodEffect (taken_effect target regs)
unfolding taken_effect
taken_good target regs h = targeted GoodEffect _ _ target _ (λ n v. tt) (omega arith, moved_tag (pcc_of regs) target (pcc_tag regs h))

mret_good : (regs : List ℕ) → GoodTags regs → GoodEffect (mret_effect regs)
unfolding mret_effect
mret_good regs h =
    checked_holds GoodEffect _ _ _ (λ n v. tt) (
      omega arith,
      legalized_tag return_alignment (capability_at regs mepcc_index)
          (capability_tag regs mepcc_index (omega arith) h),
    )

pub jump_good : (bytes edition : ℕ) (i : JumpInstruction) (regs : List ℕ) → GoodTags regs → GoodEffect (jump_effect bytes edition i regs)
unfolding jump_effect
jump_good bytes edition (Jal rd offset) regs h = jal_good bytes edition rd _ regs h
jump_good bytes edition (Jalr rd rs1 offset) regs h = jalr_good bytes edition rd rs1 offset _ (register_at regs rs1) regs (register_tag regs rs1 h) h
jump_good bytes edition (Branch kind rs1 rs2 offset) regs h = branched GoodEffect _ _ regs (taken_good _ regs h) tt
jump_good bytes edition Mret regs h = mret_good regs h
