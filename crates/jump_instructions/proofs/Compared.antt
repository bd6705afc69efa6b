-- A jump in both editions. All of it but acceptance, link's type and MIE is one term in both, so a check that fails for another reason fails in both, and past
-- the checks the jumps are apart by what the type of a link and MIE change.
use Rattle.std.proofs.Common.{◌≡◌, ℕ, ◌%◌, ◌^◌, ◌<◌, Bool, true, false, cond, not, ◌&&◌, ◌||◌, eqb, List, sym, refl, ◌∙◌, arith}
use Rattle.words.specs.Words.{with_bit}
use Rattle.words.proofs.Bits.{with_bit_other}
use Rattle.metadata.specs.Rights.{bit}
use Rattle.metadata.proofs.Words.{permissions_of_type, scale_of_type, top_of_type, base_of_type}
use Rattle.metadata.proofs.Joined.{reserved_of_type}
use Rattle.capability.specs.Capability.{sealed, tagged}
use Rattle.capability.specs.Sealing.{with_object_type, sentry_disabling, sentry_enabling}
use Rattle.capability.specs.declared.Capability.{Capability}
use Rattle.instructions.specs.declared.JumpInstruction.{JumpInstruction}
use Rattle.instructions.specs.declared.JumpInstruction.TheVariants.{Jal, Jalr, Branch, Mret}
use Rattle.state.specs.Addresses.{target_alignment}
use Rattle.state.specs.Lent.{report_edition, later_edition}
use Rattle.state.specs.Registers.{register_at, pcc_of, mstatus_of}
use Rattle.state.specs.Status.{MIE}
use Rattle.state.specs.Checks.{checked, fail_if, capability_trap, tag_cause, seal_cause, fetch_misaligned}
use Rattle.state.specs.declared.Effect.{Effect}
use Rattle.state.specs.declared.Effect.TheVariants.{Trap}
use Rattle.state.proofs.Laws.{cond_holds, checked_both}
use Rattle.jump_instructions.specs.Editions.{return_disabling, return_enabling, report_status, later_status, jump_status}
use Rattle.jump_instructions.specs.Jumps.{link_of, aligned, jal_effect, jalr_cause, jalr_effect, jump_effect}
use Rattle.jump_instructions.specs.Compared.{SameButType, SameButMie, ApartJump, jump_apart, InEditions, alike, apart, report_alone, later_alone}
use Rattle.jump_instructions.specs.Compared.{links_by, goes_by, accepted_in}

-- ---- what the edition decides beside acceptance

-- of one capability with two types
typed_apart : (c : Capability) (t u : ℕ) → SameButType (with_object_type c t) (with_object_type c u)
unfolding with_object_type
typed_apart c t u =
    let w : ℕ = c.metadata in
    let p : t % 2 ^ 3 < 8 = omega arith in
    let q : u % 2 ^ 3 < 8 = omega arith in
    record {
      address_same = refl;
      tag_same = refl;
      reserved_same = reserved_of_type w (u % 2 ^ 3) q ∙ sym (reserved_of_type w (t % 2 ^ 3) p);
      permissions_same = permissions_of_type w (u % 2 ^ 3) q ∙ sym (permissions_of_type w (t % 2 ^ 3) p);
      scale_same = scale_of_type w (u % 2 ^ 3) ∙ sym (scale_of_type w (t % 2 ^ 3));
      top_same = top_of_type w (u % 2 ^ 3) ∙ sym (top_of_type w (t % 2 ^ 3));
      base_same = base_of_type w (u % 2 ^ 3) ∙ sym (base_of_type w (t % 2 ^ 3));
    }

link_apart : (bytes : ℕ) (pcc : Capability) (mstatus : ℕ) → SameButType (link_of bytes report_edition pcc mstatus) (link_of bytes later_edition pcc mstatus)
unfolding link_of
link_apart bytes pcc mstatus = typed_apart _ _ _

-- no other bit of mstatus follows a jump
module _ (m k : ℕ) (n : k ≡ MIE → ⊥) where
  abbrev Same : ℕ → Type 0
  Same x = bit x k ≡ bit m k

  by_mie : (off on : Bool) → Same (cond off (with_bit m MIE 0) (cond on (with_bit m MIE 1) m))
  by_mie off on =
      cond_holds Same off (with_bit m MIE 0) (cond on (with_bit m MIE 1) m) (with_bit_other m MIE 0 k n)
      (cond_holds Same on (with_bit m MIE 1) m (with_bit_other m MIE 1 k n) refl)

  mie_alone : (edition t : ℕ) → Same (jump_status edition t m)
  unfolding jump_status later_status report_status
  mie_alone edition t =
      cond_holds Same (eqb edition later_edition) (later_status t m) (report_status t m)
      (by_mie (eqb t sentry_disabling || eqb t return_disabling) (eqb t sentry_enabling || eqb t return_enabling))
      (by_mie (eqb t sentry_disabling) (eqb t sentry_enabling))

status_apart : (t m : ℕ) → SameButMie (jump_status report_edition t m) (jump_status later_edition t m)
status_apart t m k n = mie_alone m k n later_edition t ∙ sym (mie_alone m k n report_edition t)

-- ---- checks

module _ (Apart : Effect → Effect → Type 0) (v : Effect) (a b : Bool) where
  abbrev Both : Effect → Effect → Type 0
  Both d e = InEditions Apart v a b d e

  aligned_both : (target : ℕ) (d e : Effect) → Both d e → Both (aligned target d) (aligned target e)
  unfolding aligned
  aligned_both target d e h = go (eqb (target % target_alignment) 0)
    where
      go : (t : Bool) → Both (cond t d (Trap fetch_misaligned target)) (cond t e (Trap fetch_misaligned target))
      go true = h
      go false = alike

  targeted_both : (r cause target : ℕ) (d e : Effect) → Apart d e → Both (checked r cause (aligned target d)) (checked r cause (aligned target e))
  targeted_both r cause target d e h = checked_both Both r cause _ _ (λ x. alike) (aligned_both target d e (apart h))

-- a check before acceptance, acceptance itself, and what is checked after it
accepted_both : (Apart : Effect → Effect → Type 0) (r rest : ℕ) (d e : Effect) (held shut a b still : Bool)
    → InEditions Apart (capability_trap r seal_cause) a b (checked r rest d) (checked r rest e)
    → InEditions Apart (capability_trap r seal_cause) a b
    (checked r (fail_if (not held) tag_cause (fail_if (shut && (not a || not still)) seal_cause rest)) d)
    (checked r (fail_if (not held) tag_cause (fail_if (shut && (not b || not still)) seal_cause rest)) e)
unfolding checked
accepted_both Apart r rest d e false shut a b still h = alike
accepted_both Apart r rest d e true false a b still h = h
accepted_both Apart r rest d e true true true true true h = h
accepted_both Apart r rest d e true true true false true h = report_alone refl refl
accepted_both Apart r rest d e true true false true true h = later_alone refl refl
accepted_both Apart r rest d e true true false false true h = alike
accepted_both Apart r rest d e true true true true false h = alike
accepted_both Apart r rest d e true true true false false h = alike
accepted_both Apart r rest d e true true false true false h = alike
accepted_both Apart r rest d e true true false false false h = alike

-- ---- the jump

pub jump_compared : (bytes : ℕ) (i : JumpInstruction) (regs : List ℕ)
    → InEditions (ApartJump (links_by i)) (capability_trap (goes_by i) seal_cause) (accepted_in report_edition i regs) (accepted_in later_edition i regs)
    (jump_effect bytes report_edition i regs) (jump_effect bytes later_edition i regs)
unfolding jump_effect jal_effect jalr_effect jalr_cause
jump_compared bytes (Jal rd offset) regs =
    targeted_both _ _ _ _ _ _ _ _ _ (jump_apart (link_apart bytes (pcc_of regs) (mstatus_of regs)) (λ k n. refl))
jump_compared bytes (Jalr rd rs1 offset) regs =
    accepted_both _ rs1 _ _ _ (tagged (register_at regs rs1)) (sealed (register_at regs rs1)) _ _ (eqb offset 0)
    (targeted_both _ _ _ _ _ _ _ _ _ (jump_apart (link_apart bytes (pcc_of regs) (mstatus_of regs)) (status_apart _ (mstatus_of regs))))
jump_compared bytes (Branch kind rs1 rs2 offset) regs = alike
jump_compared bytes Mret regs = alike

-- ---- what is made of both

pub in_editions : {A B : Type 0} (P : A → A → Type 0) (Q : B → B → Type 0) (f : A → B) (v : A) (r l : Bool) → ((x y : A) → P x y → Q (f x) (f y))
    → (x y : A) → InEditions P v r l x y → InEditions Q (f v) r l (f x) (f y)
in_editions P Q f v r l g x _ alike = alike
in_editions P Q f v r l g x y (apart h) = apart (g x y h)
in_editions P Q f v r l g x _ (report_alone p q) = report_alone p q
in_editions P Q f v r l g _ y (later_alone p q) = later_alone p q
