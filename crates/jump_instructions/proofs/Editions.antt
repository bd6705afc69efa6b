-- Edition 0 is the report's jump. A return sentry is accepted by the return of the later edition alone, and there it is. Assumes nothing.
use Rattle.std.proofs.Common.{◌≡◌, ℕ, Bool, true, false, cond, not, ◌&&◌, ◌||◌, eqb, leb, List, refl, eq-eqb, eqb-true}
use Rattle.metadata.specs.Word.{type_of}
use Rattle.metadata.specs.Rights.{EX}
use Rattle.capability.specs.Capability.{grants, sealed, tagged}
use Rattle.capability.specs.Sealing.{is_sentry, sentry, sentry_enabling}
use Rattle.capability.specs.declared.Capability.{Capability}
use Rattle.instructions.specs.declared.JumpInstruction.{JumpInstruction}
use Rattle.instructions.specs.declared.JumpInstruction.TheVariants.{Jal, Jalr, Branch, Mret}
use Rattle.state.specs.Lent.{report_edition, later_edition}
use Rattle.state.specs.Checks.{fail_if, checked, capability_trap, seal_cause}
use Rattle.state.specs.declared.Effect.{Effect}
use Rattle.jump_instructions.specs.Editions.{return_disabling, return_enabling, link_register, no_link, later_table, accepts, link_type, jump_status}
use Rattle.jump_instructions.specs.Jumps.{link_of, target_cause, jal_effect, jalr_cause, jalr_effect, jump_effect}
use Rattle.jump_instructions.specs.Report.{report_jump, ReturnType, disabling, enabling, Returns}

-- ---- the report

pub report_jump_lem : (bytes : ℕ) (i : JumpInstruction) (regs : List ℕ) → jump_effect bytes report_edition i regs ≡ report_jump bytes i regs
unfolding jump_effect jal_effect jalr_effect jalr_cause link_of accepts link_type jump_status report_jump
report_jump_lem bytes (Jal rd offset) regs = refl
report_jump_lem bytes (Jalr rd rs1 offset) regs = refl
report_jump_lem bytes (Branch kind rs1 rs2 offset) regs = refl
report_jump_lem bytes Mret regs = refl

-- ---- return sentries

return_sealed : (t : ℕ) → ReturnType t → not (eqb t 0) ≡ true
return_sealed _ disabling = refl
return_sealed _ enabling = refl

return_no_sentry : (t : ℕ) → ReturnType t → leb sentry t && leb t sentry_enabling ≡ false
return_no_sentry _ disabling = refl
return_no_sentry _ enabling = refl

return_table : (t cd cs1 : ℕ) → ReturnType t → later_table t cd cs1 ≡ (eqb cd no_link && eqb cs1 link_register)
unfolding later_table
return_table t cd cs1 h = go t h (eqb cd no_link && eqb cs1 link_register) (eqb cd link_register)
  where
    go : (t : ℕ) → ReturnType t → (a b : Bool)
        → cond a (eqb t return_disabling || eqb t return_enabling) (cond b (leb sentry t && leb t sentry_enabling) (eqb t sentry)) ≡ a
    go _ disabling true b = refl
    go _ disabling false true = refl
    go _ disabling false false = refl
    go _ enabling true b = refl
    go _ enabling false true = refl
    go _ enabling false false = refl

module _ (edition rd rs1 : ℕ) (c : Capability) (return : ReturnType (type_of c.metadata)) where
  -- accepted in the later edition alone, executable, by a jump that links nothing and goes through c1
  pub return_accepted : accepts edition c rd rs1 ≡ (eqb edition later_edition && (grants c EX && (eqb rd no_link && eqb rs1 link_register)))
  unfolding accepts is_sentry
  return_accepted =
      rw (return_table (type_of c.metadata) rd rs1 return, return_no_sentry (type_of c.metadata) return)
      (go (eqb edition later_edition) (grants c EX) (eqb rd no_link && eqb rs1 link_register))
    where
      go : (e x a : Bool) → cond e (x && a) (x && false) ≡ (e && (x && a))
      go true x a = refl
      go false true a = refl
      go false false a = refl

  module _ (offset target : ℕ) (held : tagged c ≡ true) where
    -- whatever else a jump through it is, it is a seal violation
    pub return_alone : (Returns edition rd rs1 offset → ⊥) → (bytes : ℕ) (regs : List ℕ)
        → jalr_effect bytes edition rd rs1 offset target c regs ≡ capability_trap rs1 seal_cause
    unfolding jalr_effect jalr_cause checked sealed
    return_alone other bytes regs =
        rw (held, return_sealed (type_of c.metadata) return, return_accepted)
        (go (eqb edition later_edition) refl (grants c EX) (eqb rd no_link) refl (eqb rs1 link_register) refl (eqb offset 0) refl _ _)
      where
        go : (e : Bool) → eqb edition later_edition ≡ e → (x d : Bool) → eqb rd no_link ≡ d → (s : Bool) → eqb rs1 link_register ≡ s
            → (o : Bool) → eqb offset 0 ≡ o → (rest : ℕ) (jump : Effect)
            → cond (eqb (fail_if (not (e && (x && (d && s))) || not o) seal_cause rest) 0) jump
            (capability_trap rs1 (fail_if (not (e && (x && (d && s))) || not o) seal_cause rest)) ≡ capability_trap rs1 seal_cause
        go true p true true q true r true z rest jump =
            absurd (other (record {
              is_later = eqb-true edition later_edition p;
              links_none = eqb-true rd no_link q;
              through_link = eqb-true rs1 link_register r;
              no_offset = eqb-true offset 0 z;
            }))
        go true p true true q true r false z rest jump = refl
        go true p true true q false r o z rest jump = refl
        go true p true false q s r o z rest jump = refl
        go true p false d q s r o z rest jump = refl
        go false p x d q s r o z rest jump = refl

    -- and the return of an executable one is checked for its bounds alone
    pub return_taken : Returns edition rd rs1 offset → grants c EX ≡ true → jalr_cause edition rd rs1 c offset target ≡ target_cause c target
    unfolding jalr_cause sealed
    return_taken back executable =
        rw (
          held,
          return_accepted,
          executable,
          eq-eqb edition later_edition back.is_later,
          eq-eqb rd no_link back.links_none,
          eq-eqb rs1 link_register back.through_link,
          eq-eqb offset 0 back.no_offset,
          return_sealed (type_of c.metadata) return,
        )
