-- Every integer and capability that an instruction of this family writes fits. Assumes nothing.
use Rattle.std.proofs.Common.{ℕ, List, arith}
use Rattle.bounds.proofs.Fits.{alignment_mask_word, representable_length_word}
use Rattle.capability.specs.Capability.{Good, high}
use Rattle.capability.specs.declared.Capability.{Capability}
use Rattle.capability.proofs.Laws.{low_lt, rights_lt, object_type_lt, clear_good, move_good, set_bounds_good}
use Rattle.instructions.specs.Range.{Word}
use Rattle.instructions.specs.declared.Inspection.{Inspection}
use Rattle.instructions.specs.declared.Inspection.TheVariants.{GetPerm, GetType, GetBase, GetLen, GetTag, RoundLength, AlignmentMask, GetAddr, GetHigh, GetTop}
use Rattle.instructions.specs.declared.CapabilityInstruction.{CapabilityInstruction}
use Rattle.instructions.specs.declared.CapabilityInstruction.TheVariants.{AuiPcc, AuiCgp, IncAddrImm, SetBoundsImm, Move, ClearTag, Inspect, Combine}
use Rattle.state.specs.Registers.{register_at, pcc_of}
use Rattle.state.specs.Fits.{FitsRegisters, FitsEffect}
use Rattle.state.proofs.Fits.{register_fits, pcc_fits}
use Rattle.capability_instructions.specs.Derivation.{moved_by, at_most_word, length_of, inspected, global_pointer, capability_effect}
use Rattle.capability_instructions.proofs.Derived.{derived_fits}
use Rattle.capability_instructions.proofs.Laws.{combined_derived}

at_most_word_lem : (x : ℕ) → Word (at_most_word x)
at_most_word_lem x = omega arith

pub inspected_word : (what : Inspection) (c : Capability) → Good c → Word (inspected what c)
unfolding inspected
inspected_word GetPerm c g = omega (arith, rights_lt c)
inspected_word GetType c g = omega (arith, object_type_lt c)
inspected_word GetBase c g = low_lt c
inspected_word GetLen c g = at_most_word_lem (length_of c)
inspected_word GetTag c g = omega (arith, g.tag_fits)
inspected_word RoundLength c g = representable_length_word c.address
inspected_word AlignmentMask c g = alignment_mask_word c.address
inspected_word GetAddr c g = g.address_fits
inspected_word GetHigh c g = g.metadata_fits
inspected_word GetTop c g = at_most_word_lem (high c)

moved_fits : (c : Capability) (offset : ℕ) → Good c → Good (moved_by c offset)
moved_fits c offset g = move_good c _ g (omega arith)

-- Whatever the immediate: a moved address wraps, and the request of a cut may be any number. An integer fits by the limits of the registers too, so this says
-- nothing of what it leaves of them; that it leaves nothing is the function's own answer.
pub capability_fits : (i : CapabilityInstruction) (regs : List ℕ) → FitsRegisters regs → FitsEffect (capability_effect i regs)
unfolding capability_effect
capability_fits (AuiPcc rd offset) regs h = (moved_fits (pcc_of regs) offset (pcc_fits regs h), tt)
capability_fits (AuiCgp rd offset) regs h = (moved_fits (register_at regs global_pointer) offset (register_fits regs h global_pointer), tt)
capability_fits (IncAddrImm rd rs1 offset) regs h = (moved_fits (register_at regs rs1) offset (register_fits regs h rs1), tt)
capability_fits (SetBoundsImm rd rs1 n) regs h = (set_bounds_good (register_at regs rs1) n (register_fits regs h rs1), tt)
capability_fits (Move rd rs1) regs h = (register_fits regs h rs1, tt)
capability_fits (ClearTag rd rs1) regs h = (clear_good (register_at regs rs1) (register_fits regs h rs1), tt)
capability_fits (Inspect what rd rs1) regs h =
    let g = register_fits regs h rs1 in
    let old = register_fits regs h rd in (
      record {
        address_fits = inspected_word what (register_at regs rs1) g;
        metadata_fits = omega (arith, g.metadata_fits);
        tag_fits = omega (arith, old.tag_fits);
      },
      tt,
    )
capability_fits (Combine what rd rs1 rs2) regs h =
    let c = register_at regs rs1 in
    let d = register_at regs rs2 in
    (derived_fits c d _ (combined_derived what c d) (register_fits regs h rs1) (register_fits regs h rs2), tt)
