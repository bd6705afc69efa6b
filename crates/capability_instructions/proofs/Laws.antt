-- No instruction of this family stores, and none sets a tag other than 0 or 1. Assumes nothing.
use Rattle.std.proofs.Common.{ℕ, ◌+◌, List, refl, arith}
use Rattle.words.specs.Words.{wrap}
use Rattle.capability.specs.Capability.{capability, set_bounds_of, clear_tag}
use Rattle.capability.specs.declared.Capability.{Capability}
use Rattle.capability.proofs.Laws.{clear_kept, move_kept, set_bounds_kept}
use Rattle.instructions.specs.declared.Combination.{Combination}
use Rattle.instructions.specs.declared.Combination.TheVariants.{SetBounds, SetBoundsExact, Seal, Unseal, AndPerm, SetAddr, IncAddr, SubAddr, SetHigh}
use Rattle.instructions.specs.declared.Combination.TheVariants.{TestSubset, SetEqualExact}
use Rattle.instructions.specs.declared.CapabilityInstruction.{CapabilityInstruction}
use Rattle.instructions.specs.declared.CapabilityInstruction.TheVariants.{AuiPcc, AuiCgp, IncAddrImm, SetBoundsImm, Move, ClearTag, Inspect, Combine}
use Rattle.state.specs.Registers.{register_at, pcc_of}
use Rattle.state.specs.Effects.{Storeless, GoodTag, GoodTags, GoodEffect}
use Rattle.state.proofs.Laws.{kept_good, register_tag, pcc_tag}
use Rattle.capability_instructions.specs.Derivation.{moved_by, subset, equal_exact, combined, global_pointer, capability_effect}
use Rattle.capability_instructions.proofs.Derived.{Derived, cut, cut_exactly, sealed, unsealed, narrowed, moved, untagged, number, truth_value}
use Rattle.capability_instructions.proofs.Derived.{derived_tag}

pub capability_storeless : (i : CapabilityInstruction) (regs : List ℕ) → Storeless (capability_effect i regs)
unfolding capability_effect
capability_storeless (AuiPcc rd offset) regs = tt
capability_storeless (AuiCgp rd offset) regs = tt
capability_storeless (IncAddrImm rd rs1 offset) regs = tt
capability_storeless (SetBoundsImm rd rs1 n) regs = tt
capability_storeless (Move rd rs1) regs = tt
capability_storeless (ClearTag rd rs1) regs = tt
capability_storeless (Inspect what rd rs1) regs = tt
capability_storeless (Combine what rd rs1 rs2) regs = tt

moved_tag : (c : Capability) (offset : ℕ) → GoodTag c → GoodTag (moved_by c offset)
moved_tag c offset h = kept_good c (moved_by c offset) (move_kept c (wrap (c.address + offset))) h

-- what two registers combine to: a clause an instruction, from which its tag, its words and its authority follow
pub combined_derived : (what : Combination) (c d : Capability) → Derived c d (combined what c d)
unfolding combined
combined_derived SetBounds c d = cut d.address
combined_derived SetBoundsExact c d = cut_exactly d.address
combined_derived Seal c d = sealed
combined_derived Unseal c d = unsealed
combined_derived AndPerm c d = narrowed d.address
combined_derived SetAddr c d = moved d.address (λ g. g.address_fits)
combined_derived IncAddr c d = moved (wrap (c.address + d.address)) (λ g. omega arith)
combined_derived SubAddr c d = number _ (omega arith)
combined_derived SetHigh c d =
    untagged (capability c.address d.address 0) refl
    (λ g h. record { address_fits = g.address_fits; metadata_fits = h.address_fits; tag_fits = omega arith })
combined_derived TestSubset c d = truth_value (subset c d)
combined_derived SetEqualExact c d = truth_value (equal_exact c d)

pub capability_good : (i : CapabilityInstruction) (regs : List ℕ) → GoodTags regs → GoodEffect (capability_effect i regs)
unfolding capability_effect
capability_good (AuiPcc rd offset) regs h = moved_tag (pcc_of regs) offset (pcc_tag regs h)
capability_good (AuiCgp rd offset) regs h = moved_tag (register_at regs global_pointer) offset (register_tag regs global_pointer h)
capability_good (IncAddrImm rd rs1 offset) regs h = moved_tag (register_at regs rs1) offset (register_tag regs rs1 h)
capability_good (SetBoundsImm rd rs1 n) regs h =
    kept_good (register_at regs rs1) (set_bounds_of (register_at regs rs1) n) (set_bounds_kept (register_at regs rs1) n) (register_tag regs rs1 h)
capability_good (Move rd rs1) regs h = register_tag regs rs1 h
capability_good (ClearTag rd rs1) regs h =
    kept_good (register_at regs rs1) (clear_tag (register_at regs rs1)) (clear_kept (register_at regs rs1)) (register_tag regs rs1 h)
capability_good (Inspect what rd rs1) regs h = omega (arith, register_tag regs rd h)
capability_good (Combine what rd rs1 rs2) regs h =
    derived_tag (register_at regs rs1) (register_at regs rs2) _ (combined_derived what (register_at regs rs1) (register_at regs rs2)) (register_tag regs rs1 h)
