-- The instructions that inspect, derive and compare capabilities. CHERIoT report, 8.1, 7.12 and 9.4. None of them traps. Assumes nothing.
use Rattle.std.specs.Prelude.{ℕ, ◌+◌, ◌-◌, ◌%◌, ◌^◌, min, Bool, cond, ◌&&◌, List, ◌==◌, bit_and, nat_le}
use Rattle.words.specs.Words.{wrap}
use Rattle.bounds.specs.Lengths.{alignment_mask, representable_length}
use Rattle.capability.specs.Capability.{capability, integer, low, high, rights, clear_tag, move_of, set_bounds_of, set_bounds_exact_of, narrow_of}
use Rattle.capability.specs.Sealing.{object_type, seal_of, unseal_of}
use Rattle.capability.specs.declared.Capability.{Capability}
use Rattle.instructions.specs.declared.Inspection.{Inspection}
use Rattle.instructions.specs.declared.Inspection.TheVariants.{GetPerm, GetType, GetBase, GetLen, GetTag, RoundLength, AlignmentMask, GetAddr, GetHigh, GetTop}
use Rattle.instructions.specs.declared.Combination.{Combination}
use Rattle.instructions.specs.declared.Combination.TheVariants.{SetBounds, SetBoundsExact, Seal, Unseal, AndPerm, SetAddr, IncAddr, SubAddr, SetHigh}
use Rattle.instructions.specs.declared.Combination.TheVariants.{TestSubset, SetEqualExact}
use Rattle.instructions.specs.declared.CapabilityInstruction.{CapabilityInstruction}
use Rattle.instructions.specs.declared.CapabilityInstruction.TheVariants.{AuiPcc, AuiCgp, IncAddrImm, SetBoundsImm, Move, ClearTag, Inspect, Combine}
use Rattle.state.specs.Registers.{register_at, pcc_of}
use Rattle.state.specs.declared.Effect.{Effect}
use Rattle.state.specs.declared.Effect.TheVariants.{Write}

-- an address moved by an offset: the sum wraps
abbrev pub moved_by : Capability → (offset : ℕ) → Capability
moved_by c offset = move_of c (wrap (c.address + offset))

-- the largest word, which CGetLen and CGetTop give for what is larger
abbrev pub at_most_word : ℕ → ℕ
at_most_word x = min x (2 ^ 32 - 1)

-- high - low, modulo 2^33: the 33-bit length
unfoldable pub length_of : Capability → ℕ
length_of c = (high c + 2 ^ 33 - low c) % 2 ^ 33

unfoldable pub inspected : Inspection → Capability → ℕ
inspected GetPerm c = rights c
inspected GetType c = object_type c
inspected GetBase c = low c
inspected GetLen c = at_most_word (length_of c)
inspected GetTag c = c.tag
inspected RoundLength c = representable_length c.address
inspected AlignmentMask c = alignment_mask c.address
inspected GetAddr c = c.address
inspected GetHigh c = c.metadata
inspected GetTop c = at_most_word (high c)

-- CTestSubset: tags equal, and the second's bounds and rights within the first's
unfoldable pub subset : (c d : Capability) → Bool
subset c d = c.tag == d.tag && (nat_le (low c) (low d) && (nat_le (high d) (high c) && bit_and (rights d) (rights c) == rights d))

-- CSetEqualExact: all three words equal
unfoldable pub equal_exact : (c d : Capability) → Bool
equal_exact c d = c.address == d.address && (c.metadata == d.metadata && c.tag == d.tag)

abbrev pub truth : Bool → Capability
truth b = integer (cond b 1 0)

unfoldable pub combined : Combination → (c d : Capability) → Capability
combined SetBounds c d = set_bounds_of c d.address
combined SetBoundsExact c d = set_bounds_exact_of c d.address
combined Seal c d = seal_of c d
combined Unseal c d = unseal_of c d
combined AndPerm c d = narrow_of c d.address
combined SetAddr c d = move_of c d.address
combined IncAddr c d = moved_by c d.address
combined SubAddr c d = integer (wrap (c.address + 2 ^ 32 - d.address))
combined SetHigh c d = capability c.address d.address 0
combined TestSubset c d = truth (subset c d)
combined SetEqualExact c d = truth (equal_exact c d)

-- c3, the global pointer that AUICGP adds to
abbrev pub global_pointer : ℕ
global_pointer = 3

unfoldable pub capability_effect : CapabilityInstruction → (regs : List ℕ) → Effect
capability_effect (AuiPcc rd offset) regs = Write rd (moved_by (pcc_of regs) offset)
capability_effect (AuiCgp rd offset) regs = Write rd (moved_by (register_at regs global_pointer) offset)
capability_effect (IncAddrImm rd rs1 offset) regs = Write rd (moved_by (register_at regs rs1) offset)
capability_effect (SetBoundsImm rd rs1 length) regs = Write rd (set_bounds_of (register_at regs rs1) length)
capability_effect (Move rd rs1) regs = Write rd (register_at regs rs1)
capability_effect (ClearTag rd rs1) regs = Write rd (clear_tag (register_at regs rs1))
capability_effect (Inspect what rd rs1) regs = Write rd (integer (inspected what (register_at regs rs1)))
capability_effect (Combine what rd rs1 rs2) regs = Write rd (combined what (register_at regs rs1) (register_at regs rs2))
