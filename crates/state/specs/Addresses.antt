-- At which addresses an instruction may stand, and the address after it. Document 01, "Traps"; document 02, 3; CHERIoT report, 7.5 and 9.4. Assumes nothing.
use Rattle.std.specs.Prelude.{ℕ, ◌+◌, ◌*◌, ◌/◌, List}
use Rattle.words.specs.Words.{wrap}
use Rattle.capability.specs.Capability.{move_of}
use Rattle.capability.specs.declared.Capability.{Capability}
use Rattle.state.specs.Registers.{pc_of}

-- the bytes that a jump's target must have in bounds, those of the shortest instruction (the report's min_instruction_bytes), and what its address is a
-- multiple of
abbrev pub target_bytes : ℕ
target_bytes = 2

abbrev pub target_alignment : ℕ
target_alignment = 2

-- the address after an instruction of some bytes
abbrev pub next_address : (bytes : ℕ) → (regs : List ℕ) → ℕ
next_address bytes regs = wrap (pc_of regs + bytes)

-- what an address of MTCC is cut to where it is used, and what an address of MEPCC is
abbrev pub vector_alignment : ℕ
vector_alignment = 4

abbrev pub return_alignment : ℕ
return_alignment = 2

-- a write or read of MTCC or MEPCC, a trap's entry and a return: the low address bits cleared, by the address-move rule also where that changes nothing
unfoldable pub legalized : (unit : ℕ) → Capability → Capability
legalized unit c = move_of c (c.address / unit * unit)
