-- The register file, read and written. Document 01, "What is lent". Assumes nothing.
use Rattle.std.specs.Prelude.{ℕ, ◌+◌, ◌*◌, ◌%◌, cond, List, ◌==◌, slice_index, slice_set}
use Rattle.capability.specs.Capability.{capability}
use Rattle.capability.specs.declared.Capability.{Capability}
use Rattle.instructions.specs.declared.Csr.{Csr}
use Rattle.instructions.specs.declared.Csr.TheVariants.{Mstatus}
use Rattle.state.specs.Layout.{capability_words, general_count, pcc_index, csr_index}

-- capability i of the register file, and the register file with another there
unfoldable pub capability_at : (regs : List ℕ) → (i : ℕ) → Capability
capability_at regs i = capability (slice_index regs (i * capability_words)) (slice_index regs (i * capability_words + 1))
    (slice_index regs (i * capability_words + 2))

unfoldable pub set_capability : (regs : List ℕ) → (i : ℕ) → Capability → List ℕ
set_capability regs i c =
    slice_set (slice_set (slice_set regs (i * capability_words) c.address) (i * capability_words + 1) c.metadata) (i * capability_words + 2) c.tag

-- register c0 to c15, by a number of four bits; a decoded instruction names no other
abbrev pub register_at : (regs : List ℕ) → (r : ℕ) → Capability
register_at regs r = capability_at regs (r % general_count)

-- a register written; c0 stays
unfoldable pub write_register : (regs : List ℕ) → (rd : ℕ) → Capability → List ℕ
write_register regs rd c = cond (rd % general_count == 0) regs (set_capability regs (rd % general_count) c)

-- its address: what an instruction that reads an integer reads
unfoldable pub integer_at : (regs : List ℕ) → (r : ℕ) → ℕ
integer_at regs r = slice_index regs (r % general_count * capability_words)

abbrev pub pcc_of : List ℕ → Capability
pcc_of regs = capability_at regs pcc_index

abbrev pub pc_of : List ℕ → ℕ
pc_of regs = (pcc_of regs).address

abbrev pub csr_at : List ℕ → Csr → ℕ
csr_at regs r = slice_index regs (csr_index r)

abbrev pub mstatus_of : List ℕ → ℕ
mstatus_of regs = csr_at regs Mstatus
