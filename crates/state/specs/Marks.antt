-- The stack's high-water mark. Document 02, 6; docs/DECISIONS.md says what the pair does. Assumes nothing.
use Rattle.std.specs.Prelude.{ℕ, ◌*◌, ◌/◌, Bool, cond, ◌&&◌, List, nat_le, nat_lt, slice_set}
use Rattle.instructions.specs.declared.Csr.TheVariants.{Mshwm, Mshwmb}
use Rattle.state.specs.Layout.{csr_index}
use Rattle.state.specs.Registers.{csr_at}

-- a word with its low four bits cleared: what a CSR instruction or a store writes to the pair
abbrev pub mark_grain : ℕ
mark_grain = 16

unfoldable pub cleared : (word : ℕ) → ℕ
cleared w = w / mark_grain * mark_grain

-- an address lies from the base on and below the mark, both words taken whole
unfoldable pub below_mark : (regs : List ℕ) → (address : ℕ) → Bool
below_mark regs address = nat_le (csr_at regs Mshwmb) address && nat_lt address (csr_at regs Mshwm)

-- the register file after a store at an address, its lowest: the mark comes down to it
unfoldable pub marked : (address : ℕ) → (regs : List ℕ) → List ℕ
marked address regs = cond (below_mark regs address) (slice_set regs (csr_index Mshwm) (cleared address)) regs
