-- What is lent: numbers and bits that no step changes, and the buffers that a step may change. Document 01, "What is lent"; document 02, 8. Assumes nothing.
use Rattle.std.specs.Prelude.{ℕ, List}
use Rattle.state.specs.declared.Board.{Board}

-- the lent buffers that a step may change
pub record State : Type 0 where
  pub regs : List ℕ
  pub mem : List ℕ
  pub tags : List ℕ

abbrev pub state : (regs mem tags : List ℕ) → State
state r m t = record { regs = r; mem = m; tags = t }

-- what an instruction sees beside the register file: the board's numbers, memory and its tags as they stand, and the revocation bits
pub record Lent : Type 0 where
  pub board : Board
  pub mem : List ℕ
  pub tags : List ℕ
  pub revoked : List ℕ

abbrev pub lent : Board → (mem tags revoked : List ℕ) → Lent
lent board mem tags revoked = record { board = board; mem = mem; tags = tags; revoked = revoked }

-- the editions of the architecture, by their numbers: the report, and the later one
abbrev pub report_edition : ℕ
report_edition = 0

abbrev pub later_edition : ℕ
later_edition = 1
