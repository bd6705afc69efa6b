-- The word read at the CSR's place.
use Rattle.state.proofs.registers.csr_at.Goals as goal

pub returns : goal.returns
returns c = simp (c.word_at.ensures, c.csr_index.ensures)
