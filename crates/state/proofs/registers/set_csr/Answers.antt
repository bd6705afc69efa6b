-- The word put at the CSR's place.
use Rattle.state.proofs.registers.set_csr.Goals as goal

pub returns : goal.returns
returns c = simp (c.put_word.ensures, c.csr_index.ensures)
