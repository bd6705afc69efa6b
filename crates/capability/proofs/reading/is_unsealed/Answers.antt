-- The type read from the word, compared with 0.
use Rattle.capability.proofs.reading.is_unsealed.Goals as goal

pub returns : goal.returns
returns c = simp c.otype.ensures.0
