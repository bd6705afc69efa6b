-- What is lent, as numbers of its types. Document 01, "What is lent". Assumes nothing.
use Rattle.words.specs.Words.{Bytes}
use Rattle.state.specs.Fits.{Words}
use Rattle.state.specs.Lent.{State}

-- each register word is a word, and each element of memory and of the tags is a byte
pub record InType (s : State) : Type 0 where
  pub registers_in : Words s.regs
  pub memory_in : Bytes s.mem
  pub tags_in : Bytes s.tags
