-- Each reading has its clause of the definition.
use Rattle.words.specs.Multiply.{is_negative}
use Rattle.words.proofs.multiply.is_negative.Goals as goal

pub returns-in-Unsigned : goal.returns-in-Unsigned
unfolding is_negative
returns-in-Unsigned c = simp c.in-Unsigned.is

pub returns-in-Signed : goal.returns-in-Signed
unfolding is_negative
returns-in-Signed c = simp c.in-Signed.is
