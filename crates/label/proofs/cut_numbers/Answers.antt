-- `cut_numbers`: the numbers of the answer that `cut` promises. Assumes nothing.
use Rattle.label.proofs.cut_numbers.Goals as goal

pub returns : goal.returns
returns c = rw c.cut.ensures.answer_is at c.from.ensures
