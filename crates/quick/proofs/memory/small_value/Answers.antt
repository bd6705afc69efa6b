-- Five kinds, each its load of bytes, LB and LH extended: the plain machine's value.
use Rattle.memory_instructions.specs.Access.{loaded_value}
use Rattle.quick.proofs.memory.small_value.Goals as goal

pub returns-in-Lb : goal.returns-in-Lb
unfolding loaded_value
returns-in-Lb c =
    simp (c.sign_extend.ensures, c.load8.ensures, c.in-Lb.is)

pub returns-in-Lbu : goal.returns-in-Lbu
unfolding loaded_value
returns-in-Lbu c = simp (c.load8-in-Lbu.ensures, c.in-Lbu.is)

pub returns-in-Lh : goal.returns-in-Lh
unfolding loaded_value
returns-in-Lh c =
    simp (c.sign_extend-in-Lh.ensures, c.load16.ensures, c.in-Lh.is)

pub returns-in-Lhu : goal.returns-in-Lhu
unfolding loaded_value
returns-in-Lhu c = simp (c.load16-in-Lhu.ensures, c.in-Lhu.is)

pub returns-in-Lw : goal.returns-in-Lw
unfolding loaded_value
returns-in-Lw c = simp (c.load32.ensures, c.in-Lw.is)
