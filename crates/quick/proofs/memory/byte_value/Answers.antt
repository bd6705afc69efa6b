-- One byte, LB's extended; a kind of more bytes is not asked.
use Rattle.memory_instructions.specs.Access.{loaded_value}
use Rattle.quick.proofs.memory.byte_value.Goals as goal

pub returns-in-Lb : goal.returns-in-Lb
unfolding loaded_value
returns-in-Lb c = simp (c.sign_extend.ensures, c.load8-v.ensures, c.in-Lb.is)

pub returns-in-Lbu : goal.returns-in-Lbu
unfolding loaded_value
returns-in-Lbu c = simp (c.load8-v.ensures, c.in-Lbu.is)

pub returns-in-Lh : goal.returns-in-Lh
returns-in-Lh c = absurd (rw c.in-Lh.is at c.requires)

pub returns-in-Lhu : goal.returns-in-Lhu
returns-in-Lhu c = absurd (rw c.in-Lhu.is at c.requires)

pub returns-in-Lw : goal.returns-in-Lw
returns-in-Lw c = absurd (rw c.in-Lw.is at c.requires)
