-- A byte is always aligned, a half where its remainder was compared; LW is refused and says nothing.
use Rattle.std.proofs.Common.{sym, true≢false, arith, eqb-true}
use Rattle.quick.proofs.memory.is_small_aligned.Goals as goal

pub returns-in-Lb : goal.returns-in-Lb
returns-in-Lb c = λ h. rw c.in-Lb.is (omega arith)

pub returns-in-Lbu : goal.returns-in-Lbu
returns-in-Lbu c = λ h. rw c.in-Lbu.is (omega arith)

pub returns-in-Lh : goal.returns-in-Lh
returns-in-Lh c = λ h. rw c.in-Lh.is (eqb-true _ _ h)

pub returns-in-Lhu : goal.returns-in-Lhu
returns-in-Lhu c = λ h. rw c.in-Lhu.is (eqb-true _ _ h)

pub returns-in-Lw : goal.returns-in-Lw
returns-in-Lw c = λ h. absurd (true≢false (sym h))
