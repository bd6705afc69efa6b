-- A byte is always aligned, a half where its remainder was compared; SW is refused and says nothing.
use Rattle.std.proofs.Common.{sym, true≢false, arith, eqb-true}
use Rattle.quick.proofs.memory.is_small_store.Goals as goal

pub returns-in-Sb : goal.returns-in-Sb
returns-in-Sb c = λ h. rw c.in-Sb.is (omega arith)

pub returns-in-Sh : goal.returns-in-Sh
returns-in-Sh c = λ h. rw c.in-Sh.is (eqb-true _ _ h)

pub returns-in-Sw : goal.returns-in-Sw
returns-in-Sw c = λ h. absurd (true≢false (sym h))
