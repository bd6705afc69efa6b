-- An arm a kind: the store of one, two or four bytes is that kind's.
use Rattle.quick.proofs.memory.put_small.Goals as goal

pub returns-in-Sb : goal.returns-in-Sb
returns-in-Sb c =
    let store8 = c.store8 in
    simp (store8.ensures, c.in-Sb.is)

pub returns-in-Sh : goal.returns-in-Sh
returns-in-Sh c =
    let store16 = c.store16 in
    simp (store16.ensures, c.in-Sh.is)

pub returns-in-Sw : goal.returns-in-Sw
returns-in-Sw c =
    let store32 = c.store32 in
    simp (store32.ensures, c.in-Sw.is)
