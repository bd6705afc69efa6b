-- Without PCC's tag, or with the word 0, the limit 0 promises nothing; else k plus the quiet steps is just so many past k.
use Rattle.std.proofs.Common.{◌≡◌, ℕ, ◌+◌, ◌-◌, List, arith}
use Rattle.quick.specs.Entries.{Quiet}
use Rattle.quick.proofs.pace.limit_from.Goals as goal

until : (regs : List ℕ) (k r : ℕ) → Quiet r regs → Quiet (k + r - k) regs
until regs k r h = let e : k + r - k ≡ r = omega arith in rw e h

pub returns-then-regs-ne1 : goal.returns-then-regs-ne1
returns-then-regs-ne1 c = λ h. absurd (omega (arith, h))

pub returns-then-regs-eq0 : goal.returns-then-regs-eq0
returns-then-regs-eq0 c = λ h. absurd (omega (arith, h))

pub returns : goal.returns
returns c =
    let a = c.args in
    let q = c.quiet_steps in
    λ h. (c.if-regs-ne1.false, c.if-regs-eq0.false, until a.regs.now a.k q.result q.ensures.1)
