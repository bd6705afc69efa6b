-- Both arms meet in the written register file; then on.
use Rattle.std.proofs.Common.{◌≡◌, refl, ◌∙◌, arith, length-set, eq-eqb, ne_eqb}
use Rattle.quick.specs.Turns.{written_at}
use Rattle.quick.proofs.Onward.{long_on, long_written}
use Rattle.quick.proofs.registers.write.Goals as goal
use Rattle.quick.proofs.registers.write.Goals.{then-i-ne0, else-i-ne0}

pub bounds-regs-i-then-i-ne0 : goal.bounds-regs-i-then-i-ne0
bounds-regs-i-then-i-ne0 c = simp length-set (omega arith)

pub bounds-regs-i-then-i-ne0-2 : goal.bounds-regs-i-then-i-ne0-2
bounds-regs-i-then-i-ne0-2 c = simp length-set (omega arith)

pub go_on-requires : goal.go_on-requires
go_on-requires c =
    let joined : c.if-i-ne0.regs ≡ written_at c.args.at c.args.c c.args.regs.now
    = elim c.if-i-ne0.branch [ then-i-ne0 w ↦ rw (ne_eqb _ _ w.if-i-ne0.true) w.regs-is | else-i-ne0 w ↦ rw (eq-eqb _ _ w.if-i-ne0.false) w.regs-is ] in
    rw joined (long_written c.args.regs.now c.args.at c.args.c ∙ c.requires.0)

pub shape_of-regs : goal.shape_of-regs
shape_of-regs c =
    let at = c.args.at in
    let l = c.args.regs.now in
    let joined : c.if-i-ne0.regs ≡ written_at c.args.at c.args.c c.args.regs.now
    = elim c.if-i-ne0.branch [ then-i-ne0 w ↦ rw (ne_eqb _ _ w.if-i-ne0.true) w.regs-is | else-i-ne0 w ↦ rw (eq-eqb _ _ w.if-i-ne0.false) w.regs-is ] in
    rw (c.go_on.ensures, joined) (long_on (written_at at c.args.c l) c.args.to ∙ long_written l at c.args.c)

pub returns : goal.returns
returns c =
    let joined : c.if-i-ne0.regs ≡ written_at c.args.at c.args.c c.args.regs.now
    = elim c.if-i-ne0.branch [ then-i-ne0 w ↦ rw (ne_eqb _ _ w.if-i-ne0.true) w.regs-is | else-i-ne0 w ↦ rw (eq-eqb _ _ w.if-i-ne0.false) w.regs-is ] in
    rw (c.go_on.ensures, joined) refl
