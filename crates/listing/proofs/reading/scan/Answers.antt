-- The invariant: reading what is left from the present state gives the whole.
use Rattle.std.proofs.Common.{sym, refl, ◌∙◌, eq-eqb, ne_eqb}
use Rattle.listing.proofs.Loops.{scan_turn, scan_end}
use Rattle.listing.proofs.reading.scan.Goals as goal

pub loop-x-init : goal.loop-x-init
loop-x-init c = refl

pub returns-then-x-eq-NEWLINE : goal.returns-then-x-eq-NEWLINE
returns-then-x-eq-NEWLINE c =
    sym (rw (eq-eqb _ _ c.if-x-eq-NEWLINE.true) at (scan_turn c.loop-x.s c.args.text.now c.loop-x.x-index c.loop-x-test.true)) ∙ c.loop-x.invariant

pub loop-x-preserved : goal.loop-x-preserved
loop-x-preserved c =
    rw c.step-s.ensures
    (sym (rw (ne_eqb _ _ c.if-x-eq-NEWLINE.false) at (scan_turn c.loop-x.s c.args.text.now c.loop-x.x-index c.loop-x-test.true)) ∙ c.loop-x.invariant)

pub returns : goal.returns
returns c = sym (scan_end c.loop-x.s c.args.text.now c.loop-x.x-index c.loop-x-test.false) ∙ c.loop-x.invariant
