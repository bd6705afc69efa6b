-- `scale_field`: the test is the definition's. Assumes nothing.
use Rattle.std.proofs.Common.{eq-eqb, ne_eqb}
use Rattle.bounds.specs.Cutting.{scale_field}
use Rattle.bounds.proofs.cutting.scale_field.Goals as goal

pub returns-then-e-eq-WIDEST : goal.returns-then-e-eq-WIDEST
unfolding scale_field
returns-then-e-eq-WIDEST c = simp (eq-eqb _ _ c.if-e-eq-WIDEST.true)

pub returns-else-e-eq-WIDEST : goal.returns-else-e-eq-WIDEST
unfolding scale_field
returns-else-e-eq-WIDEST c = simp (ne_eqb _ _ c.if-e-eq-WIDEST.false)
