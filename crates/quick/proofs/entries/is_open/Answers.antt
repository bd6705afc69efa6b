-- Each refusal says nothing; after all of them each field of the promise is the test that was passed.
use Rattle.std.proofs.Common.{sym, ◌∙◌, true≢false, arith, eqb-true}
use Rattle.quick.proofs.entries.is_open.Goals as goal

pub returns-then-pcc-ne1 : goal.returns-then-pcc-ne1
returns-then-pcc-ne1 c = λ h. absurd (true≢false (sym h))

pub returns-then-pcc-ne0 : goal.returns-then-pcc-ne0
returns-then-pcc-ne0 c = λ h. absurd (true≢false (sym h))

pub returns-then-pcc-start : goal.returns-then-pcc-start
returns-then-pcc-start c = λ h. absurd (true≢false (sym h))

pub returns-then-size-pcc : goal.returns-then-size-pcc
returns-then-size-pcc c = λ h. absurd (true≢false (sym h))

pub returns : goal.returns
returns c =
    λ h. record {
      is_tagged = c.if-pcc-ne1.false;
      is_even = c.if-pcc-ne0.false;
      is_above = omega (arith, c.if-pcc-start.false);
      is_inside = omega (arith, c.if-pcc-start.false, c.if-size-pcc.false);
      allowed = sym c.access_cause.ensures ∙ eqb-true _ 0 h;
    }
