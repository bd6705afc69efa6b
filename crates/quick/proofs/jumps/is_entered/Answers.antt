-- What is not sealed is not shut; nor is what is accepted and has no offset.
use Rattle.std.proofs.Common.{sym, ◌∙◌, true≢false}
use Rattle.quick.proofs.Targets.{refused, open_not_shut, accepted_not_shut}
use Rattle.quick.proofs.jumps.is_entered.Goals as goal

pub returns-then-not-is_sealed : goal.returns-then-not-is_sealed
returns-then-not-is_sealed c =
    let a = c.args in
    λ h. open_not_shut a.edition a.rd a.rs1 a.offset a.c (sym c.is_sealed.ensures ∙ refused _ c.if-not-is_sealed.true-raw)

pub returns-then-offset-ne0 : goal.returns-then-offset-ne0
returns-then-offset-ne0 c = λ h. absurd (true≢false (sym h))

pub returns : goal.returns
returns c =
    let a = c.args in
    λ h. accepted_not_shut a.edition a.rd a.rs1 a.offset a.c c.if-offset-ne0.false (sym c.accepts.ensures ∙ h)
