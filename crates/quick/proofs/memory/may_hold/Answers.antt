-- Three ways to pass, a law each: untagged, global under MC, local under MC and SL.
use Rattle.quick.proofs.Accesses.{may_untagged, may_global, may_local}
use Rattle.quick.proofs.Reach.{passed}
use Rattle.std.proofs.Common.{sym, ◌∙◌, true≢false}
use Rattle.quick.proofs.memory.may_hold.Goals as goal

pub returns-then-v-ne1 : goal.returns-then-v-ne1
returns-then-v-ne1 c = λ h. may_untagged _ _ c.if-v-ne1.true

pub returns-then-not-has_right : goal.returns-then-not-has_right
returns-then-not-has_right c = λ h. absurd (true≢false (sym h))

pub returns-then-has_right : goal.returns-then-has_right
returns-then-has_right c =
    let if2 = c.if-not-has_right in
    let has_right = c.has_right in
    λ h. may_global _ _ (sym has_right.ensures ∙ passed _ if2.false-raw) (sym c.has_right-2.ensures ∙ c.if-has_right.true)

pub returns : goal.returns
returns c =
    let if2 = c.if-not-has_right in
    let has_right = c.has_right in
    λ h. may_local _ _ (sym has_right.ensures ∙ passed _ if2.false-raw) (sym c.has_right-3.ensures ∙ h)
