-- Every refusal leaves the rows; a row written past all of them has the bounds read, cut to memory, and is good.
use Rattle.quick.proofs.Reach.{passed, row_filled, good_put}
use Rattle.bounds.specs.declared.Region.{Region}
use Rattle.std.proofs.Common.{sym, ap, ◌∙◌, arith}
use Rattle.quick.proofs.rows.fill.Goals as goal

pub returns : goal.returns
returns c =
    let struct-known5 = c.struct_known-5-1 in
    let if4 = c.if-b-c in
    let if3 = c.if-c-b in
    let struct-known2 = c.struct_known-2-1 in
    let bounds_of = c.bounds_of-b in
    let if2 = c.if-not-has_right in
    let has_right = c.has_right in
    let if1 = c.if-is_sealed in
    let is-sealed = c.is_sealed in
    let p = c.requires in
    let low_is = ap (λ (x : Region). x.low) bounds_of.ensures.0 in
    let high_is = ap (λ (x : Region). x.high) bounds_of.ensures.0 in
    good_put _ _ _ _ _ _ _ p.0 p.1
    (row_filled _ _ _ _ _ _ (omega (arith, struct-known5.given, struct-known2.given)) (sym is-sealed.ensures ∙ if1.false)
    (rw (← p.2) (sym has_right.ensures ∙ passed _ if2.false-raw)) (rw (← low_is) if3.false) (rw (← high_is) if4.false)
    (omega (arith, low_is, c.max.ensures)) (omega (arith, c.max.ensures)) (omega (arith, high_is, c.min.ensures))
    (omega (arith, c.min.ensures, c.saturating_add.ensures))) p.3
