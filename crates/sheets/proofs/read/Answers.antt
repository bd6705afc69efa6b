-- `read`: the loop keeps `Going`, that what is left reads, after the regions so far, as the whole text. Each way out is one of its laws. Assumes nothing.
use Rattle.std.proofs.Common.{◌≡◌, ◌<◌, ◌+◌, sym, ◌∙◌, arith, rules, length, drop, eq-eqb, ◌-◌, length-drop}
use lib.Seq.{take_all}
use Rattle.std.proofs.lemmas.Result.{err_from_is_err_and}
use Rattle.sheets.proofs.Walk.{close, stays, going_start, refused_last, refused_shape, refused_region, refused_end, stopped, told, turned, closed_end}
use Rattle.sheets.proofs.Walk.{short}
use Rattle.sheets.proofs.read.Goals as goal

pub loop-rest-init : goal.loop-rest-init
loop-rest-init c = rw c.new-sheet.ensures (going_start c.args.image c.args.text.now)

-- the text ends in the line
pub returns-then-line-rest : goal.returns-then-line-rest
returns-then-line-rest c =
    let h : 0 < length c.loop-rest.rest.now = search rules in
    rw c.regions.ensures.0 (refused_last c.loop-rest.invariant c.first_line-line.ensures h c.if-line-rest.true)

-- the empty line after an image's sheet
pub returns-in_err-sheet : goal.returns-in_err-sheet
unfolding close
returns-in_err-sheet c =
    let p = err_from_is_err_and c.from_residual.result c.from_residual.ensures.1 in
    let z = c.if-line-eq0.true in
    let s = stopped c.loop-rest.invariant c.first_line-line.ensures c.if-line-rest.false z (rw (c.if-image.true, eq-eqb _ _ z)) in
    rw (p.1, p.2) (rw (sym c.ended.ensures ∙ c.in_err-sheet.was) at s)

pub returns-then-line-eq0 : goal.returns-then-line-eq0
unfolding close
returns-then-line-eq0 c =
    let z = c.if-line-eq0.true in
    let s = stopped c.loop-rest.invariant c.first_line-line.ensures c.if-line-rest.false z (rw (c.if-image.true, eq-eqb _ _ z)) in
    rw (sym c.ended.ensures ∙ c.in_ok-sheet.was) at s

-- a line of another form
pub region_in-requires : goal.region_in-requires
region_in-requires c w =
    let t = told c.loop-rest.invariant c.first_line-line.ensures c.if-line-rest.false w in
    (t.0, t.1)

pub returns-in_default : goal.returns-in_default
returns-in_default c =
    rw c.regions.ensures.0
    (refused_shape c.loop-rest.invariant c.first_line-line.ensures c.if-line-rest.false (stays c.else-image.either) (sym c.region_in.ensures ∙ c.in_default.is))

-- a region that may not follow
pub returns-then-not-admit : goal.returns-then-not-admit
returns-then-not-admit c =
    rw c.regions.ensures.0
    (refused_region c.loop-rest.invariant c.first_line-line.ensures c.if-line-rest.false (stays c.else-image.either) (sym c.region_in.ensures ∙ c.in-Some.is)
    (sym c.admit.ensures.taken_is ∙ c.if-not-admit.true))

pub overflow_add-rest : goal.overflow_add-rest
overflow_add-rest c = omega (arith, short c.loop-rest.invariant c.first_line-line.ensures c.if-line-rest.false)

pub slice_bounds-rest-count : goal.slice_bounds-rest-count
slice_bounds-rest-count c = omega (arith, short c.loop-rest.invariant c.first_line-line.ensures c.if-line-rest.false)

pub slice_bounds-rest-start : goal.slice_bounds-rest-start
slice_bounds-rest-start c = omega (arith, short c.loop-rest.invariant c.first_line-line.ensures c.if-line-rest.false)

pub loop-rest-preserved : goal.loop-rest-preserved
loop-rest-preserved c =
    let a = sym c.admit.ensures.taken_is ∙ c.if-not-admit.false in
    let told = sym c.region_in.ensures ∙ c.in-Some.is in
    let g = turned c.loop-rest.invariant c.first_line-line.ensures c.if-line-rest.false (stays c.else-image.either) told a in
    let n = c.first_line-line.result.length in
    let e = take_all (length c.loop-rest.rest.now - (n + 1)) (drop (n + 1) c.loop-rest.rest.now) (omega (arith, length-drop (n + 1) c.loop-rest.rest.now)) in
    rw (e, c.admit.ensures.after_is, a) g

-- the text's end at a line's start
pub returns-then-image-2 : goal.returns-then-image-2
returns-then-image-2 c =
    let z : length c.loop-rest.rest.now ≡ 0 = search rules in
    rw c.regions-then-image-2.ensures.0 (refused_end c.loop-rest.invariant z c.if-image-2.true)

pub returns-in_err-sheet-2 : goal.returns-in_err-sheet-2
unfolding close
returns-in_err-sheet-2 c =
    let p = err_from_is_err_and c.from_residual-in_err-sheet-2.result c.from_residual-in_err-sheet-2.ensures.1 in
    let z : length c.loop-rest.rest.now ≡ 0 = search rules in
    let s = closed_end c.loop-rest.invariant z c.if-image-2.false in
    rw (p.1, p.2) (rw (sym c.ended-2.ensures ∙ c.in_err-sheet-2.was) at s)

pub returns : goal.returns
unfolding close
returns c =
    let z : length c.loop-rest.rest.now ≡ 0 = search rules in
    let s = closed_end c.loop-rest.invariant z c.if-image-2.false in
    rw (sym c.ended-2.ensures ∙ c.in_ok-sheet-2.was) at s
