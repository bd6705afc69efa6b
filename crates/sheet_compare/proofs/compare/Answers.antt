-- `compare`: the first sheet bad, the second one bad, or the list, made whole in a buffer that is long enough for every list, and delivered. Assumes nothing.
use Rattle.std.proofs.Common.{◌≡◌, refl, false, Ok, Err, rules, ap, ◌∙◌}
use Rattle.std.proofs.lemmas.Result.{err_from_is_err_and}
use Rattle.sheets.proofs.Readings.{read_ok, read_err}
use Rattle.sheet_compare.specs.declared.CompareError.TheVariants.{BadFirst, BadSecond}
use Rattle.sheet_compare.proofs.Comparing.{first_bad, second_bad, lists, no_room}
use Rattle.sheet_compare.proofs.compare.Goals as goal

pub returns-in_err-a : goal.returns-in_err-a
returns-in_err-a c =
    let m = read_err c.read.ensures _ _ c.in_err-a.ensures.cases c.in_err-a.ensures.variant in
    let p = err_from_is_err_and c.from_residual.result c.from_residual.ensures.1 in
    let e : c.in_err-a.field-0.0 ≡ BadFirst m.0.line = search (rules, m.2) in
    rw (p.1 ∙ ap Err (p.2 ∙ e)) (first_bad c.args.out.now m.1)

pub returns-in_err-b : goal.returns-in_err-b
returns-in_err-b c =
    let ka = read_ok c.read.ensures _ _ c.in_ok-a.ensures.cases c.in_ok-a.ensures.variant in
    let m = read_err c.read-2.ensures _ _ c.in_err-b.ensures.cases c.in_err-b.ensures.variant in
    let p = err_from_is_err_and c.from_residual-in_err-b.result c.from_residual-in_err-b.ensures.1 in
    let e : c.in_err-b.field-0.0 ≡ BadSecond m.0.line = search (rules, m.2) in
    rw (p.1 ∙ ap Err (p.2 ∙ e)) (second_bad ka c.args.out.now m.1)

pub returns-then-deliver : goal.returns-then-deliver
returns-then-deliver c =
    let ka = read_ok c.read.ensures _ _ c.in_ok-a.ensures.cases c.in_ok-a.ensures.variant in
    let kb = read_ok c.read-2.ensures _ _ c.in_ok-b.ensures.cases c.in_ok-b.ensures.variant in
    lists ka kb refl (rw (c.regions.ensures.0, c.regions-2.ensures.0) at c.put_names-n.ensures.0) c.deliver.ensures c.if-deliver.true

pub returns-else-deliver : goal.returns-else-deliver
returns-else-deliver c =
    let ka = read_ok c.read.ensures _ _ c.in_ok-a.ensures.cases c.in_ok-a.ensures.variant in
    let kb = read_ok c.read-2.ensures _ _ c.in_ok-b.ensures.cases c.in_ok-b.ensures.variant in
    no_room ka kb refl (rw (c.regions.ensures.0, c.regions-2.ensures.0) at c.put_names-n.ensures.0) c.deliver.ensures c.if-deliver.false
