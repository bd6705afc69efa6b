-- `fit`: one way out for each outcome, in the order of judging. Assumes nothing.
use Rattle.std.proofs.Common.{◌≡◌, refl, true, false, Ok, Err, rules, ap, ◌∙◌}
use Rattle.std.proofs.lemmas.Result.{err_from_is_err_and}
use Rattle.sheets.proofs.Readings.{read_ok, read_err}
use Rattle.fit.specs.Fit.{fits}
use Rattle.fit.specs.declared.NoFit.TheVariants.{BadBoard, BadFirst, BadSecond}
use Rattle.fit.proofs.Choosing.{bad_board_lem, bad_first_lem, bad_second_lem, first_fits, second_fits, neither_fits, hands, refuses, rest_all}
use Rattle.fit.proofs.fit.Goals as goal

pub returns-in_err-b : goal.returns-in_err-b
returns-in_err-b c =
    let a = c.args in
    let m = read_err c.read.ensures _ _ c.in_err-b.ensures.cases c.in_err-b.ensures.variant in
    let p = err_from_is_err_and c.from_residual.result c.from_residual.ensures.1 in
    let e : c.in_err-b.field-0.0 ≡ BadBoard m.0.line = search (rules, m.2) in
    refuses a.board.now a.first.now a.second.now (p.1 ∙ ap Err (p.2 ∙ e)) (bad_board_lem a.board.now a.first.now a.second.now m.1)

pub returns-in_err-f : goal.returns-in_err-f
returns-in_err-f c =
    let a = c.args in
    let kb = read_ok c.read.ensures _ _ c.in_ok-b.ensures.cases c.in_ok-b.ensures.variant in
    let m = read_err c.read-2.ensures _ _ c.in_err-f.ensures.cases c.in_err-f.ensures.variant in
    let p = err_from_is_err_and c.from_residual-in_err-f.result c.from_residual-in_err-f.ensures.1 in
    let e : c.in_err-f.field-0.0 ≡ BadFirst m.0.line = search (rules, m.2) in
    refuses a.board.now a.first.now a.second.now (p.1 ∙ ap Err (p.2 ∙ e)) (bad_first_lem a.board.now a.first.now a.second.now kb m.1)

pub returns-in_err-s : goal.returns-in_err-s
returns-in_err-s c =
    let a = c.args in
    let kb = read_ok c.read.ensures _ _ c.in_ok-b.ensures.cases c.in_ok-b.ensures.variant in
    let kf = read_ok c.read-2.ensures _ _ c.in_ok-f.ensures.cases c.in_ok-f.ensures.variant in
    let m = read_err c.read-3.ensures _ _ c.in_err-s.ensures.cases c.in_err-s.ensures.variant in
    let p = err_from_is_err_and c.from_residual-in_err-s.result c.from_residual-in_err-s.ensures.1 in
    let e : c.in_err-s.field-0.0 ≡ BadSecond m.0.line = search (rules, m.2) in
    refuses a.board.now a.first.now a.second.now (p.1 ∙ ap Err (p.2 ∙ e)) (bad_second_lem a.board.now a.first.now a.second.now kb kf m.1)

pub returns-then-fits : goal.returns-then-fits
returns-then-fits c =
    let a = c.args in
    let kb = read_ok c.read.ensures _ _ c.in_ok-b.ensures.cases c.in_ok-b.ensures.variant in
    let kf = read_ok c.read-2.ensures _ _ c.in_ok-f.ensures.cases c.in_ok-f.ensures.variant in
    let ks = read_ok c.read-3.ensures _ _ c.in_ok-s.ensures.cases c.in_ok-s.ensures.variant in
    let t : fits c.in_ok-b.b.sheet c.in_ok-f.f.sheet ≡ true = cc in
    hands a.board.now a.first.now a.second.now (rest_all a.first.now c.in_ok-f.f.end) (first_fits a.board.now a.first.now a.second.now kb kf ks t)

pub returns-then-fits-2 : goal.returns-then-fits-2
returns-then-fits-2 c =
    let a = c.args in
    let kb = read_ok c.read.ensures _ _ c.in_ok-b.ensures.cases c.in_ok-b.ensures.variant in
    let kf = read_ok c.read-2.ensures _ _ c.in_ok-f.ensures.cases c.in_ok-f.ensures.variant in
    let ks = read_ok c.read-3.ensures _ _ c.in_ok-s.ensures.cases c.in_ok-s.ensures.variant in
    let t : fits c.in_ok-b.b.sheet c.in_ok-f.f.sheet ≡ false = cc in
    let u : fits c.in_ok-b.b.sheet c.in_ok-s.s.sheet ≡ true = cc in
    hands a.board.now a.first.now a.second.now (rest_all a.second.now c.in_ok-s.s.end) (second_fits a.board.now a.first.now a.second.now kb kf ks t u)

pub returns : goal.returns
returns c =
    let a = c.args in
    let kb = read_ok c.read.ensures _ _ c.in_ok-b.ensures.cases c.in_ok-b.ensures.variant in
    let kf = read_ok c.read-2.ensures _ _ c.in_ok-f.ensures.cases c.in_ok-f.ensures.variant in
    let ks = read_ok c.read-3.ensures _ _ c.in_ok-s.ensures.cases c.in_ok-s.ensures.variant in
    let t : fits c.in_ok-b.b.sheet c.in_ok-f.f.sheet ≡ false = cc in
    let u : fits c.in_ok-b.b.sheet c.in_ok-s.s.sheet ≡ false = cc in
    refuses a.board.now a.first.now a.second.now refl (neither_fits a.board.now a.first.now a.second.now kb kf ks t u)
