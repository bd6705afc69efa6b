-- A refusal is the measure's, and leaves the buffer; else the listing, which fits.
use Rattle.std.proofs.Common.{length, sym, ◌∙◌, arith, leb-true}
use Rattle.std.proofs.lemmas.Result.{err_from_is_err_and}
use Rattle.text.proofs.Putting.{placed}
use Rattle.listing.specs.Code.{listing_of, list_after}
use Rattle.listing.proofs.Answers.{lists, list_ok, list_kept}
use Rattle.listing.proofs.code.list.Goals as goal

pub returns-in_err-size : goal.returns-in_err-size
returns-in_err-size c =
    let p = err_from_is_err_and c.from_residual.result c.from_residual.ensures.1 in
    let e = sym c.measure.ensures ∙ c.in_err-size.was in
    rw (p.1, p.2) (lists (sym e) (sym (list_kept c.args.code.now c.args.out.now c.in_err-size.field-0.0 e)))

pub returns : goal.returns
unfolding list_after
returns c =
    let code = c.args.code.now in
    let out = c.args.out.now in
    let e = sym c.measure.ensures ∙ c.in_ok-size.was in
    let t = list_ok code (length out) c.in_ok-size.size e in
    let p = placed (omega (arith, leb-true (length (listing_of code)) (length out) t.1)) c.write_listing.ensures in
    lists (sym e) (rw (t.0, t.1) p.bytes)
