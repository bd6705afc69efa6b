-- A refusal is the judge's, and leaves the buffer; else the code, which fits.
use Rattle.std.proofs.Common.{length, sym, ◌∙◌, arith, leb-true, ltb-false}
use Rattle.std.proofs.lemmas.Result.{err_from_is_err_and}
use Rattle.text.proofs.Putting.{placed}
use Rattle.listing.specs.Assembling.{bad_at, assembly_of, assemble_after}
use Rattle.listing.proofs.Answers.{assembles, assemble_ok, assemble_kept}
use Rattle.listing.proofs.Texts.{bad_within}
use Rattle.listing.proofs.assembling.assemble.Goals as goal

pub returns-in_err-size : goal.returns-in_err-size
returns-in_err-size c =
    let p = err_from_is_err_and c.from_residual.result c.from_residual.ensures.1 in
    let e = sym c.judge.ensures ∙ c.in_err-size.was in
    rw (p.1, p.2) (assembles (sym e) (sym (assemble_kept c.args.text.now c.args.out.now c.in_err-size.field-0.0 e)))

pub write_code-requires : goal.write_code-requires
write_code-requires c =
    let text = c.args.text.now in
    let t = assemble_ok text (length c.args.out.now) c.in_ok-size.size (sym c.judge.ensures ∙ c.in_ok-size.was) in
    omega (arith, bad_within text, ltb-false (bad_at text 0) (length text) t.0)

pub returns : goal.returns
unfolding assemble_after
returns c =
    let text = c.args.text.now in
    let out = c.args.out.now in
    let e = sym c.judge.ensures ∙ c.in_ok-size.was in
    let t = assemble_ok text (length out) c.in_ok-size.size e in
    let p = placed (omega (arith, leb-true (length (assembly_of text)) (length out) t.1)) c.write_code.ensures in
    assembles (sym e) (rw (t.0, t.1) p.bytes)
