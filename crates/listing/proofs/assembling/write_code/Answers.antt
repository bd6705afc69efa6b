-- The invariant: no line from here on is bad, and what is written, and then the code of the lines from here on, make the whole code.
use Rattle.std.proofs.Common.{sym, refl, ◌∙◌, arith}
use Rattle.text.proofs.Putting.{puts_length}
use Rattle.listing.specs.Assembling.{line_word, assembly_of}
use Rattle.listing.proofs.Walking.{going_start, going_next, going_end}
use Rattle.listing.proofs.Texts.{past_lines, rest_is, size_line, text_turn, coded_turn, coded_stop, good_in, good_end, good_before}
use Rattle.listing.proofs.assembling.write_code.Goals as goal

pub loop-at-init : goal.loop-at-init
loop-at-init c = (omega arith, c.requires, refl, going_start (assembly_of c.args.text.now) c.args.out.now)

pub loop-at-smaller : goal.loop-at-smaller
loop-at-smaller c =
    let text = c.args.text.now in
    let at = c.loop-at.at in
    let g = good_before text at c.loop-at.invariant.1 (omega arith) in
    omega (arith, rw (rest_is text at) at c.line_end-at.ensures.0, good_end text at g, size_line text at)

pub loop-at-preserved : goal.loop-at-preserved
unfolding line_word
loop-at-preserved c =
    let text = c.args.text.now in
    let at = c.loop-at.at in
    let g = good_before text at c.loop-at.invariant.1 (omega arith) in
    let s = (rw (rest_is text at) at c.line_end-at.ensures.0) ∙ good_end text at g in
    let p = rw (c.candidate.ensures, rest_is text at) at c.put_word-to.ensures in (
      omega (arith, s, good_in text at g (omega arith)),
      rw s (sym (text_turn text at g) ∙ c.loop-at.invariant.1),
      puts_length p ∙ c.loop-at.invariant.2,
      rw s (going_next (rw (coded_turn text at g) at c.loop-at.invariant.3) p),
    )

pub shape_of-out : goal.shape_of-out
shape_of-out c = c.loop-at.invariant.2

pub returns : goal.returns
returns c =
    let text = c.args.text.now in
    going_end (rw (coded_stop text c.loop-at.at (past_lines text c.loop-at.at c.loop-at-test.false)) at c.loop-at.invariant.3)
