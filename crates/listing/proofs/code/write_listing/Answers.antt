-- The invariant: what is written, and then the lines of the words from here on, make the listing.
use Rattle.std.proofs.Common.{sym, refl, ◌∙◌, arith}
use Rattle.text.proofs.Putting.{puts_length}
use Rattle.listing.specs.Code.{whole_at, word_at, listing_of}
use Rattle.listing.proofs.Walking.{there, not_there, going_start, going_next, going_end}
use Rattle.listing.proofs.Words.{past, whole_in, listed_turn, listed_stop}
use Rattle.listing.proofs.code.write_listing.Goals as goal

pub loop-at-init : goal.loop-at-init
loop-at-init c = (omega arith, refl, going_start (listing_of c.args.code.now) c.args.out.now)

pub returns-in_default : goal.returns-in_default
returns-in_default c =
    let code = c.args.code.now in
    let at = c.loop-at.at in
    let e = not_there (whole_at code at) (word_at code at) (sym c.word_at.ensures ∙ c.in_default.is) in
    going_end (rw (listed_stop code at e) at c.loop-at.invariant.2)

pub loop-at-preserved : goal.loop-at-preserved
loop-at-preserved c =
    let code = c.args.code.now in
    let at = c.loop-at.at in
    let e = there (whole_at code at) (word_at code at) c.in-Some.word (sym c.word_at.ensures ∙ c.in-Some.is) in
    let p = rw (sym e.1) at c.put_line-to.ensures in
    let s = c.size_at-at.ensures.0 in (
      omega (arith, s, whole_in code at e.0),
      puts_length p ∙ c.loop-at.invariant.1,
      rw s (going_next (rw (listed_turn code at e.0) at c.loop-at.invariant.2) p),
    )

pub shape_of-out : goal.shape_of-out
shape_of-out c = c.loop-at.invariant.1

pub returns : goal.returns
returns c =
    let code = c.args.code.now in
    going_end (rw (listed_stop code c.loop-at.at (past code c.loop-at.at c.loop-at-test.false)) at c.loop-at.invariant.2)
