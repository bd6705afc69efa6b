-- The invariant: the walk from here on ends where the walk over the whole code does, and spending the lines that are left on the room that is left
-- comes to spending the whole listing on all of it.
use Rattle.std.proofs.Common.{◌≡◌, ℕ, ◌+◌, length, sym, refl, ap, ◌∙◌, arith, length-append}
use Rattle.std.proofs.lemmas.Result.{err_from_is_err_and}
use Rattle.listing.specs.Lines.{line_of}
use Rattle.listing.specs.Rooms.{spent}
use Rattle.listing.specs.Code.{size_at, whole_at, word_at, words_at, end_at, text_of, listing_of}
use Rattle.listing.specs.declared.ListError.TheVariants.{NoRoom}
use Rattle.listing.proofs.Answers.{list_cut, list_short, list_done, list_end}
use Rattle.listing.proofs.Spending.{spent_twice, enough, too_little}
use Rattle.listing.proofs.Walking.{there, not_there}
use Rattle.listing.proofs.Words.{whole_in, code_turn, code_here, listed_turn}
use Rattle.listing.proofs.code.measure.Goals as goal

pub loop-at-init : goal.loop-at-init
loop-at-init c = (omega arith, refl, refl)

pub returns-in_default : goal.returns-in_default
returns-in_default c =
    let code = c.args.code.now in
    let at = c.loop-at.at in
    let e = not_there (whole_at code at) (word_at code at) (sym c.word_at.ensures ∙ c.in_default.is) in
    let n : end_at code 0 ≡ at = sym c.loop-at.invariant.1 ∙ code_here code at e in
    sym (rw n at (list_cut code c.args.most (omega (arith, n, c.loop-at-test.true))))

pub loop-at-preserved : goal.loop-at-preserved
loop-at-preserved c =
    let code = c.args.code.now in
    let at = c.loop-at.at in
    let room = c.loop-at.room in
    let e = there (whole_at code at) (word_at code at) c.in-Some.word (sym c.word_at.ensures ∙ c.in-Some.is) in
    let s = c.size_at-at.ensures.0 in
    let n = c.line_length.ensures.0 ∙ ap (λ (x : ℕ). length (line_of x)) (sym e.1) in
    let rest = text_of (words_at code (at + size_at code at)) in
    let t : length (text_of (words_at code at)) ≡ c.line_length.result + length rest
    = omega (arith, n, ap length (listed_turn code at e.0) ∙ length-append (line_of (word_at code at)) rest) in (
      omega (arith, s, whole_in code at e.0),
      rw s (sym (code_turn code at e.0) ∙ c.loop-at.invariant.1),
      rw (s, c.spend-room.ensures)
          (spent_twice room c.line_length.result (length rest) ∙ ap (λ (k : ℕ). spent room k) (sym t) ∙ c.loop-at.invariant.2),
    )

pub returns-in_err-left : goal.returns-in_err-left
returns-in_err-left c =
    let code = c.args.code.now in
    let most = c.args.most in
    let i = c.loop-at.invariant in
    let e = list_end code c.loop-at.at most c.loop-at.room c.loop-at-test.false i.0 i.1 i.2 in
    let p = err_from_is_err_and c.from_residual.result c.from_residual.ensures.1 in
    let s = too_little most (length (listing_of code)) NoRoom c.in_err-left.field-0.0 (rw e.1 at (sym c.ok_or.ensures.value ∙ c.in_err-left.was)) in
    rw (p.1, p.2, s.1) (sym (list_short code most e.0 s.0))

pub overflow_sub-result : goal.overflow_sub-result
overflow_sub-result c =
    let code = c.args.code.now in
    let most = c.args.most in
    let i = c.loop-at.invariant in
    let e = list_end code c.loop-at.at most c.loop-at.room c.loop-at-test.false i.0 i.1 i.2 in
    (enough most (length (listing_of code)) c.in_ok-left.left NoRoom (rw e.1 at (sym c.ok_or.ensures.value ∙ c.in_ok-left.was))).order

pub returns : goal.returns
returns c =
    let code = c.args.code.now in
    let most = c.args.most in
    let i = c.loop-at.invariant in
    let e = list_end code c.loop-at.at most c.loop-at.room c.loop-at-test.false i.0 i.1 i.2 in
    let s = enough most (length (listing_of code)) c.in_ok-left.left NoRoom (rw e.1 at (sym c.ok_or.ensures.value ∙ c.in_ok-left.was)) in
    sym (list_done code most e.0 s)
