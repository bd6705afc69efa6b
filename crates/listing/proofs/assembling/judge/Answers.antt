-- The invariant: the walk from here on stops where the walk over the whole text does, the lines passed and those left are all, and spending the code
-- that is left on the room that is left comes to spending the whole code on all of it.
use Rattle.std.proofs.Common.{◌≡◌, ℕ, ◌+◌, length, sym, refl, ap, ◌∙◌, arith, length-append}
use Rattle.std.proofs.lemmas.Result.{err_from_is_err_and}
use Rattle.listing.specs.declared.AssembleError.TheVariants.{TooShort}
use Rattle.listing.specs.Rooms.{spent}
use Rattle.listing.specs.Assembling.{line_word, line_size, read_at, bad_at, bytes_of, code_of, assembly_of}
use Rattle.listing.proofs.Answers.{assemble_bad, assemble_short, assemble_done, assemble_end}
use Rattle.listing.proofs.Spending.{spent_twice, enough, too_little}
use Rattle.listing.proofs.Texts.{line_found, line_none, text_turn, text_here, count_turn, count_stop, coded_turn, size_line, good_in}
use Rattle.listing.proofs.assembling.judge.Goals as goal

pub loop-at-init : goal.loop-at-init
loop-at-init c = (omega arith, omega arith, refl, omega arith, refl)

pub overflow_add-result : goal.overflow_add-result
overflow_add-result c = omega arith

pub returns-in_default : goal.returns-in_default
returns-in_default c =
    let text = c.args.text.now in
    let at = c.loop-at.at in
    let g = line_none text at (sym c.line_at.ensures ∙ c.in_default.is) in
    let b : bad_at text 0 ≡ at = sym c.loop-at.invariant.2 ∙ text_here text at g in
    let n : length (read_at text 0) ≡ c.loop-at.lines = omega (arith, count_stop text at g, c.loop-at.invariant.3) in
    sym (rw n at (assemble_bad text c.args.most (omega (arith, b, c.loop-at-test.true))))

pub overflow_add-at : goal.overflow_add-at
overflow_add-at c =
    let f = line_found c.args.text.now c.loop-at.at (sym c.line_at.ensures ∙ c.in-Some.is) in
    omega (arith, good_in c.args.text.now c.loop-at.at f.0 (omega arith), f.2)

pub overflow_add-lines : goal.overflow_add-lines
overflow_add-lines c = omega arith

pub loop-at-smaller : goal.loop-at-smaller
loop-at-smaller c =
    let f = line_found c.args.text.now c.loop-at.at (sym c.line_at.ensures ∙ c.in-Some.is) in
    omega (arith, size_line c.args.text.now c.loop-at.at, f.2)

pub loop-at-preserved : goal.loop-at-preserved
loop-at-preserved c =
    let text = c.args.text.now in
    let at = c.loop-at.at in
    let room = c.loop-at.room in
    let f = line_found text at (sym c.line_at.ensures ∙ c.in-Some.is) in
    let g = f.0 in
    let i = good_in text at g (omega arith) in
    let p = size_line text at in
    let n = c.bytes_length.ensures ∙ ap (λ (x : ℕ). length (bytes_of x)) f.1 in
    let rest = code_of (read_at text (at + line_size text at)) in
    let t : length (code_of (read_at text at)) ≡ c.bytes_length.result + length rest
    = omega (arith, n, ap length (coded_turn text at g) ∙ length-append (bytes_of (line_word text at)) rest) in
    rw f.2 (
      omega arith,
      omega arith,
      sym (text_turn text at g) ∙ c.loop-at.invariant.2,
      omega (arith, count_turn text at g, c.loop-at.invariant.3),
      rw c.spend-room.ensures
          (spent_twice room c.bytes_length.result (length rest) ∙ ap (λ (x : ℕ). spent room x) (sym t) ∙ c.loop-at.invariant.4),
    )

pub returns-in_err-left : goal.returns-in_err-left
returns-in_err-left c =
    let text = c.args.text.now in
    let most = c.args.most in
    let i = c.loop-at.invariant in
    let e = assemble_end text c.loop-at.at most c.loop-at.room c.loop-at-test.false i.0 i.2 i.4 in
    let p = err_from_is_err_and c.from_residual.result c.from_residual.ensures.1 in
    let s = too_little most (length (assembly_of text)) TooShort c.in_err-left.field-0.0 (rw e.1 at (sym c.ok_or.ensures.value ∙ c.in_err-left.was)) in
    rw (p.1, p.2, s.1) (sym (assemble_short text most e.0 s.0))

pub overflow_sub-result : goal.overflow_sub-result
overflow_sub-result c =
    let text = c.args.text.now in
    let most = c.args.most in
    let i = c.loop-at.invariant in
    let e = assemble_end text c.loop-at.at most c.loop-at.room c.loop-at-test.false i.0 i.2 i.4 in
    (enough most (length (assembly_of text)) c.in_ok-left.left TooShort (rw e.1 at (sym c.ok_or.ensures.value ∙ c.in_ok-left.was))).order

pub returns : goal.returns
returns c =
    let text = c.args.text.now in
    let most = c.args.most in
    let i = c.loop-at.invariant in
    let e = assemble_end text c.loop-at.at most c.loop-at.room c.loop-at-test.false i.0 i.2 i.4 in
    let s = enough most (length (assembly_of text)) c.in_ok-left.left TooShort (rw e.1 at (sym c.ok_or.ensures.value ∙ c.in_ok-left.was)) in
    sym (assemble_done text most e.0 s)
