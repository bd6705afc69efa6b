-- The line of the only word that it can be, in a buffer that has room for every line, compared with the text.
use Rattle.std.proofs.Common.{◌≡◌, length, drop, sym, refl, ap, ◌∙◌, arith}
use Rattle.listing.specs.Assembling.{line_word, line_size, line_good}
use Rattle.listing.specs.Lines.{line_of}
use Rattle.listing.proofs.Again.{line_short}
use Rattle.listing.proofs.Loops.{same_start}
use Rattle.listing.proofs.Texts.{rest_is}
use Rattle.text.proofs.Putting.{puts_le, placed, placed_take}
use Rattle.listing.proofs.assembling.line_at.Goals as goal

pub slice_bounds-line-end : goal.slice_bounds-line-end
slice_bounds-line-end c = omega (arith, puts_le c.put_line-size.ensures, line_short c.candidate-word.result)

pub slice_bounds-starts_with-end : goal.slice_bounds-starts_with-end
slice_bounds-starts_with-end c =
    let p = placed (omega (arith, line_short c.candidate-word.result)) c.put_line-size.ensures in
    omega (arith, p.ends, ap length (placed_take p))

pub returns-then-starts_with : goal.returns-then-starts_with
unfolding line_word line_size line_good
returns-then-starts_with c =
    let p = placed (omega (arith, line_short c.candidate-word.result)) c.put_line-size.ensures in
    let w = rw (rest_is c.args.text.now c.args.at) at c.candidate-word.ensures in
    let s = rw (rest_is c.args.text.now c.args.at, placed_take p) at (sym c.starts_with.ensures.value ∙ c.if-starts_with.true) in
    let g = sym (same_start (drop c.args.at c.args.text.now) (line_of c.candidate-word.result)) ∙ s in
    let n : c.put_line-size.result ≡ length (line_of c.candidate-word.result) = omega (arith, p.ends) in
    rw (sym w, g, n) refl

pub returns : goal.returns
unfolding line_word line_size line_good
returns c =
    let p = placed (omega (arith, line_short c.candidate-word.result)) c.put_line-size.ensures in
    let w = rw (rest_is c.args.text.now c.args.at) at c.candidate-word.ensures in
    let s = rw (rest_is c.args.text.now c.args.at, placed_take p) at (sym c.starts_with.ensures.value ∙ c.if-starts_with.false) in
    let g = sym (same_start (drop c.args.at c.args.text.now) (line_of c.candidate-word.result)) ∙ s in
    rw (sym w, g) refl
