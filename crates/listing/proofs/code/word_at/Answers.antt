-- Where the size passes the code's end the word is cut off; else the size says which of the two loads it is.
use Rattle.std.proofs.Common.{◌+◌, length, refl, arith, le-leb}
use borrow.Author.Tests.{lt-leb}
use Rattle.listing.specs.Code.{size_at, whole_at, word_at}
use Rattle.listing.proofs.Words.{size_four, size_two}
use Rattle.listing.proofs.code.word_at.Goals as goal

pub returns-then-code-at : goal.returns-then-code-at
unfolding whole_at
returns-then-code-at c =
    let code = c.args.code.now in
    let at = c.args.at in
    rw (lt-leb (at + size_at code at) (length code) (omega (arith, c.size_at-size.ensures.0, c.if-code-at.true))) refl

pub returns-then-size-eq4 : goal.returns-then-size-eq4
unfolding whole_at word_at
returns-then-size-eq4 c =
    let code = c.args.code.now in
    let at = c.args.at in
    let s = c.size_at-size.ensures.0 in
    rw (
      le-leb (at + size_at code at) (length code) (omega (arith, s, c.if-code-at.false)),
      size_four code at (omega (arith, s, c.if-size-eq4.true)),
      c.load32.ensures,
    ) refl

pub returns : goal.returns
unfolding whole_at word_at
returns c =
    let code = c.args.code.now in
    let at = c.args.at in
    let s = c.size_at-size.ensures.0 in
    rw (
      le-leb (at + size_at code at) (length code) (omega (arith, s, c.if-code-at.false)),
      size_two code at (λ e. c.if-size-eq4.false (omega (arith, s))),
      c.load16.ensures,
    ) refl
