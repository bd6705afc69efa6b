-- Where a newline is found it ends the line, and else the text does.
use Rattle.std.proofs.Common.{◌≡◌, ℕ, ◌+◌, eqb, length, sym, rules}
use Rattle.std.specs.Prelude.{MatchOption}
use Rattle.std.specs.List.{position}
use Rattle.text.specs.Writing.{newline}
use Rattle.listing.proofs.Loops.{line_end_is}
use Rattle.listing.proofs.reading.line_end.Goals as goal

pub returns : goal.returns
returns c =
    let text = c.args.text.now in
    let h : MatchOption (position (λ (x : ℕ). eqb x newline) text) (c.map_or.result ≡ length text) (λ i. c.map_or.result ≡ i + 1)
    = rw (sym c.newline_place.ensures) (search rules) in
    line_end_is text c.map_or.result h
