-- `first_line`: the loop keeps that what is left of the line leads where the whole line does. Assumes nothing.
use Rattle.std.proofs.Common.{◌+◌, ◌∙◌, ap, arith, drop, length, sym}
use Rattle.sheets.proofs.Lists.{line_turn, line_newline, line_end}
use Rattle.sheets.proofs.Walk.{line_le}
use Rattle.sheets.specs.declared.Scan.{Scan}
use Rattle.sheets.specs.Scanning.{line_read, first_line}
use Rattle.sheets.proofs.scanning.first_line.Goals as goal

pub returns-then-b-eq10 : goal.returns-then-b-eq10
unfolding line_read
returns-then-b-eq10 c =
    let e = line_newline c.args.text.now c.loop-i.i c.loop-i-test.true c.if-b-eq10.true in
    record { scan_is = sym (ap (line_read c.loop-i.scan) e) ∙ c.loop-i.invariant.0; end_is = omega (arith, ap length e, c.loop-i.invariant.1) }

pub loop-i-preserved : goal.loop-i-preserved
unfolding line_read
loop-i-preserved c =
    let t = c.args.text.now in
    let e = line_turn t c.loop-i.i c.loop-i-test.true c.if-b-eq10.false in (
      ap (λ (s : Scan). line_read s (first_line (drop (c.loop-i.i + 1) t))) c.advance-scan.ensures
          ∙ sym (ap (line_read c.loop-i.scan) e) ∙ c.loop-i.invariant.0,
      omega (arith, ap length e, c.loop-i.invariant.1),
    )

pub returns : goal.returns
unfolding line_read
returns c =
    let e = line_end c.args.text.now c.loop-i.i c.loop-i-test.false in
    record {
      scan_is = sym (ap (line_read c.loop-i.scan) e) ∙ c.loop-i.invariant.0;
      end_is = omega (arith, ap length e, c.loop-i.invariant.1, c.loop-i-test.false, line_le c.args.text.now);
    }
