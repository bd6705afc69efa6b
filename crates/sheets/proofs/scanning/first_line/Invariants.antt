-- `first_line`: the loop keeps that what is left of the line leads where the whole line does. Assumes nothing.
use mathlib.Core.Path.{◌≡◌}
use Prim.Native.Nat.{◌+◌}
use lib.ListN.{length, drop}
use Rattle.sheets.specs.Scanning.{start_scan, line_read, first_line}
use Rattle.sheets.proofs.scanning.first_line.Given as goal

abbrev pub invariant-loop-i : goal.invariant-loop-i
invariant-loop-i l =
    (line_read l.scan (first_line (drop l.i l.text)) ≡ line_read start_scan (first_line l.text)) ×
    (l.i + length (first_line (drop l.i l.text)) ≡ length (first_line l.text))
