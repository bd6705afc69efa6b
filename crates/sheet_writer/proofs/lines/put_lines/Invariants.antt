-- `put_lines`: the loop keeps that the lines of the regions so far are written, as far as there is room. Assumes nothing.
use Rattle.std.proofs.Common.{take}
use Rattle.text.specs.Writing.{Puts}
use Rattle.sheets.specs.Sheet.{sheet_text}
use Rattle.sheet_writer.proofs.lines.put_lines.Given as goal

abbrev pub invariant-loop-r : goal.invariant-loop-r
invariant-loop-r l = Puts l.initial.out 0 (sheet_text (take l.r-index l.regions)) l.out l.at
