-- `put_records`: the loop keeps that the records of the regions so far are written. Assumes nothing.
use lib.ListN.{take}
use Rattle.text.specs.Writing.{Puts}
use Rattle.sheets.specs.Records.{sheet_words}
use Rattle.sheet_reader.proofs.put_records.Given as goal

abbrev pub invariant-loop-r : goal.invariant-loop-r
invariant-loop-r l = Puts l.initial.out 0 (sheet_words (take l.r-index l.regions)) l.out l.at
