-- `put_names`: the loop keeps `Listing`: the names so far are written, and those left make up the list. Assumes nothing.
use Rattle.sheet_compare.proofs.Lists.{Listing}
use Rattle.sheet_compare.proofs.names.put_names.Given as goal

abbrev pub invariant-loop : goal.invariant-loop
invariant-loop l = Listing l.initial.out l.one l.two l.out l.last l.at l.counter
