-- `write_calls`: the loop keeps `Turn`: the words of the calls made stand in front, and the calls left lead on to the whole. Assumes nothing.
use mathlib.Core.Path.{◌≡◌}
use lib.ListN.{length}
use Rattle.call_lists.proofs.Turns.{Turn}
use Rattle.call_lists.proofs.lists.write_calls.Given as goal

abbrev pub invariant-loop-n : goal.invariant-loop-n
invariant-loop-n l = (length l.out ≡ length l.initial.out) × Turn l.kinds l.values l.initial.s l.n l.s l.out
