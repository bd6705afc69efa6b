-- The loop keeps: the search from place p on gives the whole search.
use Prim.Native.Nat.{◌-◌, ◌^◌, ◌≤◌, ◌<◌}
use mathlib.Core.Path.{◌≡◌}
use lib.ListN.{length}
use Rattle.state.specs.Layout.{capability_count}
use Rattle.reach.specs.Reach.{places_in, first_of}
use Rattle.reach.specs.Search.{granule_passes}
use Rattle.reach.proofs.first_granule.Given as goal

abbrev pub invariant-loop-p : goal.invariant-loop-p
invariant-loop-p l =
    (capability_count ≤ l.p)
    × (l.p < 2 ^ 32)
    × (first_of (places_in (length l.mem) - l.p) (granule_passes l.q l.mem l.tags) l.p ≡ first_of (places_in (length l.mem) - l.from)
    (granule_passes l.q l.mem l.tags) l.from)

abbrev pub decreases-loop-p : goal.decreases-loop-p
decreases-loop-p l = places_in (length l.mem) - l.p
