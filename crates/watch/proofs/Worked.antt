-- The worked touches are the definition's. Assumes nothing.
use lib.Dec.{T}
use Rattle.watch.specs.Watch.{hits, one_more_hit, range_touched, touched_at}
use Rattle.watch.specs.Worked.{told, touches}

pub touches_hold : T (told touches)
unfolding told touches hits one_more_hit range_touched touched_at
touches_hold = tt
