-- `sizes_fit`: three words each, by a quotient and a remainder, since a product may not fit. Assumes nothing.
use Rattle.call_lists.proofs.Turns.{sizes_are}
use Rattle.call_lists.proofs.lists.sizes_fit.Goals as goal

pub returns : goal.returns
returns c =
    let a = c.args in
    simp (c.all_three.ensures, ← (sizes_are a.kinds a.values a.out))
