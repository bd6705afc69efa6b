-- As a cut that may round, with one test more: that nothing was rounded.
use Rattle.capability.specs.Capability.{set_bounds_exact_of}
use Rattle.capability.proofs.changing.set_bounds_exact.Goals as goal

pub returns : goal.returns
unfolding set_bounds_exact_of
returns c = simp (c.cut_if.ensures, c.both-exact.ensures, c.covers_cut-inside.ensures, c.is_unrounded.ensures)
