-- A jump that links no register: its place is 0, and its offset even.
use mathlib.Core.Path.{refl, sym, ◌∙◌}
use Rattle.operations.proofs.go.Goals as goal

pub returns-in-0 : goal.returns-in-0
returns-in-0 c = ((_, refl, sym c.place_of.ensures ∙ c.in-0.is), c.if-offset-ne0.false)
