-- `places_of`: one more than the logarithm. Assumes nothing.
use Rattle.std.proofs.Common.{◌<◌, arith, sym}
use Rattle.text.proofs.Numbers.{places_log, places_one}
use Rattle.text.proofs.places_of.Goals as goal

pub returns-in-Some : goal.returns-in-Some
returns-in-Some c = sym (places_log c.args.n c.in-Some.k c.in-Some.ensures.power_le c.in-Some.ensures.next_power_gt)

pub returns-in-None : goal.returns-in-None
returns-in-None c = let h : c.args.n < 10 = omega (arith, c.in-None.ensures.none) in sym (places_one c.args.n h)
