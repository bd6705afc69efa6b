-- `with_cut`: the three fields; that each fits its place spares the remainders that joining takes. Assumes nothing.
use Rattle.std.proofs.Common.{◌+◌, mod-eq_of_lt}
use native.Mathlib.Nat.{mod-mod}
use Rattle.bounds.specs.Cutting.{with_cut, cut_top, cut_base, floor_at, ceil_at}
use Rattle.bounds.proofs.Program.{cut_field_lt}
use Rattle.bounds.proofs.cutting.with_cut.Goals as goal

pub returns : goal.returns
unfolding with_cut cut_top cut_base floor_at ceil_at
returns c =
    let a = c.args in
    simp (
      c.with_bounds.ensures,
      c.scale_field.ensures,
      c.field_of-bottom.ensures.0,
      c.field_of-top.ensures.0,
      c.ones.ensures.0,
      c.cut_exponent-e.ensures,
      mod-mod,
      mod-eq_of_lt (cut_field_lt a.base (a.base + a.length)),
    )
