-- The worked cases hold: the whole table computes. Assumes nothing.
use lib.Dec.{T}
use Rattle.metadata.specs.Word.{permissions_of, scale_of, top_of, base_of, with_bounds, with_permissions}
use Rattle.metadata.specs.Rights.{rights_of, code_of, narrow_word}
use Rattle.bounds.specs.Bounds.{exponent_of, low_of, high_of, low_at, high_at}
use Rattle.bounds.specs.Cutting.{floor_at, ceil_at, fits_at, first_fit, cut_exponent, scale_field, cut_base, cut_top, with_cut, cut_low, cut_high, cut_exact}
use Rattle.bounds.specs.Cutting.{cut_of}
use Rattle.capability_laws.specs.Cases.{holds, all, cases}

pub cases_hold : T (all cases)
unfolding all holds cases permissions_of scale_of top_of base_of with_bounds with_permissions rights_of code_of narrow_word exponent_of low_of high_of low_at
    high_at
    floor_at ceil_at fits_at first_fit cut_exponent scale_field cut_base cut_top with_cut cut_low cut_high cut_exact cut_of
cases_hold = tt
