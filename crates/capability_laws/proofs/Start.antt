-- There is an authority, of the whole space: what is proved of lists that start from one is not about nothing. Its bounds compute. Assumes nothing.
use mathlib.Core.Path.{◌≡◌, refl}
use Prim.Native.Nat.{◌^◌}
use native.Mathlib.Omega.{arith}
use Rattle.metadata.specs.Word.{type_of, scale_of, top_of, base_of}
use Rattle.bounds.specs.Bounds.{exponent_of, low_of, high_of, low_at, high_at}
use Rattle.capability.specs.Capability.{capability, low, high, tagged}
use Rattle.capability.specs.declared.Capability.{Capability}
use Rattle.capability_laws.specs.Authority.{Authority}

-- document 01, "Cases", the first
abbrev pub whole_space : Capability
whole_space = capability 0 0x7E3E0000 1

low_is : low whole_space ≡ 0
unfolding low low_at low_of exponent_of scale_of base_of
low_is = refl

high_is : high whole_space ≡ 2 ^ 32
unfolding high high_at high_of exponent_of scale_of top_of base_of
high_is = refl

pub whole_space_authority : Authority whole_space
unfolding tagged type_of
whole_space_authority =
    record {
      address_fits = omega arith;
      is_tagged = refl;
      is_unsealed = refl;
      order = omega (arith, low_is, high_is);
      top = omega (arith, high_is);
    }
