-- What comes of two capabilities by one operation, or is untagged: its tag is 0 or 1, and its words are words. Assumes nothing.
use Rattle.std.proofs.Common.{◌≡◌, ℕ, Bool, true, false, refl, arith}
use Rattle.capability.specs.Capability.{Good, integer, move_of, set_bounds_of, set_bounds_exact_of, narrow_of}
use Rattle.capability.specs.Sealing.{seal_of, unseal_of}
use Rattle.capability.specs.declared.Capability.{Capability}
use Rattle.capability.proofs.Laws.{move_kept, set_bounds_kept, set_bounds_exact_kept, narrow_kept, seal_kept, unseal_kept, integer_good, move_good}
use Rattle.capability.proofs.Laws.{set_bounds_good, set_bounds_exact_good, narrow_good, seal_good, unseal_good}
use Rattle.instructions.specs.Range.{Word}
use Rattle.state.specs.Effects.{GoodTag}
use Rattle.state.proofs.Laws.{kept_good}
use Rattle.capability_instructions.specs.Derivation.{truth}

-- made of the first, with the second's say
pub data Derived (c d : Capability) : Capability → Type 0 where
  cut : (n : ℕ) → Derived c d (set_bounds_of c n)
  cut_exactly : (n : ℕ) → Derived c d (set_bounds_exact_of c n)
  sealed : Derived c d (seal_of c d)
  unsealed : Derived c d (unseal_of c d)
  narrowed : (mask : ℕ) → Derived c d (narrow_of c mask)
  moved : (a : ℕ) → (Good d → Word a) → Derived c d (move_of c a)
  untagged : (r : Capability) → r.tag ≡ 0 → (Good c → Good d → Good r) → Derived c d r

-- an integer, or a truth value
pub number : {c d : Capability} → (x : ℕ) → Word x → Derived c d (integer x)
number x w = untagged (integer x) refl (λ g h. integer_good x w)

pub truth_value : {c d : Capability} → (b : Bool) → Derived c d (truth b)
truth_value true = number 1 (omega arith)
truth_value false = number 0 (omega arith)

module _ (c d : Capability) where
  pub derived_tag : (r : Capability) → Derived c d r → GoodTag c → GoodTag r
  derived_tag r (cut n) h = kept_good c (set_bounds_of c n) (set_bounds_kept c n) h
  derived_tag r (cut_exactly n) h = kept_good c (set_bounds_exact_of c n) (set_bounds_exact_kept c n) h
  derived_tag r sealed h = kept_good c (seal_of c d) (seal_kept c d) h
  derived_tag r unsealed h = kept_good c (unseal_of c d) (unseal_kept c d) h
  derived_tag r (narrowed mask) h = kept_good c (narrow_of c mask) (narrow_kept c mask) h
  derived_tag r (moved a w) h = kept_good c (move_of c a) (move_kept c a) h
  derived_tag r (untagged s t w) h = omega (arith, t)

  pub derived_fits : (r : Capability) → Derived c d r → Good c → Good d → Good r
  derived_fits r (cut n) g h = set_bounds_good c n g
  derived_fits r (cut_exactly n) g h = set_bounds_exact_good c n g
  derived_fits r sealed g h = seal_good c d g
  derived_fits r unsealed g h = unseal_good c d g
  derived_fits r (narrowed mask) g h = narrow_good c mask g
  derived_fits r (moved a w) g h = move_good c a g (w h)
  derived_fits r (untagged s t w) g h = w g h
