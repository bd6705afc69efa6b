-- What nothing held at the start reaches, or may do, nothing held later does. Assumes nothing.
use Prim.Native.Nat.{ℕ, ◌≤◌, ◌<◌}
use native.Mathlib.Omega.{arith}
use Rattle.metadata.specs.Rights.{Has}
use Rattle.capability.specs.Capability.{low, high, rights}
use Rattle.capability.specs.declared.Capability.{Capability}
use Rattle.state.specs.Lent.{State}
use Rattle.authority_laws.specs.Gain.{Held, NoGain}

module _ (before after : State) (no-gain : NoGain before after) where
  -- from no tagged capability comes none
  pub none_from_none : ((c : Capability) → Held before c → ⊥) → (c : Capability) → Held after c → ⊥
  none_from_none h c k = let d = no-gain.derived c k in h d.origin d.is_held

  -- a right that none of them holds
  pub no_new_right : (k : ℕ) → ((c : Capability) → Held before c → Has (rights c) k → ⊥) → (c : Capability) → Held after c → Has (rights c) k → ⊥
  no_new_right k h c held r = let d = no-gain.derived c held in h d.origin d.is_held (d.is_inside.no_right k r)

  -- an address in the bounds of none of them
  pub no_new_address : (x : ℕ) → ((c : Capability) → Held before c → low c ≤ x → x < high c → ⊥) → (c : Capability) → Held after c → low c ≤ x → x < high c → ⊥
  no_new_address x h c held l g =
      let d = no-gain.derived c held in
      h d.origin d.is_held (omega (arith, d.is_inside.region.from)) (omega (arith, d.is_inside.region.to))
