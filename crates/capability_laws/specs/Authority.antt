-- A capability that a list of calls starts from, and one that lies inside another. Document 01, "Lists of cuts, moves and narrowings".
-- Assumes nothing.
use Rattle.std.specs.Prelude.{true, ◌≡◌, ℕ, ◌^◌, ◌≤◌, ◌<◌}
use Rattle.metadata.specs.Rights.{Has}
use Rattle.bounds.specs.Bounds.{Contains}
use Rattle.capability.specs.Capability.{low, high, rights, tagged, unsealed}
use Rattle.capability.specs.declared.Capability.{Capability}

-- tagged, unsealed, and with bounds in order and in the address space
pub record Authority (c : Capability) : Type 0 where
  pub address_fits : c.address < 2 ^ 32
  pub is_tagged : tagged c ≡ true
  pub is_unsealed : unsealed c ≡ true
  pub order : low c ≤ high c
  pub top : high c ≤ 2 ^ 32

-- b lies inside a, and holds no right that a lacks
pub record Inside (a b : Capability) : Type 0 where
  pub region : Contains (low a) (high a) (low b) (high b)
  pub no_right : (k : ℕ) → Has (rights b) k → Has (rights a) k
