-- A register's place is one of sixteen; that of one which is written is not c0's.
use Prim.Native.Nat.{ℕ}
use mathlib.Core.Path.{◌≡◌}
use native.Mathlib.Omega.{arith}
use Rattle.operations.specs.Means.{place_of, Place, Written}

pub placed : (p r : ℕ) → p ≡ place_of r → Place p
placed p r h = (omega (arith, h), omega (arith, h))

pub written : (p r : ℕ) → p ≡ place_of r → (p ≡ 0 → ⊥) → Written p
written p r h n = (omega (arith, h), omega (arith, h), n)
