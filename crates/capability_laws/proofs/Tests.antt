-- Two tests at once, as facts. Assumes nothing.
use mathlib.Core.Path.{◌≡◌, refl}
use mathlib.Core.Logic.{◌↔◌}
use mathlib.Core.Bool.{Bool, true, false, cond, ◌&&◌}
use Prim.Native.Nat.{ℕ, ◌≤◌}
use native.Mathlib.Omega.{arith}
use borrow.Author.Tests.{leb-true, le-leb, eqb-true, eq-eqb}
use lib.Dec.{leb, eqb}

pub both_true : (a b : Bool) → (a && b ≡ true) ↔ ((a ≡ true) × (b ≡ true))
both_true a b = (to a b, back a b)
  where
    to : (a b : Bool) → a && b ≡ true → (a ≡ true) × (b ≡ true)
    to true b h = (refl, h)
    to false b h = let z : ◌≡◌ {A = ℕ} 0 1 = cc in absurd (omega arith)

    back : (a b : Bool) → (a ≡ true) × (b ≡ true) → a && b ≡ true
    back a b h = rw (h.0, h.1)

pub both_equal : (a b c d : ℕ) → (eqb a b && eqb c d ≡ true) ↔ ((a ≡ b) × (c ≡ d))
both_equal a b c d = (
  λ h. let t = (both_true (eqb a b) (eqb c d)).0 h in (eqb-true a b t.0, eqb-true c d t.1),
  λ h. (both_true (eqb a b) (eqb c d)).1 (eq-eqb a b h.0, eq-eqb c d h.1),
)

pub both_le : (a b c d : ℕ) → (leb a b && leb c d ≡ true) ↔ ((a ≤ b) × (c ≤ d))
both_le a b c d = (
  λ h. let t = (both_true (leb a b) (leb c d)).0 h in (leb-true a b t.0, leb-true c d t.1),
  λ h. (both_true (leb a b) (leb c d)).1 (le-leb a b h.0, le-leb c d h.1),
)

-- a tag that a test keeps
pub kept : (t : Bool) (n : ℕ) → cond t n 0 ≡ 1 → (t ≡ true) × (n ≡ 1)
kept true n h = (refl, h)
kept false n h = absurd (omega arith)
