-- Demand 3 of one cut, said of the answer that a request gets. Document 01, "Cutting bounds", and "Answers", number 6.
-- Assumes nothing.
use Rattle.std.specs.Prelude.{◌↔◌, ◌≡◌, ℕ, ◌+◌, ◌^◌, ◌≤◌, ◌<◌, Result}
use Rattle.bounds.specs.Bounds.{Expressible, Contains}
use Rattle.bounds.specs.Cutting.{answer_number, answer_low, answer_high, answer_exact}
use Rattle.bounds.specs.declared.CutRegion.{CutRegion}
use Rattle.bounds.specs.declared.CutError.{CutError}
use Rattle.capability.specs.Capability as capability
use Rattle.capability.specs.declared.Capability.{Capability}
use Rattle.capability_laws.specs.Authority.{Authority}

-- an answer's region [low, high), and what it says of exactness, for the request [base, end)
pub record LeastRegion (base end low high exact : ℕ) : Type 0 where
  -- the encoding can express the region
  pub expressible : Expressible low high
  -- it contains the request
  pub contains : Contains low high base end
  -- it lies inside every other region that the encoding can express around the request, wrapped ones too
  pub least : (l h : ℕ) → Expressible l h → Contains l h base end → Contains l h low high
  -- it lies inside any authority that contains the request
  pub in_authority : (c : Capability) → Authority c → Contains (capability.low c) (capability.high c) base end
      → Contains (capability.low c) (capability.high c) low high
  -- it is called exact exactly where the encoding can express the request, and then it is the request
  pub exact_is : (exact ≡ 1) ↔ Expressible base end
  pub rounded_is : (exact ≡ 0) ↔ (Expressible base end → ⊥)
  pub exact_region : exact ≡ 1 → (low ≡ base) × (high ≡ end)

-- the request [base, base + length) is refused by number 6 exactly where it ends past 2^32; else the number is 0, and the region is the least one
pub record CutClaim (base length : ℕ) (answer : Result CutRegion CutError) : Type 0 where
  pub refused : (answer_number answer ≡ 6) ↔ (2 ^ 32 < base + length)
  pub answered : (answer_number answer ≡ 0) ↔ (base + length ≤ 2 ^ 32)
  pub region : base + length ≤ 2 ^ 32 → LeastRegion base (base + length) (answer_low answer) (answer_high answer) (answer_exact answer)
