-- Which cutters for C cannot keep the promises of their four functions: those that always answer a refusal, the whole space, an empty region or one region.
-- Document 01, "Promises that pin the answer". The numbers are those of an answer that keeps the promise of a cut, of which capability_laws shows it.
-- Assumes nothing.
use mathlib.Core.Path.{◌≡◌, ◌∙◌}
use Prim.Native.Nat.{ℕ, ◌+◌, ◌^◌, ◌≤◌, ◌<◌}
use native.Mathlib.Omega.{arith}
use borrow.Author.Tests.{le-ltb, lt-ltb}
use Rattle.bounds.specs.Bounds.{Expressible, Contains}
use Rattle.bounds.specs.Cutting.{cut_of}
use Rattle.bounds.proofs.Answers.{cut_promised}
use Rattle.capability_laws.proofs.ShutOut as cut
use Rattle.label.specs.Answers.{CutNumbers}

-- ---- of every request

module _ (base n : ℕ) {number low high exact : ℕ} (p : CutNumbers base n number low high exact) where
  -- refused is exactly what ends past 2^32
  pub answered_within : base + n ≤ 2 ^ 32 → number ≡ 0
  answered_within h = p.number_is ∙ (cut_promised base n).number_is ∙ rw (le-ltb (2 ^ 32) (base + n) h)

  pub refused_past : 2 ^ 32 < base + n → number ≡ 6
  refused_past h = p.number_is ∙ (cut_promised base n).number_is ∙ rw (lt-ltb (2 ^ 32) (base + n) h)

  module _ (word : base < 2 ^ 32) (sane : base + n ≤ 2 ^ 32) where
    -- an empty region is answered only to an empty request
    pub empty_numbers_only : high ≤ low → n ≡ 0
    empty_numbers_only h = cut.empty_only base n word sane (cut_of base n) (cut_promised base n) (rw (p.high_is, p.low_is) at h)

    -- the whole space only where no smaller region is around the request
    pub whole_numbers_only : low ≡ 0 → high ≡ 2 ^ 32 → (l h : ℕ) → Expressible l h → Contains l h base (base + n) → (l ≡ 0) × (2 ^ 32 ≤ h)
    whole_numbers_only e f = cut.whole_only base n word sane (cut_of base n) (cut_promised base n) (rw p.low_is at e, rw p.high_is at f)

-- ---- of two worked requests

module _ {n l h e m k i f : ℕ} (asked-511 : CutNumbers 0x20000001 511 n l h e) (asked-512 : CutNumbers 0x20000001 512 m k i f) where
  -- a refusal: neither request gets one
  pub refusing_numbers_shut_out : (n ≡ 6 → ⊥) × (m ≡ 6 → ⊥)
  refusing_numbers_shut_out = (
    λ q. omega (arith, q, answered_within 0x20000001 511 asked-511 (omega arith)),
    λ q. omega (arith, q, answered_within 0x20000001 512 asked-512 (omega arith)),
  )

  -- the whole space
  pub whole_space_numbers_shut_out : ((l ≡ 0) × (h ≡ 2 ^ 32) → ⊥) × ((k ≡ 0) × (i ≡ 2 ^ 32) → ⊥)
  whole_space_numbers_shut_out =
      let s = cut.whole_space_shut_out (cut_of 0x20000001 511) (cut_of 0x20000001 512) (cut_promised 0x20000001 511) (cut_promised 0x20000001 512) in (
        λ q. s.0 (rw asked-511.low_is at q.0, rw asked-511.high_is at q.1),
        λ q. s.1 (rw asked-512.low_is at q.0, rw asked-512.high_is at q.1),
      )

  -- an empty region
  pub empty_region_numbers_shut_out : (h ≤ l → ⊥) × (i ≤ k → ⊥)
  empty_region_numbers_shut_out =
      let s = cut.empty_region_shut_out (cut_of 0x20000001 511) (cut_of 0x20000001 512) (cut_promised 0x20000001 511) (cut_promised 0x20000001 512) in (
        λ q. s.0 (rw (asked-511.high_is, asked-511.low_is) at q),
        λ q. s.1 (rw (asked-512.high_is, asked-512.low_is) at q),
      )

  -- nor is any one region, low or high, that of both
  pub one_region_numbers_shut_out : (l ≡ k → ⊥) × (h ≡ i → ⊥)
  one_region_numbers_shut_out =
      let s = cut.one_region_shut_out (cut_of 0x20000001 511) (cut_of 0x20000001 512) (cut_promised 0x20000001 511) (cut_promised 0x20000001 512) in (
        λ q. s.0 (rw (asked-511.low_is, asked-512.low_is) at q),
        λ q. s.1 (rw (asked-511.high_is, asked-512.high_is) at q),
      )
