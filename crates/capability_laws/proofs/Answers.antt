-- Demand 3 of one cut: each field is a law of the cut's region, carried over to the answer by the values that the promise gives it.
-- Assumes nothing.
use mathlib.Core.Path.{◌≡◌, refl, ap, ◌∙◌}
use mathlib.Core.Logic.{◌↔◌}
use mathlib.Core.Bool.{Bool, true, false, cond}
use Prim.Native.Nat.{ℕ, ◌+◌, ◌^◌, ◌≤◌, ◌<◌}
use native.Mathlib.Omega.{arith}
use borrow.Author.Tests.{ltb-true, ltb-false, le-ltb}
use Rattle.bounds.specs.Bounds.{Expressible, Contains}
use Rattle.bounds.specs.Cutting.{past_end, cut_low, cut_high, cut_exact, answer_number, answer_low, answer_high, answer_exact, CutPromise}
use Rattle.std.specs.Prelude.{Result}
use Rattle.bounds.specs.declared.CutRegion.{CutRegion}
use Rattle.bounds.specs.declared.CutError.{CutError}
use Rattle.capability.specs.Capability.{low, high}
use Rattle.capability.specs.declared.Capability.{Capability}
use Rattle.capability_laws.specs.Authority.{Authority}
use Rattle.capability_laws.specs.Cuts.{LeastRegion, CutClaim}
use Rattle.capability_laws.proofs.Tests.{both_equal}
use Rattle.capability_laws.proofs.Region.{cut_expressible, cut_contains, cut_inside, cut_least, cut_exact_lem}

-- ---- a flag of 1 or 0

flag_set : (t : Bool) → (◌≡◌ {A = ℕ} (cond t 1 0) 1) ↔ (t ≡ true)
flag_set true = (λ h. refl, λ h. refl)
flag_set false = (λ h. absurd (omega (arith, h)), λ h. let z : ◌≡◌ {A = ℕ} 0 1 = cc in absurd (omega arith))

flag_clear : (t : Bool) → (◌≡◌ {A = ℕ} (cond t 1 0) 0) ↔ (t ≡ true → ⊥)
flag_clear true = (λ h. absurd (omega (arith, h)), λ h. absurd (h refl))
flag_clear false = (λ h. λ e. let z : ◌≡◌ {A = ℕ} 0 1 = cc in omega arith, λ h. refl)

module _ (base length : ℕ) (word : base < 2 ^ 32) (answer : Result CutRegion CutError) (promised : CutPromise base length answer) where
  -- ---- refused or not

  number : (t : Bool) → past_end base length ≡ t → answer_number answer ≡ cond t 6 0
  number t h = promised.number_is ∙ ap (λ x. cond x 6 0) h

  refused : (t : Bool) → past_end base length ≡ t → (answer_number answer ≡ 6) ↔ (2 ^ 32 < base + length)
  refused true t = (λ h. ltb-true (2 ^ 32) (base + length) t, λ h. number true t)
  refused false t = (λ h. omega (arith, h, number false t), λ h. omega (arith, h, ltb-false (2 ^ 32) (base + length) t))

  answered : (t : Bool) → past_end base length ≡ t → (answer_number answer ≡ 0) ↔ (base + length ≤ 2 ^ 32)
  answered true t = (λ h. omega (arith, h, number true t), λ h. omega (arith, h, ltb-true (2 ^ 32) (base + length) t))
  answered false t = (λ h. ltb-false (2 ^ 32) (base + length) t, λ h. number false t)

  -- ---- the region
  module _ (sane : base + length ≤ 2 ^ 32) where
    order : base ≤ base + length
    order = omega arith

    within : past_end base length ≡ false
    within = le-ltb (2 ^ 32) (base + length) sane

    low_is : answer_low answer ≡ cut_low base (base + length)
    low_is = promised.low_is ∙ rw within

    high_is : answer_high answer ≡ cut_high base (base + length)
    high_is = promised.high_is ∙ rw within

    exact_is : answer_exact answer ≡ cond (cut_exact base (base + length)) 1 0
    exact_is = promised.exact_is ∙ rw within

    -- the flag's test, as what it says
    equal : (cut_exact base (base + length) ≡ true) ↔ ((cut_low base (base + length) ≡ base) × (cut_high base (base + length) ≡ base + length))
    unfolding cut_exact
    equal = both_equal (cut_low base (base + length)) base (cut_high base (base + length)) (base + length)

    expressed : (cut_exact base (base + length) ≡ true) ↔ Expressible base (base + length)
    expressed =
        let e = cut_exact_lem base (base + length) word order sane in
        (λ h. e.0 (equal.0 h), λ r. equal.1 (e.1 r))

    authority : (c : Capability) → Authority c → Contains (low c) (high c) base (base + length)
        → Contains (low c) (high c) (cut_low base (base + length)) (cut_high base (base + length))
    unfolding low high
    authority c h k = cut_inside base (base + length) word order sane c.address c.metadata h.address_fits k

    least_region : LeastRegion base (base + length) (answer_low answer) (answer_high answer) (answer_exact answer)
    least_region =
        let t : Bool = cut_exact base (base + length) in
        rw (low_is, high_is, exact_is) (record {
          expressible = cut_expressible base (base + length) word order sane;
          contains = cut_contains base (base + length) word order sane;
          least = cut_least base (base + length) word order sane;
          exact_is = (λ h. expressed.0 ((flag_set t).0 h), λ r. (flag_set t).1 (expressed.1 r));
          rounded_is = (λ h. λ r. (flag_clear t).0 h (expressed.1 r), λ n. (flag_clear t).1 (λ h. n (expressed.0 h)));
          exact_region = λ h. equal.0 ((flag_set t).0 h);
          in_authority = authority;
        })

  -- every answer that keeps the promise, to any base of 32 bits and any length
  pub cut_claim : CutClaim base length answer
  cut_claim =
      record { refused = refused (past_end base length) refl; answered = answered (past_end base length) refl; region = least_region }
