-- What each of the four calls gives of an authority where it keeps the tag: an authority again, inside the one that it was given. Assumes nothing.
use mathlib.Core.Path.{◌≡◌, refl, ap, ◌∙◌}
use mathlib.Core.Logic.{◌↔◌}
use mathlib.Core.Bool.{Bool, true, cond, ◌&&◌}
use Prim.Native.Nat.{ℕ, ◌+◌, ◌^◌, ◌≤◌, ◌<◌}
use native.Mathlib.Nat.{le_refl, le_trans}
use native.Mathlib.Omega.{arith}
use Rattle.metadata.specs.Word.{permissions_of, type_of}
use Rattle.metadata.specs.Rights.{Has}
use Rattle.bounds.specs.Bounds.{low_at, high_at, Contains}
use Rattle.bounds.specs.Cutting.{unrounded, cut_low, cut_high}
use Rattle.capability.specs.Capability.{low, high, rights, tagged, unsealed, covers, same_bounds, move_of, set_bounds_of, set_bounds_exact_of, narrow_of}
use Rattle.capability.specs.declared.Capability.{Capability}
use Rattle.capability_laws.specs.Authority.{Authority, Inside}
use Rattle.capability_laws.proofs.Tests.{both_equal, both_le}
use Rattle.capability_laws.proofs.Region.{cut_contains, cut_in_space, cut_inside}
use Rattle.capability_laws.proofs.Windows.{set_low, set_high}
use Rattle.capability_laws.proofs.Representable.{prop_setbounds, prop_andperms}
use Rattle.capability_laws.proofs.Changes.{exact_address, exact_metadata, cut_changes, move_changes, narrow_changes}
use Rattle.capability_laws.proofs.Changes.{cut_tag, exact_tag, move_tag, narrow_tag}

pub inside_refl : (c : Capability) → Inside c c
inside_refl c = record { region = record { from = le_refl _; to = le_refl _ }; no_right = λ k h. h }

pub inside_trans : (a b c : Capability) → Inside a b → Inside b c → Inside a c
inside_trans a b c p q =
    record {
      region = record { from = le_trans p.region.from q.region.from; to = le_trans q.region.to p.region.to };
      no_right = λ k h. p.no_right k (q.no_right k h);
    }

-- ---- the tests, as facts

pub covers_contains : (c : Capability) (base end : ℕ) → (covers c base end ≡ true) ↔ Contains (low c) (high c) base end
unfolding covers
covers_contains c base end =
    let e = both_le (low c) base end (high c) in
    (λ h. record { from = (e.0 h).0; to = (e.0 h).1 }, λ h. e.1 (h.from, h.to))

pub same_stays : (c : Capability) (a : ℕ) → (same_bounds c a ≡ true) ↔ ((low (move_of c a) ≡ low c) × (high (move_of c a) ≡ high c))
unfolding same_bounds move_of low high
same_stays c a = both_equal (low_at a c.metadata) (low_at c.address c.metadata) (high_at a c.metadata) (high_at c.address c.metadata)

-- the exact form differs from the other in the tag alone
pub exact_low : (c : Capability) (n : ℕ) → low (set_bounds_exact_of c n) ≡ low (set_bounds_of c n)
unfolding low set_bounds_of set_bounds_exact_of
exact_low c n = refl

pub exact_high : (c : Capability) (n : ℕ) → high (set_bounds_exact_of c n) ≡ high (set_bounds_of c n)
unfolding high set_bounds_of set_bounds_exact_of
exact_high c n = refl

-- what it asks of the rounding, by its bounds
pub unrounded_bounds : (c : Capability) (n : ℕ) → c.address < 2 ^ 32 → c.address + n ≤ 2 ^ 32
    → (unrounded c.address (c.address + n) ≡ true) ↔ ((low (set_bounds_exact_of c n) ≡ c.address) × (high (set_bounds_exact_of c n) ≡ c.address + n))
unrounded_bounds c n w s = rw (exact_low c n, exact_high c n) (prop_setbounds c n w s).exact

-- ---- of an authority

-- the same type
same_seal : (a b : Capability) → type_of b.metadata ≡ type_of a.metadata → unsealed a ≡ true → unsealed b ≡ true
same_seal a b q h = rw q h

-- a tag that a passed test keeps
kept_tag : (c r : Capability) (t : Bool) → Authority c → t ≡ true → r.tag ≡ cond (unsealed c && t) c.tag 0 → tagged r ≡ true
unfolding tagged
kept_tag c r t h p q = rw (q, h.is_unsealed, p) h.is_tagged

narrow_no_right : (c : Capability) (mask k : ℕ) → Has (rights (narrow_of c mask)) k → Has (rights c) k
unfolding rights narrow_of
narrow_no_right c mask k x = (prop_andperms c.metadata mask k x).0

module _ (c : Capability) (h : Authority c) where
  -- the request of a cut that it covers ends by 2^32
  pub covered_sane : (n : ℕ) → Contains (low c) (high c) c.address (c.address + n) → c.address + n ≤ 2 ^ 32
  covered_sane n k = omega (arith, k.to, h.top)

  -- both forms of the cut: r has its address and metadata, and a tag
  cut_derived : (n : ℕ) (r : Capability) → r.address ≡ (set_bounds_of c n).address → r.metadata ≡ (set_bounds_of c n).metadata → tagged r ≡ true
      → Contains (low c) (high c) c.address (c.address + n) → Authority r × Inside c r
  unfolding low high rights
  cut_derived n r a m t k =
      let b : ℕ = c.address in
      let o : b ≤ b + n = omega arith in
      let w = h.address_fits in
      let s = covered_sane n k in
      let q = cut_changes c n in
      let l : low_at r.address r.metadata ≡ cut_low b (b + n) = rw (a, m) (set_low c n w s) in
      let g : high_at r.address r.metadata ≡ cut_high b (b + n) = rw (a, m) (set_high c n w s) in
      let i = cut_contains b (b + n) w o s in (
        record {
          address_fits = rw (a, q.same_address) w;
          is_tagged = t;
          is_unsealed = same_seal c r (rw m q.same_type) h.is_unsealed;
          order = rw (l, g) (omega (arith, i.from, i.to));
          top = rw g (cut_in_space b (b + n) w o s);
        },
        record {
          region = rw (l, g) (cut_inside b (b + n) w o s b c.metadata w k);
          no_right = λ j x. rw (ap permissions_of m ∙ q.same_permissions) at x;
        },
      )

  pub derive_cut : (n : ℕ) → Contains (low c) (high c) c.address (c.address + n) → Authority (set_bounds_of c n) × Inside c (set_bounds_of c n)
  derive_cut n k =
      cut_derived n (set_bounds_of c n) refl refl
      (kept_tag c (set_bounds_of c n) (covers c c.address (c.address + n)) h ((covers_contains c c.address (c.address + n)).1 k) (cut_tag c n)) k

  pub derive_exact : (n : ℕ) → Contains (low c) (high c) c.address (c.address + n)
      → (low (set_bounds_exact_of c n) ≡ c.address) × (high (set_bounds_exact_of c n) ≡ c.address + n)
      → Authority (set_bounds_exact_of c n) × Inside c (set_bounds_exact_of c n)
  derive_exact n k x =
      let u : unrounded c.address (c.address + n) ≡ true = (unrounded_bounds c n h.address_fits (covered_sane n k)).1 x in
      let v : covers c c.address (c.address + n) ≡ true = (covers_contains c c.address (c.address + n)).1 k in
      cut_derived n (set_bounds_exact_of c n) (exact_address c n) (exact_metadata c n)
      (kept_tag c (set_bounds_exact_of c n) (covers c c.address (c.address + n) && unrounded c.address (c.address + n)) h (rw (v, u)) (exact_tag c n)) k

  pub derive_move : (a : ℕ) → a < 2 ^ 32 → (low (move_of c a) ≡ low c) × (high (move_of c a) ≡ high c) → Authority (move_of c a) × Inside c (move_of c a)
  unfolding rights
  derive_move a w x =
      let q = move_changes c a in (
        record {
          address_fits = rw q.0 w;
          is_tagged = kept_tag c (move_of c a) (same_bounds c a) h ((same_stays c a).1 x) (move_tag c a);
          is_unsealed = same_seal c (move_of c a) (ap type_of q.1) h.is_unsealed;
          order = rw (x.0, x.1) h.order;
          top = rw x.1 h.top;
        },
        record { region = rw (x.0, x.1) (record { from = le_refl _; to = le_refl _ }); no_right = λ j y. rw q.1 at y },
      )

  narrow_low : (mask : ℕ) → low (narrow_of c mask) ≡ low c
  unfolding low low_at
  narrow_low mask =
      let q = narrow_changes c mask in
      rw (q.same_address, q.same_scale, q.same_base)

  narrow_high : (mask : ℕ) → high (narrow_of c mask) ≡ high c
  unfolding high high_at
  narrow_high mask =
      let q = narrow_changes c mask in
      rw (q.same_address, q.same_scale, q.same_top, q.same_base)

  pub derive_narrow : (mask : ℕ) → Authority (narrow_of c mask) × Inside c (narrow_of c mask)
  derive_narrow mask =
      let q = narrow_changes c mask in
      let l = narrow_low mask in
      let g = narrow_high mask in (
        record {
          address_fits = rw q.same_address h.address_fits;
          is_tagged = kept_tag c (narrow_of c mask) true h refl (narrow_tag c mask ∙ rw h.is_unsealed);
          is_unsealed = same_seal c (narrow_of c mask) q.same_type h.is_unsealed;
          order = rw (l, g) h.order;
          top = rw g h.top;
        },
        record { region = rw (l, g) (record { from = le_refl _; to = le_refl _ }); no_right = narrow_no_right c mask },
      )
