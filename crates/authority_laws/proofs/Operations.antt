-- What an operation gives of a capability comes from it: tagged only where that is, and of a sound one sound and inside it. A law for each operation.
-- Assumes nothing.
use mathlib.Core.Path.{◌≡◌, refl}
use mathlib.Core.Logic.{inl, inr}
use mathlib.Core.Bool.{Bool, true, false, cond, not, ◌&&◌}
use Prim.Native.Nat.{ℕ, ◌+◌, ◌%◌, ◌^◌, ◌<◌}
use native.Mathlib.Nat.{le_refl}
use native.Mathlib.Omega.{arith}
use borrow.Author.Tests.{eq-eqb}
use Rattle.metadata.specs.Word.{scale_of, top_of, base_of, with_type}
use Rattle.metadata.specs.Rights.{Has, word_rights, narrow_word, GL, LG, SD, LM, MC}
use Rattle.metadata.proofs.Words.{permissions_of_type, scale_of_type, top_of_type, base_of_type}
use Rattle.metadata.proofs.Narrowed.{scale_of_narrow, top_of_narrow, base_of_narrow, narrow_inside}
use Rattle.bounds.specs.Bounds.{low_at, high_at}
use Rattle.bounds.specs.Cutting.{unrounded}
use Rattle.capability.specs.Capability.{capability, low, high, rights, grants, tagged, sealed, unsealed, covers, keep_tag_if, same_bounds}
use Rattle.capability.specs.Capability.{move_of, set_bounds_of, set_bounds_exact_of, narrow_of}
use Rattle.capability.specs.Sealing.{with_object_type, global_mask, seal_of, unseal_of}
use Rattle.capability.specs.Loading.{loses_if, without, lose_global, lose_mutable, lose_tag, loaded_of}
use Rattle.capability.specs.declared.Capability.{Capability}
use Rattle.capability.proofs.Laws.{Kept, kept, move_kept, set_bounds_kept, narrow_kept, seal_kept, unseal_kept, type_kept}
use Rattle.capability_laws.specs.Authority.{Authority, Inside}
use Rattle.capability_laws.proofs.Tests as tests
use Rattle.capability_laws.proofs.Derived.{inside_trans, covers_contains, same_stays, exact_low, exact_high, derive_cut}
use Rattle.state.specs.Addresses.{legalized}
use Rattle.machine_laws.specs.Lent.{Sound}

pub record From (c r : Capability) : Type 0 where
  pub of_tagged : r.tag ≡ 1 → c.tag ≡ 1
  pub of_sound : r.tag ≡ 1 → Sound c → Sound r × Inside c r

pub from_both : {a b c : Capability} → From a b → From b c → From a c
from_both {a} {b} {c} p q =
    record {
      of_tagged = λ t. p.of_tagged (q.of_tagged t);
      of_sound = λ t s.
          let x = p.of_sound (q.of_tagged t) s in
          let y = q.of_sound t x.0 in
          (y.0, inside_trans a b c x.1 y.1);
    }

-- a tag that is kept or cleared is set only where it was
one : {old new : ℕ} → Kept old new → new ≡ 1 → old ≡ 1
one (inl e) h = omega arith
one (inr e) h = absurd (omega arith)

-- the same bounds and no new right
within : (c r : Capability) → low r ≡ low c → high r ≡ high c → ((k : ℕ) → Has (rights r) k → Has (rights c) k) → Sound c → Sound r × Inside c r
within c r l h k s = (
  record { order = rw (l, h) s.order; top = rw h s.top },
  record { region = rw (l, h) (record { from = le_refl _; to = le_refl _ }); no_right = k },
)

-- ---- other metadata: sealing, unsealing, narrowing, loading

-- word v gives the bounds of w at each address, and holds no right that w lacks
record Below (w v : ℕ) : Type 0 where
  same_scale : scale_of v ≡ scale_of w
  same_top : top_of v ≡ top_of w
  same_base : base_of v ≡ base_of w
  no_right : (k : ℕ) → Has (word_rights v) k → Has (word_rights w) k

below_same : (w : ℕ) → Below w w
below_same w = record { same_scale = refl; same_top = refl; same_base = refl; no_right = λ k h. h }

below_type : (w t : ℕ) → t < 8 → Below w (with_type w t)
below_type w t l =
    record {
      same_scale = scale_of_type w t;
      same_top = top_of_type w t;
      same_base = base_of_type w t;
      no_right = λ k h. rw (permissions_of_type w t l) at h;
    }

below_narrow : (w mask : ℕ) → Below w (narrow_word w mask)
below_narrow w mask =
    record {
      same_scale = scale_of_narrow w mask;
      same_top = top_of_narrow w mask;
      same_base = base_of_narrow w mask;
      no_right = λ k h. omega (arith, narrow_inside w mask k);
    }

below_if : (t : Bool) (w mask : ℕ) → Below w (cond t (narrow_word w mask) w)
below_if true w mask = below_narrow w mask
below_if false w mask = below_same w

-- with the old tag, or none
module _ (c : Capability) {w : ℕ} (b : Below c.metadata w) where
  below_from : {t : ℕ} → Kept c.tag t → From c (capability c.address w t)
  unfolding low high low_at high_at rights
  below_from {t} k =
      record {
        of_tagged = one k;
        of_sound = λ h s.
            within c (capability c.address w t) (rw (b.same_scale, b.same_base)) (rw (b.same_scale, b.same_top, b.same_base)) b.no_right s;
      }

pub keep_from : (t : Bool) (c : Capability) → From c (keep_tag_if t c)
keep_from t c = below_from c (below_same c.metadata) (kept t c.tag)

pub type_from : (c : Capability) (t : ℕ) → From c (with_object_type c t)
unfolding with_object_type
type_from c t = below_from c (below_type c.metadata (t % 2 ^ 3) (omega arith)) (type_kept c t)

pub seal_from : (c a : Capability) → From c (seal_of c a)
unfolding seal_of
seal_from c a = below_from c (below_type c.metadata (a.address % 2 ^ 3) (omega arith)) (seal_kept c a)

pub narrow_from : (c : Capability) (mask : ℕ) → From c (narrow_of c mask)
unfolding narrow_of
narrow_from c mask = below_from c (below_narrow c.metadata mask) (narrow_kept c mask)

pub unseal_from : (c a : Capability) → From c (unseal_of c a)
unfolding unseal_of
unseal_from c a =
    let n = capability c.address (narrow_word c.metadata (global_mask a)) c.tag in
    from_both {b = n} (below_from c (below_narrow c.metadata (global_mask a)) (inl refl))
    (below_from n (below_type n.metadata 0 (omega arith)) (unseal_kept c a))

pub loses_from : (t : Bool) (mask : ℕ) (v : Capability) → From v (loses_if t mask v)
loses_from t mask v = below_from v (below_if t v.metadata mask) (inl refl)

pub loaded_from : (a v : Capability) → From v (loaded_of a v)
unfolding loaded_of lose_tag lose_mutable lose_global
loaded_from a v =
    let g = lose_global a v in
    let m = lose_mutable a g in
    from_both {b = g} (loses_from (tagged v && not (grants a LG)) (without GL LG) v)
    (from_both {b = m} (loses_from (tagged g && (not (grants a LM) && not (sealed g))) (without SD LM) g) (keep_from (grants a MC) m))

-- ---- moves and cuts

pub move_from : (c : Capability) (a : ℕ) → From c (move_of c a)
unfolding rights move_of
move_from c a =
    record {
      of_tagged = one (move_kept c a);
      of_sound = λ h s.
          let t = (tests.kept (unsealed c && same_bounds c a) c.tag h).0 in
          let x = (same_stays c a).0 ((tests.both_true (unsealed c) (same_bounds c a)).0 t).1 in
          within c (move_of c a) x.0 x.1 (λ j y. y) s;
    }

pub legalized_from : (unit : ℕ) (c : Capability) → From c (legalized unit c)
unfolding legalized
legalized_from unit c = move_from c _

-- fewer tests keep a tag that more keep
fewer : (p q r : Bool) (t : ℕ) → cond (p && (q && r)) t 0 ≡ 1 → cond (p && q) t 0 ≡ 1
fewer true true r t h = (tests.kept r t h).1
fewer true false r t h = h
fewer false q r t h = h

module _ (c : Capability) (n : ℕ) (word : c.address < 2 ^ 32) where
  cut_sound : (set_bounds_of c n).tag ≡ 1 → Sound c → Sound (set_bounds_of c n) × Inside c (set_bounds_of c n)
  unfolding set_bounds_of tagged
  cut_sound h s =
      let e : ℕ = c.address + n in
      let k = tests.kept (unsealed c && covers c c.address e) c.tag h in
      let t = (tests.both_true (unsealed c) (covers c c.address e)).0 k.0 in
      let a : Authority c = record { address_fits = word; is_tagged = eq-eqb c.tag 1 k.1; is_unsealed = t.0; order = s.order; top = s.top } in
      let d = derive_cut c a n ((covers_contains c c.address e).0 t.1) in
      (record { order = d.0.order; top = d.0.top }, d.1)

  pub set_bounds_from : From c (set_bounds_of c n)
  set_bounds_from = record { of_tagged = one (set_bounds_kept c n); of_sound = cut_sound }

  -- the exact form differs in the tag alone
  pub set_bounds_exact_from : From c (set_bounds_exact_of c n)
  unfolding set_bounds_of set_bounds_exact_of rights
  set_bounds_exact_from =
      from_both {b = set_bounds_of c n} set_bounds_from (record {
        of_tagged = fewer (unsealed c) (covers c c.address (c.address + n)) (unrounded c.address (c.address + n)) c.tag;
        of_sound = λ h s. within (set_bounds_of c n) (set_bounds_exact_of c n) (exact_low c n) (exact_high c n) (λ k x. x) s;
      })
