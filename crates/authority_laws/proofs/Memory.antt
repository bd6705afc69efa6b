-- A closed property of each capability of memory holds of each after an effect whose capabilities have it. Assumes nothing.
use mathlib.Core.Path.{◌≡◌}
use Prim.Native.Nat.{ℕ, ◌+◌, ◌/◌, ◌%◌, ◌≤◌}
use native.Mathlib.Omega.{arith}
use lib.Dec.{eqb}
use lib.ListN.{length}
use borrow.Author.Tests.{eqb-true, eqb-false}
use Rattle.words.specs.Words.{le_bytes}
use Rattle.words.proofs.Word.{by_test}
use Rattle.words.proofs.Bytes.{le_bytes_same}
use Rattle.capability.specs.Capability.{Good}
use Rattle.capability.specs.declared.Capability.{Capability}
use Rattle.state.specs.Lent.{State}
use Rattle.state.specs.Memory.{capability_in, granule_bytes}
use Rattle.state.specs.Effects.{Stored, nothing, bytes, whole, Within}
use Rattle.commit.specs.Touched.{OnlyAt, Bytes, MemoryAfter}
use Rattle.commit.proofs.Views.{EachStored}
use Rattle.authority_laws.proofs.Closed.{Carried, Granules}

module _ (b a : State) where
  -- a store in one granule leaves the capabilities of the others
  module _ (i width tag : ℕ) (only : OnlyAt i width tag b a) (together : i % granule_bytes + width ≤ granule_bytes) where
    bytes_other : (j p : ℕ) → j % granule_bytes ≡ 0 → (j / granule_bytes ≡ i / granule_bytes → ⊥) → j ≤ p → p ≤ j + 4
        → le_bytes 4 a.mem p ≡ le_bytes 4 b.mem p
    bytes_other j p g n l u = le_bytes_same 4 a.mem b.mem p (λ k h. only.other_bytes (p + k) (λ x. omega arith))

    granule_other : (j : ℕ) → j % granule_bytes ≡ 0 → (j / granule_bytes ≡ i / granule_bytes → ⊥)
        → capability_in a.mem a.tags j ≡ capability_in b.mem b.tags j
    unfolding capability_in
    granule_other j g n =
        rw (
          bytes_other j j g n (omega arith) (omega arith),
          bytes_other j (j + 4) g n (omega arith) (omega arith),
          only.other_tags (j / granule_bytes) n,
        )

    -- its own granule has the store's tag
    granule_tag : (j : ℕ) → j / granule_bytes ≡ i / granule_bytes → (capability_in a.mem a.tags j).tag ≡ tag
    unfolding capability_in
    granule_tag j e = rw e only.tag_is

  -- a capability that is stored stands there
  granule_stored : (i : ℕ) (c : Capability) → Good c → OnlyAt i granule_bytes c.tag b a → Bytes 4 i c.address a → Bytes 4 (i + 4) c.metadata a
      → capability_in a.mem a.tags i ≡ c
  unfolding capability_in
  granule_stored i c g only x y =
      let p : le_bytes 4 a.mem i ≡ c.address = omega (arith, x, g.address_fits) in
      let q : le_bytes 4 a.mem (i + 4) ≡ c.metadata = omega (arith, y, g.metadata_fits) in
      rw (p, q, only.tag_is)

  module _ (P : Capability → Type 0) (closed : Carried P) (long : length a.mem ≡ length b.mem) (holds : Granules P b.mem b.tags) where
    stored_granules : (i width tag : ℕ) → OnlyAt i width tag b a → i % granule_bytes + width ≤ granule_bytes
        → ((j : ℕ) → j % granule_bytes ≡ 0 → j / granule_bytes ≡ i / granule_bytes → P (capability_in a.mem a.tags j)) → Granules P a.mem a.tags
    stored_granules i width tag only t p j w =
        by_test (eqb (j / granule_bytes) (i / granule_bytes)) (λ e. p j (omega (arith, w.together)) (eqb-true _ _ e))
        (λ e. rw (granule_other i width tag only t j (omega (arith, w.together)) (eqb-false _ _ e)) (holds j (rw (← long) w)))

    pub granules_after : (x : Stored) → MemoryAfter x b a → Within (length b.mem) x → EachStored Good x → EachStored P x → Granules P a.mem a.tags
    granules_after nothing m w g p = rw (m.same_bytes, m.same_tags) holds
    granules_after (bytes n i value) m w g p =
        stored_granules i n 0 m.0 w.together (λ j r e. closed.untagged _ (granule_tag i n 0 m.0 w.together j e))
    granules_after (whole i value) m w g p =
        stored_granules i granule_bytes value.tag m.0 w.together
        (λ j r e. let q : j ≡ i = omega (arith, w.together) in rw (q, granule_stored i value g m.0 m.1 m.2) p)
