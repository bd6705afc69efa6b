-- What an effect leaves in memory: the bytes that it stores and the tag of their granule, and nothing else. CHERIoT report, 7.7. Assumes nothing.
use Rattle.std.proofs.Common.{◌≡◌, ℕ, ◌+◌, ◌*◌, ◌/◌, ◌%◌, ◌^◌, ◌≤◌, List, length, get_or, refl, ◌∙◌, arith, le-leb}
use Rattle.words.specs.Words.{le_bytes, set_bytes, bit_at, put_bit}
use Rattle.words.proofs.Bytes.{length_set_bytes, get_d_set_bytes_other, le_bytes_set_bytes_same, le_bytes_set_bytes_other}
use Rattle.words.proofs.Bits.{bit_at_put_bit_same, bit_at_put_bit_other}
use Rattle.capability.specs.declared.Capability.{Capability}
use Rattle.state.specs.Lent.{State, state}
use Rattle.state.specs.Memory.{granule_bytes}
use Rattle.state.specs.Effects.{Stored, nothing, bytes, whole, stored_by, Within, StoresWithin, GoodTag, GoodEffect}
use Rattle.state.specs.declared.Effect.{Effect}
use Rattle.commit.specs.Commit.{stored, retagged, stored_capability, memory_after, tags_after, apply_effect}
use Rattle.commit.specs.Touched.{MemoryAfter}
use Rattle.commit.proofs.Views.{EachStored, each_stored}

-- ---- what a store leaves

module _ (mem tags : List ℕ) (n i : ℕ) (fits : i + n ≤ length mem) where
  stored_is : (v : ℕ) → stored mem n i v ≡ set_bytes n mem i v
  unfolding stored
  stored_is v = rw (le-leb (i + n) (length mem) fits)

  retagged_is : (tag : ℕ) → retagged mem tags n i tag ≡ put_bit tags (i / granule_bytes) tag
  unfolding retagged
  retagged_is tag = rw (le-leb (i + n) (length mem) fits)

  module _ (granules : length mem ≡ 64 * length tags) (some : 1 ≤ n) (tag : ℕ) (bit : tag ≤ 1) where
    retagged_same : bit_at (retagged mem tags n i tag) (i / granule_bytes) ≡ tag
    retagged_same = rw (retagged_is tag) (bit_at_put_bit_same tags (i / granule_bytes) tag (omega arith) ∙ omega arith)

    retagged_other : (g : ℕ) → (g ≡ i / granule_bytes → ⊥) → bit_at (retagged mem tags n i tag) g ≡ bit_at tags g
    retagged_other g h = rw (retagged_is tag) (bit_at_put_bit_other tags (i / granule_bytes) tag g h)

-- a capability's two words, one after the other
module _ (mem : List ℕ) (i : ℕ) (c : Capability) (fits : i + granule_bytes ≤ length mem) where
  capability_is : stored_capability mem i c ≡ set_bytes 4 (set_bytes 4 mem i c.address) (i + 4) c.metadata
  unfolding stored_capability
  capability_is = rw (le-leb (i + granule_bytes) (length mem) fits)

  capability_other : (j : ℕ) → (i ≤ j → i + granule_bytes ≤ j) → get_or (stored_capability mem i c) j 0 ≡ get_or mem j 0
  capability_other j h =
      rw capability_is
      (get_d_set_bytes_other 4 (set_bytes 4 mem i c.address) (i + 4) c.metadata j (λ l. omega (arith, h (omega arith)))
      ∙ get_d_set_bytes_other 4 mem i c.address j (λ l. omega (arith, h l)))

  capability_address : le_bytes 4 (stored_capability mem i c) i ≡ c.address % 2 ^ (8 * 4)
  capability_address =
      rw capability_is
      (le_bytes_set_bytes_other 4 4 (set_bytes 4 mem i c.address) i (i + 4) c.metadata (λ l. omega arith)
      ∙ le_bytes_set_bytes_same 4 mem i c.address (omega arith))

  capability_metadata : le_bytes 4 (stored_capability mem i c) (i + 4) ≡ c.metadata % 2 ^ (8 * 4)
  capability_metadata =
      rw capability_is
      (le_bytes_set_bytes_same 4 (set_bytes 4 mem i c.address) (i + 4) c.metadata (omega (arith, length_set_bytes 4 mem i c.address)))

-- ---- what an effect leaves

after_store : (x : Stored) (s : State) (regs : List ℕ) → length s.mem ≡ 64 * length s.tags → Within (length s.mem) x → EachStored GoodTag x
    → MemoryAfter x s (state regs (memory_after x s.mem) (tags_after x s.mem s.tags))
after_store nothing s regs l w g = record { same_bytes = refl; same_tags = refl }
after_store (bytes n i value) s regs l w g = (
  record {
    other_bytes = λ j h. rw (stored_is s.mem s.tags n i w.inside value) (get_d_set_bytes_other n s.mem i value j h);
    other_tags = retagged_other s.mem s.tags n i w.inside l w.some 0 (omega arith);
    tag_is = retagged_same s.mem s.tags n i w.inside l w.some 0 (omega arith);
  },
  rw (stored_is s.mem s.tags n i w.inside value) (le_bytes_set_bytes_same n s.mem i value w.inside),
)
after_store (whole i value) s regs l w g = (
  record {
    other_bytes = capability_other s.mem i value w.inside;
    other_tags = retagged_other s.mem s.tags granule_bytes i w.inside l (omega arith) value.tag g;
    tag_is = retagged_same s.mem s.tags granule_bytes i w.inside l (omega arith) value.tag g;
  },
  capability_address s.mem i value w.inside,
  capability_metadata s.mem i value w.inside,
)

pub applied_memory : (start n : ℕ) (e : Effect) (s : State) → length s.mem ≡ 64 * length s.tags → StoresWithin (length s.mem) e → GoodEffect e
    → MemoryAfter (stored_by e) s (apply_effect start n e s)
unfolding apply_effect
applied_memory start n e s l w g = after_store (stored_by e) s _ l w (each_stored GoodTag e g)
