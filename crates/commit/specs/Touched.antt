-- What an effect changes in memory and its tags, said byte by byte. Document 01, "What is lent"; CHERIoT report, 7.7. Assumes nothing.
use Rattle.std.specs.Prelude.{◌≡◌, ℕ, ◌+◌, ◌*◌, ◌/◌, ◌%◌, ◌^◌, ◌≤◌, ◌≢◌, slice_index}
use Rattle.words.specs.Words.{le_bytes, bit_at}
use Rattle.state.specs.Lent.{State}
use Rattle.state.specs.Memory.{granule_bytes}
use Rattle.state.specs.Effects.{Stored, nothing, bytes, whole}

-- no byte and no tag changes
pub record SameMemory (before after : State) : Type 0 where
  pub same_bytes : after.mem ≡ before.mem
  pub same_tags : after.tags ≡ before.tags

-- width bytes at place i change and the tag of their granule, no other byte and no other tag
pub record OnlyAt (i width tag : ℕ) (before after : State) : Type 0 where
  pub other_bytes : (j : ℕ) → (i ≤ j → i + width ≤ j) → slice_index after.mem j ≡ slice_index before.mem j
  pub other_tags : (g : ℕ) → (g ≢ i / granule_bytes) → bit_at after.tags g ≡ bit_at before.tags g
  pub tag_is : bit_at after.tags (i / granule_bytes) ≡ tag

-- n bytes at place i are those of a value
abbrev pub Bytes : (n i value : ℕ) → State → Type 0
Bytes n i value s = le_bytes n s.mem i ≡ value % 2 ^ (8 * n)

-- a store of bytes clears its granule's tag (report, 7.7); a stored capability is its address, its metadata and its tag
abbrev pub MemoryAfter : Stored → (before after : State) → Type 0
MemoryAfter nothing b a = SameMemory b a
MemoryAfter (bytes width i value) b a = OnlyAt i width 0 b a × Bytes width i value a
MemoryAfter (whole i value) b a = OnlyAt i granule_bytes value.tag b a × Bytes 4 i value.address a × Bytes 4 (i + 4) value.metadata a
