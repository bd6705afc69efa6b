-- Bytes of memory and of the tags stay bytes. Assumes nothing.
use Rattle.std.proofs.Common.{ℕ, ◌+◌, ◌/◌, leb, List, length}
use Rattle.words.specs.Words.{Bytes, set_bytes, put_bit}
use Rattle.words.proofs.Bytes.{set_bytes_Bytes}
use Rattle.words.proofs.Bits.{put_bit_Bytes}
use Rattle.state.specs.Memory.{granule_bytes}
use Rattle.state.specs.Effects.{Stored, nothing, bytes, whole}
use Rattle.state.proofs.Laws.{cond_holds}
use Rattle.commit.specs.Commit.{stored, retagged, stored_capability, memory_after, tags_after}

pub memory_bytes : (x : Stored) (mem : List ℕ) → Bytes mem → Bytes (memory_after x mem)
unfolding stored stored_capability
memory_bytes nothing mem h = h
memory_bytes (bytes n i value) mem h =
    cond_holds Bytes (leb (i + n) (length mem)) (set_bytes n mem i value) mem (set_bytes_Bytes n mem i value h) h
memory_bytes (whole i value) mem h =
    let low = set_bytes 4 mem i value.address in
    cond_holds Bytes (leb (i + granule_bytes) (length mem)) (set_bytes 4 low (i + 4) value.metadata) mem
    (set_bytes_Bytes 4 low (i + 4) value.metadata (set_bytes_Bytes 4 mem i value.address h)) h

retagged_bytes : (m t : List ℕ) (n i tag : ℕ) → Bytes t → Bytes (retagged m t n i tag)
unfolding retagged
retagged_bytes m t n i tag h =
    cond_holds Bytes (leb (i + n) (length m)) (put_bit t (i / granule_bytes) tag) t (put_bit_Bytes t (i / granule_bytes) tag h) h

pub tag_bytes : (x : Stored) (mem tags : List ℕ) → Bytes tags → Bytes (tags_after x mem tags)
tag_bytes nothing mem tags h = h
tag_bytes (bytes n i value) mem tags h = retagged_bytes mem tags n i 0 h
tag_bytes (whole i value) mem tags h = retagged_bytes mem tags granule_bytes i value.tag h
