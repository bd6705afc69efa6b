-- What a run keeps beside the lent buffers: how many steps trapped, and the watch record. Document 01, "Answers"; document 02, 14. Assumes nothing.
use Rattle.std.specs.Prelude.{ℕ, ◌+◌, ◌%◌, ◌^◌, cond}
use Rattle.watch.specs.Watch.{touched_at}
use Rattle.watch.specs.declared.Watch.{Watch}
use Rattle.state.specs.Memory.{granule_bytes}
use Rattle.state.specs.Effects.{Stored, nothing, bytes, whole, stored_by}
use Rattle.state.specs.declared.Effect.{Effect}
use Rattle.commit.specs.Commit.{retires}
use Rattle.commit.specs.declared.Kept.{Kept}

-- the record after what one step stores, in a memory from a start on; what traps stores nothing
abbrev pub watch_after : (start : ℕ) → Stored → Watch → Watch
watch_after start nothing w = w
watch_after start (bytes width i value) w = touched_at w ((start + i) % 2 ^ 32) width
watch_after start (whole i value) w = touched_at w ((start + i) % 2 ^ 32) granule_bytes

-- one more trapped, as a 32-bit word; a store; and what a step's effect makes of both
abbrev pub with_trap : Kept → Kept
with_trap kept = record { trapped = (kept.trapped + 1) % 2 ^ 32; watch = kept.watch }

abbrev pub with_store : Kept → (address width : ℕ) → Kept
with_store kept address width = record { trapped = kept.trapped; watch = touched_at kept.watch address width }

unfoldable pub kept_after : (start : ℕ) → Effect → Kept → Kept
kept_after start e kept =
    record { trapped = cond (retires e) kept.trapped ((kept.trapped + 1) % 2 ^ 32); watch = watch_after start (stored_by e) kept.watch }
