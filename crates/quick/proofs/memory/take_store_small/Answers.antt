-- Misaligned or out of reach the store is left with its width; else its bytes are put, the tag cleared, the mark set, then on.
use Rattle.quick.proofs.Onward.{long_marked}
use Rattle.std.proofs.Common.{refl, ℕ, List, length, ap, ◌∙◌, arith}
use Rattle.quick.proofs.Accesses.{store_stays, store_done}
use Rattle.quick.proofs.Reach.{passed, right_store}
use Rattle.quick.proofs.memory.take_store_small.Goals as goal

pub returns-then-not-is_small_store : goal.returns-then-not-is_small_store
returns-then-not-is_small_store c =
    let store_width_lem = c.store_width-width in
    let wrapping-sub-u32 = c.wrapping_sub_u32-at in
    let wrapping-add-u32 = c.wrapping_add_u32-address in
    let read-capability = c.read_capability-c in (
      c.requires.3,
      store_stays _ _ _ _ _ _ _ read-capability.ensures wrapping-add-u32.ensures.value
          (omega (arith, wrapping-sub-u32.type_inv)) wrapping-sub-u32.ensures.value _ _ _ _ _ _ _ store_width_lem.ensures refl,
    )

pub reaches-requires : goal.reaches-requires
reaches-requires c =
    let p = c.requires in
    (omega (arith, p.2.0), omega (arith, p.2.1), right_store _ p.2.0, p.3)

pub returns-then-not-reaches : goal.returns-then-not-reaches
returns-then-not-reaches c =
    let reaches = c.reaches in
    let store_width_lem = c.store_width-width in
    let wrapping-sub-u32 = c.wrapping_sub_u32-at in
    let wrapping-add-u32 = c.wrapping_add_u32-address in
    let read-capability = c.read_capability-c in (
      reaches.ensures.0,
      store_stays _ _ _ _ _ _ _ read-capability.ensures wrapping-add-u32.ensures.value
          (omega (arith, wrapping-sub-u32.type_inv)) wrapping-sub-u32.ensures.value _ _ _ _ _ _ _ store_width_lem.ensures refl,
    )

pub go_on-requires : goal.go_on-requires
go_on-requires c =
    let mark = c.mark in
    ap (λ (l : List ℕ). length l) mark.ensures ∙ long_marked _ _ ∙ c.requires.0

pub returns : goal.returns
returns c =
    let go_on = c.go_on in
    let mark = c.mark in
    let clear-tag = c.clear_tag in
    let put_small = c.put_small in
    let read = c.read in
    let if2 = c.if-not-reaches in
    let reaches = c.reaches in
    let if1 = c.if-not-is_small_store in
    let is-small-store = c.is_small_store in
    let store_width_lem = c.store_width-width in
    let wrapping-sub-u32 = c.wrapping_sub_u32-at in
    let wrapping-add-u32 = c.wrapping_add_u32-address in
    let read-capability = c.read_capability-c in (
      reaches.ensures.0,
      store_done _ _ _ _ _ _ _ read-capability.ensures wrapping-add-u32.ensures.value
          (omega (arith, wrapping-sub-u32.type_inv)) wrapping-sub-u32.ensures.value _ _ _ _ _ _ _ _ _ _ _ _ store_width_lem.ensures read.ensures
          (is-small-store.ensures (passed _ if1.false-raw))
          (reaches.ensures.1 (passed _ if2.false-raw)) put_small.ensures clear-tag.ensures mark.ensures go_on.ensures refl,
    )
