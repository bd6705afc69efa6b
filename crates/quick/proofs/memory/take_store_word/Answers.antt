-- As a small store with the width known to be 4: left, or four bytes put, the tag cleared, the mark set, then on.
use Rattle.quick.proofs.Accesses.{store_stays, store_done}
use Rattle.quick.proofs.Reach.{passed, right_store}
use Rattle.std.proofs.Common.{refl, arith}
use Rattle.quick.proofs.memory.take_store_word.Goals as goal

pub returns-then-address-ne0 : goal.returns-then-address-ne0
returns-then-address-ne0 c =
    let wrapping-sub-u32 = c.wrapping_sub_u32-at in
    let wrapping-add-u32 = c.wrapping_add_u32-address in
    let read-capability = c.read_capability-c in (
      c.requires.3,
      store_stays _ _ _ _ _ _ _ read-capability.ensures wrapping-add-u32.ensures.value
          (omega (arith, wrapping-sub-u32.type_inv)) wrapping-sub-u32.ensures.value _ _ _ _ _ _ _ refl refl,
    )

pub reaches-requires : goal.reaches-requires
reaches-requires c =
    let p = c.requires in
    (omega (arith, p.2.0), omega (arith, p.2.1), right_store _ p.2.0, p.3)

pub returns-then-not-reaches : goal.returns-then-not-reaches
returns-then-not-reaches c =
    let reaches = c.reaches in
    let wrapping-sub-u32 = c.wrapping_sub_u32-at in
    let wrapping-add-u32 = c.wrapping_add_u32-address in
    let read-capability = c.read_capability-c in (
      reaches.ensures.0,
      store_stays _ _ _ _ _ _ _ read-capability.ensures wrapping-add-u32.ensures.value
          (omega (arith, wrapping-sub-u32.type_inv)) wrapping-sub-u32.ensures.value _ _ _ _ _ _ _ refl refl,
    )

pub returns : goal.returns
returns c =
    let go_on = c.go_on in
    let mark = c.mark in
    let clear-tag = c.clear_tag in
    let store32 = c.store32 in
    let read = c.read in
    let if2 = c.if-not-reaches in
    let reaches = c.reaches in
    let if1 = c.if-address-ne0 in
    let wrapping-sub-u32 = c.wrapping_sub_u32-at in
    let wrapping-add-u32 = c.wrapping_add_u32-address in
    let read-capability = c.read_capability-c in (
      reaches.ensures.0,
      store_done _ _ _ _ _ _ _ read-capability.ensures wrapping-add-u32.ensures.value
          (omega (arith, wrapping-sub-u32.type_inv)) wrapping-sub-u32.ensures.value _ _ _ _ _ _ _ _ _ _ _ _ refl read.ensures if1.false
          (reaches.ensures.1 (passed _ if2.false-raw)) store32.ensures clear-tag.ensures mark.ensures go_on.ensures refl,
    )
