-- Misaligned, not to be held or out of reach the store is left; else the plain store is done, the mark set, PCC goes on.
use Rattle.quick.proofs.Onward.{long_marked}
use Rattle.std.proofs.Common.{refl, ℕ, List, length, ap, ◌∙◌, arith}
use Rattle.quick.proofs.Accesses.{store_capability_stays, store_capability_done}
use Rattle.quick.proofs.Reach.{passed, right_store}
use Rattle.quick.proofs.memory.take_store_capability.Goals as goal

pub returns-then-address-ne0 : goal.returns-then-address-ne0
returns-then-address-ne0 c =
    let wrapping-sub-u32 = c.wrapping_sub_u32-at in
    let wrapping-add-u32 = c.wrapping_add_u32-address in
    let read-capability = c.read_capability-c in (
      c.requires.3,
      store_capability_stays _ _ _ _ _ _ _ read-capability.ensures wrapping-add-u32.ensures.value
          (omega (arith, wrapping-sub-u32.type_inv)) wrapping-sub-u32.ensures.value _ _ _ _ _ refl,
    )

pub returns-then-not-may_hold : goal.returns-then-not-may_hold
returns-then-not-may_hold c =
    let wrapping-sub-u32 = c.wrapping_sub_u32-at in
    let wrapping-add-u32 = c.wrapping_add_u32-address in
    let read-capability = c.read_capability-c in (
      c.requires.3,
      store_capability_stays _ _ _ _ _ _ _ read-capability.ensures wrapping-add-u32.ensures.value
          (omega (arith, wrapping-sub-u32.type_inv)) wrapping-sub-u32.ensures.value _ _ _ _ _ refl,
    )

pub reaches-requires : goal.reaches-requires
reaches-requires c =
    let p = c.requires in
    (omega (arith, p.2.0), omega (arith, p.2.1), right_store _ p.2.0, p.3)

pub returns-then-not-reaches : goal.returns-then-not-reaches
returns-then-not-reaches c =
    let reaches = c.reaches in
    let wrapping-sub-u32 = c.wrapping_sub_u32-at in
    let wrapping-add-u32 = c.wrapping_add_u32-address in
    let read-capability = c.read_capability-c in (
      reaches.ensures.0,
      store_capability_stays _ _ _ _ _ _ _ read-capability.ensures wrapping-add-u32.ensures.value
          (omega (arith, wrapping-sub-u32.type_inv)) wrapping-sub-u32.ensures.value _ _ _ _ _ refl,
    )

pub go_on-requires : goal.go_on-requires
go_on-requires c =
    let mark = c.mark in
    ap (λ (l : List ℕ). length l) mark.ensures ∙ long_marked _ _ ∙ c.requires.0

pub returns : goal.returns
returns c =
    let go_on = c.go_on in
    let mark = c.mark in
    let store-capability = c.store_capability in
    let if3 = c.if-not-reaches in
    let reaches = c.reaches in
    let if2 = c.if-not-may_hold in
    let may-hold = c.may_hold in
    let if1 = c.if-address-ne0 in
    let wrapping-sub-u32 = c.wrapping_sub_u32-at in
    let wrapping-add-u32 = c.wrapping_add_u32-address in
    let read-capability2 = c.read_capability-v in
    let read-capability = c.read_capability-c in (
      reaches.ensures.0,
      store_capability_done _ _ _ _ _ _ _ read-capability.ensures wrapping-add-u32.ensures.value
          (omega (arith, wrapping-sub-u32.type_inv)) wrapping-sub-u32.ensures.value _ _ _ _ _ _ _ _ _ _ read-capability2.ensures if1.false
          (may-hold.ensures (passed _ if2.false-raw))
          (reaches.ensures.1 (passed _ if3.false-raw)) store-capability.ensures.0 store-capability.ensures.1 mark.ensures go_on.ensures
          refl,
    )
