-- Each arm's function leaves what the turn of its operation asks.
use Rattle.std.proofs.Common.{refl}
use Rattle.state.specs.Lent.{state}
use Rattle.quick.proofs.Arms.{told_op, placed_as, by_plain, by_put, by_add, by_immediate, by_two, by_multiply, by_divide, by_go}
use Rattle.quick.proofs.Arms.{by_jump_link, by_jump_register}
use Rattle.quick.proofs.Arms.{by_branch, by_load_word, by_load, by_load_byte, by_store_word, by_store, by_load_capability, by_store_capability}
use Rattle.quick.proofs.Arms.{by_increment, by_cut, by_copy, by_set_address, by_increment_by, by_address}
use Rattle.quick.proofs.turn.turn.Goals as goal

pub put-requires : goal.put-requires
put-requires c =
    let pl = placed_as _ _ c.in-Put.is c.requires.1 in
    (c.requires.0, (pl.0, pl.2))

pub add_immediate-requires : goal.add_immediate-requires
add_immediate-requires c =
    let pl = placed_as _ _ c.in-AddImmediate.is c.requires.1 in
    (c.requires.0, pl.0.0, pl.1.0)

pub immediate-requires : goal.immediate-requires
immediate-requires c =
    let pl = placed_as _ _ c.in-Immediate.is c.requires.1 in
    (c.requires.0, (pl.0.0, pl.0.2), pl.1.0)

pub two-requires : goal.two-requires
two-requires c =
    let pl = placed_as _ _ c.in-Two.is c.requires.1 in
    (c.requires.0, (pl.0.0, pl.0.2), pl.1.0, pl.2.0)

pub multiply-requires : goal.multiply-requires
multiply-requires c =
    let pl = placed_as _ _ c.in-Multiply.is c.requires.1 in
    (c.requires.0, (pl.0.0, pl.0.2), pl.1.0, pl.2.0)

pub divide-requires : goal.divide-requires
divide-requires c =
    let pl = placed_as _ _ c.in-Divide.is c.requires.1 in
    (c.requires.0, (pl.0.0, pl.0.2), pl.1.0, pl.2.0)

pub take_go-requires : goal.take_go-requires
take_go-requires c =
    let pre = c.requires in
    (pre.0, pre.2, placed_as _ _ c.in-Go.is pre.1)

pub take_branch-requires : goal.take_branch-requires
take_branch-requires c =
    let pl = placed_as _ _ c.in-Branch.is c.requires.1 in
    (c.requires.0, pl.0.0, pl.1.0, c.requires.2, pl.2)

pub take_word-requires : goal.take_word-requires
take_word-requires c =
    let pl = placed_as _ _ c.in-LoadWord.is c.requires.1 in
    (c.requires.0, pl.0.0, pl.1, c.requires.2)

pub take_small-requires : goal.take_small-requires
take_small-requires c =
    let pl = placed_as _ _ c.in-LoadSmall.is c.requires.1 in
    (c.requires.0, pl.0.0, pl.1, c.requires.2)

pub take_store_word-requires : goal.take_store_word-requires
take_store_word-requires c =
    let pl = placed_as _ _ c.in-StoreWord.is c.requires.1 in
    (c.requires.0, pl.1.0, pl.0, c.requires.2)

pub take_store_small-requires : goal.take_store_small-requires
take_store_small-requires c =
    let pl = placed_as _ _ c.in-StoreSmall.is c.requires.1 in
    (c.requires.0, pl.1.0, pl.0, c.requires.2)

pub take_load_capability-requires : goal.take_load_capability-requires
take_load_capability-requires c =
    let pl = placed_as _ _ c.in-LoadCapability.is c.requires.1 in
    (c.requires.0, pl.0.0, pl.1, c.requires.2)

pub take_store_capability-requires : goal.take_store_capability-requires
take_store_capability-requires c =
    let pl = placed_as _ _ c.in-StoreCapability.is c.requires.1 in
    (c.requires.0, pl.1.0, pl.0, c.requires.2)

pub increment-requires : goal.increment-requires
increment-requires c =
    let pl = placed_as _ _ c.in-Increment.is c.requires.1 in
    (c.requires.0, pl.0.0, pl.1)

pub cut-requires : goal.cut-requires
cut-requires c =
    let pl = placed_as _ _ c.in-Cut.is c.requires.1 in
    (c.requires.0, pl.0.0, pl.1.0)

pub copy-requires : goal.copy-requires
copy-requires c =
    let pl = placed_as _ _ c.in-Copy.is c.requires.1 in
    (c.requires.0, pl.0.0, pl.1.0)

pub set_address-requires : goal.set_address-requires
set_address-requires c =
    let pl = placed_as _ _ c.in-SetAddress.is c.requires.1 in
    (c.requires.0, pl.0.0, pl.1.0, pl.2.0)

pub increment_by-requires : goal.increment_by-requires
increment_by-requires c =
    let pl = placed_as _ _ c.in-IncrementBy.is c.requires.1 in
    (c.requires.0, pl.0.0, pl.1.0, pl.2.0)

pub read-requires : goal.read-requires
read-requires c =
    let pl = placed_as _ _ c.in-Address.is c.requires.1 in
    (c.requires.0, pl.1.0)

pub put_any-requires : goal.put_any-requires
put_any-requires c =
    let pl = placed_as _ _ c.in-Address.is c.requires.1 in
    (c.requires.0, pl.0.0)

pub take_byte-requires : goal.take_byte-requires
take_byte-requires c =
    let pl = placed_as _ _ c.in-LoadByte.is c.requires.1 in
    (c.requires.0, pl.0.0, pl.1, c.requires.2, pl.2)

pub returns-in-Plain : goal.returns-in-Plain
returns-in-Plain c = (
  c.requires.2,
  rw c.in-Plain.is
      (by_plain c.args.board c.args.revoked.now c.args.bytes
      (state c.args.regs.now c.args.mem.now c.args.tags.now)),
)

pub returns-in-Put : goal.returns-in-Put
returns-in-Put c =
    let wrapping-add-u32 = c.wrapping_add_u32-to in
    let put = c.put in
    let pre = c.requires in
    let args = c.args in
    let sum = wrapping-add-u32 in
    let is-op = c.in-Put.is in
    let call = put in
    let pl = placed_as _ _ is-op pre.1 in (
      pre.2,
      rw is-op
          (by_put args.board args.revoked.now args.regs.now args.mem.now args.tags.now
          args.bytes sum.result sum.ensures.value
          _ _ pl.0 _ call.ensures),
    )

pub returns-in-AddImmediate : goal.returns-in-AddImmediate
returns-in-AddImmediate c =
    let wrapping-add-u32 = c.wrapping_add_u32-to in
    let add-immediate = c.add_immediate in
    let pre = c.requires in
    let args = c.args in
    let sum = wrapping-add-u32 in
    let is-op = c.in-AddImmediate.is in
    let call = add-immediate in
    let pl = placed_as _ _ is-op pre.1 in (
      pre.2,
      rw is-op
          (by_add args.board args.revoked.now args.regs.now args.mem.now args.tags.now
          args.bytes sum.result sum.ensures.value
          _ _ pl.0.0 _ _ call.ensures),
    )

pub returns-in-Immediate : goal.returns-in-Immediate
returns-in-Immediate c =
    let wrapping-add-u32 = c.wrapping_add_u32-to in
    let immediate = c.immediate in
    let pre = c.requires in
    let args = c.args in
    let sum = wrapping-add-u32 in
    let is-op = c.in-Immediate.is in
    let call = immediate in
    let pl = placed_as _ _ is-op pre.1 in (
      pre.2,
      rw is-op
          (by_immediate args.board args.revoked.now args.regs.now args.mem.now args.tags.now
          args.bytes sum.result sum.ensures.value
          _ _ pl.0.0 _ _ _ call.ensures),
    )

pub returns-in-Two : goal.returns-in-Two
returns-in-Two c =
    let wrapping-add-u32 = c.wrapping_add_u32-to in
    let two = c.two in
    let pre = c.requires in
    let args = c.args in
    let sum = wrapping-add-u32 in
    let is-op = c.in-Two.is in
    let call = two in
    let pl = placed_as _ _ is-op pre.1 in (
      pre.2,
      rw is-op
          (by_two args.board args.revoked.now args.regs.now args.mem.now args.tags.now
          args.bytes sum.result sum.ensures.value
          _ _ pl.0.0 _ _ _ call.ensures),
    )

pub returns-in-Multiply : goal.returns-in-Multiply
returns-in-Multiply c =
    let wrapping-add-u32 = c.wrapping_add_u32-to in
    let multiply = c.multiply in
    let pre = c.requires in
    let args = c.args in
    let sum = wrapping-add-u32 in
    let is-op = c.in-Multiply.is in
    let call = multiply in
    let pl = placed_as _ _ is-op pre.1 in (
      pre.2,
      rw is-op
          (by_multiply args.board args.revoked.now args.regs.now args.mem.now args.tags.now
          args.bytes sum.result sum.ensures.value
          _ _ pl.0.0 _ _ _ call.ensures),
    )

pub returns-in-Divide : goal.returns-in-Divide
returns-in-Divide c =
    let wrapping-add-u32 = c.wrapping_add_u32-to in
    let divide = c.divide in
    let pre = c.requires in
    let args = c.args in
    let sum = wrapping-add-u32 in
    let is-op = c.in-Divide.is in
    let call = divide in
    let pl = placed_as _ _ is-op pre.1 in (
      pre.2,
      rw is-op
          (by_divide args.board args.revoked.now args.regs.now args.mem.now args.tags.now
          args.bytes sum.result sum.ensures.value
          _ _ pl.0.0 _ _ _ call.ensures),
    )

pub returns-in-Go : goal.returns-in-Go
returns-in-Go c =
    let wrapping-add-u32 = c.wrapping_add_u32-to in
    let take-go = c.take_go in
    let args = c.args in
    let pre = c.requires in
    let sum = wrapping-add-u32 in
    let is-op = c.in-Go.is in
    let call = take-go in
    let before = state args.regs.now args.mem.now args.tags.now in
    let after = (state call.new.regs args.mem.now args.tags.now) in (
      pre.2,
      told_op args.board args.revoked.now _ _ args.bytes before after call.result is-op
          (by_go args.board args.revoked.now args.regs.now args.mem.now args.tags.now
          args.bytes sum.result sum.ensures.value
          call.new.regs _ call.result call.ensures.0 call.ensures.1),
    )

pub returns-in-JumpLink : goal.returns-in-JumpLink
returns-in-JumpLink c =
    let wrapping-add-u32 = c.wrapping_add_u32-to in
    let take_link = c.take_link in
    let args = c.args in
    let pre = c.requires in
    let sum = wrapping-add-u32 in
    let is-op = c.in-JumpLink.is in
    let call = take_link in
    let before = state args.regs.now args.mem.now args.tags.now in
    let after = (state call.new.regs args.mem.now args.tags.now) in (
      pre.2,
      told_op args.board args.revoked.now _ _ args.bytes before after call.result is-op
          (by_jump_link args.board args.revoked.now args.regs.now args.mem.now args.tags.now
          args.bytes sum.result sum.ensures.value
          call.new.regs _ _ call.result call.ensures.0 call.ensures.1),
    )

pub returns-in-JumpRegister : goal.returns-in-JumpRegister
returns-in-JumpRegister c =
    let wrapping-add-u32 = c.wrapping_add_u32-to in
    let take-register = c.take_register in
    let args = c.args in
    let pre = c.requires in
    let sum = wrapping-add-u32 in
    let is-op = c.in-JumpRegister.is in
    let call = take-register in
    let before = state args.regs.now args.mem.now args.tags.now in
    let after = (state call.new.regs args.mem.now args.tags.now) in (
      pre.2,
      told_op args.board args.revoked.now _ _ args.bytes before after call.result is-op
          (by_jump_register args.board args.revoked.now args.regs.now args.mem.now args.tags.now
          args.bytes sum.result sum.ensures.value
          call.new.regs _ _ _ call.result call.ensures.0 call.ensures.1),
    )

pub returns-in-Branch : goal.returns-in-Branch
returns-in-Branch c =
    let wrapping-add-u32 = c.wrapping_add_u32-to in
    let take-branch = c.take_branch in
    let args = c.args in
    let pre = c.requires in
    let sum = wrapping-add-u32 in
    let is-op = c.in-Branch.is in
    let call = take-branch in
    let before = state args.regs.now args.mem.now args.tags.now in
    let after = (state call.new.regs args.mem.now args.tags.now) in (
      pre.2,
      told_op args.board args.revoked.now _ _ args.bytes before after call.result is-op
          (by_branch args.board args.revoked.now args.regs.now args.mem.now args.tags.now
          args.bytes sum.result sum.ensures.value
          call.new.regs _ _ _ _ call.result call.ensures.0 call.ensures.1),
    )

pub returns-in-LoadWord : goal.returns-in-LoadWord
returns-in-LoadWord c =
    let wrapping-add-u32 = c.wrapping_add_u32-to in
    let take-word = c.take_word in
    let args = c.args in
    let sum = wrapping-add-u32 in
    let is-op = c.in-LoadWord.is in
    let call = take-word in
    let before = state args.regs.now args.mem.now args.tags.now in
    let after = (state call.new.regs args.mem.now args.tags.now) in (
      call.ensures.0,
      told_op args.board args.revoked.now _ _ args.bytes before after call.result is-op
          (by_load_word args.board args.revoked.now args.regs.now args.mem.now args.tags.now
          args.bytes sum.result sum.ensures.value
          call.new.regs _ _ _ call.result call.ensures.1),
    )

pub returns-in-LoadSmall : goal.returns-in-LoadSmall
returns-in-LoadSmall c =
    let wrapping-add-u32 = c.wrapping_add_u32-to in
    let take-small = c.take_small in
    let args = c.args in
    let sum = wrapping-add-u32 in
    let is-op = c.in-LoadSmall.is in
    let call = take-small in
    let before = state args.regs.now args.mem.now args.tags.now in
    let after = (state call.new.regs args.mem.now args.tags.now) in (
      call.ensures.0,
      told_op args.board args.revoked.now _ _ args.bytes before after call.result is-op
          (by_load args.board args.revoked.now args.regs.now args.mem.now args.tags.now
          args.bytes sum.result sum.ensures.value
          call.new.regs _ _ _ _ call.result call.ensures.1),
    )

pub returns-in-StoreWord : goal.returns-in-StoreWord
returns-in-StoreWord c =
    let wrapping-add-u32 = c.wrapping_add_u32-to in
    let take-store-word = c.take_store_word in
    let args = c.args in
    let sum = wrapping-add-u32 in
    let is-op = c.in-StoreWord.is in
    let call = take-store-word in
    let before = state args.regs.now args.mem.now args.tags.now in
    let after = (state call.new.regs call.new.mem call.new.tags) in (
      call.ensures.0,
      told_op args.board args.revoked.now _ _ args.bytes before after call.result is-op
          (by_store_word args.board args.revoked.now args.regs.now args.mem.now args.tags.now
          args.bytes sum.result sum.ensures.value
          after _ _ _ call.result call.ensures.1),
    )

pub returns-in-StoreSmall : goal.returns-in-StoreSmall
returns-in-StoreSmall c =
    let wrapping-add-u32 = c.wrapping_add_u32-to in
    let take-store-small = c.take_store_small in
    let args = c.args in
    let sum = wrapping-add-u32 in
    let is-op = c.in-StoreSmall.is in
    let call = take-store-small in
    let before = state args.regs.now args.mem.now args.tags.now in
    let after = (state call.new.regs call.new.mem call.new.tags) in (
      call.ensures.0,
      told_op args.board args.revoked.now _ _ args.bytes before after call.result is-op
          (by_store args.board args.revoked.now args.regs.now args.mem.now args.tags.now
          args.bytes sum.result sum.ensures.value
          after _ _ _ _ call.result call.ensures.1),
    )

pub returns-in-LoadCapability : goal.returns-in-LoadCapability
returns-in-LoadCapability c =
    let sum = c.wrapping_add_u32-to in
    let is-op = c.in-LoadCapability.is in
    let call = c.take_load_capability in
    let before = state c.args.regs.now c.args.mem.now c.args.tags.now in
    let after = (state call.new.regs c.args.mem.now c.args.tags.now) in (
      call.ensures.0,
      told_op c.args.board c.args.revoked.now _ _ c.args.bytes before after call.result is-op
          (by_load_capability c.args.board c.args.revoked.now c.args.regs.now c.args.mem.now c.args.tags.now
          c.args.bytes sum.result sum.ensures.value
          call.new.regs _ _ _ call.result call.ensures.1),
    )

pub returns-in-StoreCapability : goal.returns-in-StoreCapability
returns-in-StoreCapability c =
    let wrapping-add-u32 = c.wrapping_add_u32-to in
    let take-store-capability = c.take_store_capability in
    let args = c.args in
    let sum = wrapping-add-u32 in
    let is-op = c.in-StoreCapability.is in
    let call = take-store-capability in
    let before = state args.regs.now args.mem.now args.tags.now in
    let after = (state call.new.regs call.new.mem call.new.tags) in (
      call.ensures.0,
      told_op args.board args.revoked.now _ _ args.bytes before after call.result is-op
          (by_store_capability args.board args.revoked.now args.regs.now args.mem.now args.tags.now
          args.bytes sum.result sum.ensures.value
          after _ _ _ call.result call.ensures.1),
    )

pub returns-in-Increment : goal.returns-in-Increment
returns-in-Increment c =
    let wrapping-add-u32 = c.wrapping_add_u32-to in
    let increment = c.increment in
    let pre = c.requires in
    let args = c.args in
    let sum = wrapping-add-u32 in
    let is-op = c.in-Increment.is in
    let call = increment in
    let pl = placed_as _ _ is-op pre.1 in (
      pre.2,
      rw is-op
          (by_increment args.board args.revoked.now args.regs.now args.mem.now args.tags.now
          args.bytes sum.result sum.ensures.value
          _ _ pl.0.0 _ _ call.ensures),
    )

pub returns-in-Cut : goal.returns-in-Cut
returns-in-Cut c =
    let wrapping-add-u32 = c.wrapping_add_u32-to in
    let cut = c.cut in
    let pre = c.requires in
    let args = c.args in
    let sum = wrapping-add-u32 in
    let is-op = c.in-Cut.is in
    let call = cut in
    let pl = placed_as _ _ is-op pre.1 in (
      pre.2,
      rw is-op
          (by_cut args.board args.revoked.now args.regs.now args.mem.now args.tags.now
          args.bytes sum.result sum.ensures.value
          _ _ pl.0.0 _ _ call.ensures),
    )

pub returns-in-Copy : goal.returns-in-Copy
returns-in-Copy c =
    let wrapping-add-u32 = c.wrapping_add_u32-to in
    let copy = c.copy in
    let pre = c.requires in
    let args = c.args in
    let sum = wrapping-add-u32 in
    let is-op = c.in-Copy.is in
    let call = copy in
    let pl = placed_as _ _ is-op pre.1 in (
      pre.2,
      rw is-op
          (by_copy args.board args.revoked.now args.regs.now args.mem.now args.tags.now
          args.bytes sum.result sum.ensures.value
          _ _ pl.0.0 _ call.ensures),
    )

pub returns-in-SetAddress : goal.returns-in-SetAddress
returns-in-SetAddress c =
    let wrapping-add-u32 = c.wrapping_add_u32-to in
    let set-address = c.set_address in
    let pre = c.requires in
    let args = c.args in
    let sum = wrapping-add-u32 in
    let is-op = c.in-SetAddress.is in
    let call = set-address in
    let pl = placed_as _ _ is-op pre.1 in (
      pre.2,
      rw is-op
          (by_set_address args.board args.revoked.now args.regs.now args.mem.now args.tags.now
          args.bytes sum.result sum.ensures.value
          _ _ pl.0.0 _ _ call.ensures),
    )

pub returns-in-IncrementBy : goal.returns-in-IncrementBy
returns-in-IncrementBy c =
    let wrapping-add-u32 = c.wrapping_add_u32-to in
    let increment-by = c.increment_by in
    let pre = c.requires in
    let args = c.args in
    let sum = wrapping-add-u32 in
    let is-op = c.in-IncrementBy.is in
    let call = increment-by in
    let pl = placed_as _ _ is-op pre.1 in (
      pre.2,
      rw is-op
          (by_increment_by args.board args.revoked.now args.regs.now args.mem.now args.tags.now
          args.bytes sum.result sum.ensures.value
          _ _ pl.0.0 _ _ call.ensures),
    )

pub returns-in-Address : goal.returns-in-Address
returns-in-Address c =
    let sum = c.wrapping_add_u32-to in
    let is-op = c.in-Address.is in
    let call = c.put_any in
    let pl = placed_as _ _ is-op c.requires.1 in (
      c.requires.2,
      rw is-op
          (by_address c.args.board c.args.revoked.now c.args.regs.now c.args.mem.now c.args.tags.now
          c.args.bytes sum.result sum.ensures.value
          _ _ pl.0.0 _ (rw c.read.ensures at call.ensures)),
    )

pub returns-in-LoadByte : goal.returns-in-LoadByte
returns-in-LoadByte c =
    let wrapping-add-u32 = c.wrapping_add_u32-to in
    let take-byte = c.take_byte in
    let args = c.args in
    let sum = wrapping-add-u32 in
    let is-op = c.in-LoadByte.is in
    let call = take-byte in
    let before = state args.regs.now args.mem.now args.tags.now in
    let after = (state call.new.regs args.mem.now args.tags.now) in (
      call.ensures.0,
      told_op args.board args.revoked.now _ _ args.bytes before after call.result is-op
          (by_load_byte args.board args.revoked.now args.regs.now args.mem.now args.tags.now
          args.bytes sum.result sum.ensures.value
          call.new.regs _ _ _ _ call.result call.ensures.1),
    )
