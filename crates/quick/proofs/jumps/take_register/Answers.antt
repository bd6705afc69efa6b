-- A capability that without its seal is PCC's word, and whose target PCC's row has, is where PCC goes on; any other is left.
use Rattle.std.proofs.Common.{ℕ, ◌*◌, ◌/◌, sym, refl, ap, ◌∙◌, arith}
use Rattle.quick.proofs.Reach.{passed, reached}
use Rattle.quick.proofs.Targets.{register_turned, register_left}
use Rattle.quick.proofs.jumps.take_register.Goals as goal

pub returns-then-open-word : goal.returns-then-open-word
returns-then-open-word c =
    let a = c.args in
    register_left a.regs.now a.start a.edition a.rd a.rs1 a.offset a.next _ refl

pub returns-then-not-has : goal.returns-then-not-has
returns-then-not-has c =
    let a = c.args in
    register_left a.regs.now a.start a.edition a.rd a.rs1 a.offset a.next _ refl

pub returns-then-not-is_entered : goal.returns-then-not-is_entered
returns-then-not-is_entered c =
    let a = c.args in
    register_left a.regs.now a.start a.edition a.rd a.rs1 a.offset a.next _ refl

pub returns-then-jump_status-mstatus : goal.returns-then-jump_status-mstatus
returns-then-jump_status-mstatus c =
    let a = c.args in
    register_left a.regs.now a.start a.edition a.rd a.rs1 a.offset a.next _ refl

pub write-requires : goal.write-requires
write-requires c =
    (c.requires.0, omega (arith, c.place_of-2.ensures))

pub returns : goal.returns
returns c =
    let args = c.args in
    let read-capability = c.read_capability-c in
    let wrapping-add-u32 = c.wrapping_add_u32 in
    let with-object-type = c.with_object_type-open in
    let has = c.has in
    let if2 = c.if-not-has in
    let pre = c.requires in
    let place_of = c.place_of in
    let if1 = c.if-open-word in
    let is-entered = c.is_entered in
    let if3 = c.if-not-is_entered in
    let otype = c.otype in
    let jump-status = c.jump_status in
    let if4 = c.if-jump_status-mstatus in
    let place-of2 = c.place_of-2 in
    let link_at = c.link_at in
    let write = c.write in
    let a = args in
    let held = read-capability in
    let sum = wrapping-add-u32.ensures.value in
    let bare = with-object-type.ensures in
    let there = rw bare at (has.ensures (passed _ if2.false-raw)) in
    let reach = reached _ _ _ 96 _ _ _ pre.1 (omega arith) refl there.0 there.1 (omega (arith, sum)) there.2 in
    register_turned a.regs.now _ a.start a.size a.edition a.rd a.rs1 a.offset a.next _ _ _ held.result _
    pre.0 refl held.ensures place_of.ensures (ap (λ (x : ℕ). x / 2 * 2) sum) (rw bare at if1.false) reach
    (is-entered.ensures (passed _ if3.false-raw)) (rw otype.ensures.0 at (sym jump-status.ensures ∙ if4.false)) place-of2.ensures
    (rw link_at.ensures at write.ensures)
