-- Misaligned or out of reach nothing is done; else the four bytes at the place are the loaded value, and written.
use Rattle.memory_instructions.specs.Access.{loaded_value}
use Rattle.quick.proofs.Accesses.{load_stays, load_done}
use Rattle.quick.proofs.Reach.{passed, right_load}
use Rattle.std.proofs.Common.{refl, arith}
use Rattle.quick.proofs.memory.take_word.Goals as goal

pub returns-then-address-ne0 : goal.returns-then-address-ne0
returns-then-address-ne0 c = (c.requires.3, load_stays _ _ _ _ _ _ _ _ _ refl)

pub reaches-requires : goal.reaches-requires
reaches-requires c =
    let p = c.requires in
    (omega (arith, p.2.0), p.2.1, right_load _ p.2.0, p.3)

pub returns-then-not-reaches : goal.returns-then-not-reaches
returns-then-not-reaches c = (c.reaches.ensures.0, load_stays _ _ _ _ _ _ _ _ _ refl)

pub overflow_sub-address : goal.overflow_sub-address
overflow_sub-address c =
    let r = c.reaches.ensures.1 (passed _ c.if-not-reaches.false-raw) in
    omega (arith, r.after_start)

pub word_at-v-requires : goal.word_at-v-requires
word_at-v-requires c =
    let r = c.reaches.ensures.1 (passed _ c.if-not-reaches.false-raw) in
    omega (arith, r.after_start, r.before_end)

pub returns : goal.returns
unfolding loaded_value
returns c =
    let reaches = c.reaches in
    let read-capability = c.read_capability-c in
    let wrapping-add-u32 = c.wrapping_add_u32-address in
    let if1 = c.if-address-ne0 in
    let if2 = c.if-not-reaches in
    let word_at_lem = c.word_at-v in
    let integer = c.integer in
    let write = c.write in (
      reaches.ensures.0,
      load_done _ _ _ _ _ _ _ _ _ _ _ _ _ _ _ read-capability.ensures wrapping-add-u32.ensures.value refl if1.false
          (reaches.ensures.1 (passed _ if2.false-raw)) word_at_lem.ensures integer.ensures write.ensures refl,
    )
