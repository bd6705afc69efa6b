-- Out of reach nothing is done; else the byte at the place, by its kind, is written.
use Rattle.std.proofs.Common.{refl, sym, arith}
use Rattle.quick.proofs.Accesses.{load_stays, load_done, byte_width, byte_aligned}
use Rattle.quick.proofs.Reach.{passed, right_load}
use Rattle.quick.proofs.memory.take_byte.Goals as goal

pub reaches-requires : goal.reaches-requires
reaches-requires c =
    let p = c.requires in
    (omega (arith, p.2.0), p.2.1, right_load _ p.2.0, p.3)

pub returns-then-not-reaches : goal.returns-then-not-reaches
returns-then-not-reaches c = (c.reaches.ensures.0, load_stays _ _ _ _ _ _ _ _ _ refl)

pub overflow_sub-address : goal.overflow_sub-address
overflow_sub-address c =
    let r = c.reaches.ensures.1 (passed _ c.if-not-reaches.false-raw) in
    omega (arith, r.after_start)

pub returns : goal.returns
returns c =
    let args = c.args in
    let pre = c.requires in
    let reaches = c.reaches in
    let read-capability = c.read_capability-c in
    let wrapping-add-u32 = c.wrapping_add_u32-address in
    let if1 = c.if-not-reaches in
    let byte-value = c.byte_value-v in
    let integer = c.integer in
    let write = c.write in
    let kind = args.kind in
    let one = pre.4 in (
      reaches.ensures.0,
      load_done _ _ _ _ _ _ _ _ _ _ _ _ _ _ _ read-capability.ensures wrapping-add-u32.ensures.value (sym (byte_width kind one))
          (byte_aligned kind _ one) (reaches.ensures.1 (passed _ if1.false-raw)) byte-value.ensures integer.ensures
          write.ensures refl,
    )
