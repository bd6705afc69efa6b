-- Misaligned or out of reach nothing is done; else one or two bytes at the place, by their kind, are written.
use Rattle.quick.proofs.Accesses.{load_stays, load_done}
use Rattle.quick.proofs.Reach.{passed, right_load}
use Rattle.std.proofs.Common.{refl, arith}
use Rattle.quick.proofs.memory.take_small.Goals as goal

pub returns-then-not-is_small_aligned : goal.returns-then-not-is_small_aligned
returns-then-not-is_small_aligned c =
    (c.requires.3, load_stays _ _ _ _ _ _ _ _ _ refl)

pub reaches-requires : goal.reaches-requires
reaches-requires c =
    let p = c.requires in
    (omega (arith, p.2.0), p.2.1, right_load _ p.2.0, p.3)

pub returns-then-not-reaches : goal.returns-then-not-reaches
returns-then-not-reaches c =
    let reaches = c.reaches in
    (reaches.ensures.0, load_stays _ _ _ _ _ _ _ _ _ refl)

pub overflow_sub-address : goal.overflow_sub-address
overflow_sub-address c =
    let r = c.reaches.ensures.1 (passed _ c.if-not-reaches.false-raw) in
    omega (arith, r.after_start)

pub returns : goal.returns
returns c =
    let write = c.write in
    let integer = c.integer in
    let small-value = c.small_value-v in
    let if2 = c.if-not-reaches in
    let reaches = c.reaches in
    let load-width = c.load_width-width in
    let if1 = c.if-not-is_small_aligned in
    let is-small-aligned = c.is_small_aligned in
    let wrapping-add-u32 = c.wrapping_add_u32-address in
    let read-capability = c.read_capability-c in (
      reaches.ensures.0,
      load_done _ _ _ _ _ _ _ _ _ _ _ _ _ _ _ read-capability.ensures wrapping-add-u32.ensures.value load-width.ensures
          (is-small-aligned.ensures (passed _ if1.false-raw)) (reaches.ensures.1 (passed _ if2.false-raw)) small-value.ensures integer.ensures
          write.ensures refl,
    )
