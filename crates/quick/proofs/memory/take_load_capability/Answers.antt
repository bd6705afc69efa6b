-- Misaligned or out of reach nothing is done; else what the plain step's checks let through is loaded, filtered and written.
use Rattle.quick.proofs.Accesses.{load_capability_stays, load_capability_done}
use Rattle.quick.proofs.Reach.{passed, right_load}
use Rattle.std.proofs.Common.{refl, arith}
use Rattle.quick.proofs.memory.take_load_capability.Goals as goal

pub returns-then-address-ne0 : goal.returns-then-address-ne0
returns-then-address-ne0 c =
    (c.requires.3, load_capability_stays _ _ _ _ _ _ _ refl)

pub reaches-requires : goal.reaches-requires
reaches-requires c =
    let p = c.requires in
    (omega (arith, p.2.0), p.2.1, right_load _ p.2.0, p.3)

pub returns-then-not-reaches : goal.returns-then-not-reaches
returns-then-not-reaches c =
    let reaches = c.reaches in
    (reaches.ensures.0, load_capability_stays _ _ _ _ _ _ _ refl)

pub overflow_sub-address : goal.overflow_sub-address
overflow_sub-address c =
    let r = c.reaches.ensures.1 (passed _ c.if-not-reaches.false-raw) in
    omega (arith, r.after_start)

pub write-requires : goal.write-requires
write-requires c =
    let p = c.requires in (p.0, p.1)

pub returns : goal.returns
returns c =
    let write = c.write in
    let unrevoked = c.unrevoked in
    let loaded = c.loaded-v in
    let capability-in = c.capability_in in
    let if2 = c.if-not-reaches in
    let reaches = c.reaches in
    let if1 = c.if-address-ne0 in
    let wrapping-add-u32 = c.wrapping_add_u32-address in
    let read-capability = c.read_capability-c in (
      reaches.ensures.0,
      load_capability_done _ _ _ _ _ _ _ _ _ _ _ _ _ _ _ _ read-capability.ensures wrapping-add-u32.ensures.value if1.false
          (reaches.ensures.1 (passed _ if2.false-raw)) capability-in.ensures loaded.ensures unrevoked.ensures write.ensures refl,
    )
