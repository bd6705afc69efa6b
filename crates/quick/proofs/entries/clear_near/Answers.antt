-- Five slots are cleared one after another.
use Rattle.std.proofs.Common.{refl}
use Rattle.quick.proofs.entries.clear_near.Goals as goal

pub returns : goal.returns
returns c =
    let clear-slot5 = c.clear_slot-5 in
    let clear-slot4 = c.clear_slot-4 in
    let clear-slot3 = c.clear_slot-3 in
    let clear-slot2 = c.clear_slot-2 in
    let clear-slot = c.clear_slot in
    rw (clear-slot5.ensures, clear-slot4.ensures, clear-slot3.ensures, clear-slot2.ensures, clear-slot.ensures) refl
