-- PCC's word, and the next time by the low word's carry.
use Rattle.std.proofs.Common.{◌+◌, sym, ◌∙◌, arith, length-set}
use Rattle.state.specs.Layout.{time_index}
use Rattle.quick.proofs.Onward.{wraps_largest, wraps_below, ticked_carry, ticked_low}
use Rattle.quick.proofs.registers.go_on.Goals as goal

pub bounds-regs : goal.bounds-regs
bounds-regs c = simp length-set (omega arith)

pub bounds-regs-then-low-eq0 : goal.bounds-regs-then-low-eq0
bounds-regs-then-low-eq0 c = simp length-set (omega arith)

pub returns-then-low-eq0 : goal.returns-then-low-eq0
returns-then-low-eq0 c =
    let zero = c.if-low-eq0.true in
    let largest = wraps_largest _ (c.slice_known-2-1.given time_index).fits (sym c.wrapping_add_u32-low.ensures.value ∙ zero) in
    rw (c.wrapping_add_u32.ensures.value, zero) (sym (ticked_carry _ largest (c.slice_known-2-1.given (time_index + 1)).fits))

pub returns-else-low-eq0 : goal.returns-else-low-eq0
returns-else-low-eq0 c =
    let below = wraps_below _ (c.slice_known-2-1.given time_index).fits (λ q. c.if-low-eq0.false (c.wrapping_add_u32-low.ensures.value ∙ q)) in
    rw (c.wrapping_add_u32-low.ensures.value, below.1) (sym (ticked_low _ below.0 (c.slice_known-2-1.given (time_index + 1)).fits))
