-- Past `is_open` the four bytes are in memory and stand as a long word or a half.
use Rattle.std.proofs.Common.{arith}
use borrow.Author.Tests.{not-false}
use Rattle.quick.proofs.Look as laws
use Rattle.quick.proofs.entries.look.Goals as goal

pub overflow_sub-pcc : goal.overflow_sub-pcc
overflow_sub-pcc c = omega (arith, (c.is_open.ensures (not-false _ c.if-not-is_open.false-raw)).is_above)

pub returns-in-3 : goal.returns-in-3
returns-in-3 c =
    let a = c.args in
    let o = c.is_open.ensures (not-false _ c.if-not-is_open.false-raw) in (
      laws.long_if a.start a.mem.now a.pcc (λ i. omega (arith, c.shared_slice_known-1.given i)) o c.load32-word.result
          c.load32-word.ensures c.standing.result c.in-3.is
          c.decode_for.result c.decode_for.ensures c.standing.ensures,
      laws.first_look _ _ c.if-missed.false,
    )

pub returns-in_default : goal.returns-in_default
returns-in_default c =
    let a = c.args in
    let o = c.is_open.ensures (not-false _ c.if-not-is_open.false-raw) in (
      laws.half_if a.start a.mem.now a.pcc (λ i. omega (arith, c.shared_slice_known-1.given i)) o c.load32-word.result
          c.load32-word.ensures c.standing-in_default.result c.in_default.in_default-own.rest.1
          c.instruction_for.result c.instruction_for.ensures c.standing-in_default.ensures,
      laws.first_look _ _ c.if-missed.false,
    )
