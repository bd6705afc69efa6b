-- `found_there` with the room that the tests showed; the bytes of a lent slice are below 256.
use Rattle.std.proofs.Common.{◌+◌, true, false, length, ◌∙◌, arith, le-leb}
use Rattle.short_forms.specs.Standing.{half_bytes, long_bytes}
use borrow.Author.Tests.{lt-leb}
use Rattle.fetch.proofs.Places.{found_there, found_outside}
use Rattle.fetch.proofs.fetched_from.Goals as goal

pub returns-then-at-size : goal.returns-then-at-size
returns-then-at-size c =
    let room = c.if-at-size.true in
    let a = c.args in
    let word = c.load32-word in
    c.stands.ensures
    ∙ found_there a.pcc a.mem.now (λ i. omega (arith, c.shared_slice_known-1.given i)) a.at word.result true word.ensures
    (le-leb (a.at + long_bytes) (length a.mem.now) room) (le-leb (a.at + half_bytes) (length a.mem.now) (omega (arith, room)))

pub returns-then-at-size-2 : goal.returns-then-at-size-2
returns-then-at-size-2 c =
    let room = c.if-at-size-2.true in
    let a = c.args in
    let word = c.load32-word-then-at-size-2 in
    c.stands-then-at-size-2.ensures
    ∙ found_there a.pcc a.mem.now (λ i. omega (arith, c.shared_slice_known-1.given i)) a.at word.result false word.ensures
    (lt-leb (a.at + long_bytes) (length a.mem.now) (omega (arith, c.if-at-size.false)))
    (le-leb (a.at + half_bytes) (length a.mem.now) room)

pub returns : goal.returns
returns c =
    let a = c.args in
    c.outside.ensures
    ∙ found_outside a.pcc a.mem.now a.at (lt-leb (a.at + half_bytes) (length a.mem.now) (omega (arith, c.if-at-size-2.false)))
