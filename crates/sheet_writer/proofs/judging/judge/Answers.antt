-- `judge`: the loop keeps `Going`, that what is left is judged, after the records so far, as the whole is. Assumes nothing.
use Rattle.std.proofs.Common.{◌≡◌, [], ◌*◌, ◌/◌, ◌%◌, ◌<◌, ◌≤◌, length, true, false, arith, sym, ◌∙◌}
use borrow.Author.Tests.{eqb-true, eqb-false}
use Rattle.sheets.specs.Records.{record_at}
use Rattle.sheets.specs.Sheet.{follows}
use Rattle.sheet_writer.proofs.Verdicts.{going_start, going_bad, going_odd, going_ended, going_turn, record_in}
use Rattle.sheet_writer.proofs.judging.judge.Goals as goal

pub loop-i-init : goal.loop-i-init
loop-i-init c = rw c.new-sheet.ensures (going_start c.args.words.now)

-- a record that may not follow
pub returns-then-not-add : goal.returns-then-not-add
returns-then-not-add c =
    let k = c.as_chunks.ensures in
    let ws = c.args.words.now in
    let t : c.loop-i.i < length ws / 7 = omega arith in
    let r : c.region_of.result ≡ record_at ws (c.loop-i.i * 7) = c.region_of.ensures ∙ rw k.front (record_in ws [] (length ws / 7) c.loop-i.i t) in
    let f : follows c.loop-i.sheet c.region_of.result ≡ false = cc in
    going_bad c.loop-i.invariant t (rw r at f)

pub loop-i-preserved : goal.loop-i-preserved
loop-i-preserved c =
    let k = c.as_chunks.ensures in
    let ws = c.args.words.now in
    let t : c.loop-i.i < length ws / 7 = omega arith in
    let r : c.region_of.result ≡ record_at ws (c.loop-i.i * 7) = c.region_of.ensures ∙ rw k.front (record_in ws [] (length ws / 7) c.loop-i.i t) in
    let f : follows c.loop-i.sheet c.region_of.result ≡ true = cc in
    rw (c.add.ensures.after_is, f, r) (going_turn c.loop-i.invariant t (rw r at f))

-- words that make no whole record
pub returns-then-not-is_empty : goal.returns-then-not-is_empty
returns-then-not-is_empty c =
    let k = c.as_chunks.ensures in
    let n : length c.as_chunks.result.0.now ≡ c.loop-i.i = omega arith in
    let t : length c.args.words.now / 7 ≤ c.loop-i.i = omega arith in
    let e = eqb-false _ 0 (sym c.is_empty.ensures ∙ c.if-not-is_empty.true) in
    rw n (going_odd c.loop-i.invariant t (λ z. e (omega (arith, k.back_len, z))))

pub returns : goal.returns
returns c =
    let k = c.as_chunks.ensures in
    let t : length c.args.words.now / 7 ≤ c.loop-i.i = omega arith in
    let e = eqb-true _ 0 (sym c.is_empty.ensures ∙ c.if-not-is_empty.false) in
    rw c.ended.ensures (going_ended c.loop-i.invariant t (omega (arith, k.back_len, e)))
