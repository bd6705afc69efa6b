-- `put_bytes`: where all bytes have a place they are copied at once, else one after another. Assumes nothing.
use Rattle.std.proofs.Common.{◌≡◌, ◌+◌, ◌-◌, ℕ, length, sym, ◌∙◌, arith, rules}
use Rattle.words.proofs.Puts.{put_list_is, put_turn, put_end}
use Rattle.words.proofs.buffers.put_bytes.Goals as goal

pub returns-then-at-m : goal.returns-then-at-m
returns-then-at-m g c =
    let a = c.args in
    let long : length a.bytes ≡ g.row.N = search rules in
    let e : a.at + g.row.N - a.at ≡ length a.bytes = omega arith in
    rw (c.copy_from_slice.ensures.after, e) (sym (put_list_is a.bytes a.m.now a.at (omega arith)))

pub loop-k-init : goal.loop-k-init
loop-k-init g c = search rules

pub loop-k-preserved : goal.loop-k-preserved
loop-k-preserved g c =
    let a = c.args in
    let l = c.loop-k in
    let long : length a.bytes ≡ g.row.N = search rules in
    rw c.put_byte_from.ensures (sym (put_turn a.bytes l.m a.at l.k (omega arith)) ∙ l.invariant)

pub returns : goal.returns
returns g c =
    let a = c.args in
    let l = c.loop-k in
    let long : length a.bytes ≡ g.row.N = search rules in
    sym (put_end a.bytes l.m (a.at + l.k) l.k (omega arith)) ∙ l.invariant
