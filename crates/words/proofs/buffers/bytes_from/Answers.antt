-- With all bytes inside, the slice has them; else each is read by itself. Assumes nothing.
use Rattle.std.proofs.Common.{◌+◌, ℕ, rules, get_or}
use Rattle.words.proofs.Arrays.{from_each}
use Rattle.words.proofs.buffers.bytes_from.Goals as goal

pub returns : goal.returns
returns g c k h =
    let a = c.args in
    from_each _ _ (λ (i : ℕ). get_or a.m.now (a.at + i) 0) (λ i y q call. search rules) g.row.N _ c.from_fn.ensures.items.each k h
