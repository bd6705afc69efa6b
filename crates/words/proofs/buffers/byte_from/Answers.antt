-- Inside, the byte is read; in either test that fails the place is past the end, where a list gives its default.
use Rattle.std.proofs.Common.{◌+◌, sym, arith, rules}
use lib.ListN.{get_or-eq_default}
use Rattle.words.proofs.buffers.byte_from.Goals as goal

pub returns-else-k-m : goal.returns-else-k-m
returns-else-k-m c = let a = c.args in sym (get_or-eq_default a.m.now 0 {n = a.at + a.k} (omega arith))

pub returns-else-at-m : goal.returns-else-at-m
returns-else-at-m c = let a = c.args in sym (get_or-eq_default a.m.now 0 {n = a.at + a.k} (omega arith))
