-- A store that touches the hull clears around its address.
use Rattle.std.proofs.Common.{◌+◌, lt-ltb}
use Rattle.quick.proofs.entries.forget.Goals as goal

pub returns : goal.returns
returns c =
    let a = c.args in
    let s = c.in-Some.s in
    rw (c.in-Some.is, lt-ltb a.low (s.at + s.width) c.if-s-low.false, lt-ltb s.at a.high c.if-high-s.false) c.clear_near.ensures
