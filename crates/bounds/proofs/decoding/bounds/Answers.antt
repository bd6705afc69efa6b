-- `bounds`: the base's unit shifted to its address, and the span above it. Assumes nothing.
use Rattle.bounds.specs.Bounds.{bounds_of, low_at, high_at}
use Rattle.bounds.proofs.Wrapped.{low_start, high_start}
use Rattle.bounds.proofs.decoding.bounds.Goals as goal

pub returns : goal.returns
unfolding bounds_of low_at high_at
returns c =
    let a = c.args.address in
    let e = c.exponent-e in
    let b = c.base_of-base in
    let t = c.top_of-top in
    let s = c.span in
    simp (
      ← c.scale_of.ensures.0,
      ← e.ensures,
      ← t.ensures.0,
      ← b.ensures.0,
      c.scaled.ensures.0,
      c.base_unit.ensures,
      low_start e.result.value b.result a e.result.small b.ensures.1,
      high_start e.result.value t.result b.result a s.result e.result.small b.ensures.1 s.ensures.0,
    )
