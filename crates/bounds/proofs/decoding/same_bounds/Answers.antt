-- `same_bounds`: the law that both bounds stay exactly at exponent 24 or in the same block, as a test. Assumes nothing.
use Rattle.std.proofs.Common.{arith, eq-eqb, ne_eqb}
use Rattle.bounds.proofs.Blocks.{same_test}
use Rattle.bounds.proofs.decoding.same_bounds.Goals as goal

pub returns-then-e-eq-WIDEST : goal.returns-then-e-eq-WIDEST
returns-then-e-eq-WIDEST c =
    simp (
      same_test c.args.address c.args.to c.args.metadata (omega arith) (omega arith),
      ← c.scale_of.ensures.0,
      ← c.exponent-e.ensures,
      eq-eqb _ _ c.if-e-eq-WIDEST.true,
    )

pub returns : goal.returns
returns c =
    simp (
      same_test c.args.address c.args.to c.args.metadata (omega arith) (omega arith),
      c.base_block-2.ensures.0,
      c.base_block.ensures.0,
      c.base_of-base.ensures.0,
      ← c.scale_of.ensures.0,
      ← c.exponent-e.ensures,
      ne_eqb _ _ c.if-e-eq-WIDEST.false,
    )
