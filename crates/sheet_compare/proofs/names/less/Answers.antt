-- `less`: the loop keeps that the bytes passed are the same. Assumes nothing.
use mathlib.Core.Path.{◌≡◌, sym, ◌∙◌}
use native.Mathlib.Omega.{arith}
use lib.ListN.{length}
use borrow.Author.Rules.{rules}
use Rattle.sheet_compare.proofs.Lists.{less_turn, less_here, less_end}
use Rattle.sheet_compare.proofs.names.less.Goals as goal

pub returns-then-a-i : goal.returns-then-a-i
returns-then-a-i c =
    let g : length c.args.a.now ≡ 16 = search rules in
    let k : length c.args.b.now ≡ 16 = search rules in
    less_here c.args.a.now c.args.b.now c.loop-i.i (omega arith) (omega arith) c.if-a-i.true ∙ c.loop-i.invariant.1

pub loop-i-preserved : goal.loop-i-preserved
loop-i-preserved c =
    let g : length c.args.a.now ≡ 16 = search rules in
    let k : length c.args.b.now ≡ 16 = search rules in
    (omega arith, less_turn c.args.a.now c.args.b.now c.loop-i.i (omega arith) (omega arith) c.if-a-i.false ∙ c.loop-i.invariant.1)

pub returns : goal.returns
returns c =
    let g : length c.args.a.now ≡ 16 = search rules in
    sym (sym c.loop-i.invariant.1 ∙ less_end c.args.a.now c.args.b.now c.loop-i.i (omega arith))
