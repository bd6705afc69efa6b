-- `put_names`: the loop keeps `Listing`: the names so far are written, and those left make up the list. Assumes nothing.
use Rattle.std.proofs.Common.{arith, refl, sym, ◌∙◌}
use Rattle.text.proofs.Putting.{puts_within}
use Rattle.sheet_compare.proofs.Lists.{listing_start, listing_turn, listing_done, listing_all}
use Rattle.sheet_compare.proofs.names.put_names.Goals as goal

pub loop-init : goal.loop-init
loop-init c = listing_start c.args.out.now c.args.one.now c.args.two.now _ refl

pub returns-in_default : goal.returns-in_default
returns-in_default c =
    let l = c.loop.invariant in
    (listing_done l c.loop-test.true (sym c.in_default.is ∙ c.next_name.ensures), puts_within (omega arith) l.puts)

pub loop-preserved : goal.loop-preserved
loop-preserved c = listing_turn c.loop.invariant c.loop-test.true (sym c.in-Some.is ∙ c.next_name.ensures) c.put_name_line-at.ensures

pub returns : goal.returns
returns c = let l = c.loop.invariant in (listing_all l c.loop-test.false, puts_within (omega arith) l.puts)
