-- `all_known`: the test of each kind is the definition's. Assumes nothing.
use mathlib.Core.Path.{◌≡◌, ◌∙◌}
use mathlib.Core.List.{List}
use Prim.Native.Nat.{ℕ, ◌-◌}
use native.Mathlib.Omega.{arith}
use lib.ListN.{length, take}
use lib.Seq.{take_all}
use Rattle.std.proofs.Common.{rules, tests}
use Rattle.std.proofs.lemmas.Iterator.{YieldsList-from_slice}
use Rattle.std.proofs.lemmas.Iterator.Search.{all_from_yields_List}
use Rattle.call_lists.specs.Lists.{all_known, is_known}
use Rattle.call_lists.proofs.lists.all_known.Goals as goal

-- a slice from the start on is the whole list: which part is tested is asked apart
whole : (xs : List ℕ) → take (length xs - 0) xs ≡ xs
whole xs = take_all (length xs - 0) xs (omega arith)

pub returns : goal.returns
unfolding all_known is_known
returns c =
    all_from_yields_List is_known _ _ _ c.all.ensures.ran (YieldsList-from_slice c.args.kinds.now (c.iter.ensures.rest ∙ search (rules, whole)))
    (λ x b q k. search (rules, tests))
