-- `run_calls`: three refusals in their order, or the whole list. The last test passed is the last step back from an answer. Assumes nothing.
use mathlib.Core.Path.{sym, ◌∙◌}
use native.Mathlib.Omega.{arith}
use borrow.Author.Tests.{lt-ltb, le-ltb, not-true, not-false}
use lib.ListN.{length}
use Rattle.call_lists.proofs.Turns.{sizes_fit_lem}
use Rattle.call_lists.proofs.Answers.{tag_refused, size_refused, kind_refused, list_ran}
use Rattle.call_lists.proofs.lists.run_calls.Goals as goal

-- a tag word above 1
pub returns-then-c-gt-MOST_TAG : goal.returns-then-c-gt-MOST_TAG
returns-then-c-gt-MOST_TAG c =
    let a = c.args in
    tag_refused a.c a.kinds.now a.values.now a.out.now (lt-ltb 1 a.c.tag c.if-c-gt-MOST_TAG.true)

-- sizes that do not fit
pub returns-then-not-sizes_fit : goal.returns-then-not-sizes_fit
returns-then-not-sizes_fit c =
    let a = c.args in
    let sizes = c.sizes_fit in
    size_refused a.c a.kinds.now a.values.now a.out.now (le-ltb 1 a.c.tag c.if-c-gt-MOST_TAG.false)
    (sym sizes.ensures ∙ not-true sizes.result c.if-not-sizes_fit.true-raw)

-- an unknown kind
pub returns-then-not-all_known : goal.returns-then-not-all_known
returns-then-not-all_known c =
    let a = c.args in
    let sizes = c.sizes_fit in
    let known = c.all_known in
    kind_refused a.c a.kinds.now a.values.now a.out.now (le-ltb 1 a.c.tag c.if-c-gt-MOST_TAG.false)
    (sym sizes.ensures ∙ not-false sizes.result c.if-not-sizes_fit.false-raw)
    (sym known.ensures ∙ not-true known.result c.if-not-all_known.true-raw)

pub write_calls-requires-clause-sizes : goal.write_calls-requires-clause-sizes
write_calls-requires-clause-sizes c =
    let a = c.args in
    let sizes = c.sizes_fit in
    sizes_fit_lem (length a.kinds.now) (length a.values.now) (length a.out.now)
    (sym sizes.ensures ∙ not-false sizes.result c.if-not-sizes_fit.false-raw)

-- the list was run
pub returns : goal.returns
returns c =
    let a = c.args in
    let sizes = c.sizes_fit in
    let known = c.all_known in
    list_ran a.c a.kinds.now a.values.now a.out.now (le-ltb 1 a.c.tag c.if-c-gt-MOST_TAG.false)
    (sym sizes.ensures ∙ not-false sizes.result c.if-not-sizes_fit.false-raw)
    (sym known.ensures ∙ not-false known.result c.if-not-all_known.false-raw)
    (λ i. omega (arith, c.shared_slice_known-2-1.given i))
    c.write_calls.result c.write_calls.new.out c.write_calls.ensures
