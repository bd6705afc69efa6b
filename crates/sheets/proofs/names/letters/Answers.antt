-- `letters`: the library counts the letters in front. Assumes nothing.
use Rattle.std.proofs.Common.{◌≡◌, ◌∙◌, rules, arith, length}
use borrow.Author.Tests.{tests}
use Rattle.std.proofs.lemmas.Iterator.{YieldsList-from_slice}
use Rattle.std.proofs.lemmas.Iterator.Consumers.{count_from_yields_List}
use Rattle.std.proofs.lemmas.Iterator.Search.{YieldsList-from_take_while}
use Rattle.sheets.specs.Sheet.{is_letter, letters_of}
use Rattle.sheets.proofs.Lists.{letters_prefix, letters_le}
use Rattle.sheets.proofs.names.letters.Goals as goal

pub returns : goal.returns
returns c =
    let n = c.args.name in
    let g : length n ≡ 16 = c.well_formed.0.1.0.1 in
    let e : c.count.result ≡ length (letters_of n) =
    count_from_yields_List c.take_while.result _ c.count.ensures.ran
    (YieldsList-from_take_while _ is_letter (YieldsList-from_slice n (cc)) c.take_while.ensures.closure c.take_while.ensures.done
    (λ x b q k. search (rules, tests)))
    ∙ letters_prefix n in
    (e, omega (arith, e, letters_le n), g)
