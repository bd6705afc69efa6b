-- Each return is a case of the place of PCC's address.
use Rattle.std.proofs.Common.{◌∙◌, arith}
use Rattle.fetch.specs.Fetch.{fetched_at}
use Rattle.fetch.proofs.Places.{found_misaligned, found_below, found_from_lem}
use Rattle.fetch.proofs.fetched_at.Goals as goal

pub returns-then-pcc-ne0 : goal.returns-then-pcc-ne0
unfolding fetched_at
returns-then-pcc-ne0 c =
    let a = c.args in
    found_misaligned a.pcc a.mem.now a.start c.if-pcc-ne0.true

pub returns-then-start-pcc : goal.returns-then-start-pcc
returns-then-start-pcc c =
    let even = c.if-pcc-ne0.false in
    let a = c.args in
    c.fetched_from.ensures ∙ found_from_lem a.pcc a.mem.now a.start (omega (arith, even)) c.if-start-pcc.true

pub returns : goal.returns
unfolding fetched_at
returns c =
    let even = c.if-pcc-ne0.false in
    let a = c.args in
    c.outside.ensures ∙ found_below a.pcc a.mem.now a.start (omega (arith, even)) c.if-start-pcc.false
