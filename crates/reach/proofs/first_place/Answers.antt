-- The first register that counts; where none does, the search goes on in memory.
use Rattle.std.proofs.Common.{◌∙◌, rules, arith}
use Rattle.std.proofs.lemmas.Iterator.{first_from_Range}
use Rattle.state.specs.Lent.{state}
use Rattle.reach.proofs.Search as laws
use Rattle.reach.proofs.first_place.Goals as goal

pub returns-in-Some : goal.returns-in-Some
returns-in-Some c =
    let a = c.args in
    laws.held_found (state a.regs.now a.mem.now a.tags.now) a.q a.from _
    (first_from_Range _ _ _ _ _ _ c.find.ensures.ran (λ x q k. search rules) (λ x q k. (search rules, search rules)))
    _ c.in-Some.is

pub returns-in-None : goal.returns-in-None
returns-in-None c =
    let a = c.args in
    c.first_granule.ensures
    ∙ laws.register_none (state a.regs.now a.mem.now a.tags.now) a.q a.from _ (omega arith)
    (laws.held_none (state a.regs.now a.mem.now a.tags.now) a.q a.from _
    (first_from_Range _ _ _ _ _ _ c.find.ensures.ran (λ x q k. search rules) (λ x q k. (search rules, search rules)))
    c.in-None.is)
