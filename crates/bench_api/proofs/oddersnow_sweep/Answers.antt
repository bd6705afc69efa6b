-- The answer is packed from the one that the visit promises.
use mathlib.Core.Path.{ap, ◌∙◌}
use Rattle.bench_api.specs.Packing.{packed_visit}
use Rattle.bench_api.proofs.oddersnow_sweep.Goals as goal

pub returns : goal.returns
returns c =
    let p = rw c.board_of-board.ensures at c.visit.ensures in
    record { answer_is = c.pack_visit.ensures ∙ ap packed_visit p.answer_is; tags_are = p.tags_are }
