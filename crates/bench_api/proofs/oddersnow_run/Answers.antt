-- The answer is packed from the number and counts that the machine promises.
use Rattle.machine.proofs.Laws as laws
use Rattle.bench_api.proofs.oddersnow_run.Goals as goal

pub pack-requires : goal.pack-requires
pack-requires c = let small = laws.run_small _ _ _ _ _ _ c.run-answer.ensures in (small.1, small.2)

pub returns : goal.returns
returns c =
    let p = rw c.board_of-board.ensures at c.run-answer.ensures in
    record {
      answer_is = simp (c.pack.ensures, p.number_is, p.trapped_is, p.retired_is);
      registers_are = p.registers_are;
      memory_is = p.memory_is;
      tags_are = p.tags_are;
    }
