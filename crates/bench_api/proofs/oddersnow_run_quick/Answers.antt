-- The answer is packed from the number and counts that the machine promises; the record's counts are those that it leaves in the lent numbers.
use Rattle.machine.proofs.Laws as laws
use Rattle.bench_api.proofs.oddersnow_run_quick.Goals as goal

pub pack-requires : goal.pack-requires
pack-requires c = let small = laws.run_small _ _ _ _ _ _ c.run_counting-answer.ensures.run_is in (small.1, small.2)

pub returns : goal.returns
returns c =
    let counted = rw c.board_of-board.ensures at c.run_counting-answer.ensures in
    let p = counted.run_is in
    record {
      run_is = record {
        answer_is = simp (c.pack.ensures, p.number_is, p.trapped_is, p.retired_is);
        registers_are = p.registers_are;
        memory_is = p.memory_is;
        tags_are = p.tags_are;
      };
      first_is = counted.first_is;
      second_is = counted.second_is;
    }
