-- Both words of the next time, written.
use Rattle.state.specs.Timer.{ticked, time_of}
use Rattle.state.proofs.timer.tick.Goals as goal

pub returns : goal.returns
unfolding ticked time_of
returns c =
    simp (c.put_word-2.ensures, c.put_word.ensures, c.long_at-next.ensures)
