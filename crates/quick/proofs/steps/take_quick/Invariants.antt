-- The loop keeps `Running`; each way round is one law of Turning. A turn that only finds an entry makes no step and is made once (`missed`).
use Rattle.std.proofs.Common.{◌≡◌, ◌+◌, ◌-◌, ◌*◌, cond, length}
use Rattle.state.specs.Lent.{state}
use Rattle.quick.specs.Running.{Running}
use Rattle.quick.proofs.steps.take_quick.Given as goal

abbrev pub invariant-loop-k : goal.invariant-loop-k
invariant-loop-k l =
    Running l.board l.revoked l.n (state l.initial.regs l.initial.mem l.initial.tags) l.initial.watch (state l.regs l.mem l.tags) l.code l.keys l.rows
    l.low l.high l.base l.limit l.watch l.trapped l.k
    × (length l.regs ≡ length l.initial.regs) × (length l.mem ≡ length l.initial.mem) × (length l.tags ≡ length l.initial.tags)

abbrev pub decreases-loop-k : goal.decreases-loop-k
decreases-loop-k l =
    2 * (l.n - l.k) + cond l.missed 0 1
