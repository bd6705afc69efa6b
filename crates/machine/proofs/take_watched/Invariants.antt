-- The loop keeps: what the steps that are left make of the buffers, counts and watch record is what all n make of the start.
use Prim.Native.Nat.{◌-◌, ◌≤◌}
use mathlib.Core.Path.{◌≡◌}
use lib.ListN.{length}
use Rattle.state.specs.Lent.{state}
use Rattle.machine.specs.Run.{ran, iterate}
use Rattle.machine.specs.Watching.{watched_by}
use Rattle.machine.proofs.take_watched.Given as goal

abbrev pub invariant-loop-k : goal.invariant-loop-k
invariant-loop-k l =
    (l.k ≤ l.n) × (l.kept.trapped ≤ l.k) × (length l.regs ≡ length l.initial.regs) × (length l.mem ≡ length l.initial.mem)
    × (length l.tags ≡ length l.initial.tags)
    × (iterate (l.n - l.k) l.board l.revoked (ran (state l.regs l.mem l.tags) (l.k - l.kept.trapped) l.kept.trapped)
    ≡ iterate l.n l.board l.revoked (ran (state l.initial.regs l.initial.mem l.initial.tags) 0 0))
    × (watched_by (l.n - l.k) l.board l.revoked (state l.regs l.mem l.tags) l.kept.watch ≡ watched_by l.n l.board l.revoked
    (state l.initial.regs l.initial.mem l.initial.tags) l.initial.kept.watch)
