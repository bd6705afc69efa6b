-- The invariant: no line from here on is bad, and what is written, and then the code of the lines from here on, make the whole code.
use Rattle.std.proofs.Common.{◌≡◌, ◌-◌, ◌≤◌, length}
use Rattle.listing.specs.Assembling.{read_at, bad_at, code_of, assembly_of}
use Rattle.listing.proofs.Walking.{Going}
use Rattle.listing.proofs.assembling.write_code.Given as goal

abbrev pub invariant-loop-at : goal.invariant-loop-at
invariant-loop-at l =
    (l.at ≤ length l.text) × (bad_at l.text l.at ≡ length l.text) × (length l.out ≡ length l.initial.out) × Going (assembly_of l.text)
    (code_of (read_at l.text l.at)) l.initial.out l.out l.to

abbrev pub decreases-loop-at : goal.decreases-loop-at
decreases-loop-at l = length l.text - l.at
