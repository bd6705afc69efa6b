-- The place is not c0's: its three words are written; then on.
use Rattle.std.proofs.Common.{ℕ, ◌+◌, List, set, refl, ◌∙◌, arith, length-set, ne_eqb}
use Rattle.quick.proofs.Onward.{long_on}
use Rattle.quick.proofs.registers.write_some.Goals as goal

pub bounds-regs-i-2 : goal.bounds-regs-i-2
bounds-regs-i-2 c = simp length-set (omega arith)

pub bounds-regs-i-3 : goal.bounds-regs-i-3
bounds-regs-i-3 c = simp length-set (omega arith)

pub shape_of-regs : goal.shape_of-regs
shape_of-regs c =
    let a = c.args in
    let l : List ℕ = set (set (set a.regs.now a.at a.c.address) (a.at + 1) a.c.metadata) (a.at + 2) a.c.tag in
    rw c.go_on.ensures (long_on l a.to ∙ simp length-set)

pub returns : goal.returns
returns c =
    let go_on = c.go_on in
    let args = c.args in
    let pre = c.requires in
    rw (go_on.ensures, ne_eqb args.at 0 pre.1.1) refl
