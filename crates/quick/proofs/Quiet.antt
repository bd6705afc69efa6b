-- An instruction that is no load or store stores nothing, so that a turn that leaves it to the plain step says of no store. Assumes nothing.
use Rattle.std.proofs.Common.{ℕ, List, refl}
use Rattle.std.proofs.Common.{None}
use Rattle.instructions.specs.declared.Instruction.{Instruction}
use Rattle.instructions.specs.declared.Instruction.TheVariants.{Integer, Jump, Memory, Capability, System, Illegal}
use Rattle.operations.specs.Means.{Quiet}
use Rattle.state.specs.Lent.{Lent, State}
use Rattle.state.specs.Effects.{Storeless, stored_by}
use Rattle.integer_instructions.proofs.Laws.{integer_storeless}
use Rattle.jump_instructions.proofs.Laws.{jump_storeless}
use Rattle.capability_instructions.proofs.Laws.{capability_storeless}
use Rattle.system_instructions.proofs.Laws.{system_storeless}
use Rattle.execution.specs.Step.{effect_of}
use Rattle.quick.specs.Turns.{Turned, left_turn}
use Rattle.quick.proofs.Targets.{may_nothing}

quiet_storeless : (n : ℕ) (x : Instruction) (word : ℕ) (regs : List ℕ) (l : Lent) → Quiet x → Storeless (effect_of n x word regs l)
unfolding effect_of
quiet_storeless n (Integer i) word regs l h = integer_storeless i regs
quiet_storeless n (Jump i) word regs l h = jump_storeless n l.board.edition i regs
quiet_storeless n (Memory i) word regs l h = absurd h
quiet_storeless n (Capability i) word regs l h = capability_storeless i regs
quiet_storeless n (System i) word regs l h = system_storeless i regs
quiet_storeless n Illegal word regs l h = tt

pub turned_quiet : (start n : ℕ) (x : Instruction) (word : ℕ) (l : Lent) (s : State) → Quiet x → Turned start n (effect_of n x word s.regs l) s s left_turn
turned_quiet start n x word l s h = (refl, may_nothing (stored_by (effect_of n x word s.regs l)) None (quiet_storeless n x word s.regs l h))
