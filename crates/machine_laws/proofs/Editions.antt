-- Edition 0 is the report's machine, for every state; and what is no jump knows no edition. Assumes nothing.
use mathlib.Core.Path.{◌≡◌, refl, ap}
use mathlib.Core.List.{List}
use Prim.Native.Nat.{ℕ}
use Rattle.instructions.specs.declared.Instruction.{Instruction}
use Rattle.instructions.specs.declared.Instruction.TheVariants.{Integer, Jump, Memory, Capability, System, Illegal}
use Rattle.instructions.specs.declared.MemoryInstruction.{MemoryInstruction}
use Rattle.instructions.specs.declared.MemoryInstruction.TheVariants as Access
use Rattle.state.specs.Memory.{revocation_at}
use Rattle.state.specs.Lent.{Lent, State, report_edition}
use Rattle.state.specs.declared.Board.{Board}
use Rattle.state.specs.declared.Effect.{Effect}
use Rattle.state.specs.declared.Place.{Place}
use Rattle.state.specs.declared.Place.TheVariants.{At, Misaligned, Outside}
use Rattle.capability.specs.declared.Capability.{Capability as Held}
use Rattle.memory_instructions.specs.Access.{revoked_value, filtered, load_capability_at, load_capability_effect, memory_effect}
use Rattle.jump_instructions.proofs.Editions.{report_jump_lem}
use Rattle.commit.specs.Commit.{apply_effect}
use Rattle.execution.specs.Step.{effect_of, instruction_in, word_in, length_in, trap_or, effect_in, effect_at, step_of, seen, fetched_in}
use Rattle.machine_laws.specs.Editions.{in_edition, report_effect, report_effect_at, report_step, NoJump}

-- ---- the report

pub report_effect_lem : (bytes : ℕ) (i : Instruction) (word : ℕ) (regs : List ℕ) (m : Lent) → m.board.edition ≡ report_edition
    → effect_of bytes i word regs m ≡ report_effect bytes i word regs m
unfolding effect_of report_effect
report_effect_lem bytes (Integer i) word regs m e = refl
report_effect_lem bytes (Jump i) word regs m e = rw e (report_jump_lem bytes i regs)
report_effect_lem bytes (Memory i) word regs m e = refl
report_effect_lem bytes (Capability i) word regs m e = refl
report_effect_lem bytes (System i) word regs m e = refl
report_effect_lem bytes Illegal word regs m e = refl

module _ (board : Board) (revoked : List ℕ) (s : State) (report : board.edition ≡ report_edition) where
  pub report_effect_at_lem : effect_at board revoked s ≡ report_effect_at board revoked s
  unfolding effect_in
  report_effect_at_lem =
      ap (λ (e : Effect). trap_or (fetched_in board s) e)
      (report_effect_lem (length_in (fetched_in board s)) (instruction_in (fetched_in board s)) (word_in (fetched_in board s)) s.regs (seen board revoked s)
      report)

  pub report_step_lem : step_of board revoked s ≡ report_step board revoked s
  unfolding step_of
  report_step_lem = ap (λ (e : Effect). apply_effect board.start (length_in (fetched_in board s)) e s) report_effect_at_lem

-- ---- what is no jump

load_alone : (edition : ℕ) (p : Place) (rd address : ℕ) (authority : Held) (m : Lent)
    → load_capability_at p rd address authority (in_edition edition m) ≡ load_capability_at p rd address authority m
unfolding load_capability_at filtered revoked_value revocation_at
load_alone edition Misaligned rd address authority m = refl
load_alone edition Outside rd address authority m = refl
load_alone edition (At i) rd address authority m = refl

memory_alone : (edition : ℕ) (i : MemoryInstruction) (regs : List ℕ) (m : Lent) → memory_effect i regs (in_edition edition m) ≡ memory_effect i regs m
unfolding memory_effect load_capability_effect
memory_alone edition (Access.Load kind rd rs1 offset) regs m = refl
memory_alone edition (Access.Store kind rs1 rs2 offset) regs m = refl
memory_alone edition (Access.LoadCapability rd rs1 offset) regs m = rw (load_alone edition)
memory_alone edition (Access.StoreCapability rs1 rs2 offset) regs m = refl

-- its effect is the same in any two editions
pub edition_alone : (edition bytes : ℕ) (i : Instruction) (word : ℕ) (regs : List ℕ) (m : Lent) → NoJump i
    → effect_of bytes i word regs (in_edition edition m) ≡ effect_of bytes i word regs m
unfolding effect_of
edition_alone edition bytes (Integer i) word regs m n = refl
edition_alone edition bytes (Jump i) word regs m n = absurd n
edition_alone edition bytes (Memory i) word regs m n = memory_alone edition i regs m
edition_alone edition bytes (Capability i) word regs m n = refl
edition_alone edition bytes (System i) word regs m n = refl
edition_alone edition bytes Illegal word regs m n = refl
