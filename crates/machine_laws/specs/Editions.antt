-- The machine as the report alone has it, beside the one that is told an edition; and a step in both editions. Document 02, 8. Assumes nothing.
use Rattle.std.specs.Prelude.{List, ◌≡◌, ℕ, ◌+◌, ◌*◌, ◌%◌, get_or, length}
use Rattle.instructions.specs.declared.Instruction.{Instruction}
use Rattle.instructions.specs.declared.Instruction.TheVariants.{Integer, Jump, Memory, Capability, System, Illegal}
use Rattle.instructions.specs.declared.JumpInstruction.{JumpInstruction}
use Rattle.instructions.specs.declared.Csr.TheVariants.{Mstatus}
use Rattle.state.specs.Layout.{capability_words, general_count, csr_index}
use Rattle.state.specs.Registers.{register_at, mstatus_of}
use Rattle.state.specs.Lent.{Lent, lent, State, report_edition, later_edition}
use Rattle.state.specs.Checks.{illegal_instruction, capability_trap, seal_cause}
use Rattle.state.specs.declared.Board.{Board}
use Rattle.state.specs.declared.Effect.{Effect}
use Rattle.state.specs.declared.Effect.TheVariants.{Trap}
use Rattle.integer_instructions.specs.Integer.{integer_effect}
use Rattle.memory_instructions.specs.Access.{memory_effect}
use Rattle.jump_instructions.specs.Report.{report_jump}
use Rattle.jump_instructions.specs.Compared.{SameButType, SameButMie, InEditions, links_by, goes_by, accepted_in}
use Rattle.capability_instructions.specs.Derivation.{capability_effect}
use Rattle.system_instructions.specs.System.{system_effect}
use Rattle.commit.specs.Commit.{apply_effect}
use Rattle.commit.specs.Touched.{SameMemory}
use Rattle.execution.specs.Step.{seen, fetched_in, instruction_in, word_in, length_in, trap_or, step_of}

-- the same board with another edition
abbrev pub with_edition : (edition : ℕ) → Board → Board
with_edition edition board = record { start = board.start; window = board.window; edition = edition }

abbrev pub in_edition : (edition : ℕ) → Lent → Lent
in_edition edition m = lent (with_edition edition m.board) m.mem m.tags m.revoked

-- what an instruction does in the report: jumps as `report_jump` has them, the rest as ever
unfoldable pub report_effect : (bytes : ℕ) → Instruction → (word : ℕ) → (regs : List ℕ) → Lent → Effect
report_effect bytes (Integer i) word regs m = integer_effect i regs
report_effect bytes (Jump i) word regs m = report_jump bytes i regs
report_effect bytes (Memory i) word regs m = memory_effect i regs m
report_effect bytes (Capability i) word regs m = capability_effect i regs
report_effect bytes (System i) word regs m = system_effect i regs
report_effect bytes Illegal word regs m = Trap illegal_instruction word

-- what the next step does in the report, and what it leaves
abbrev pub report_effect_at : Board → (revoked : List ℕ) → State → Effect
report_effect_at board revoked s =
    trap_or (fetched_in board s)
    (report_effect (length_in (fetched_in board s)) (instruction_in (fetched_in board s)) (word_in (fetched_in board s)) s.regs (seen board revoked s))

abbrev pub report_step : Board → (revoked : List ℕ) → State → State
report_step board revoked s = apply_effect board.start (length_in (fetched_in board s)) (report_effect_at board revoked s) s

-- an instruction of another family than that of jumps, or none
abbrev pub NoJump : Instruction → Type 0
NoJump (Integer i) = Unit {0}
NoJump (Jump i) = ⊥
NoJump (Memory i) = Unit {0}
NoJump (Capability i) = Unit {0}
NoJump (System i) = Unit {0}
NoJump Illegal = Unit {0}

-- ---- a step in both editions

-- the word that has the type of register rd
abbrev pub type_place : (rd : ℕ) → ℕ
type_place rd = rd % general_count * capability_words + 1

-- states that are the same but for MIE and the type of register rd
pub record ApartState (rd : ℕ) (report later : State) : Type 0 where
  pub same_memory : SameMemory report later
  pub same_length : length later.regs ≡ length report.regs
  pub same_words : (i : ℕ) → (i ≡ type_place rd → ⊥) → (i ≡ csr_index Mstatus → ⊥) → get_or later.regs i 0 ≡ get_or report.regs i 0
  pub link_apart : SameButType (register_at report.regs rd) (register_at later.regs rd)
  pub status_apart : SameButMie (mstatus_of report.regs) (mstatus_of later.regs)

-- what the next step leaves where it is a jump: the same; states apart by no more; or, of a target that one edition alone accepts, in the other what the seal
-- violation leaves
abbrev pub JumpInEditions : Board → (revoked : List ℕ) → State → JumpInstruction → Type 0
JumpInEditions board revoked s i =
    InEditions (ApartState (links_by i)) (apply_effect board.start (length_in (fetched_in board s)) (capability_trap (goes_by i) seal_cause) s)
    (accepted_in report_edition i s.regs) (accepted_in later_edition i s.regs)
    (step_of (with_edition report_edition board) revoked s) (step_of (with_edition later_edition board) revoked s)
