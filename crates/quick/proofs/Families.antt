-- An instruction that writes one register and goes on: its operation, by the places of its registers, leaves what its effect leaves. Assumes nothing.
use Rattle.std.proofs.Common.{◌≡◌, ℕ, ◌+◌, ◌*◌, ◌%◌, List, get_or, refl, ap, ◌∙◌}
use Rattle.words.specs.Words.{wrap}
use Rattle.capability.specs.Capability.{integer, move_of, set_bounds_of}
use Rattle.capability.specs.declared.Capability.{Capability}
use Rattle.instructions.specs.declared.Alu.{Alu}
use Rattle.instructions.specs.declared.MultiplyKind.{MultiplyKind}
use Rattle.instructions.specs.declared.DivideKind.{DivideKind}
use Rattle.instructions.specs.declared.Inspection.TheVariants.{GetAddr}
use Rattle.instructions.specs.declared.Combination.TheVariants.{SetAddr, IncAddr}
use Rattle.instructions.specs.declared.Instruction.{Instruction}
use Rattle.instructions.specs.declared.IntegerInstruction.TheVariants.{Lui, OpImm, Op, Multiply, Divide}
use Rattle.instructions.specs.declared.CapabilityInstruction.TheVariants.{SetBoundsImm, Move, Inspect, Combine}
use Rattle.state.specs.Registers.{capability_at, integer_at}
use Rattle.state.specs.Lent.{Lent, state}
use Rattle.state.specs.declared.Effect.{Effect}
use Rattle.state.specs.declared.Effect.TheVariants.{Write}
use Rattle.integer_instructions.specs.Integer.{alu_of, multiplied_of, divided_of, integer_effect}
use Rattle.capability_instructions.specs.Derivation.{moved_by, inspected, combined, capability_effect}
use Rattle.operations.specs.Means.{AddsTo, to_register, to_pcc, to_global}
use Rattle.commit.specs.Commit.{retires}
use Rattle.execution.specs.Step.{effect_of}
use Rattle.quick.specs.Turns.{went_on, written_at, held_at, Stands, Turned, done_turn}
use Rattle.quick.proofs.Onward.{took_write}

module _ (regs after mem tags : List ℕ) (start m a n to : ℕ) (s : Stands regs m a n) (q : to ≡ wrap (a + n)) where
  abbrev Turns : Effect → Type 0
  Turns e = Turned start n e (state regs mem tags) (state after mem tags) done_turn

  pub turned_write : (e : Effect) (at rd : ℕ) (v : Capability) → e ≡ Write rd v → at ≡ rd % 16 * 3 → after ≡ went_on to (written_at at v regs) → Turns e
  unfolding retires
  turned_write e at rd v f p h = rw f (ap (λ (l : List ℕ). state l mem tags) h ∙ took_write regs mem tags start m a n to s q at rd v p, refl, refl)

  -- the instruction, its word and what it sees
  module _ (x : Instruction) (word : ℕ) (l : Lent) where
    pub turned_put : (at rd value : ℕ) → x ≡ Instruction.Integer (Lui rd value) → at ≡ rd % 16 * 3
        → after ≡ went_on to (written_at at (integer value) regs) → Turns (effect_of n x word regs l)
    unfolding effect_of integer_effect
    turned_put at rd value e p h = turned_write (effect_of n x word regs l) at rd (integer value) (ap (λ (y : Instruction). effect_of n y word regs l) e) p h

    pub turned_immediate : (op : Alu) (at from rd rs1 value : ℕ) → x ≡ Instruction.Integer (OpImm op rd rs1 value) → at ≡ rd % 16 * 3 → from ≡ rs1 % 16 * 3
        → after ≡ went_on to (written_at at (integer (alu_of op (get_or regs from 0) value)) regs) → Turns (effect_of n x word regs l)
    unfolding effect_of integer_effect integer_at
    turned_immediate op at from rd rs1 value e p f h =
        turned_write (effect_of n x word regs l) at rd (integer (alu_of op (get_or regs from 0) value)) (rw (e, f) refl) p h

    pub turned_two : (op : Alu) (at from other rd rs1 rs2 : ℕ) → x ≡ Instruction.Integer (Op op rd rs1 rs2) → at ≡ rd % 16 * 3 → from ≡ rs1 % 16 * 3
        → other ≡ rs2 % 16 * 3 → after ≡ went_on to (written_at at (integer (alu_of op (get_or regs from 0) (get_or regs other 0))) regs)
        → Turns (effect_of n x word regs l)
    unfolding effect_of integer_effect integer_at
    turned_two op at from other rd rs1 rs2 e p f o h =
        turned_write (effect_of n x word regs l) at rd (integer (alu_of op (get_or regs from 0) (get_or regs other 0))) (rw (e, f, o) refl) p h

    pub turned_multiply : (kind : MultiplyKind) (at from other rd rs1 rs2 : ℕ) → x ≡ Instruction.Integer (Multiply kind rd rs1 rs2) → at ≡ rd % 16 * 3
        → from ≡ rs1 % 16 * 3 → other ≡ rs2 % 16 * 3
        → after ≡ went_on to (written_at at (integer (multiplied_of kind (get_or regs from 0) (get_or regs other 0))) regs)
        → Turns (effect_of n x word regs l)
    unfolding effect_of integer_effect integer_at
    turned_multiply kind at from other rd rs1 rs2 e p f o h =
        turned_write (effect_of n x word regs l) at rd (integer (multiplied_of kind (get_or regs from 0) (get_or regs other 0))) (rw (e, f, o) refl) p h

    pub turned_divide : (kind : DivideKind) (at from other rd rs1 rs2 : ℕ) → x ≡ Instruction.Integer (Divide kind rd rs1 rs2) → at ≡ rd % 16 * 3
        → from ≡ rs1 % 16 * 3 → other ≡ rs2 % 16 * 3 → after
        ≡ went_on to (written_at at (integer (divided_of kind (get_or regs from 0) (get_or regs other 0))) regs)
        → Turns (effect_of n x word regs l)
    unfolding effect_of integer_effect integer_at
    turned_divide kind at from other rd rs1 rs2 e p f o h =
        turned_write (effect_of n x word regs l) at rd (integer (divided_of kind (get_or regs from 0) (get_or regs other 0))) (rw (e, f, o) refl) p h

    pub turned_increment : (at from rd offset : ℕ) → AddsTo x rd from offset → at ≡ rd % 16 * 3
        → after ≡ went_on to (written_at at (moved_by (held_at from regs) offset) regs) → Turns (effect_of n x word regs l)
    unfolding effect_of capability_effect capability_at
    turned_increment at from rd offset (to_register rs1 e f) p h =
        turned_write (effect_of n x word regs l) at rd (moved_by (held_at from regs) offset) (rw (e, f) refl) p h
    turned_increment at from rd offset (to_pcc e f) p h =
        turned_write (effect_of n x word regs l) at rd (moved_by (held_at from regs) offset) (rw (e, f) refl) p h
    turned_increment at from rd offset (to_global e f) p h =
        turned_write (effect_of n x word regs l) at rd (moved_by (held_at from regs) offset) (rw (e, f) refl) p h

    pub turned_set_address : (at from other rd rs1 rs2 : ℕ) → x ≡ Instruction.Capability (Combine SetAddr rd rs1 rs2) → at ≡ rd % 16 * 3
        → from ≡ rs1 % 16 * 3 → other ≡ rs2 % 16 * 3 → after ≡ went_on to (written_at at (move_of (held_at from regs) (get_or regs other 0)) regs)
        → Turns (effect_of n x word regs l)
    unfolding effect_of capability_effect capability_at combined
    turned_set_address at from other rd rs1 rs2 e p f o h =
        turned_write (effect_of n x word regs l) at rd (move_of (held_at from regs) (get_or regs other 0)) (rw (e, f, o) refl) p h

    pub turned_increment_by : (at from other rd rs1 rs2 : ℕ) → x ≡ Instruction.Capability (Combine IncAddr rd rs1 rs2) → at ≡ rd % 16 * 3
        → from ≡ rs1 % 16 * 3 → other ≡ rs2 % 16 * 3 → after ≡ went_on to (written_at at (moved_by (held_at from regs) (get_or regs other 0)) regs)
        → Turns (effect_of n x word regs l)
    unfolding effect_of capability_effect capability_at combined
    turned_increment_by at from other rd rs1 rs2 e p f o h =
        turned_write (effect_of n x word regs l) at rd (moved_by (held_at from regs) (get_or regs other 0)) (rw (e, f, o) refl) p h

    pub turned_address : (at from rd rs1 : ℕ) → x ≡ Instruction.Capability (Inspect GetAddr rd rs1) → at ≡ rd % 16 * 3 → from ≡ rs1 % 16 * 3
        → after ≡ went_on to (written_at at (integer (get_or regs from 0)) regs) → Turns (effect_of n x word regs l)
    unfolding effect_of capability_effect capability_at inspected
    turned_address at from rd rs1 e p f h = turned_write (effect_of n x word regs l) at rd (integer (get_or regs from 0)) (rw (e, f) refl) p h

    pub turned_cut : (at from rd rs1 size : ℕ) → x ≡ Instruction.Capability (SetBoundsImm rd rs1 size) → at ≡ rd % 16 * 3 → from ≡ rs1 % 16 * 3
        → after ≡ went_on to (written_at at (set_bounds_of (held_at from regs) size) regs) → Turns (effect_of n x word regs l)
    unfolding effect_of capability_effect capability_at
    turned_cut at from rd rs1 size e p f h = turned_write (effect_of n x word regs l) at rd (set_bounds_of (held_at from regs) size) (rw (e, f) refl) p h

    pub turned_copy : (at from rd rs1 : ℕ) → x ≡ Instruction.Capability (Move rd rs1) → at ≡ rd % 16 * 3 → from ≡ rs1 % 16 * 3
        → after ≡ went_on to (written_at at (held_at from regs) regs) → Turns (effect_of n x word regs l)
    unfolding effect_of capability_effect capability_at
    turned_copy at from rd rs1 e p f h = turned_write (effect_of n x word regs l) at rd (held_at from regs) (rw (e, f) refl) p h
