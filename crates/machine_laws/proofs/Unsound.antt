-- Bounds that are refused and that are not, computed; and a run that loads what a start may not hold: it goes on, where the second single step is refused.
-- Document 02, 13. Assumes nothing.
use mathlib.Core.Path.{◌≡◌, refl, ap}
use native.Mathlib.Omega.{arith}
use lib.Dec.{T}
use Rattle.words.specs.Words.{sign_extend, le_bytes, set_bytes, bit_at, with_bit, put_bit}
use Rattle.metadata.specs.Word.{permissions_of, type_of, scale_of, top_of, base_of}
use Rattle.metadata.specs.Rights.{rights_of}
use Rattle.bounds.specs.Bounds.{exponent_of, low_of, high_of, low_at, high_at}
use Rattle.capability.specs.Capability.{integer, low, high, rights, sealed, tagged, covers, same_bounds, move_of}
use Rattle.capability.specs.declared.Capability.{Capability}
use Rattle.capability.specs.Loading.{lose_global, lose_mutable, lose_tag, loaded_of, revocable}
use Rattle.instructions.specs.Fields.{immediate_i}
use Rattle.instructions.specs.Decode.{load_of, alu_of, op_imm_of, decode_of}
use Rattle.state.specs.Lent.{State}
use Rattle.state.specs.Registers.{capability_at, integer_at, set_capability, write_register}
use Rattle.state.specs.Marks.{cleared, below_mark, marked}
use Rattle.state.specs.Timer.{time_of, compare_of, interrupted, ticked}
use Rattle.state.specs.Memory.{place_of, capability_in, revocation_at}
use Rattle.state.specs.Checks.{checked, access_cause}
use Rattle.integer_instructions.specs.Integer as Integers
use Rattle.memory_instructions.specs.Access.{revoked_value, filtered, load_capability_at, load_capability_effect, memory_effect}
use Rattle.commit.specs.Commit.{advanced, apply_effect, retires}
use Rattle.fetch.specs.Fetch.{second_of, stands_of, fetched_at, fetch_of}
use Rattle.execution.specs.Step.{met_of, effect_of, instruction_in, word_in, length_in, trap_or, effect_in, step_of}
use Rattle.machine.specs.Refusals.{good_memory, good_window, good_tags, good_zero, good_words, good_bits, good_edition, sound, sound_if_tagged, good_bounds}
use Rattle.machine.specs.Refusals.{refusal_of}
use Rattle.machine.specs.Run.{step_refusal, step_after, one_more, iterate, run_answer, run_after}
use Rattle.machine.specs.Run.{counts}
use Rattle.std.specs.Prelude.{Ok}
use Rattle.machine_laws.specs.Steps.{steps_after, SoundBetween}
use Rattle.machine_laws.specs.Unsound.{told, ones, board, revoked, stored, loader}
use Rattle.machine_laws.proofs.Runs.{run_after_lem}

pub ones_told : T (told ones)
unfolding told ones sound sound_if_tagged good_bounds capability_at set_capability tagged low high low_at high_at low_of high_of exponent_of scale_of top_of
    base_of
ones_told = tt

record Computed : Type 0 where
  goes_on : run_answer 2 board revoked loader ≡ Ok (counts 2 0)
  held : capability_at (run_after 2 board revoked loader).regs 2 ≡ stored
  written : capability_at (run_after 2 board revoked loader).regs 3 ≡ integer 5
  first_accepted : step_refusal board revoked loader ≡ 0
  next_refused : step_refusal board revoked (step_after board revoked loader) ≡ 8
  unwritten : capability_at (steps_after 2 board revoked loader).regs 3 ≡ integer 0

computed : Computed
unfolding loader run_answer run_after step_after steps_after iterate one_more refusal_of good_memory good_tags good_zero good_words good_window good_bits
    good_edition
    sound sound_if_tagged good_bounds step_of met_of interrupted time_of compare_of ticked cleared below_mark marked effect_in trap_or length_in instruction_in
    word_in
    fetch_of fetched_at stands_of second_of effect_of apply_effect retires set_capability write_register advanced revoked_value filtered load_capability_at
    load_capability_effect memory_effect Integers.alu_of Integers.integer_effect checked access_cause place_of capability_in revocation_at capability_at
    integer_at load_of
    alu_of op_imm_of decode_of immediate_i lose_global lose_mutable lose_tag loaded_of revocable low high rights sealed tagged covers same_bounds move_of
    exponent_of
    low_of high_of low_at high_at rights_of permissions_of type_of scale_of top_of base_of sign_extend le_bytes set_bytes bit_at with_bit put_bit
computed =
    record { goes_on = refl; held = refl; written = refl; first_accepted = refl; next_refused = refl; unwritten = refl }

-- both steps of the run retire; c2 has the value, tagged, and x3 what the second step writes
pub run_goes_on : run_answer 2 board revoked loader ≡ Ok (counts 2 0)
run_goes_on = computed.goes_on

pub value_held : capability_at (run_after 2 board revoked loader).regs 2 ≡ stored
value_held = computed.held

pub second_written : capability_at (run_after 2 board revoked loader).regs 3 ≡ integer 5
second_written = computed.written

-- the call after the first single step is refused
pub next_refused : step_refusal board revoked (step_after board revoked loader) ≡ 8
next_refused = computed.next_refused

-- so the run is not its single steps, and a register between them was unsound
pub run_not_steps : run_after 2 board revoked loader ≡ steps_after 2 board revoked loader → ⊥
run_not_steps e =
    let a = ap (λ (s : State). (capability_at s.regs 3).address) e in
    omega (arith, a, ap (λ (c : Capability). c.address) computed.written, ap (λ (c : Capability). c.address) computed.unwritten)

pub unsound_between : SoundBetween 2 board revoked loader → ⊥
unsound_between h = run_not_steps (run_after_lem board revoked 2 loader computed.first_accepted h (omega arith))
