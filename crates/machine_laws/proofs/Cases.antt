-- The worked cases hold: antt computes each row's step from the definitions. Assumes nothing.
use Rattle.words.specs.Words.{sign_extend, le_bytes, set_bytes, bit_at, with_bit, put_bit}
use Rattle.metadata.specs.Word.{permissions_of, type_of, scale_of, top_of, base_of, with_type}
use Rattle.metadata.specs.Rights.{rights_of}
use Rattle.bounds.specs.Bounds.{exponent_of, low_of, high_of, low_at, high_at}
use Rattle.capability.specs.Capability.{high, rights, sealed, tagged, covers, same_bounds, move_of}
use Rattle.capability.specs.Sealing.{is_sentry, with_object_type}
use Rattle.capability.specs.Loading.{lose_global, lose_mutable, lose_tag, loaded_of, revocable}
use Rattle.instructions.specs.Fields.{immediate_i, immediate_s, immediate_j}
use Rattle.instructions.specs.Decode.{csr_register_of, csr_of}
use Rattle.instructions.specs.Decode.{load_of, store_of, alu_of, op_imm_of, op32_of, op_by_of, op_of, jal_of, jalr_of, capability_of, whole_of, system_of}
use Rattle.instructions.specs.Decode.{decode_of}
use Rattle.capability_instructions.specs.Derivation as Derivations
use Rattle.state.specs.Registers.{capability_at, integer_at, write_register}
use Rattle.state.specs.Addresses.{legalized}
use Rattle.state.specs.Status.{trap_status}
use Rattle.state.specs.Marks.{cleared, below_mark, marked}
use Rattle.state.specs.Timer.{time_of, compare_of, interrupted, ticked}
use Rattle.state.specs.Memory.{place_of, capability_in, revocation_at}
use Rattle.state.specs.Checks.{checked, access_cause, system_access}
use Rattle.integer_instructions.specs.Integer as Integers
use Rattle.memory_instructions.specs.Access.{load_at, load_effect, store_at, store_effect, revoked_value, filtered, load_capability_at, load_capability_effect}
use Rattle.memory_instructions.specs.Access.{store_capability_check, store_capability_at, store_capability_effect, memory_effect}
use Rattle.jump_instructions.specs.Editions.{accepts, link_type, report_status, jump_status}
use Rattle.jump_instructions.specs.Jumps.{link_of, aligned, target_cause, jal_effect, jalr_cause, jalr_effect, jump_effect}
use Rattle.system_instructions.specs.System.{csr_asked, csr_written, csr_writes, csr_write, csr_effect, system_effect}
use Rattle.commit.specs.Commit.{advanced, trapped, jumped, with_csr, stored, retagged, stored_capability, apply_effect}
use Rattle.short_forms.specs.Fields.{immediate_wide, immediate_six, offset_jump}
use Rattle.short_forms.specs.Forms.{addi4spn_of, quadrant0, two_of, arithmetic_of, quadrant1, moves_of, registers_of, quadrant2, short_of}
use Rattle.short_forms.specs.Long.{word_r, word_i, word_j, unless_hint, long_of, long_form}
use Rattle.fetch.specs.Fetch.{shut_out, second_of, stands_of, fetched_at, fetch_of}
use Rattle.execution.specs.Step.{met_of, effect_of, instruction_in, word_in, length_in, trap_or, effect_in, step_of}
use Rattle.machine.specs.Refusals.{good_memory, good_window, good_tags, good_zero, good_words, good_bits, good_edition, refusal_of}
use Rattle.machine.specs.Refusals.{sound, sound_if_tagged, good_bounds}
use Rattle.capability.specs.Capability.{low}
use Rattle.state.specs.Registers.{set_capability}
use Rattle.commit.specs.Commit.{retires}
use Rattle.machine.specs.Run.{step_answer, step_after}
use Rattle.machine_laws.specs.Cases.{Hold, end, ◌&◌, holds, found, put, before, cases, short_cases, token_cases, timer_cases}
use Rattle.machine_laws.specs.Cases.{top_of_memory, untagged_load, environment_call}

pub cases_hold : Hold cases × Hold short_cases × Hold token_cases × Hold timer_cases
unfolding holds found put before cases short_cases token_cases timer_cases top_of_memory untagged_load environment_call step_answer step_after refusal_of
    good_memory good_tags good_zero good_words good_window good_bits good_edition sound sound_if_tagged good_bounds step_of met_of interrupted time_of
    compare_of ticked
    cleared below_mark marked csr_register_of csr_of csr_asked csr_written csr_writes csr_write csr_effect effect_in trap_or length_in instruction_in word_in
    fetch_of
    fetched_at stands_of second_of shut_out short_of quadrant0 quadrant1 quadrant2 two_of arithmetic_of unless_hint immediate_wide jalr_cause accepts link_type
    report_status jump_status jalr_effect jalr_of is_sentry addi4spn_of moves_of registers_of immediate_six offset_jump long_form long_of word_r word_i word_j
    capability_of
    op32_of op_by_of op_of Derivations.capability_effect effect_of apply_effect retires set_capability write_register advanced trapped jumped with_csr stored
    retagged
    stored_capability system_effect link_of aligned target_cause jal_effect jump_effect load_at load_effect store_at store_effect revoked_value filtered
    load_capability_at load_capability_effect store_capability_check store_capability_at store_capability_effect memory_effect Integers.alu_of
    Integers.integer_effect
    checked access_cause system_access place_of capability_in revocation_at capability_at integer_at trap_status legalized load_of store_of alu_of op_imm_of
    jal_of
    whole_of system_of decode_of immediate_i immediate_s immediate_j lose_global lose_mutable lose_tag loaded_of revocable with_object_type low high rights
    sealed
    tagged covers same_bounds move_of exponent_of low_of high_of low_at high_at rights_of permissions_of type_of scale_of top_of base_of with_type sign_extend
    le_bytes
    set_bytes bit_at with_bit put_bit
cases_hold = (
  tt & tt & tt & tt & tt & tt & tt & tt & tt & tt & tt & tt & end,
  tt & tt & tt & tt & tt & tt & tt & tt & tt & tt & tt & end,
  tt & tt & end,
  tt & tt & tt & tt & tt & tt & tt & tt & tt & tt & tt & tt & end,
)
