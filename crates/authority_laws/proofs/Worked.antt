-- The worked machine may start, and its run leaves in a register and in memory a tagged capability that stood nowhere before: the claim is not idle.
-- Assumes nothing.
use mathlib.Core.Path.{◌≡◌, refl, sym}
use mathlib.Core.Bool.{not}
use Prim.Native.Nat.{◌*◌}
use native.Mathlib.Omega.{arith}
use lib.ListN.{length}
use Rattle.words.specs.Words.{sign_extend, le_bytes, set_bytes, bit_at, with_bit, put_bit}
use Rattle.metadata.specs.Word.{permissions_of, type_of, scale_of, top_of, base_of, with_bounds}
use Rattle.metadata.specs.Rights.{rights_of}
use Rattle.bounds.specs.Bounds.{exponent_of, low_of, high_of, low_at, high_at}
use Rattle.bounds.specs.Cutting.{floor_at, ceil_at, fits_at, first_fit, cut_exponent, scale_field, cut_base, cut_top, with_cut}
use Rattle.capability.specs.Capability.{low, high, rights, sealed, tagged, covers, same_bounds, move_of, set_bounds_of}
use Rattle.capability.specs.Loading.{lose_global, lose_mutable, lose_tag, loaded_of, revocable}
use Rattle.instructions.specs.Fields.{immediate_i, immediate_s}
use Rattle.instructions.specs.Decode.{load_of, store_of, capability_of, decode_of}
use Rattle.state.specs.Registers.{capability_at, integer_at, set_capability, write_register}
use Rattle.state.specs.Lent.{State}
use Rattle.state.specs.Memory.{place_of, capability_in, revocation_at, granule_bytes}
use Rattle.state.specs.Checks.{checked, access_cause}
use Rattle.memory_instructions.specs.Access.{revoked_value, filtered, load_capability_at, load_capability_effect}
use Rattle.memory_instructions.specs.Access.{store_capability_check, store_capability_at, store_capability_effect, memory_effect}
use Rattle.capability_instructions.specs.Derivation.{equal_exact, capability_effect}
use Rattle.state.specs.Marks.{cleared, below_mark, marked}
use Rattle.state.specs.Timer.{time_of, compare_of, interrupted, ticked}
use Rattle.commit.specs.Commit.{advanced, retagged, stored_capability, apply_effect, retires}
use Rattle.fetch.specs.Fetch.{second_of, stands_of, fetched_at, fetch_of}
use Rattle.execution.specs.Step.{met_of, effect_of, instruction_in, word_in, length_in, trap_or, effect_in, step_of}
use Rattle.machine.specs.Refusals.{good_memory, good_window, good_tags, good_zero, good_words, good_bits, good_edition, refusal_of}
use Rattle.machine.specs.Refusals.{sound, sound_if_tagged, good_bounds}
use Rattle.machine.specs.Run.{one_more, iterate, run_after}
use Rattle.authority_laws.specs.Gain.{in_register, in_granule, Held, Start, Derived}
use Rattle.authority_laws.specs.Worked.{board, revoked, kept, piece, worked}
use Rattle.authority_laws.proofs.Tests.{standing, if_tagged, below, tested_start}
use Rattle.authority_laws.proofs.Runs.{run_gains_none}

-- it meets every hypothesis, and is not refused
pub worked_starts : Start worked
unfolding if_tagged below worked set_capability set_bytes le_bytes bit_at capability_at capability_in tagged low high low_at high_at low_of high_of
    exponent_of scale_of top_of base_of
worked_starts = tested_start worked (tt, tt) tt tt tt

pub worked_runs : refusal_of 3 board revoked worked ≡ 0
unfolding worked set_capability set_bytes refusal_of good_memory good_tags good_zero good_words good_window good_bits good_edition sound sound_if_tagged
    good_bounds capability_at tagged low high low_at high_at low_of high_of exponent_of scale_of top_of base_of
worked_runs = refl

-- a tagged capability stands in its memory
pub kept_before : Held worked kept
unfolding worked set_capability set_bytes le_bytes bit_at capability_in
kept_before = record { stands = in_granule 1 (omega arith) refl; is_tagged = refl }

-- the piece stands nowhere
pub no_piece_before : Held worked piece → ⊥
unfolding worked equal_exact set_capability set_bytes le_bytes bit_at capability_at capability_in
no_piece_before k = standing (λ c. not (equal_exact c piece)) worked (tt, tt) piece k.stands

-- ---- after three steps

abbrev pub ended : State
ended = run_after 3 board revoked worked

record Computed : Type 0 where
  in_c3 : capability_at ended.regs 3 ≡ piece
  in_memory : capability_in ended.mem ended.tags (4 * granule_bytes) ≡ piece
  size_is : length ended.mem ≡ 64

computed : Computed
unfolding worked run_after iterate one_more refusal_of good_memory good_tags good_zero good_words good_window good_bits good_edition sound sound_if_tagged
    good_bounds
    step_of met_of interrupted
    time_of compare_of ticked cleared below_mark marked effect_in trap_or length_in
    instruction_in word_in fetch_of fetched_at stands_of second_of effect_of apply_effect retires set_capability write_register advanced retagged
    stored_capability revoked_value filtered load_capability_at load_capability_effect store_capability_check store_capability_at store_capability_effect
    memory_effect capability_effect checked access_cause place_of capability_in revocation_at capability_at integer_at load_of store_of capability_of decode_of
    immediate_i immediate_s lose_global lose_mutable lose_tag loaded_of revocable low high rights sealed tagged covers same_bounds move_of set_bounds_of
    floor_at
    ceil_at fits_at first_fit cut_exponent scale_field cut_base cut_top with_cut with_bounds exponent_of low_of high_of low_at high_at rights_of permissions_of
    type_of
    scale_of top_of base_of sign_extend le_bytes set_bytes bit_at with_bit put_bit
computed = record { in_c3 = refl; in_memory = refl; size_is = refl }

-- it stands in a register and in memory
pub piece_after : Held ended piece
piece_after = record { stands = in_register 3 (omega arith) (sym computed.in_c3); is_tagged = refl }

pub piece_stored : Held ended piece
piece_stored = record { stands = in_granule 4 (omega (arith, computed.size_is)) (sym computed.in_memory); is_tagged = refl }

-- and is derived from something that was held
pub piece_derived : Derived worked piece
piece_derived = (run_gains_none board revoked 3 worked worked_starts).derived piece piece_after
