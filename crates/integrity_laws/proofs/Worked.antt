-- The guarded machine meets every hypothesis, stores what it may, and leaves what it may not; a machine that stores past bounds is shut out. Assumes nothing.
use Rattle.std.specs.Prelude.{Some, None, Ok}
use mathlib.Core.Path.{◌≡◌, refl}
use Prim.Native.Nat.{ℕ, ◌^◌, ◌≤◌, ◌<◌}
use native.Mathlib.Omega.{arith}
use lib.ListN.{get_or}
use Rattle.words.specs.Words.{sign_extend, le_bytes, set_bytes, bit_at, with_bit, put_bit}
use Rattle.metadata.specs.Word.{permissions_of, type_of, scale_of, top_of, base_of}
use Rattle.metadata.specs.Rights.{SD, LD, rights_of}
use Rattle.bounds.specs.Bounds.{exponent_of, low_of, high_of, low_at, high_at}
use Rattle.capability.specs.Capability.{low, high, rights, sealed, tagged, covers, same_bounds, move_of}
use Rattle.instructions.specs.Fields.{immediate_i, immediate_s}
use Rattle.instructions.specs.Decode.{load_of, store_of, capability_of, decode_of}
use Rattle.instructions.specs.declared.StoreKind.TheVariants.{Sw}
use Rattle.short_forms.specs.Standing.{long_bytes}
use Rattle.state.specs.Registers.{capability_at, integer_at, set_capability, write_register}
use Rattle.state.specs.Memory.{place_of, capability_in}
use Rattle.state.specs.Checks.{checked, access_cause}
use Rattle.state.specs.Marks.{cleared, below_mark, marked}
use Rattle.state.specs.Timer.{time_of, compare_of, interrupted, ticked}
use Rattle.state.specs.declared.Effect.TheVariants.{Store}
use Rattle.memory_instructions.specs.Access.{store_at, store_effect, memory_effect}
use Rattle.commit.specs.Commit.{advanced, retagged, stored, apply_effect, retires}
use Rattle.fetch.specs.Fetch.{second_of, stands_of, fetched_at, fetch_of}
use Rattle.execution.specs.Step.{met_of, effect_of, instruction_in, word_in, length_in, trap_or, effect_in, step_of}
use Rattle.machine.specs.Refusals.{good_memory, good_window, good_tags, good_zero, good_words, good_bits, good_edition, refusal_of}
use Rattle.machine.specs.Refusals.{sound, sound_if_tagged, good_bounds}
use Rattle.machine.specs.Run.{step_refusal, one_more, iterate, ran_from}
use Rattle.reach.specs.Reach.{reaches_into, capability_is, first_of, first_reach, asked_refusal, reach_refusal, reach_answer, query_of}
use Rattle.authority_laws.specs.Gain.{Start}
use Rattle.authority_laws.specs.Worked.{board, revoked}
use Rattle.authority_laws.proofs.Tests.{if_tagged, below, tested_start}
use Rattle.integrity_laws.specs.Integrity.{Stays}
use Rattle.integrity_laws.specs.Worked.{guarded}
use Rattle.integrity_laws.proofs.Reach.{reach_claim}

-- it may start, and is not refused
pub guarded_starts : Start guarded
unfolding if_tagged below guarded set_capability set_bytes le_bytes bit_at capability_at capability_in tagged low high low_at high_at low_of high_of
    exponent_of scale_of top_of base_of
guarded_starts = tested_start guarded (tt, tt) tt tt tt

pub guarded_runs : step_refusal board revoked guarded ≡ 0
unfolding guarded set_capability set_bytes refusal_of good_memory good_tags good_zero good_words good_window good_bits good_edition sound sound_if_tagged
    good_bounds capability_at tagged low high low_at high_at low_of high_of exponent_of scale_of top_of base_of
guarded_runs = refl

-- ---- the test, computed

-- nothing may store from 0x20000020 on; c1 is the first that may from 0x2000001F on; and PCC, number 16, the first that may load there
pub guarded_nowhere : reach_answer 0x20000000 (query_of 0x20000020 0x20 (2 ^ SD)) 0 guarded ≡ Ok None
unfolding guarded reach_answer reach_refusal asked_refusal first_reach capability_is reaches_into first_of good_memory good_bits good_tags good_zero good_words
    set_capability set_bytes le_bytes bit_at capability_at capability_in tagged sound low high rights low_at high_at low_of high_of exponent_of scale_of top_of
    base_of
    rights_of permissions_of
guarded_nowhere = refl

pub guarded_found : reach_answer 0x20000000 (query_of 0x2000001F 0x21 (2 ^ SD)) 0 guarded ≡ Ok (Some 1)
unfolding guarded reach_answer reach_refusal asked_refusal first_reach capability_is reaches_into first_of good_memory good_bits good_tags good_zero good_words
    set_capability set_bytes le_bytes bit_at capability_at capability_in tagged sound low high rights low_at high_at low_of high_of exponent_of scale_of top_of
    base_of
    rights_of permissions_of
guarded_found = refl

pub guarded_loads : reach_answer 0x20000000 (query_of 0x20000020 0x20 (2 ^ LD)) 0 guarded ≡ Ok (Some 16)
unfolding guarded reach_answer reach_refusal asked_refusal first_reach capability_is reaches_into first_of good_memory good_bits good_tags good_zero good_words
    set_capability set_bytes le_bytes bit_at capability_at capability_in tagged sound low high rights low_at high_at low_of high_of exponent_of scale_of top_of
    base_of
    rights_of permissions_of
guarded_loads = refl

-- ---- the run

-- so after any number of steps its last 32 bytes are what they were
pub guarded_stays : (n i : ℕ) → 32 ≤ i → i < 64 → Stays i guarded (ran_from n board revoked guarded).at
guarded_stays n i l u =
    (reach_claim 0x20000000 (query_of 0x20000020 0x20 (2 ^ SD)) refl guarded guarded_starts.in_type guarded_nowhere).after_steps n board revoked refl
    guarded_runs i (record { from = omega arith; to = omega arith })

-- while byte 24, which it may write, is 42 after the first
pub guarded_stores : (get_or guarded.mem 24 0 ≡ 0) × (get_or (ran_from 2 board revoked guarded).at.mem 24 0 ≡ 42)
unfolding guarded iterate one_more step_of met_of interrupted time_of compare_of ticked cleared below_mark marked effect_in trap_or length_in
    instruction_in word_in fetch_of fetched_at stands_of second_of effect_of apply_effect retires set_capability write_register advanced retagged
    stored store_at store_effect memory_effect checked access_cause place_of capability_in capability_at integer_at load_of store_of capability_of decode_of
    immediate_i immediate_s low high rights sealed tagged covers same_bounds move_of exponent_of low_of high_of low_at high_at rights_of permissions_of type_of
    scale_of top_of base_of sign_extend le_bytes set_bytes bit_at with_bit put_bit
guarded_stores = (refl, refl)

-- ---- a wrong machine

-- one that stores past bounds, as the second instruction asks
pub loose_store_shut_out : Stays 32 guarded (apply_effect board.start long_bytes (Store Sw 32 42) guarded) → ⊥
unfolding guarded apply_effect ticked time_of below_mark marked cleared write_register advanced set_capability capability_at stored retagged set_bytes with_bit
    put_bit
loose_store_shut_out s = omega (arith, s.same_byte)
