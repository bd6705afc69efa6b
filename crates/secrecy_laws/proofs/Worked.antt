-- The worked machines run alike, by the answer of the search; with a capability that may load what is hidden they do not; a compartment that has authority over
-- itself stays; a machine that loads past bounds is shut out. Assumes nothing.
use Rattle.std.specs.Prelude.{Some, None, Ok}
use mathlib.Core.Path.{◌≡◌, refl, sym, ap, ◌∙◌}
use mathlib.Core.List.{List}
use Prim.Native.Nat.{ℕ, ◌+◌, ◌*◌, ◌/◌, ◌^◌, ◌≤◌, ◌<◌}
use native.Mathlib.Omega.{arith}
use lib.Dec.{ltb}
use lib.ListN.{get_or}
use borrow.Author.Tests.{le-leb, lt-ltb, ltb-true, ltb-false}
use mathlib.Core.Bool.{false, true≢false}
use Rattle.words.specs.Words.{sign_extend, le_bytes, set_bytes, bit_at, with_bit, put_bit}
use Rattle.words.proofs.Word.{by_test}
use Rattle.words.proofs.Bytes.{length_set_bytes, get_d_set_bytes_other}
use Rattle.words.proofs.Bits.{length_put_bit, bit_at_put_bit_other}
use Rattle.metadata.specs.Word.{permissions_of, type_of, scale_of, top_of, base_of}
use Rattle.metadata.specs.Rights.{SD, LD, rights_of}
use Rattle.bounds.specs.Bounds.{exponent_of, low_of, high_of, low_at, high_at}
use Rattle.capability.specs.Capability.{integer, low, high, rights, sealed, tagged, covers, same_bounds, move_of}
use Rattle.instructions.specs.Fields.{immediate_i, immediate_s}
use Rattle.instructions.specs.Decode.{load_of, store_of, capability_of, decode_of}
use Rattle.short_forms.specs.Standing.{long_bytes}
use Rattle.state.specs.Registers.{capability_at, integer_at, set_capability, write_register}
use Rattle.state.specs.Memory.{place_of, capability_in, granule_bytes}
use Rattle.state.specs.Checks.{checked, access_cause}
use Rattle.state.specs.Addresses.{legalized}
use Rattle.state.specs.Status.{trap_status}
use Rattle.state.specs.Marks.{cleared, below_mark, marked}
use Rattle.state.specs.Timer.{time_of, compare_of, interrupted, ticked}
use Rattle.state.specs.Lent.{State, state}
use Rattle.state.specs.declared.Effect.TheVariants.{Write}
use Rattle.memory_instructions.specs.Access.{loaded_value, load_at, load_effect, store_at, store_effect, load_capability_effect, memory_effect}
use Rattle.commit.specs.Commit.{advanced, trapped, retagged, stored, apply_effect, retires}
use Rattle.fetch.specs.Fetch.{second_of, stands_of, fetched_at, fetch_of}
use Rattle.execution.specs.Step.{met_of, effect_of, instruction_in, word_in, length_in, trap_or, effect_in, step_of}
use Rattle.machine.specs.Refusals.{good_memory, good_window, good_tags, good_zero, good_words, good_bits, good_edition, refusal_of}
use Rattle.machine.specs.Refusals.{sound, sound_if_tagged, good_bounds}
use Rattle.machine.specs.Run.{step_refusal, one_more, iterate, ran_from}
use Rattle.machine_laws.specs.Fits.{InType}
use Rattle.authority_laws.specs.Worked.{board, revoked}
use Rattle.authority_laws.proofs.Tests.{if_tagged, below, tested_start}
use Rattle.integrity_laws.specs.Integrity.{Stays}
use Rattle.reach.specs.Reach.{reaches_into, capability_is, first_of, first_reach, asked_refusal, reach_refusal, reach_answer, query_of}
use Rattle.reach.specs.Outside.{passes_outside, first_outside, outside_refusal, outside_answer}
use Rattle.secrecy_laws.specs.Outside.{Alike}
use Rattle.secrecy_laws.specs.Secrecy.{AlikeRuns}
use Rattle.secrecy_laws.specs.Worked.{hidden, one, other, one_open, other_open, alone}
use Rattle.secrecy_laws.proofs.Answers.{outside_secrecy_claim, outside_isolation_claim}

-- ---- the hypotheses

in_types : InType one
unfolding if_tagged below one set_capability set_bytes le_bytes bit_at capability_at capability_in tagged low high low_at high_at low_of high_of
    exponent_of scale_of top_of base_of
in_types = (tested_start one (tt, tt) tt tt tt).in_type

pub one_runs : step_refusal board revoked one ≡ 0
unfolding one set_capability set_bytes refusal_of good_memory good_tags good_zero good_words good_window good_bits good_edition sound sound_if_tagged
    good_bounds capability_at tagged low high low_at high_at low_of high_of exponent_of scale_of top_of base_of
one_runs = refl

-- what may load there stands there alone: outside the range there is nothing, in all of the state granule 4, place 25
pub one_clear : outside_answer 0x20000000 (query_of 0x20000020 0x20 (2 ^ LD)) 0 one ≡ Ok None
unfolding one outside_answer outside_refusal reach_refusal asked_refusal first_outside passes_outside first_of capability_is reaches_into good_memory good_bits
    good_tags good_zero good_words set_capability set_bytes le_bytes bit_at capability_at capability_in tagged sound low high rights low_at high_at low_of
    high_of
    exponent_of scale_of top_of base_of rights_of permissions_of
one_clear = refl

pub one_holds : reach_answer 0x20000000 (query_of 0x20000020 0x20 (2 ^ LD)) 0 one ≡ Ok (Some 25)
unfolding one reach_answer reach_refusal asked_refusal first_reach first_of capability_is reaches_into good_memory good_bits good_tags good_zero good_words
    set_capability
    set_bytes le_bytes bit_at capability_at capability_in tagged sound low high rights low_at high_at low_of high_of exponent_of scale_of top_of base_of
    rights_of
    permissions_of
one_holds = refl

-- a byte of a granule that is not hidden is none of bytes 48 to 51
apart : (i : ℕ) → hidden (i / granule_bytes) ≡ false → 48 ≤ i → 52 ≤ i
apart i h l =
    by_test (ltb i 52)
    (λ t. let u = ltb-true i 52 t in
    let x = le-leb 0x20000020 (0x20000000 + i / granule_bytes * granule_bytes) (omega arith) in
    let y = lt-ltb (0x20000000 + i / granule_bytes * granule_bytes) 0x20000040 (omega arith) in
    absurd (true≢false (rw (x, y) at h)))
    (λ t. ltb-false i 52 t)

-- so a state is alike one with that word and no tag in granule 4
changed_alike : (s : State) → Alike hidden s (state s.regs (set_bytes 4 s.mem 48 7) (put_bit s.tags 4 0))
changed_alike s =
    record {
      same_registers = refl;
      same_size = sym (length_set_bytes 4 s.mem 48 7);
      same_tag_size = sym (length_put_bit s.tags 4 0);
      same_byte = λ i h. sym (get_d_set_bytes_other 4 s.mem 48 7 i (λ l. apart i h l));
      same_tag = λ g h. sym (bit_at_put_bit_other s.tags 4 0 g (λ e. true≢false (rw e at h)));
    }

pub one_other : Alike hidden one other
unfolding one other
one_other = changed_alike one

-- ---- the run

-- so they run alike, by the answer alone
pub one_secret : (n : ℕ) → AlikeRuns hidden board revoked one other (ran_from n board revoked one) (ran_from n board revoked other)
one_secret n = (outside_secrecy_claim 0x20000000 0x20000020 0x20 one in_types one_clear other one_other).after_steps n board revoked one_runs refl

-- c2 is 42 and is stored at 40; the third step traps: it may not load
pub one_told : ((ran_from 3 board revoked one).retired ≡ 2) × ((ran_from 3 board revoked one).trapped ≡ 1)
    × (get_or one.mem 40 0 ≡ 0) × (get_or (ran_from 3 board revoked one).at.mem 40 0 ≡ 42)
unfolding one iterate one_more step_of met_of interrupted time_of compare_of ticked cleared below_mark marked effect_in trap_or length_in
    instruction_in word_in fetch_of fetched_at stands_of second_of effect_of apply_effect retires set_capability write_register advanced trapped retagged
    stored loaded_value load_at load_effect store_at store_effect load_capability_effect memory_effect checked access_cause place_of capability_in
    capability_at integer_at
    load_of store_of capability_of decode_of immediate_i immediate_s low high rights sealed tagged covers same_bounds move_of legalized trap_status exponent_of
    low_of
    high_of low_at high_at rights_of permissions_of type_of scale_of top_of base_of sign_extend le_bytes set_bytes bit_at with_bit put_bit
one_told = (refl, refl, refl, refl)

-- ---- isolation

alone_types : InType alone
unfolding if_tagged below alone set_capability set_bytes le_bytes bit_at capability_at capability_in tagged low high low_at high_at low_of high_of
    exponent_of scale_of top_of base_of
alone_types = (tested_start alone (tt, tt) tt tt tt).in_type

pub alone_runs : step_refusal board revoked alone ≡ 0
unfolding alone set_capability set_bytes refusal_of good_memory good_tags good_zero good_words good_window good_bits good_edition sound sound_if_tagged
    good_bounds capability_at tagged low high low_at high_at low_of high_of exponent_of scale_of top_of base_of
alone_runs = refl

-- granule 4 alone has authority over the second half: nothing outside it has, though integrity counts it
pub alone_unread : outside_answer 0x20000000 (query_of 0x20000020 0x20 (2 ^ LD)) 0 alone ≡ Ok None
unfolding alone outside_answer outside_refusal reach_refusal asked_refusal first_outside passes_outside first_of capability_is reaches_into good_memory
    good_bits
    good_tags good_zero good_words set_capability set_bytes le_bytes bit_at capability_at capability_in tagged sound low high rights low_at high_at low_of
    high_of
    exponent_of scale_of top_of base_of rights_of permissions_of
alone_unread = refl

pub alone_unwritten : outside_answer 0x20000000 (query_of 0x20000020 0x20 (2 ^ SD)) 0 alone ≡ Ok None
unfolding alone outside_answer outside_refusal reach_refusal asked_refusal first_outside passes_outside first_of capability_is reaches_into good_memory
    good_bits
    good_tags good_zero good_words set_capability set_bytes le_bytes bit_at capability_at capability_in tagged sound low high rights low_at high_at low_of
    high_of
    exponent_of scale_of top_of base_of rights_of permissions_of
alone_unwritten = refl

pub alone_counted : reach_answer 0x20000000 (query_of 0x20000020 0x20 (2 ^ SD)) 0 alone ≡ Ok (Some 25)
unfolding alone reach_answer reach_refusal asked_refusal first_reach first_of capability_is reaches_into good_memory good_bits good_tags good_zero good_words
    set_capability
    set_bytes le_bytes bit_at capability_at capability_in tagged sound low high rights low_at high_at low_of high_of exponent_of scale_of top_of base_of
    rights_of
    permissions_of
alone_counted = refl

-- so it stays
pub alone_stays : (n i : ℕ) → 32 ≤ i → i < 64 → Stays i alone (ran_from n board revoked alone).at
alone_stays n i l u =
    (outside_isolation_claim 0x20000000 0x20000020 0x20 alone alone_types alone_unread alone_unwritten).stays.after_steps n board revoked alone_runs i
    (record { from = omega arith; to = omega arith }) refl

-- the program tries: its store to the first hidden byte traps, and what stood there stands there, with its tag
pub alone_told : ((ran_from 2 board revoked alone).retired ≡ 1) × ((ran_from 2 board revoked alone).trapped ≡ 1)
    × (get_or alone.mem 32 0 ≡ 0x30) × (get_or (ran_from 2 board revoked alone).at.mem 32 0 ≡ 0x30)
    × (bit_at (ran_from 2 board revoked alone).at.tags 4 ≡ 1)
unfolding alone iterate one_more step_of met_of interrupted time_of compare_of ticked cleared below_mark marked effect_in trap_or length_in
    instruction_in word_in fetch_of fetched_at stands_of second_of effect_of apply_effect retires set_capability write_register advanced trapped retagged
    stored loaded_value load_at load_effect store_at store_effect memory_effect checked access_cause place_of capability_in capability_at integer_at
    load_of store_of decode_of immediate_i immediate_s low high rights sealed tagged covers same_bounds move_of legalized trap_status exponent_of low_of
    high_of low_at high_at rights_of permissions_of type_of scale_of top_of base_of sign_extend le_bytes set_bytes bit_at with_bit put_bit
alone_told = (refl, refl, refl, refl, refl)

-- ---- that the hypothesis is needed

-- with c1 for all of memory two states run that are alike
pub open_runs : step_refusal board revoked one_open ≡ 0
unfolding one_open set_capability set_bytes refusal_of good_memory good_tags good_zero good_words good_window good_bits good_edition sound sound_if_tagged
    good_bounds capability_at tagged low high low_at high_at low_of high_of exponent_of scale_of top_of base_of
open_runs = refl

pub open_other : Alike hidden one_open other_open
unfolding one_open other_open
open_other = changed_alike one_open

-- the search finds it, and c2 tells one from the other after one step: they do not run alike
pub open_found : outside_answer 0x20000000 (query_of 0x20000020 0x20 (2 ^ LD)) 0 one_open ≡ Ok (Some 1)
unfolding one_open outside_answer outside_refusal reach_refusal asked_refusal first_outside passes_outside first_of capability_is reaches_into good_memory
    good_bits
    good_tags good_zero good_words set_capability set_bytes le_bytes bit_at capability_at capability_in tagged sound low high rights low_at high_at low_of
    high_of
    exponent_of scale_of top_of base_of rights_of permissions_of
open_found = refl

pub open_tells : (integer_at (step_of board revoked one_open).regs 2 ≡ 0) × (integer_at (step_of board revoked other_open).regs 2 ≡ 7)
unfolding one_open other_open step_of met_of interrupted time_of compare_of ticked cleared below_mark marked effect_in trap_or length_in
    instruction_in word_in fetch_of fetched_at stands_of second_of effect_of apply_effect retires set_capability write_register advanced
    loaded_value load_at load_effect memory_effect checked access_cause place_of capability_at integer_at load_of decode_of
    immediate_i low high rights sealed tagged covers same_bounds move_of exponent_of low_of high_of low_at high_at rights_of permissions_of type_of
    scale_of top_of base_of sign_extend le_bytes set_bytes with_bit put_bit
open_tells = (refl, refl)

pub open_shut_out : AlikeRuns hidden board revoked one_open other_open (ran_from 1 board revoked one_open) (ran_from 1 board revoked other_open) → ⊥
unfolding iterate one_more
open_shut_out k =
    let e : integer_at (step_of board revoked one_open).regs 2 ≡ integer_at (step_of board revoked other_open).regs 2
    = ap (λ (r : List ℕ). integer_at r 2) k.alike.same_registers in
    omega (arith, sym open_tells.0 ∙ e ∙ open_tells.1)

-- ---- a wrong machine

-- one that loads past bounds
abbrev loaded : State → State
loaded s = apply_effect board.start long_bytes (Write 2 (integer (le_bytes 4 s.mem 48))) s

pub loose_load_shut_out : Alike hidden (loaded one) (loaded other) → ⊥
unfolding one other apply_effect ticked time_of cleared below_mark marked advanced write_register set_capability capability_at integer_at set_bytes le_bytes
    same_bounds move_of low high low_at high_at low_of high_of exponent_of scale_of top_of base_of sealed type_of
loose_load_shut_out k = let e : ◌≡◌ {A = ℕ} 0 7 = ap (λ (r : List ℕ). integer_at r 2) k.same_registers in omega (arith, e)
