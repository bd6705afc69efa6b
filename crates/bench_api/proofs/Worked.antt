-- The worked run with a watch record: the step is computed from the definitions. Assumes nothing.
use mathlib.Core.Path.{◌≡◌, refl}
use Rattle.words.specs.Words.{sign_extend, le_bytes, set_bytes}
use Rattle.metadata.specs.Word.{permissions_of, type_of, scale_of, top_of, base_of}
use Rattle.metadata.specs.Rights.{rights_of}
use Rattle.bounds.specs.Bounds.{exponent_of, low_of, high_of, low_at, high_at}
use Rattle.capability.specs.Capability.{low, high, rights, sealed, tagged, covers}
use Rattle.watch.specs.Watch.{hits, one_more_hit, range_touched, touched_at}
use Rattle.instructions.specs.Fields.{immediate_s}
use Rattle.instructions.specs.Decode.{store_of, decode_of}
use Rattle.state.specs.Registers.{capability_at, integer_at, set_capability}
use Rattle.state.specs.Marks.{cleared, below_mark, marked}
use Rattle.state.specs.Timer.{time_of, compare_of, interrupted}
use Rattle.state.specs.Memory.{place_of}
use Rattle.state.specs.Checks.{checked, access_cause}
use Rattle.memory_instructions.specs.Access.{store_at, store_effect, memory_effect}
use Rattle.fetch.specs.Fetch.{second_of, stands_of, fetched_at, fetch_of}
use Rattle.execution.specs.Step.{met_of, effect_of, instruction_in, word_in, length_in, trap_or, effect_in}
use Rattle.machine.specs.Refusals.{good_memory, good_window, good_tags, good_zero, good_words, good_bits, good_edition, refusal_of}
use Rattle.machine.specs.Refusals.{sound, sound_if_tagged, good_bounds}
use Rattle.machine.specs.Watching.{watched_by, watch_left}
use Rattle.machine_laws.specs.Cases.{put, before}
use Rattle.bench_api.specs.Worked.{storing, storing_board, storing_bits, storing_from, storing_watch}

pub record StoringCounts : Type 0 where
  pub first_is : (watch_left 1 storing_board storing_bits storing_from storing_watch).first.count ≡ 6
  pub second_is : (watch_left 1 storing_board storing_bits storing_from storing_watch).second.count ≡ 7

pub storing_counts : StoringCounts
unfolding storing put before watch_left watched_by touched_at range_touched hits one_more_hit refusal_of good_memory good_tags good_zero good_words good_window
    good_bits
    good_edition sound sound_if_tagged good_bounds met_of interrupted time_of compare_of cleared below_mark marked effect_in trap_or length_in instruction_in
    word_in
    fetch_of fetched_at stands_of second_of effect_of set_capability store_at store_effect memory_effect checked access_cause place_of capability_at integer_at
    store_of
    decode_of immediate_s low high rights sealed tagged covers exponent_of low_of high_of low_at high_at rights_of permissions_of type_of scale_of top_of
    base_of
    sign_extend le_bytes set_bytes
storing_counts = record { first_is = refl; second_is = refl }
