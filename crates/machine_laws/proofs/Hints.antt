-- A hint changes nothing but PCC and time: its effect is no write, or one to register 0, which is dropped. Assumes nothing.
use mathlib.Core.Path.{◌≡◌, refl, ◌∙◌}
use mathlib.Core.Bool.{true}
use mathlib.Core.List.{List}
use Prim.Native.Nat.{ℕ, ◌+◌, ◌≤◌}
use native.Mathlib.Omega.{arith}
use lib.Dec.{ltb}
use lib.ListN.{get_or, length}
use borrow.Author.Tests.{ltb-true, ltb-false}
use Rattle.words.proofs.Word.{by_test}
use Rattle.capability.specs.declared.Capability.{Capability}
use Rattle.instructions.specs.Decode.{decode_of}
use Rattle.instructions.specs.declared.Instruction.{Instruction}
use Rattle.short_forms.specs.Hints.{Hint, of_lui, of_auipc, of_op_imm, of_op, of_multiply, of_divide, of_fence}
use Rattle.short_forms.specs.Long.{long_form}
use Rattle.short_forms.specs.Standing.{half_bytes, long_bytes}
use Rattle.short_forms.proofs.Hints.{half_hint}
use Rattle.state.specs.Layout.{time_index}
use Rattle.state.specs.Registers.{write_register}
use Rattle.state.specs.Timer.{ticked}
use Rattle.state.specs.Effects.{Stored, nothing, stored_by}
use Rattle.state.specs.Lent.{Lent, State, state}
use Rattle.state.specs.declared.Board.{Board}
use Rattle.state.specs.declared.Effect.{Effect}
use Rattle.state.specs.declared.Effect.TheVariants.{Advance, Write}
use Rattle.integer_instructions.specs.Integer.{integer_effect}
use Rattle.capability_instructions.specs.Derivation.{capability_effect}
use Rattle.system_instructions.specs.System.{system_effect}
use Rattle.fetch.specs.declared.Fetched.TheVariants.{Long, Half}
use Rattle.commit.specs.Commit.{advanced, registers_after, marked_by, memory_after, tags_after, apply_effect, retires}
use Rattle.commit.proofs.Lengths.{applied_long}
use Rattle.commit.proofs.Next.{advanced_elsewhere}
use Rattle.commit.proofs.Records.{ticked_below, ticked_above}
use Rattle.execution.specs.Step.{effect_of, instruction_in, word_in, length_in, trap_or, effect_in, seen, fetched_in, effect_at, step_of}
use Rattle.machine_laws.specs.Hints.{HintFetched, OnlyPccAndTime, HintStep}
use Rattle.fetch.specs.Fetch.{Met}
use Rattle.std.specs.Prelude.{Ok, Err}

-- an effect that only moves on
record Idle (e : Effect) : Type 0 where
  stores_none : stored_by e ≡ nothing
  moves_on : (n : ℕ) (regs : List ℕ) → registers_after n e regs ≡ advanced n regs
  idle_retires : retires e ≡ true

none_idle : Idle Advance
unfolding retires
none_idle = record { stores_none = refl; moves_on = λ n regs. refl; idle_retires = refl }

zero_idle : (value : Capability) → Idle (Write 0 value)
unfolding retires write_register
zero_idle value = record { stores_none = refl; moves_on = λ n regs. refl; idle_retires = refl }

hint_idle : (n : ℕ) (i : Instruction) (word : ℕ) (regs : List ℕ) (m : Lent) → Hint i → Idle (effect_of n i word regs m)
unfolding effect_of integer_effect capability_effect system_effect
hint_idle n _ word regs m of_lui = zero_idle _
hint_idle n _ word regs m of_auipc = zero_idle _
hint_idle n _ word regs m of_op_imm = zero_idle _
hint_idle n _ word regs m of_op = zero_idle _
hint_idle n _ word regs m of_multiply = zero_idle _
hint_idle n _ word regs m of_divide = zero_idle _
hint_idle n _ word regs m of_fence = none_idle

fetched_idle : (f : Met) (regs : List ℕ) (m : Lent) → HintFetched f → Idle (effect_in f regs m)
unfolding effect_in trap_or length_in instruction_in word_in
fetched_idle (Err trap) regs m h = absurd h
fetched_idle (Ok (Long w)) regs m h = hint_idle long_bytes (decode_of w) w regs m h
fetched_idle (Ok (Half k)) regs m h = hint_idle half_bytes (decode_of (long_form k)) k regs m (half_hint k h)

-- a word that is none of time's
ticked_other : (l : List ℕ) (i : ℕ) → (i ≡ time_index → ⊥) → (i ≡ time_index + 1 → ⊥) → get_or (ticked l) i 0 ≡ get_or l i 0
ticked_other l i p q =
    by_test (ltb i time_index) (λ t. ticked_below l i (ltb-true i time_index t)) (λ t. ticked_above l i (above (ltb-false i time_index t)))
  where
    above : time_index ≤ i → time_index + 2 ≤ i
    above h = by_test (ltb i (time_index + 2)) (λ t. let b = ltb-true i (time_index + 2) t in absurd (q (omega (arith, p))))
        (λ t. ltb-false i (time_index + 2) t)

-- what stores nothing and only moves on
alone : (start n : ℕ) (x : Stored) (l : List ℕ) (s : State) → x ≡ nothing → l ≡ advanced n s.regs
    → length (ticked (marked_by start x l)) ≡ length s.regs
    → OnlyPccAndTime s (state (ticked (marked_by start x l)) (memory_after x s.mem) (tags_after x s.mem s.tags))
alone start n x l s e f long =
    record {
      same_memory = rw e (record { same_bytes = refl; same_tags = refl });
      same_length = long;
      same_words = λ i p q r. rw (e, f) (ticked_other (advanced n s.regs) i q r ∙ advanced_elsewhere n s.regs i p);
    }

idle_applied : (start n : ℕ) (e : Effect) (s : State) → Idle e → OnlyPccAndTime s (apply_effect start n e s)
unfolding apply_effect
idle_applied start n e s k =
    alone start n (stored_by e) (registers_after n e s.regs) s k.stores_none (k.moves_on n s.regs) (applied_long start n e s).same_registers

pub hint_changes_little : (board : Board) (revoked : List ℕ) (s : State) → HintFetched (fetched_in board s) → HintStep board revoked s
unfolding step_of
hint_changes_little board revoked s h =
    let k = fetched_idle (fetched_in board s) s.regs (seen board revoked s) h in
    record {
      retired = k.idle_retires;
      changed = idle_applied board.start (length_in (fetched_in board s)) (effect_at board revoked s) s k;
    }
