-- A trap changes no memory, no tag and no general register. Document 01, "Traps". Assumes nothing.
use mathlib.Core.Path.{◌≡◌, refl, sym, ◌∙◌}
use mathlib.Core.Bool.{false, true≢false}
use mathlib.Core.List.{List}
use Prim.Native.Nat.{ℕ, ◌*◌, ◌≤◌, ◌<◌}
use native.Mathlib.Omega.{arith}
use lib.ListN.{get_or}
use Rattle.capability.specs.Capability.{move_of}
use Rattle.capability.specs.declared.Capability.{Capability}
use Rattle.state.specs.Addresses.{vector_alignment, return_alignment, legalized}
use Rattle.state.specs.Layout.{capability_words, general_count, pcc_index, mepcc_index}
use Rattle.state.specs.declared.Board.{Board}
use Rattle.state.specs.declared.Effect.{Effect}
use Rattle.state.specs.Effects.{Stored, nothing, stored_by, Result, none, writes_of}
use Rattle.state.specs.Lent.{State, state}
use Rattle.state.specs.Timer.{ticked}
use Rattle.commit.specs.Commit.{registers_after, memory_after, tags_after, marked_by, apply_effect, retires}
use Rattle.execution.specs.Step.{length_in, fetched_in, effect_at, step_of}
use Rattle.commit.specs.Touched.{SameMemory}
use Rattle.commit.proofs.Records.{ticked_below}
use Rattle.commit.proofs.Views.{Any, any_beside, any_next, resulted, registers_are, trap_alone}
use Rattle.commit.proofs.Registers.{Holds, Rule, beside_kept, next_kept, each_beyond}

-- the words of c0 to c15 are those of a register file
abbrev Same : List ℕ → ℕ → ℕ → Type 0
Same regs i v = i < pcc_index * capability_words → v ≡ get_or regs i 0

special : (regs : List ℕ) (i : ℕ) (c : Capability) → general_count ≤ i → Holds (Same regs) i c
special regs i c h =
    record {
      address_holds = λ b. absurd (omega arith);
      metadata_holds = λ b. absurd (omega arith);
      tag_holds = λ b. absurd (omega arith);
    }

same_rule : (regs : List ℕ) → Rule (Same regs)
same_rule regs =
    record {
      moved = λ c a b h. special regs pcc_index (move_of c a) (omega arith);
      saved = λ c h. special regs mepcc_index (legalized return_alignment c) (omega arith);
      entered = λ c h. special regs pcc_index (legalized vector_alignment c) (omega arith);
      status = λ m h b. absurd (omega arith);
    }

-- c0 to c15 after an effect are those after its result alone
pub general_after : (n : ℕ) (e : Effect) (regs : List ℕ) (i : ℕ) → i < pcc_index * capability_words
    → get_or (registers_after n e regs) i 0 ≡ get_or (resulted (writes_of e).result regs) i 0
general_after n e regs i h =
    let l = resulted (writes_of e).result regs in
    let C : Capability → Type 0 = λ c. Unit {0} in
    rw (registers_are n e regs)
    ((each_beyond (Same l) (same_rule l) n (writes_of e).beside (writes_of e).next l
    (beside_kept (Same l) C Any (λ i c g b u. special l i c g) (λ i v g b u k. absurd (omega arith)) (writes_of e).beside
    (any_beside C Any (λ c. tt) (λ x. tt) (writes_of e).beside))
    (next_kept (Same l) C Any (λ i c g b u. special l i c g) (λ i v g b u k. absurd (omega arith)) (writes_of e).next
    (any_next C Any (λ c. tt) (λ x. tt) (writes_of e).next))
    (record { word = λ j b. refl })).word i h)

pub record OnlySpecial (before after : State) : Type 0 where
  pub memory_stays : SameMemory before after
  pub registers_stay : (i : ℕ) → i < pcc_index * capability_words → get_or after.regs i 0 ≡ get_or before.regs i 0

-- where the effect stores nothing and has no result, they and memory are the same
alone : (x : Stored) (r : Result) (start : ℕ) (regs : List ℕ) (s : State) → x ≡ nothing → r ≡ none
    → ((i : ℕ) → i < pcc_index * capability_words → get_or regs i 0 ≡ get_or (resulted r s.regs) i 0)
    → OnlySpecial s (state (ticked (marked_by start x regs)) (memory_after x s.mem) (tags_after x s.mem s.tags))
alone x r start regs s p q h =
    rw p (record {
      memory_stays = record { same_bytes = refl; same_tags = refl };
      registers_stay = λ i b. ticked_below regs i (omega arith) ∙ (h i b ∙ rw q refl);
    })

trap_applied : (start n : ℕ) (e : Effect) (s : State) → retires e ≡ false → OnlySpecial s (apply_effect start n e s)
unfolding apply_effect
trap_applied start n e s h =
    let t = trap_alone e (λ r. true≢false (sym r ∙ h)) in
    alone (stored_by e) (writes_of e).result start (registers_after n e s.regs) s t.1 t.0 (general_after n e s.regs)

-- a step that does not retire leaves memory, tags and all three words of c0 to c15 as they are
pub trap_changes_little : (board : Board) (revoked : List ℕ) (s : State) → retires (effect_at board revoked s) ≡ false → OnlySpecial s (step_of board revoked s)
unfolding step_of
trap_changes_little board revoked s h = trap_applied board.start (length_in (fetched_in board s)) (effect_at board revoked s) s h
