-- What a step keeps: c0 is NULL, tag words are 0 or 1, no buffer changes its length. So after a step that is not refused only an unsound register is.
-- Assumes nothing.
use mathlib.Core.Path.{◌≡◌, refl, ◌∙◌}
use mathlib.Core.List.{List}
use Prim.Native.Nat.{ℕ, ◌+◌, ◌*◌, ◌≤◌, ◌<◌}
use native.Mathlib.Omega.{arith}
use Rattle.capability.specs.Capability.{move_of}
use Rattle.capability.specs.declared.Capability.{Capability}
use Rattle.capability.proofs.Laws.{move_kept}
use Rattle.state.specs.Layout.{capability_words, capability_count, pcc_index, mtcc_index, mepcc_index}
use Rattle.state.specs.Addresses.{vector_alignment, return_alignment, legalized}
use Rattle.state.specs.Lent.{State}
use Rattle.state.specs.Effects.{GoodTag, GoodTags, GoodEffect}
use Rattle.state.specs.declared.Board.{Board}
use Rattle.state.specs.declared.Effect.{Effect}
use Rattle.state.proofs.Laws.{kept_good, legalized_tag}
use Rattle.commit.specs.Commit.{apply_effect}
use Rattle.commit.proofs.Views.{Any, any_of, each_capability_of}
use Rattle.commit.proofs.Registers.{Holds, Rule, Keeps, keeps_of, each_applied}
use Rattle.commit.proofs.Lengths.{SameLengths, applied_long}
use Rattle.execution.specs.Step.{effect_at, fetched_in, length_in, step_of}
use Rattle.machine.specs.Run.{step_refusal}
use Rattle.machine_laws.specs.Lent.{ZeroRegister, SoundRegisters, GoodState}
use Rattle.machine_laws.proofs.Fetch.{next_good}
use Rattle.machine_laws.proofs.Refusals.{good_of, of_good}

-- ---- c0

-- the words of c0 are 0
abbrev Null : ℕ → ℕ → Type 0
Null i v = i < capability_words → v ≡ 0

-- of another place that says nothing
elsewhere : (i : ℕ) (c : Capability) → 1 ≤ i → Holds Null i c
elsewhere i c h =
    record {
      address_holds = λ b. absurd (omega arith);
      metadata_holds = λ b. absurd (omega arith);
      tag_holds = λ b. absurd (omega arith);
    }

null_rule : Rule Null
null_rule =
    record {
      moved = λ c a b h. elsewhere pcc_index (move_of c a) (omega arith);
      saved = λ c h. elsewhere mepcc_index (legalized return_alignment c) (omega arith);
      entered = λ c h. elsewhere pcc_index (legalized vector_alignment c) (omega arith);
      status = λ m h b. absurd (omega arith);
    }

null_kept : (e : Effect) → Keeps Null e
null_kept e =
    keeps_of Null (λ c. Unit {0}) Any (λ i c l b u. elsewhere i c l) (λ i v l b u k. absurd (omega arith)) e
    (any_of (λ c. Unit {0}) Any (λ c. tt) (λ x. tt) e)

-- a c0 that is NULL before a step is NULL after it
pub c0_stays : (board : Board) (revoked : List ℕ) (s : State) → ZeroRegister s.regs → ZeroRegister (step_of board revoked s).regs
unfolding step_of apply_effect
c0_stays board revoked s h =
    (each_applied Null null_rule (λ i v l w b. absurd (omega arith)) board.start (length_in (fetched_in board s))
    (effect_at board revoked s) s.regs (null_kept (effect_at board revoked s))
    (record { word = h })).word

-- ---- tag words

-- the third word of each capability is 0 or 1
abbrev pub Tag : ℕ → ℕ → Type 0
Tag i v = (k : ℕ) → k < capability_count → i ≡ k * capability_words + 2 → v ≤ 1

tag_holds_of : (i : ℕ) (c : Capability) → GoodTag c → Holds Tag i c
tag_holds_of i c h =
    record {
      address_holds = λ k b e. absurd (omega arith);
      metadata_holds = λ k b e. absurd (omega arith);
      tag_holds = λ k b e. h;
    }

tag_of : (i : ℕ) (c : Capability) → i < capability_count → Holds Tag i c → GoodTag c
tag_of i c b h = h.tag_holds i b refl

tag_rule : Rule Tag
tag_rule =
    record {
      moved = λ c a b h. tag_holds_of pcc_index (move_of c a) (kept_good c (move_of c a) (move_kept c a) (tag_of pcc_index c (omega arith) h));
      saved = λ c h. tag_holds_of mepcc_index (legalized return_alignment c) (legalized_tag return_alignment c (tag_of pcc_index c (omega arith) h));
      entered = λ c h. tag_holds_of pcc_index (legalized vector_alignment c) (legalized_tag vector_alignment c (tag_of mtcc_index c (omega arith) h));
      status = λ m h k b e. absurd (omega arith);
    }

tag_kept : (e : Effect) → GoodEffect e → Keeps Tag e
tag_kept e h =
    keeps_of Tag GoodTag Any (λ i c l b g. tag_holds_of i c g) (λ i v l b u k c q. absurd (omega arith)) e
    (each_capability_of GoodTag (λ x. omega arith) e h)

-- after a step each tag word is 0 or 1, as before
pub tags_stay : (board : Board) (revoked : List ℕ) (s : State) → GoodTags s.regs → GoodTags (step_of board revoked s).regs
unfolding step_of apply_effect
tags_stay board revoked s h =
    let e = each_applied Tag tag_rule (λ i v l w k b q. absurd (omega arith)) board.start (length_in (fetched_in board s))
    (effect_at board revoked s) s.regs (tag_kept (effect_at board revoked s)
    (next_good board revoked s h))
    (record { word = λ i k b q. rw q (h k b) }) in
    λ k b. e.word (k * capability_words + 2) k b refl

-- ---- lengths

pub lengths_stay : (board : Board) (revoked : List ℕ) (s : State) → SameLengths s (step_of board revoked s)
unfolding step_of
lengths_stay board revoked s = applied_long board.start (length_in (fetched_in board s)) (effect_at board revoked s) s

-- ---- all of it

pub good_after : (board : Board) (revoked : List ℕ) (s : State) → GoodState board revoked s → GoodState board revoked (step_of board revoked s)
good_after board revoked s g =
    let l = lengths_stay board revoked s in
    record {
      registers = l.same_registers ∙ g.registers;
      memory = rw l.same_memory g.memory;
      window = rw l.same_memory g.window;
      bits = record { tag_bytes = rw l.same_memory (l.same_tags ∙ g.bits.tag_bytes); revocation_bytes = g.bits.revocation_bytes };
      words = record { tag_words = tags_stay board revoked s g.words.tag_words; c0_words = c0_stays board revoked s g.words.c0_words };
      edition = g.edition;
    }

-- a step of a machine that is not refused leaves one that is not refused, unless it loads what is unsound
pub good_stays : (board : Board) (revoked : List ℕ) (s : State) → step_refusal board revoked s ≡ 0 → SoundRegisters (step_of board revoked s).regs
    → step_refusal board revoked (step_of board revoked s) ≡ 0
good_stays board revoked s h ok =
    of_good board revoked (step_of board revoked s) (good_after board revoked s (good_of board revoked s h)) ok 1 (omega arith)
