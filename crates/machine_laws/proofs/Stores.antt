-- What a step changes in memory, and that a tag is set by CSC alone. Document 01, "What is lent"; CHERIoT report, 7.7. Assumes nothing.
use mathlib.Core.Path.{◌≡◌, refl, sym, ap, ◌∙◌}
use mathlib.Core.List.{List}
use Prim.Native.Nat.{ℕ, ◌/◌}
use native.Mathlib.Omega.{arith}
use lib.Dec.{eqb}
use lib.ListN.{length}
use borrow.Author.Tests.{eqb-true, eqb-false}
use Rattle.words.specs.Words.{bit_at}
use Rattle.words.proofs.Word.{by_test}
use Rattle.instructions.specs.Decode.{decode_of}
use Rattle.instructions.specs.declared.Instruction.{Instruction}
use Rattle.instructions.specs.declared.Instruction.TheVariants as Decoded
use Rattle.instructions.specs.declared.MemoryInstruction.{MemoryInstruction}
use Rattle.instructions.specs.declared.MemoryInstruction.TheVariants as Access
use Rattle.state.specs.Registers.{register_at, integer_at}
use Rattle.state.specs.Lent.{State, Lent}
use Rattle.state.specs.Memory.{place_of, load_width, store_width, granule_bytes}
use Rattle.state.specs.Effects.{Stored, nothing, bytes, whole, stored_by, Nothing, Storeless}
use Rattle.state.specs.declared.Board.{Board}
use Rattle.state.specs.declared.Effect.{Effect}
use Rattle.state.proofs.Laws.{checked_holds, placed}
use Rattle.integer_instructions.specs.Integer.{integer_effect}
use Rattle.integer_instructions.proofs.Laws.{integer_storeless}
use Rattle.memory_instructions.specs.Access.{load_at, load_effect, store_at, store_effect, load_capability_at, load_capability_effect}
use Rattle.memory_instructions.specs.Access.{store_capability_at, store_capability_effect, address_of, memory_effect}
use Rattle.jump_instructions.specs.Jumps.{jump_effect}
use Rattle.jump_instructions.proofs.Laws.{jump_storeless}
use Rattle.capability_instructions.specs.Derivation.{capability_effect}
use Rattle.capability_instructions.proofs.Laws.{capability_storeless}
use Rattle.system_instructions.specs.System.{system_effect}
use Rattle.system_instructions.proofs.Laws.{system_storeless}
use Rattle.commit.specs.Touched.{SameMemory, OnlyAt, MemoryAfter}
use Rattle.commit.proofs.Memory.{applied_memory}
use Rattle.execution.specs.Step.{effect_of, length_in, seen, fetched_in, effect_at, step_of}
use Rattle.machine_laws.specs.Lent.{GoodState}
use Rattle.machine_laws.specs.Steps.{length_at, standing_at, word_at}
use Rattle.machine_laws.specs.Memory.{FromRegister, StoredTagged}
use Rattle.machine_laws.proofs.Fetch.{fetched_holds, next_within, next_good}

-- a step changes in memory the bytes that its effect stores and the tag of their granule, and nothing else
pub store_changes_only : (board : Board) (revoked : List ℕ) (s : State) → GoodState board revoked s
    → MemoryAfter (stored_by (effect_at board revoked s)) s (step_of board revoked s)
unfolding step_of
store_changes_only board revoked s g =
    applied_memory board.start (length_in (fetched_in board s)) (effect_at board revoked s) s (omega (arith, g.bits.tag_bytes, g.memory.blocks))
    (next_within board revoked s g.memory.start_aligned) (next_good board revoked s g.words.tag_words)

-- ---- where a tag comes from

-- a capability that is stored is held by a register that a CSC names
abbrev Held : (word : ℕ) → (regs : List ℕ) → Stored → Type 0
Held word regs nothing = Unit {0}
Held word regs (bytes n i value) = Unit {0}
Held word regs (whole i value) = FromRegister word regs value

nothing_held : (word : ℕ) (regs : List ℕ) (x : Stored) → Nothing x → Held word regs x
nothing_held word regs nothing h = tt
nothing_held word regs (bytes n i value) h = absurd h
nothing_held word regs (whole i value) h = absurd h

abbrev HeldBy : (word : ℕ) → (regs : List ℕ) → Effect → Type 0
HeldBy word regs e = Held word regs (stored_by e)

storeless_held : (word : ℕ) (regs : List ℕ) (e : Effect) → Storeless e → HeldBy word regs e
storeless_held word regs e h = nothing_held word regs (stored_by e) h

memory_held : (word : ℕ) (i : MemoryInstruction) (regs : List ℕ) (m : Lent) → decode_of word ≡ Decoded.Memory i → HeldBy word regs (memory_effect i regs m)
unfolding memory_effect load_effect store_effect load_capability_effect store_capability_effect load_at store_at load_capability_at store_capability_at
memory_held word (Access.Load kind rd rs1 offset) regs m d =
    let a : ℕ = address_of regs rs1 offset in
    checked_holds (HeldBy word regs) _ _ _ (λ n v. tt)
    (placed (HeldBy word regs) (λ p. load_at p kind rd a m.mem) tt tt (λ i. tt) (place_of m.board.start (length m.mem) a (load_width kind)))
memory_held word (Access.Store kind rs1 rs2 offset) regs m d =
    let a : ℕ = address_of regs rs1 offset in
    checked_holds (HeldBy word regs) _ _ _ (λ n v. tt)
    (placed (HeldBy word regs) (λ p. store_at p kind a (integer_at regs rs2)) tt tt (λ i. tt) (place_of m.board.start (length m.mem) a (store_width kind)))
memory_held word (Access.LoadCapability rd rs1 offset) regs m d =
    let a : ℕ = address_of regs rs1 offset in
    checked_holds (HeldBy word regs) _ _ _ (λ n v. tt)
    (placed (HeldBy word regs) (λ p. load_capability_at p rd a (register_at regs rs1) m) tt tt (λ i. tt)
    (place_of m.board.start (length m.mem) a granule_bytes))
memory_held word (Access.StoreCapability rs1 rs2 offset) regs m d =
    let a : ℕ = address_of regs rs1 offset in
    checked_holds (HeldBy word regs) _ _ _ (λ n v. tt)
    (placed (HeldBy word regs) (λ p. store_capability_at p a (register_at regs rs2)) tt tt
    (λ i. record { rs1 = rs1; rs2 = rs2; offset = offset; is_csc = d; is_held = refl }) (place_of m.board.start (length m.mem) a granule_bytes))

effect_held : (n word standing : ℕ) (i : Instruction) (regs : List ℕ) (m : Lent) → decode_of word ≡ i → HeldBy word regs (effect_of n i standing regs m)
unfolding effect_of
effect_held n word w (Decoded.Integer i) regs m d = storeless_held word regs (integer_effect i regs) (integer_storeless i regs)
effect_held n word w (Decoded.Jump i) regs m d =
    storeless_held word regs (jump_effect n m.board.edition i regs) (jump_storeless n m.board.edition i regs)
effect_held n word w (Decoded.Memory i) regs m d = memory_held word i regs m d
effect_held n word w (Decoded.Capability i) regs m d = storeless_held word regs (capability_effect i regs) (capability_storeless i regs)
effect_held n word w (Decoded.System i) regs m d = storeless_held word regs (system_effect i regs) (system_storeless i regs)
effect_held n word w Decoded.Illegal regs m d = tt

next_held : (board : Board) (revoked : List ℕ) (s : State) → HeldBy (word_at board s) s.regs (effect_at board revoked s)
next_held board revoked s =
    fetched_holds (HeldBy (word_at board s) s.regs) board revoked s (λ n v. tt)
    (effect_held (length_at board s) (word_at board s) (standing_at board s) (decode_of (word_at board s)) s.regs (seen board revoked s) refl)

-- a tag that is set after a step and was not before is that of a CSC's register, stored there
pub tag_set_only_by_CSC : (board : Board) (revoked : List ℕ) (s : State) → GoodState board revoked s
    → (g : ℕ) → bit_at s.tags g ≡ 0 → bit_at (step_of board revoked s).tags g ≡ 1 → StoredTagged board revoked s g
tag_set_only_by_CSC board revoked s h g before after =
    go (stored_by (effect_at board revoked s)) refl (store_changes_only board revoked s h) (next_held board revoked s)
  where
    unchanged : bit_at (step_of board revoked s).tags g ≡ bit_at s.tags g → ⊥
    unchanged e = omega arith

    same : SameMemory s (step_of board revoked s) → ⊥
    same m = unchanged (ap (λ (l : List ℕ). bit_at l g) m.same_tags)

    at : (i width tag : ℕ) → OnlyAt i width tag s (step_of board revoked s) → (g ≡ i / granule_bytes) × (tag ≡ 1)
    at i width tag m =
        by_test (eqb g (i / granule_bytes))
        (λ b. let e = eqb-true g (i / granule_bytes) b in (e, sym m.tag_is ∙ (rw e at after)))
        (λ b. absurd (unchanged (m.other_tags g (eqb-false g (i / granule_bytes) b))))

    go : (x : Stored) → stored_by (effect_at board revoked s) ≡ x → MemoryAfter x s (step_of board revoked s) → Held (word_at board s) s.regs x
        → StoredTagged board revoked s g
    go nothing q m f = absurd (same m)
    go (bytes n i value) q m f = absurd (zero_one (at i n 0 m.0).1)
      where
        zero_one : ◌≡◌ {A = ℕ} 0 1 → ⊥
        zero_one z = omega arith
    go (whole i value) q m f =
        let a = at i granule_bytes value.tag m.0 in
        record { place = i; value = value; is_store = q; is_granule = a.0; is_tagged = a.1; from_register = f }
