-- An instruction whose result is an integer leaves no metadata and no tag in its register. Document 01, "Tempting mistakes"; CHERIoT report, 7.3. Assumes
-- nothing.
use mathlib.Core.Path.{◌≡◌, refl, sym, ◌∙◌}
use mathlib.Core.Bool.{Bool, true, false, cond, true≢false}
use mathlib.Core.List.{List}
use Prim.Native.Nat.{ℕ, ◌+◌, ◌*◌, ◌%◌, ◌<◌}
use native.Mathlib.Omega.{arith}
use lib.Dec.{eqb}
use lib.ListN.{get_or, set, length, length-set}
use lib.Seq.{get_or-set_same, get_or-set_other}
use borrow.Author.Tests.{eqb-true}
use Rattle.capability.specs.Capability.{integer}
use Rattle.capability.specs.declared.Capability.{Capability}
use Rattle.instructions.specs.Decode.{decode_of}
use Rattle.instructions.specs.declared.Instruction.{Instruction}
use Rattle.state.specs.Layout.{capability_words, general_count, register_words}
use Rattle.state.specs.Registers.{capability_at, register_at, set_capability, write_register}
use Rattle.state.specs.Lent.{Lent, State}
use Rattle.state.specs.Memory.{place_of, load_width}
use Rattle.state.specs.declared.Effect.{Effect}
use Rattle.state.specs.Effects.{Stored, stored_by, Result, none, given, Next, onward, jumps, enters, writes_of}
use Rattle.state.proofs.Laws.{checked_holds, placed}
use Rattle.state.specs.declared.Board.{Board}
use Rattle.integer_instructions.specs.Integer.{integer_effect}
use Rattle.memory_instructions.specs.Access.{load_at, load_effect, address_of, memory_effect}
use Rattle.capability_instructions.specs.Derivation.{combined, capability_effect}
use Rattle.system_instructions.specs.System.{csr_effect, system_effect}
use Rattle.state.specs.Timer.{ticked}
use Rattle.commit.proofs.Views.{resulted, goes_on, retires_is}
use Rattle.commit.proofs.Records.{ticked_below, marked_other}
use Rattle.system_instructions.proofs.Laws.{csr_holds}
use Rattle.commit.specs.Commit.{registers_after, marked_by, apply_effect, retires}
use Rattle.execution.specs.Step.{effect_at, effect_of, fetched_in, length_in, seen, step_of}
use Rattle.machine_laws.specs.Lent.{GoodState}
use Rattle.machine_laws.specs.Steps.{length_at, standing_at, word_at}
use Rattle.machine_laws.specs.Integers.{WritesInteger, IsInteger, by_lui, by_op_imm, by_op, by_load, by_inspection, by_difference, by_subset}
use Rattle.machine_laws.specs.Integers.{by_multiply, by_divide, by_equality, by_csr, by_csr_immediate}
use Rattle.machine_laws.proofs.Fetch.{fetched_holds}
use Rattle.machine_laws.proofs.Traps.{general_after}

-- the effect's result is an integer to register rd, or it is a trap
abbrev Gives : (rd : ℕ) → Result → Type 0
Gives rd none = ⊥
Gives rd (given r value) = (r ≡ rd) × IsInteger value

abbrev GivesOr : (rd : ℕ) → Next → Result → Type 0
GivesOr rd onward r = Gives rd r
GivesOr rd (jumps target mstatus) r = Gives rd r
GivesOr rd (enters cause value) r = Unit {0}

abbrev ToInteger : (rd : ℕ) → Effect → Type 0
ToInteger rd e = GivesOr rd (writes_of e).next (writes_of e).result

plain : (x : ℕ) → IsInteger (integer x)
plain x = record { no_metadata = refl; no_tag = refl }

effect_integer : (n : ℕ) (i : Instruction) (rd word : ℕ) (regs : List ℕ) (m : Lent) → WritesInteger i rd → ToInteger rd (effect_of n i word regs m)
unfolding effect_of integer_effect memory_effect load_effect load_at capability_effect combined system_effect csr_effect
effect_integer n i rd word regs m by_lui = (refl, plain _)
effect_integer n i rd word regs m by_op_imm = (refl, plain _)
effect_integer n i rd word regs m by_op = (refl, plain _)
effect_integer n i rd word regs m by_multiply = (refl, plain _)
effect_integer n i rd word regs m by_divide = (refl, plain _)
effect_integer n i rd word regs m (by_load {kind} {rs1} {offset}) =
    let a : ℕ = address_of regs rs1 offset in
    checked_holds (ToInteger rd) _ _ _ (λ n v. tt)
    (placed (ToInteger rd) (λ p. load_at p kind rd a m.mem) tt tt (λ j. (refl, plain _)) (place_of m.board.start (length m.mem) a (load_width kind)))
effect_integer n i rd word regs m by_inspection = (refl, plain _)
effect_integer n i rd word regs m by_difference = (refl, plain _)
effect_integer n i rd word regs m by_subset = (refl, plain _)
effect_integer n i rd word regs m by_equality = (refl, plain _)
effect_integer n i rd word regs m by_csr = checked_holds (ToInteger rd) _ _ _ (λ n v. tt) (csr_holds (ToInteger rd) _ _ rd _ _ (refl, plain _) (refl, plain _))
effect_integer n i rd word regs m by_csr_immediate =
    checked_holds (ToInteger rd) _ _ _ (λ n v. tt) (csr_holds (ToInteger rd) _ _ rd _ _ (refl, plain _) (refl, plain _))

-- ---- what the register then holds

-- words 1 and 2 of register r are 0
abbrev Cleared : (r : ℕ) → List ℕ → Type 0
Cleared r l = (get_or l (r * capability_words + 1) 0 ≡ 0) × (get_or l (r * capability_words + 2) 0 ≡ 0)

set_cleared : (l : List ℕ) (r : ℕ) (c : Capability) → r * capability_words + 2 < length l → IsInteger c → Cleared r (set_capability l r c)
unfolding set_capability
set_cleared l r c h k = (
  get_or-set_other (set (set l (r * capability_words) c.address) (r * capability_words + 1) c.metadata) (r * capability_words + 2) (r * capability_words + 1)
      c.tag 0 (λ e. absurd (omega arith))
      ∙ get_or-set_same (set l (r * capability_words) c.address) (r * capability_words + 1) c.metadata 0 (simp length-set (omega arith))
      ∙ k.no_metadata,
  get_or-set_same (set (set l (r * capability_words) c.address) (r * capability_words + 1) c.metadata) (r * capability_words + 2) c.tag 0
      (simp length-set (omega arith)) ∙ k.no_tag,
)

-- c0 stays NULL, another register takes the integer
write_cleared : (l : List ℕ) (rd : ℕ) (c : Capability) → length l ≡ register_words → Cleared 0 l → IsInteger c
    → Cleared (rd % general_count) (write_register l rd c)
unfolding write_register
write_cleared l rd c h z k = go (eqb (rd % general_count) 0) refl
  where
    go : (t : Bool) → eqb (rd % general_count) 0 ≡ t → Cleared (rd % general_count) (cond t l (set_capability l (rd % general_count) c))
    go true e = rw (eqb-true (rd % general_count) 0 e) z
    go false e = set_cleared l (rd % general_count) c (omega arith) k

gives_cleared : (rd : ℕ) (r : Result) (l : List ℕ) → length l ≡ register_words → Cleared 0 l → Gives rd r → Cleared (rd % general_count) (resulted r l)
gives_cleared rd none l h z k = absurd k
gives_cleared rd (given r value) l h z k = rw (sym k.0) (write_cleared l r value h z k.1)

-- what retires gives it
gives : (rd : ℕ) (x : Next) (r : Result) → goes_on x ≡ true → GivesOr rd x r → Gives rd r
gives rd onward r h k = k
gives rd (jumps target mstatus) r h k = k
gives rd (enters cause value) r h k = absurd (true≢false (sym h))

-- neither the mark nor time is a general register's word
left : (start : ℕ) (x : Stored) (l : List ℕ) (i : ℕ) → i < general_count * capability_words → get_or (ticked (marked_by start x l)) i 0 ≡ get_or l i 0
left start x l i h = ticked_below (marked_by start x l) i (omega arith) ∙ marked_other start x l i (λ q. omega arith)

applied : (start n rd : ℕ) (e : Effect) (s : State) → ToInteger rd e → retires e ≡ true → length s.regs ≡ register_words → Cleared 0 s.regs
    → Cleared (rd % general_count) (apply_effect start n e s).regs
unfolding apply_effect
applied start n rd e s i h l z =
    let r = rd % general_count in
    let g = gives rd (writes_of e).next (writes_of e).result (sym (retires_is e) ∙ h) i in
    let k = gives_cleared rd (writes_of e).result s.regs l z g in
    let word : (j : ℕ) → j < general_count * capability_words
    → get_or (ticked (marked_by start (stored_by e) (registers_after n e s.regs))) j 0 ≡ get_or (resulted (writes_of e).result s.regs) j 0 =
    λ j b. left start (stored_by e) (registers_after n e s.regs) j b ∙ general_after n e s.regs j b in
    (word (r * capability_words + 1) (omega arith) ∙ k.0, word (r * capability_words + 2) (omega arith) ∙ k.1)

-- an integer result leaves no metadata and no tag
pub integer_results : (board : Board) (revoked : List ℕ) (s : State) → GoodState board revoked s
    → (rd : ℕ) → WritesInteger (decode_of (word_at board s)) rd → retires (effect_at board revoked s) ≡ true
    → IsInteger (register_at (step_of board revoked s).regs rd)
unfolding step_of capability_at
integer_results board revoked s g rd i h =
    let e = fetched_holds (ToInteger rd) board revoked s (λ n v. tt)
    (effect_integer (length_at board s) (decode_of (word_at board s)) rd (standing_at board s) s.regs (seen board revoked s) i) in
    let k = applied board.start (length_in (fetched_in board s)) rd (effect_at board revoked s) s e h g.registers
    (g.words.c0_words 1 (omega arith), g.words.c0_words 2 (omega arith)) in
    record { no_metadata = k.0; no_tag = k.1 }
