-- A step in both editions. Two register files that are alike word by word stay so under the same writes, so a jump's two effects leave states that are apart by
-- what the jumps are apart by; and what is no jump is the same. Assumes nothing.
use mathlib.Core.Path.{◌≡◌, refl, sym, ap}
use mathlib.Core.Bool.{Bool, true, false, cond, true≢false}
use mathlib.Core.List.{List}
use Prim.Native.Nat.{ℕ, ◌+◌, ◌*◌, ◌/◌, ◌%◌, ◌^◌}
use native.Mathlib.Omega.{arith}
use lib.Dec.{eqb, ltb}
use lib.ListN.{get_or, set, length, length-set}
use lib.Seq.{get_or-set_same, get_or-set_other, set_out}
use borrow.Author.Tests.{eqb-true, eqb-false, ltb-true, ltb-false}
use Rattle.words.proofs.Word.{by_test}
use Rattle.capability.specs.Capability.{capability}
use Rattle.capability.specs.declared.Capability.{Capability}
use Rattle.instructions.specs.declared.Instruction.TheVariants.{Jump}
use Rattle.instructions.specs.declared.JumpInstruction.{JumpInstruction}
use Rattle.instructions.specs.declared.Csr.TheVariants.{Mstatus}
use Rattle.short_forms.specs.Meaning.{is_legal}
use Rattle.short_forms.specs.Standing.{half_bytes, long_bytes}
use Rattle.state.specs.Layout.{capability_words, general_count, pcc_index, csr_index, time_index}
use Rattle.state.specs.Registers.{capability_at, set_capability, write_register}
use Rattle.state.specs.Timer.{time_of, next_time, ticked}
use Rattle.state.specs.Checks.{capability_trap, seal_cause}
use Rattle.state.specs.Lent.{Lent, State, report_edition, later_edition}
use Rattle.state.specs.declared.Board.{Board}
use Rattle.state.specs.declared.Effect.{Effect}
use Rattle.state.specs.declared.Effect.TheVariants as effect
use Rattle.jump_instructions.specs.Compared.{SameButType, SameButMie, ApartJump, jump_apart, InEditions, links_by, goes_by, accepted_in}
use Rattle.jump_instructions.proofs.Compared.{jump_compared, in_editions}
use Rattle.fetch.specs.declared.Fetched.TheVariants.{Long, Half}
use Rattle.commit.specs.Commit.{apply_effect}
use Rattle.commit.proofs.Views.{registers_are}
use Rattle.execution.specs.Step.{effect_of, instruction_in, word_in, length_in, trap_or, effect_in, seen, met_of, fetched_in, step_of}
use Rattle.machine_laws.specs.Editions.{with_edition, in_edition, NoJump, type_place, ApartState, JumpInEditions}
use Rattle.machine_laws.proofs.Editions.{edition_alone}
use Rattle.fetch.specs.Fetch.{Met}
use Rattle.std.specs.Prelude.{Ok, Err}

-- ---- two lists, word by word

record Alike (Q : ℕ → ℕ → ℕ → Type 0) (l k : List ℕ) : Type 0 where
  long : length k ≡ length l
  word : (i : ℕ) → Q i (get_or l i 0) (get_or k i 0)

module _ (Q : ℕ → ℕ → ℕ → Type 0) where
  set_alike : (l k : List ℕ) (p v w : ℕ) → Q p v w → Alike Q l k → Alike Q (set l p v) (set k p w)
  set_alike l k p v w h a = record { long = simp length-set a.long; word = λ i. by_test (eqb i p) (same i) (other i) }
    where
      same : (i : ℕ) → eqb i p ≡ true → Q i (get_or (set l p v) i 0) (get_or (set k p w) i 0)
      same i t =
          rw (eqb-true i p t) (by_test (ltb p (length l))
          (λ b. let u = ltb-true p (length l) b in rw (get_or-set_same l p v 0 u, get_or-set_same k p w 0 (rw a.long u)) h)
          (λ b. let u = ltb-false p (length l) b in rw (set_out l p v u, set_out k p w (rw a.long u)) (a.word p)))

      other : (i : ℕ) → eqb i p ≡ false → Q i (get_or (set l p v) i 0) (get_or (set k p w) i 0)
      other i t = let n = eqb-false i p t in rw (get_or-set_other l p i v 0 n, get_or-set_other k p i w 0 n) (a.word i)

  capability_alike : (l k : List ℕ) (i : ℕ) (c d : Capability) → Q (i * capability_words) c.address d.address
      → Q (i * capability_words + 1) c.metadata d.metadata → Q (i * capability_words + 2) c.tag d.tag
      → Alike Q l k → Alike Q (set_capability l i c) (set_capability k i d)
  unfolding set_capability
  capability_alike l k i c d h m t a =
      set_alike _ _ (i * capability_words + 2) c.tag d.tag t
      (set_alike _ _ (i * capability_words + 1) c.metadata d.metadata m
      (set_alike l k (i * capability_words) c.address d.address h a))

-- ---- words that are the same but for MIE and a type

record SameWord (rd i x y : ℕ) : Type 0 where
  same_word : (i ≡ type_place rd → ⊥) → (i ≡ csr_index Mstatus → ⊥) → y ≡ x
  type_word : i ≡ type_place rd → SameButType (capability 0 x 0) (capability 0 y 0)
  status_word : i ≡ csr_index Mstatus → SameButMie x y

any_type : (c : Capability) → SameButType c c
any_type c =
    record {
      address_same = refl;
      tag_same = refl;
      reserved_same = refl;
      permissions_same = refl;
      scale_same = refl;
      top_same = refl;
      base_same = refl;
    }

equal_word : (rd i x y : ℕ) → y ≡ x → SameWord rd i x y
equal_word rd i x y e = record { same_word = λ p q. e; type_word = λ p. rw e (any_type (capability 0 x 0)); status_word = λ p k n. rw e refl }

module _ (rd : ℕ) where
  abbrev Near : List ℕ → List ℕ → Type 0
  Near l k = Alike (SameWord rd) l k

  -- the link
  register_near : (l : List ℕ) (c d : Capability) → SameButType c d → Near (write_register l rd c) (write_register l rd d)
  unfolding write_register
  register_near l c d t = go (eqb (rd % general_count) 0)
    where
      r : ℕ
      r = rd % general_count

      typed : SameWord rd (r * capability_words + 1) c.metadata d.metadata
      typed =
          record {
            same_word = λ p q. absurd (p refl);
            type_word = λ p.
                record {
                  address_same = refl;
                  tag_same = refl;
                  reserved_same = t.reserved_same;
                  permissions_same = t.permissions_same;
                  scale_same = t.scale_same;
                  top_same = t.top_same;
                  base_same = t.base_same;
                };
            status_word = λ p. absurd (omega arith);
          }

      none : Near l l
      none = record { long = refl; word = λ i. equal_word rd i _ _ refl }

      go : (b : Bool) → Near (cond b l (set_capability l r c)) (cond b l (set_capability l r d))
      go true = none
      go false =
          capability_alike (SameWord rd) l l r c d (equal_word rd _ _ _ t.address_same) typed (equal_word rd _ _ _ t.tag_same) none

  -- PCC and mstatus
  jumped_near : (l k : List ℕ) (target : Capability) (m n : ℕ) → SameButMie m n → Near l k
      → Near (set (set_capability l pcc_index target) (csr_index Mstatus) m) (set (set_capability k pcc_index target) (csr_index Mstatus) n)
  jumped_near l k target m n s a =
      set_alike (SameWord rd) _ _ (csr_index Mstatus) m n
      (record { same_word = λ p q. absurd (q refl); type_word = λ p. absurd (omega arith); status_word = λ p. s })
      (capability_alike (SameWord rd) l k pcc_index target target (equal_word rd _ _ _ refl) (equal_word rd _ _ _ refl) (equal_word rd _ _ _ refl) a)

  -- time goes on alike
  ticked_near : (l k : List ℕ) → Near l k → Near (ticked l) (ticked k)
  unfolding ticked time_of
  ticked_near l k a =
      set_alike (SameWord rd) _ _ (time_index + 1) _ _ (equal_word rd _ _ _ (ap (λ (x : ℕ). x / 2 ^ 32) same_time))
      (set_alike (SameWord rd) l k time_index _ _ (equal_word rd _ _ _ (ap (λ (x : ℕ). x % 2 ^ 32) same_time)) a)
    where
      same_time : next_time k ≡ next_time l
      same_time =
          rw ((a.word time_index).same_word (λ p. omega arith) (λ p. omega arith), (a.word (time_index + 1)).same_word (λ p. omega arith) (λ p. omega arith))
          refl

  -- ---- states

  near_state : (report later : State) → Near report.regs later.regs → later.mem ≡ report.mem → later.tags ≡ report.tags → ApartState rd report later
  unfolding capability_at
  near_state report later a m t =
      let r : ℕ = rd % general_count in
      let typed = (a.word (type_place rd)).type_word refl in
      record {
        same_memory = record { same_bytes = m; same_tags = t };
        same_length = a.long;
        same_words = λ i p q. (a.word i).same_word p q;
        link_apart =
            record {
              address_same = (a.word (r * capability_words)).same_word (λ p. omega arith) (λ p. omega arith);
              tag_same = (a.word (r * capability_words + 2)).same_word (λ p. omega arith) (λ p. omega arith);
              reserved_same = typed.reserved_same;
              permissions_same = typed.permissions_same;
              scale_same = typed.scale_same;
              top_same = typed.top_same;
              base_same = typed.base_same;
            };
        status_apart = (a.word (csr_index Mstatus)).status_word refl;
      }

  jump_committed : (start bytes : ℕ) (s : State) (d e : Effect) → ApartJump rd d e → ApartState rd (apply_effect start bytes d s) (apply_effect start bytes e s)
  unfolding apply_effect
  jump_committed start bytes s _ _ (jump_apart {link} {other} {target} {m} {n} t u) =
      near_state _ _
      (ticked_near _ _
      (rw (registers_are bytes (effect.Jump rd link target m) s.regs, registers_are bytes (effect.Jump rd other target n) s.regs)
      (jumped_near _ _ target m n u (register_near s.regs link other t))))
      refl refl

-- ---- the step

-- a fetch that failed has no instruction
fetched_compared : (f : Met) (i : JumpInstruction) → instruction_in f ≡ Jump i → (regs : List ℕ) (m : Lent)
    → InEditions (ApartJump (links_by i)) (capability_trap (goes_by i) seal_cause) (accepted_in report_edition i regs) (accepted_in later_edition i regs)
    (effect_in f regs (in_edition report_edition m)) (effect_in f regs (in_edition later_edition m))
unfolding effect_in trap_or length_in instruction_in word_in effect_of is_legal
fetched_compared (Err trap) i h regs m = absurd (true≢false (sym (ap is_legal h)))
fetched_compared (Ok (Long w)) i h regs m = rw h (jump_compared long_bytes i regs)
fetched_compared (Ok (Half k)) i h regs m = rw h (jump_compared half_bytes i regs)

module _ (board : Board) (revoked : List ℕ) (s : State) where
  pub jump_in_editions : (i : JumpInstruction) → instruction_in (fetched_in board s) ≡ Jump i → JumpInEditions board revoked s i
  unfolding step_of met_of
  jump_in_editions i h =
      let n = length_in (fetched_in board s) in
      in_editions (ApartJump (links_by i)) (ApartState (links_by i)) (λ e. apply_effect board.start n e s) (capability_trap (goes_by i) seal_cause)
      (accepted_in report_edition i s.regs) (accepted_in later_edition i s.regs) (jump_committed (links_by i) board.start n s) _ _
      (fetched_compared (fetched_in board s) i h s.regs (seen board revoked s))

  -- a step that is no jump's, a trap's among them, is the same in each edition
  pub step_alone : (edition : ℕ) → NoJump (instruction_in (fetched_in board s)) → step_of (with_edition edition board) revoked s ≡ step_of board revoked s
  unfolding step_of met_of effect_in
  step_alone edition h =
      let f = fetched_in board s in
      ap (λ (e : Effect). apply_effect board.start (length_in f) (trap_or f e) s)
      (edition_alone edition (length_in f) (instruction_in f) (word_in f) s.regs (seen board revoked s) h)
