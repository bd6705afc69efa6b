-- A rule of each word of the register file that every write keeps holds after an effect. Assumes nothing.
use Rattle.std.proofs.Common.{◌≡◌, ℕ, ◌+◌, ◌*◌, ◌/◌, ◌%◌, ◌^◌, ◌<◌, ◌≤◌, Bool, true, false, cond, eqb, ltb, List, length, get_or, set, sym, refl, subst, arith}
use Rattle.std.proofs.Common.{get_or-set_other, get_or-set_same, ltb-false, ltb-true, eqb-true}
use lib.Seq.{set_out}
use borrow.Author.Tests.{eqb-false}
use Rattle.words.proofs.Word.{by_test}
use Rattle.capability.specs.Capability.{move_of}
use Rattle.capability.specs.declared.Capability.{Capability}
use Rattle.instructions.specs.declared.Csr.TheVariants.{Mstatus, Mcause, Mtval, Mshwm}
use Rattle.state.specs.Layout.{capability_words, general_count, capability_count, control_start, pcc_index, mtcc_index, mepcc_index, csr_index, scr_index}
use Rattle.state.specs.Layout.{time_index}
use Rattle.state.specs.Registers.{capability_at, pcc_of, mstatus_of, set_capability, write_register}
use Rattle.state.specs.Addresses.{next_address, vector_alignment, return_alignment, legalized}
use Rattle.state.specs.Status.{trap_status}
use Rattle.state.specs.Marks.{cleared, below_mark, marked}
use Rattle.state.specs.Timer.{next_time, ticked}
use Rattle.state.specs.Effects.{Stored, nothing, bytes, whole, stored_by, Result, none, given, Beside, neither, special, control, Next, onward, jumps, enters}
use Rattle.state.specs.Effects.{writes_of}
use Rattle.state.specs.declared.Effect.{Effect}
use Rattle.state.proofs.Laws.{scr_place, csr_place}
use Rattle.commit.specs.Commit.{advanced, trapped, registers_after, marked_by}
use Rattle.commit.proofs.Views.{resulted, besides, gone, registers_are, OfResult, OfBeside, OfNext, EachOf}

-- a rule says of a word's place and value whether it may stand there; each word of a list is so
pub record Each (P : ℕ → ℕ → Type 0) (l : List ℕ) : Type 0 where
  pub word : (i : ℕ) → P i (get_or l i 0)

-- the three words of a capability may stand at place i
pub record Holds (P : ℕ → ℕ → Type 0) (i : ℕ) (c : Capability) : Type 0 where
  pub address_holds : P (i * capability_words) c.address
  pub metadata_holds : P (i * capability_words + 1) c.metadata
  pub tag_holds : P (i * capability_words + 2) c.tag

-- a write to a register other than c0 does
abbrev pub Written : (ℕ → ℕ → Type 0) → (rd : ℕ) → Capability → Type 0
Written P rd c = 1 ≤ rd % general_count → Holds P (rd % general_count) c

-- a rule that PCC's move and a trap's entry keep
pub record Rule (P : ℕ → ℕ → Type 0) : Type 0 where
  pub moved : (c : Capability) (a : ℕ) → a < 2 ^ 32 → Holds P pcc_index c → Holds P pcc_index (move_of c a)
  pub saved : (c : Capability) → Holds P pcc_index c → Holds P mepcc_index (legalized return_alignment c)
  pub entered : (c : Capability) → Holds P mtcc_index c → Holds P pcc_index (legalized vector_alignment c)
  pub status : (m : ℕ) → P (csr_index Mstatus) m → P (csr_index Mstatus) (trap_status m)

-- any word may stand where the mark, its base and the timer's words do
abbrev pub Recorded : (ℕ → ℕ → Type 0) → Type 0
Recorded P = (i v : ℕ) → csr_index Mshwm ≤ i → v < 2 ^ 32 → P i v

-- what an effect writes keeps the rule
abbrev KeepsResult : (ℕ → ℕ → Type 0) → Result → Type 0
KeepsResult P none = Unit {0}
KeepsResult P (given rd value) = Written P rd value

abbrev pub KeepsBeside : (ℕ → ℕ → Type 0) → Beside → Type 0
KeepsBeside P neither = Unit {0}
KeepsBeside P (special scr value) = Holds P (scr_index scr) value
KeepsBeside P (control csr value) = P (csr_index csr) value

abbrev KeepsNext : (ℕ → ℕ → Type 0) → Next → Type 0
KeepsNext P onward = Unit {0}
KeepsNext P (jumps target mstatus) = Holds P pcc_index target × P (csr_index Mstatus) mstatus
KeepsNext P (enters cause value) = P (csr_index Mcause) cause × P (csr_index Mtval) value

abbrev pub Keeps : (ℕ → ℕ → Type 0) → Effect → Type 0
Keeps P e = KeepsResult P (writes_of e).result × KeepsBeside P (writes_of e).beside × KeepsNext P (writes_of e).next

-- at the places from one to another, the rule allows every capability with a property, or every word with one
abbrev pub Puts : (ℕ → ℕ → Type 0) → (Capability → Type 0) → (low high : ℕ) → Type 0
Puts P C low high = (i : ℕ) (c : Capability) → low ≤ i → i < high → C c → Holds P i c

abbrev pub Sets : (ℕ → ℕ → Type 0) → (ℕ → Type 0) → (low high : ℕ) → Type 0
Sets P W low high = (i v : ℕ) → low ≤ i → i < high → W v → P i v

-- so what has these properties keeps it
module _ (P : ℕ → ℕ → Type 0) (C : Capability → Type 0) (W : ℕ → Type 0) where
  pub result_kept : Puts P C 1 general_count → (r : Result) → OfResult C r → KeepsResult P r
  result_kept p none h = tt
  result_kept p (given rd value) h = λ b. p (rd % general_count) value b (omega arith) h

  pub beside_kept : Puts P C general_count capability_count → Sets P W control_start time_index → (b : Beside) → OfBeside C W b → KeepsBeside P b
  beside_kept p q neither h = tt
  beside_kept p q (special scr value) h = p (scr_index scr) value (scr_place scr).0 (scr_place scr).1 h
  beside_kept p q (control csr value) h = q (csr_index csr) value (csr_place csr).0 (csr_place csr).1 h

  pub next_kept : Puts P C general_count capability_count → Sets P W control_start (csr_index Mshwm) → (x : Next) → OfNext C W x → KeepsNext P x
  next_kept p q onward h = tt
  next_kept p q (jumps target mstatus) h =
      (p pcc_index target (omega arith) (omega arith) h.0, q (csr_index Mstatus) mstatus (omega arith) (omega arith) h.1)
  next_kept p q (enters cause value) h =
      (q (csr_index Mcause) cause (omega arith) (omega arith) h.0, q (csr_index Mtval) value (omega arith) (omega arith) h.1)

  pub keeps_of : Puts P C 1 capability_count → Sets P W control_start time_index → (e : Effect) → EachOf C W e → Keeps P e
  keeps_of p q e h = (
    result_kept (λ i c l b. p i c l (omega arith)) (writes_of e).result h.0,
    beside_kept (λ i c l. p i c (omega arith)) q (writes_of e).beside h.1,
    next_kept (λ i c l. p i c (omega arith)) (λ i v l b. q i v l (omega arith)) (writes_of e).next h.2,
  )

module _ (P : ℕ → ℕ → Type 0) where
  pub each_set : (l : List ℕ) (p v : ℕ) → P p v → Each P l → Each P (set l p v)
  each_set l p v h e = record { word = λ i. by_test (eqb i p) (same i) (other i) }
    where
      same : (i : ℕ) → eqb i p ≡ true → P i (get_or (set l p v) i 0)
      same i t =
          subst (λ (k : ℕ). P k (get_or (set l p v) k 0)) (sym (eqb-true i p t)) (by_test (ltb p (length l))
          (λ b. subst (P p) (sym (get_or-set_same l p v 0 (ltb-true p (length l) b))) h)
          (λ b. subst (λ (m : List ℕ). P p (get_or m p 0)) (sym (set_out l p v (ltb-false p (length l) b))) (e.word p)))

      other : (i : ℕ) → eqb i p ≡ false → P i (get_or (set l p v) i 0)
      other i t = subst (P i) (sym (get_or-set_other l p i v 0 (eqb-false i p t))) (e.word i)

  pub each_capability : (l : List ℕ) (i : ℕ) (c : Capability) → Holds P i c → Each P l → Each P (set_capability l i c)
  unfolding set_capability
  each_capability l i c h e =
      each_set _ (i * capability_words + 2) c.tag h.tag_holds
      (each_set _ (i * capability_words + 1) c.metadata h.metadata_holds
      (each_set l (i * capability_words) c.address h.address_holds e))

  pub each_register : (l : List ℕ) (rd : ℕ) (c : Capability) → Written P rd c → Each P l → Each P (write_register l rd c)
  unfolding write_register
  each_register l rd c h e = go (eqb (rd % general_count) 0) refl
    where
      go : (t : Bool) → eqb (rd % general_count) 0 ≡ t → Each P (cond t l (set_capability l (rd % general_count) c))
      go true q = e
      go false q = each_capability l (rd % general_count) c (h (by_test (ltb 0 (rd % general_count)) (λ t. ltb-true 0 (rd % general_count) t)
          (λ t. let b = ltb-false 0 (rd % general_count) t in absurd (eqb-false (rd % general_count) 0 q (omega arith))))) e

  read : (l : List ℕ) (i : ℕ) → Each P l → Holds P i (capability_at l i)
  unfolding capability_at
  read l i e =
      record {
        address_holds = e.word (i * capability_words);
        metadata_holds = e.word (i * capability_words + 1);
        tag_holds = e.word (i * capability_words + 2);
      }

  each_result : (r : Result) (l : List ℕ) → KeepsResult P r → Each P l → Each P (resulted r l)
  each_result none l h e = e
  each_result (given rd value) l h e = each_register l rd value h e

  each_beside : (b : Beside) (l : List ℕ) → KeepsBeside P b → Each P l → Each P (besides b l)
  each_beside neither l h e = e
  each_beside (special scr value) l h e = each_capability l (scr_index scr) value h e
  each_beside (control csr value) l h e = each_set l (csr_index csr) value h e

  module _ (rule : Rule P) where
    pub each_advanced : (n : ℕ) (l : List ℕ) → Each P l → Each P (advanced n l)
    unfolding advanced
    each_advanced n l e = each_capability l pcc_index _ (rule.moved (pcc_of l) (next_address n l) (omega arith) (read l pcc_index e)) e

    pub each_trapped : (l : List ℕ) (cause value : ℕ) → P (csr_index Mcause) cause → P (csr_index Mtval) value → Each P l → Each P (trapped l cause value)
    unfolding trapped
    each_trapped l cause value h k e =
        each_set _ (csr_index Mtval) value k
        (each_set _ (csr_index Mcause) cause h
        (each_set _ (csr_index Mstatus) _ (rule.status (mstatus_of l) (e.word (csr_index Mstatus)))
        (each_capability _ pcc_index _ (rule.entered (capability_at l mtcc_index) (read l mtcc_index e))
        (each_capability l mepcc_index _ (rule.saved (pcc_of l) (read l pcc_index e)) e))))

    each_gone : (n : ℕ) (x : Next) (l : List ℕ) → KeepsNext P x → Each P l → Each P (gone n x l)
    each_gone n onward l h e = each_advanced n l e
    each_gone n (jumps target mstatus) l h e = each_set _ (csr_index Mstatus) mstatus h.1 (each_capability l pcc_index target h.0 e)
    each_gone n (enters cause value) l h e = each_trapped l cause value h.0 h.1 e

    -- after what an effect writes beside its result, and after all of it, if it keeps the rule, each word is so again
    pub each_beyond : (n : ℕ) (b : Beside) (x : Next) (l : List ℕ) → KeepsBeside P b → KeepsNext P x → Each P l → Each P (gone n x (besides b l))
    each_beyond n b x l h k e = each_gone n x (besides b l) k (each_beside b l h e)

    pub each_after : (n : ℕ) (f : Effect) (regs : List ℕ) → Keeps P f → Each P regs → Each P (registers_after n f regs)
    each_after n f regs h e =
        rw (registers_are n f regs)
        (each_beyond n (writes_of f).beside (writes_of f).next (resulted (writes_of f).result regs) h.1 h.2
        (each_result (writes_of f).result regs h.0 e))

    module _ (recorded : Recorded P) where
      each_moved : (a : ℕ) (l : List ℕ) → a < 2 ^ 32 → Each P l → Each P (marked a l)
      unfolding marked cleared
      each_moved a l b e = go (below_mark l a)
        where
          go : (t : Bool) → Each P (cond t (set l (csr_index Mshwm) (cleared a)) l)
          go true = each_set l (csr_index Mshwm) (cleared a) (recorded (csr_index Mshwm) (cleared a) (omega arith) (omega arith)) e
          go false = e

      each_marked : (start : ℕ) (x : Stored) (l : List ℕ) → Each P l → Each P (marked_by start x l)
      each_marked start nothing l e = e
      each_marked start (bytes n i value) l e = each_moved ((start + i) % 2 ^ 32) l (omega arith) e
      each_marked start (whole i value) l e = each_moved ((start + i) % 2 ^ 32) l (omega arith) e

      each_ticked : (l : List ℕ) → Each P l → Each P (ticked l)
      unfolding ticked
      each_ticked l e =
          each_set _ (time_index + 1) (next_time l / 2 ^ 32) (recorded (time_index + 1) (next_time l / 2 ^ 32) (omega arith) (omega arith))
          (each_set l time_index (next_time l % 2 ^ 32) (recorded time_index (next_time l % 2 ^ 32) (omega arith) (omega arith)) e)

      -- and after the step is recorded
      pub each_applied : (start n : ℕ) (f : Effect) (regs : List ℕ) → Keeps P f → Each P regs
          → Each P (ticked (marked_by start (stored_by f) (registers_after n f regs)))
      each_applied start n f regs h e = each_ticked _ (each_marked start (stored_by f) _ (each_after n f regs h e))
