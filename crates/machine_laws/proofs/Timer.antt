-- Time counts steps, the mark falls, and where no interrupt is due a run is one without interrupts. By the words that an effect leaves alone. Assumes nothing.
use mathlib.Core.Path.{◌≡◌, refl, ◌∙◌}
use mathlib.Core.Bool.{Bool, true, false, ◌&&◌}
use mathlib.Core.List.{List}
use Prim.Native.Nat.{ℕ, zero, suc, ◌+◌, ◌%◌, ◌^◌, ◌≤◌, ◌<◌}
use native.Mathlib.Omega.{arith}
use lib.Dec.{eqb, leb}
use lib.ListN.{get_or, length}
use borrow.Author.Tests.{lt-leb}
use Rattle.metadata.specs.Rights.{bit}
use Rattle.capability.specs.Capability.{move_of}
use Rattle.capability.specs.declared.Capability.{Capability}
use Rattle.instructions.specs.declared.Csr.{Csr}
use Rattle.instructions.specs.declared.Csr.TheVariants.{Mstatus, Mcause, Mtval, Mshwm, Mshwmb}
use Rattle.state.specs.Layout.{capability_count, register_words, pcc_index, mepcc_index, csr_index, scr_index}
use Rattle.state.specs.Layout.{time_index, compare_index}
use Rattle.state.specs.Registers.{csr_at, mstatus_of, pcc_of}
use Rattle.state.specs.Status.{MIE}
use Rattle.state.specs.Addresses.{vector_alignment, return_alignment, legalized}
use Rattle.state.specs.Timer.{time_of, compare_of, interrupted}
use Rattle.state.specs.Lent.{State}
use Rattle.state.specs.Effects.{stored_by, Beside, neither, special, control, writes_of}
use Rattle.state.specs.declared.Board.{Board}
use Rattle.state.specs.declared.Effect.{Effect}
use Rattle.state.proofs.Laws.{scr_place, csr_place}
use Rattle.fetch.specs.Fetch.{fetch_of}
use Rattle.commit.specs.Commit.{apply_effect, registers_after, marked_by}
use Rattle.commit.proofs.Views.{Any, any_result, any_next}
use Rattle.commit.proofs.Registers.{Holds, Rule, KeepsBeside, Keeps, result_kept, next_kept, each_after}
use Rattle.commit.proofs.Lengths.{registers_long, written_long}
use Rattle.commit.proofs.Records.{ticked_below, ticked_above, ticked_time, marked_other, mark_falls}
use Rattle.execution.specs.Step.{length_in, fetched_in, met_of, effect_at, step_of}
use Rattle.machine.specs.Run.{Ran, one_more, iterate}
use Rattle.machine_laws.specs.Timer.{step_untimed, iterate_untimed, IsMark, WritesMark}
use Rattle.machine_laws.proofs.Kept.{lengths_stay}

-- ---- words that effects leave alone

-- at places of a kind, the word of a register file
module _ (Kind : ℕ → Type 0) (high : (i : ℕ) → Kind i → csr_index Mtval < i) (regs : List ℕ) where
  abbrev Stays : ℕ → ℕ → Type 0
  Stays i v = Kind i → v ≡ get_or regs i 0

  below : (i : ℕ) (c : Capability) → i < capability_count → Holds Stays i c
  below i c b =
      record {
        address_holds = λ k. absurd (omega (arith, high _ k));
        metadata_holds = λ k. absurd (omega (arith, high _ k));
        tag_holds = λ k. absurd (omega (arith, high _ k));
      }

  stays_rule : Rule Stays
  stays_rule =
      record {
        moved = λ c a b h. below pcc_index (move_of c a) (omega arith);
        saved = λ c h. below mepcc_index (legalized return_alignment c) (omega arith);
        entered = λ c h. below pcc_index (legalized vector_alignment c) (omega arith);
        status = λ m h k. absurd (omega (arith, high _ k));
      }

  -- of a CSR that an effect writes
  abbrev StaysBeside : Beside → Type 0
  StaysBeside b = (csr : Csr) (value : ℕ) → b ≡ control csr value → Stays (csr_index csr) value

  stays_beside : (b : Beside) → StaysBeside b → KeepsBeside Stays b
  stays_beside neither f = tt
  stays_beside (special scr value) f = below (scr_index scr) value (scr_place scr).1
  stays_beside (control csr value) f = f csr value refl

  stays_kept : (e : Effect) → StaysBeside (writes_of e).beside → Keeps Stays e
  stays_kept e f =
      let C : Capability → Type 0 = λ c. Unit {0} in (
        result_kept Stays C Any (λ i c l b u. below i c (omega arith)) (writes_of e).result (any_result C Any (λ c. tt) (λ x. tt) (writes_of e).result),
        stays_beside (writes_of e).beside f,
        next_kept Stays C Any (λ i c l b u. below i c b) (λ i v l b u k. absurd (omega (arith, high i k))) (writes_of e).next
            (any_next C Any (λ c. tt) (λ x. tt) (writes_of e).next),
      )

  -- such a word, after an effect that writes none of its CSRs
  word_stays : (n : ℕ) (e : Effect) → StaysBeside (writes_of e).beside
      → (i : ℕ) → Kind i → get_or (registers_after n e regs) i 0 ≡ get_or regs i 0
  word_stays n e f i k = (each_after Stays stays_rule n e regs (stays_kept e f) (record { word = λ j q. refl })).word i k

-- ---- time

-- no effect reaches a word of the timer
timer_stays : (start n : ℕ) (e : Effect) (regs : List ℕ) (i : ℕ) → time_index ≤ i
    → get_or (marked_by start (stored_by e) (registers_after n e regs)) i 0 ≡ get_or regs i 0
timer_stays start n e regs i h =
    marked_other start (stored_by e) (registers_after n e regs) i (λ q. omega arith)
    ∙ word_stays (λ j. time_index ≤ j) (λ j k. omega arith) regs n e (λ csr value q k. absurd (omega (arith, (csr_place csr).1))) i h

module _ (board : Board) (revoked : List ℕ) where
  module _ (s : State) (long : length s.regs ≡ register_words) where
    -- a step takes time one on, wrapping, whatever it does
    pub time_step : time_of (step_of board revoked s).regs ≡ (time_of s.regs + 1) % 2 ^ 64
    unfolding step_of apply_effect time_of
    time_step =
        let n = length_in (fetched_in board s) in
        let e = effect_at board revoked s in
        let l : List ℕ = marked_by board.start (stored_by e) (registers_after n e s.regs) in
        let p = timer_stays board.start n e s.regs time_index (omega arith) in
        let q = timer_stays board.start n e s.regs (time_index + 1) (omega arith) in
        ticked_time l (written_long board.start n e s.regs ∙ long) ∙ rw (p, q) refl

    -- and leaves compare
    pub compare_step : compare_of (step_of board revoked s).regs ≡ compare_of s.regs
    unfolding step_of apply_effect compare_of
    compare_step =
        let n = length_in (fetched_in board s) in
        let e = effect_at board revoked s in
        let l : List ℕ = marked_by board.start (stored_by e) (registers_after n e s.regs) in
        rw (
          ticked_above l compare_index (omega arith) ∙ timer_stays board.start n e s.regs compare_index (omega arith),
          ticked_above l (compare_index + 1) (omega arith) ∙ timer_stays board.start n e s.regs (compare_index + 1) (omega arith),
        )

    -- the mark does not rise but by a CSR instruction's write
    pub mark_step : (WritesMark (effect_at board revoked s) → ⊥) → csr_at (step_of board revoked s).regs Mshwm ≤ csr_at s.regs Mshwm
    unfolding step_of apply_effect
    mark_step h =
        let n = length_in (fetched_in board s) in
        let e = effect_at board revoked s in
        let regs = registers_after n e s.regs in
        let l : List ℕ = marked_by board.start (stored_by e) regs in
        let p = ticked_below l (csr_index Mshwm) (omega arith) in
        let q = mark_falls board.start (stored_by e) regs (registers_long n e s.regs ∙ long) in
        let w = word_stays (λ j. j ≡ csr_index Mshwm) (λ j k. omega arith) s.regs n e (other e h) (csr_index Mshwm) refl in
        omega (arith, p, q, w)
      where
        mark_or : (csr : Csr) → (IsMark csr → ⊥) → csr_index csr ≡ csr_index Mshwm → ⊥
        mark_or Mstatus f k = omega arith
        mark_or Mcause f k = omega arith
        mark_or Mtval f k = omega arith
        mark_or Mshwm f k = f tt
        mark_or Mshwmb f k = omega arith

        other : (e : Effect) → (WritesMark e → ⊥) → (csr : Csr) (value : ℕ) → (writes_of e).beside ≡ control csr value → csr_index csr ≡ csr_index Mshwm
            → value ≡ get_or s.regs (csr_index csr) 0
        other e f csr value q k = absurd (mark_or csr (λ m. f (rw q m)) k)

  -- n steps take time n on
  pub time_after : (n : ℕ) (r : Ran) → length r.at.regs ≡ register_words → time_of r.at.regs < 2 ^ 64
      → time_of (iterate n board revoked r).at.regs ≡ (time_of r.at.regs + n) % 2 ^ 64
  unfolding iterate one_more
  time_after zero r long h = omega arith
  time_after (suc n) r long h =
      let t = time_step r.at long in
      let i = time_after n (one_more board revoked r) ((lengths_stay board revoked r.at).same_registers ∙ long) (rw t (omega arith)) in
      i ∙ rw t (omega arith)

  -- and compare stays
  pub compare_after : (n : ℕ) (r : Ran) → length r.at.regs ≡ register_words → compare_of (iterate n board revoked r).at.regs ≡ compare_of r.at.regs
  unfolding iterate one_more
  compare_after zero r long = refl
  compare_after (suc n) r long =
      compare_after n (one_more board revoked r) ((lengths_stay board revoked r.at).same_registers ∙ long) ∙ compare_step r.at long

  -- ---- a run without interrupts

  -- no interrupt is due in the first n states of a run
  abbrev pub Quiet : (n : ℕ) → Ran → Type 0
  Quiet n r = (k : ℕ) → k < n → interrupted (iterate k board revoked r).at.regs ≡ false

  step_quiet : (s : State) → interrupted s.regs ≡ false → fetched_in board s ≡ fetch_of (pcc_of s.regs) board.start s.mem
  unfolding met_of
  step_quiet s h = rw h

  -- then it is the run of a machine that has none
  pub quiet_run : (n : ℕ) (r : Ran) → Quiet n r → iterate n board revoked r ≡ iterate_untimed n board revoked r
  unfolding iterate iterate_untimed one_more step_of step_untimed
  quiet_run zero r q = refl
  quiet_run (suc n) r q =
      let h = step_quiet r.at (q 0 (omega arith)) in
      quiet_run n (one_more board revoked r) (λ k l. q (suc k) (omega arith)) ∙ rw h refl

  -- so with MIE clear throughout
  pub masked_run : (n : ℕ) (r : Ran) → ((k : ℕ) → k < n → bit (mstatus_of (iterate k board revoked r).at.regs) MIE ≡ 0)
      → iterate n board revoked r ≡ iterate_untimed n board revoked r
  unfolding interrupted
  masked_run n r h = quiet_run n r (λ k l. rw (h k l) refl)

  -- and where time does not come to compare
  pub unreached_run : (n : ℕ) (r : Ran) → length r.at.regs ≡ register_words → time_of r.at.regs < 2 ^ 64
      → time_of r.at.regs + n ≤ compare_of r.at.regs
      → iterate n board revoked r ≡ iterate_untimed n board revoked r
  unfolding interrupted
  unreached_run n r long fits h = quiet_run n r (λ k l. due k l)
    where
      never : (b : Bool) → (b && false) ≡ false
      never true = refl
      never false = refl

      due : (k : ℕ) → k < n → (eqb (bit (mstatus_of (iterate k board revoked r).at.regs) MIE) 1
          && leb (compare_of (iterate k board revoked r).at.regs) (time_of (iterate k board revoked r).at.regs)) ≡ false
      due k l =
          let t = time_after k r long fits in
          let c = compare_after k r long in
          rw (lt-leb (compare_of (iterate k board revoked r).at.regs) (time_of (iterate k board revoked r).at.regs) (omega (arith, t, c)))
          (never (eqb (bit (mstatus_of (iterate k board revoked r).at.regs) MIE) 1))
