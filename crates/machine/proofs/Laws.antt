-- Laws of the machine's definitions that the proofs of `step` and `run` cite. Assumes nothing.
use Prim.Native.Nat.{ℕ, zero, suc, ◌+◌, ◌-◌, ◌*◌, ◌/◌, ◌%◌, ◌^◌, ◌≤◌, ◌<◌}
use mathlib.Core.Path.{◌≡◌, refl, sym, ap, ap₂, ◌∙◌}
use mathlib.Core.Bool.{Bool, true, false, cond, not, ◌&&◌, true≢false}
use mathlib.Core.List.{List}
use Rattle.std.specs.Prelude.{Result, Ok, Err}
use native.Mathlib.Omega.{arith}
use lib.Dec.{ltb, leb, eqb}
use lib.ListN.{get_or, length}
use borrow.Author.Tests.{eqb-true, eq-eqb, ne_eqb, ltb-false, leb-true}
use Rattle.state.specs.Layout.{register_words, capability_count, capability_words}
use Rattle.state.specs.Registers.{capability_at}
use Rattle.state.specs.Lent.{State}
use Rattle.state.specs.Checks.{fail_if}
use Rattle.state.specs.declared.Board.{Board}
use Rattle.commit.specs.Commit.{retires}
use Rattle.execution.specs.Step.{effect_at, step_of}
use Rattle.machine.specs.Refusals.{block_bytes, most_memory, most_steps, good_memory, good_window, good_bits, good_tags, good_words, good_edition}
use Rattle.machine.specs.Refusals.{sound_if_tagged, good_bounds, refusal_of}
use Rattle.machine.specs.Run.{Ran, ran, one_more, iterate, ran_from, step_refusal, step_answer, step_after, StepPromise, run_answer, run_after, RunPromise}
use Rattle.machine.specs.Run.{step_number, step_retired, step_trapped, run_number, run_retired, run_trapped, retired_by, trapped_by}
use Rattle.machine.specs.Refusals.{number_of, number_in, refusal_named, refused_unless}
use Rattle.machine.specs.Run.{counts}
use Rattle.machine.specs.declared.answers.Counts.{Counts}
use Rattle.machine.specs.declared.answers.Step.{Step}
use Rattle.machine.specs.declared.answers.Step.TheVariants.{Retired, Trapped}
use Rattle.machine.specs.declared.answers.Refusal.{Refusal}
use Rattle.machine.specs.declared.answers.Refusal.TheVariants.{Registers, Memory, Bits, Words, Steps, Edition, Bounds, Granule, Rights, Place, Range}

-- one turn of the loop over the tag words
pub tags_turn : (regs : List ℕ) (i : ℕ) → i < capability_count
    → good_tags (capability_count - i) regs i ≡ (leb (get_or regs (i * capability_words + 2) 0) 1 && good_tags (capability_count - (i + 1)) regs (i + 1))
unfolding good_tags
tags_turn regs i h = let e : capability_count - i ≡ suc (capability_count - (i + 1)) = omega arith in rw e refl

-- one turn of the loop over the bounds
pub bounds_turn : (regs : List ℕ) (i : ℕ) → i < capability_count
    → good_bounds (capability_count - i) regs i ≡ (sound_if_tagged (capability_at regs i) && good_bounds (capability_count - (i + 1)) regs (i + 1))
unfolding good_bounds
bounds_turn regs i h = let e : capability_count - i ≡ suc (capability_count - (i + 1)) = omega arith in rw e refl

-- ---- the refusals by number

pub refusal_named_number : (r : Refusal) → refusal_named (number_of r) ≡ r
unfolding refusal_named
refusal_named_number Registers = refl
refusal_named_number Memory = refl
refusal_named_number Bits = refl
refusal_named_number Words = refl
refusal_named_number Steps = refl
refusal_named_number Edition = refl
refusal_named_number Bounds = refl
refusal_named_number Granule = refl
refusal_named_number Rights = refl
refusal_named_number Place = refl
refusal_named_number Range = refl

-- no refusal has the number of a call that is not refused
pub number_positive : (r : Refusal) → number_of r ≡ 0 → ⊥
number_positive Registers z = omega arith
number_positive Memory z = omega arith
number_positive Bits z = omega arith
number_positive Words z = omega arith
number_positive Steps z = omega arith
number_positive Edition z = omega arith
number_positive Bounds z = omega arith
number_positive Granule z = omega arith
number_positive Rights z = omega arith
number_positive Place z = omega arith
number_positive Range z = omega arith

-- a number that is 0 or has a refusal
abbrev pub IsNumber : ℕ → Type 0
IsNumber k = (k ≡ 0 → ⊥) → number_of (refusal_named k) ≡ k

pub is_number : (r : Refusal) → IsNumber (number_of r)
is_number r h = ap (λ x. number_of x) (refusal_named_number r)

pub no_number : IsNumber 0
no_number h = absurd (h refl)

-- what the answer to a test says of the test
module _ (good : Bool) (why : Refusal) where
  pub test_passed : (u : Unit {0}) → Ok u ≡ refused_unless good why → good ≡ true
  test_passed u e = go good e
    where
      go : (b : Bool) → Ok u ≡ refused_unless b why → b ≡ true
      go true q = refl
      go false q = absurd (number_positive why (sym (ap (λ (x : Result (Unit {0}) Refusal). number_in x) q)))

  pub test_failed : (r : Refusal) → Err r ≡ refused_unless good why → (good ≡ false) × (number_of r ≡ number_of why)
  test_failed r e = go good e
    where
      go : (b : Bool) → Err r ≡ refused_unless b why → (b ≡ false) × (number_of r ≡ number_of why)
      go true q = absurd (number_positive r (ap (λ (x : Result (Unit {0}) Refusal). number_in x) q))
      go false q = (refl, ap (λ (x : Result (Unit {0}) Refusal). number_in x) q)

-- one turn of a run, which retires or traps
module _ (board : Board) (n k : ℕ) (revoked : List ℕ) (s after : State) (r t : ℕ) (more : k < n) (left : after ≡ step_of board revoked s) where
  turn_either : (b : Bool) → b ≡ retires (effect_at board revoked s)
      → iterate (n - (k + 1)) board revoked (ran after (r + cond b 1 0) (t + cond b 0 1)) ≡ iterate (n - k) board revoked (ran s r t)
  unfolding iterate one_more
  turn_either b h =
      let d : n - k ≡ suc (n - (k + 1)) = omega arith in
      rw (d, left, h) refl

  pub turn_retired : true ≡ retires (effect_at board revoked s)
      → iterate (n - (k + 1)) board revoked (ran after (r + 1) t) ≡ iterate (n - k) board revoked (ran s r t)
  turn_retired h = let z : t + 0 ≡ t = omega arith in rw z at (turn_either true h)

  pub turn_trapped : false ≡ retires (effect_at board revoked s)
      → iterate (n - (k + 1)) board revoked (ran after r (t + 1)) ≡ iterate (n - k) board revoked (ran s r t)
  turn_trapped h = let z : r + 0 ≡ r = omega arith in rw z at (turn_either false h)

-- ---- the promise of a step, by how it ends

module _ (board : Board) (revoked : List ℕ) (s : State) where
  pub step_refused : (r : Refusal) → number_of r ≡ step_refusal board revoked s → StepPromise board revoked s s (Err r)
  unfolding step_answer step_after
  step_refused r e =
      let f : eqb (step_refusal board revoked s) 0 ≡ false = rw (← e) (ne_eqb (number_of r) 0 (number_positive r)) in
      record {
        answer_is = rw (f, ← e, refusal_named_number r);
        number_is = e;
        retired_is = rw f;
        trapped_is = rw f;
        registers_are = rw f;
        memory_is = rw f;
        tags_are = rw f;
      }

  module _ (after : State) (b : Bool) (good : 0 ≡ step_refusal board revoked s) (retired : b ≡ retires (effect_at board revoked s))
      (left : after ≡ step_of board revoked s) where
    -- of an answer that is Retired or Trapped as the effect says
    step_done : (a : Step) → a ≡ cond b Retired Trapped → step_retired (Ok a) ≡ cond b 1 0 → step_trapped (Ok a) ≡ cond b 0 1
        → StepPromise board revoked s after (Ok a)
    unfolding step_answer step_after
    step_done a q r t =
        let f : eqb (step_refusal board revoked s) 0 ≡ true = eq-eqb (step_refusal board revoked s) 0 (sym good) in
        record {
          answer_is = rw (f, ← retired, q);
          number_is = good;
          retired_is = rw (f, ← retired) r;
          trapped_is = rw (f, ← retired) t;
          registers_are = rw f (ap (λ x. x.regs) left);
          memory_is = rw f (ap (λ x. x.mem) left);
          tags_are = rw f (ap (λ x. x.tags) left);
        }

    step_retired_lem : b ≡ true → StepPromise board revoked s after (Ok Retired)
    step_retired_lem t = step_done Retired (rw t) (rw t) (rw t)

    step_trapped_lem : b ≡ false → StepPromise board revoked s after (Ok Trapped)
    step_trapped_lem t = step_done Trapped (rw t) (rw t) (rw t)

  -- of one turn of a run: it retires where it counts one retired
  module _ (after : State) (r t : ℕ) (good : 0 ≡ step_refusal board revoked s) (turned : ran after r t ≡ iterate 1 board revoked (ran s 0 0)) where
    one_left : after ≡ step_of board revoked s
    unfolding iterate one_more
    one_left = ap (λ x. x.at) turned

    one_counted : r ≡ cond (retires (effect_at board revoked s)) 1 0
    unfolding iterate one_more
    one_counted = omega (arith, ap (λ x. x.retired) turned)

    pub one_retired : r ≡ 1 → StepPromise board revoked s after (Ok Retired)
    one_retired h = go (retires (effect_at board revoked s)) refl
      where
        go : (b : Bool) → retires (effect_at board revoked s) ≡ b → StepPromise board revoked s after (Ok Retired)
        go true q = step_retired_lem after true good (sym q) one_left refl
        go false q = absurd (omega (arith, h, one_counted ∙ ap (λ b. cond b 1 0) q))

    pub one_trapped : (r ≡ 1 → ⊥) → StepPromise board revoked s after (Ok Trapped)
    one_trapped h = go (retires (effect_at board revoked s)) refl
      where
        go : (b : Bool) → retires (effect_at board revoked s) ≡ b → StepPromise board revoked s after (Ok Trapped)
        go true q = absurd (h (one_counted ∙ ap (λ b. cond b 1 0) q))
        go false q = step_trapped_lem after false good (sym q) one_left refl

-- ---- the promise of a run, by how it ends

module _ (n : ℕ) (board : Board) (revoked : List ℕ) (s : State) where
  pub run_refused : (r : Refusal) → number_of r ≡ refusal_of n board revoked s → RunPromise n board revoked s s (Err r)
  unfolding run_answer run_after
  run_refused r e =
      let f : eqb (refusal_of n board revoked s) 0 ≡ false = rw (← e) (ne_eqb (number_of r) 0 (number_positive r)) in
      record {
        answer_is = rw (f, ← e, refusal_named_number r);
        number_is = e;
        retired_is = rw f;
        trapped_is = rw f;
        registers_are = rw f;
        memory_is = rw f;
        tags_are = rw f;
      }

  pub run_done : (after : State) (r t : ℕ) → 0 ≡ refusal_of n board revoked s → ran after r t ≡ iterate n board revoked (ran s 0 0)
      → RunPromise n board revoked s after (Ok (counts r t))
  unfolding run_answer run_after
  run_done after r t e g =
      let f : eqb (refusal_of n board revoked s) 0 ≡ true = eq-eqb (refusal_of n board revoked s) 0 (sym e) in
      record {
        answer_is = rw f (ap₂ (λ x y. Ok (counts x y)) (ap (λ x. x.retired) g) (ap (λ x. x.trapped) g));
        number_is = e;
        retired_is = rw f (ap (λ x. x.retired) g);
        trapped_is = rw f (ap (λ x. x.trapped) g);
        registers_are = rw f (ap (λ x. x.at.regs) g);
        memory_is = rw f (ap (λ x. x.at.mem) g);
        tags_are = rw f (ap (λ x. x.at.tags) g);
      }

-- ---- how large the numbers of an answer are

-- a property of both values of a test is one of the test's
pub either : {A : Type 0} (P : A → Type 0) (t : Bool) (x y : A) → P x → P y → P (cond t x y)
either P true x y p q = p
either P false x y p q = q

-- one more check with a small number keeps a small number
small : (t : Bool) (k rest : ℕ) → k ≤ 8 → rest ≤ 8 → fail_if t k rest ≤ 8
small t k rest h g = either (λ x. x ≤ 8) t k rest h g

module _ (n : ℕ) (board : Board) (revoked : List ℕ) (s : State) where
  pub refusal_le : refusal_of n board revoked s ≤ 8
  unfolding refusal_of
  refusal_le =
      small (not (eqb (length s.regs) register_words)) 1 _ (omega arith)
      (small (not (good_memory board (length s.mem))) 2 _ (omega arith)
      (small (not (good_window board (length s.mem))) 2 _ (omega arith)
      (small (not (good_bits board revoked s)) 3 _ (omega arith)
      (small (not (good_words s.regs)) 4 _ (omega arith)
      (small (ltb most_steps n) 5 _ (omega arith)
      (small (not (good_edition board)) 7 _ (omega arith)
      (small (not (good_bounds capability_count s.regs 0)) 8 0 (omega arith) (omega arith))))))))

  -- each is the number of a refusal
  pub refusal_number : IsNumber (refusal_of n board revoked s)
  unfolding refusal_of
  refusal_number =
      either IsNumber (not (eqb (length s.regs) register_words)) 1 _ (is_number Registers)
      (either IsNumber (not (good_memory board (length s.mem))) 2 _ (is_number Memory)
      (either IsNumber (not (good_window board (length s.mem))) 2 _ (is_number Memory)
      (either IsNumber (not (good_bits board revoked s)) 3 _ (is_number Bits)
      (either IsNumber (not (good_words s.regs)) 4 _ (is_number Words)
      (either IsNumber (ltb most_steps n) 5 _ (is_number Steps)
      (either IsNumber (not (good_edition board)) 7 _ (is_number Edition)
      (either IsNumber (not (good_bounds capability_count s.regs 0)) 8 0 (is_number Bounds) no_number)))))))

  -- a run that is not refused asks no more than is allowed
  pub few_steps : refusal_of n board revoked s ≡ 0 → n ≤ most_steps
  unfolding refusal_of
  few_steps h =
      go (not (eqb (length s.regs) register_words)) (not (good_memory board (length s.mem))) (not (good_window board (length s.mem)))
      (not (good_bits board revoked s)) (not (good_words s.regs)) (ltb most_steps n) (not (good_edition board))
      (fail_if (not (good_bounds capability_count s.regs 0)) 8 0) refl h
    where
      go : (a b w c d e f : Bool) (last : ℕ) → ltb most_steps n ≡ e
          → fail_if a 1 (fail_if b 2 (fail_if w 2 (fail_if c 3 (fail_if d 4 (fail_if e 5 (fail_if f 7 last)))))) ≡ 0 → n ≤ most_steps
      go false false false false false false f last q z = ltb-false most_steps n q
      go false false false false false true f last q z = absurd (omega arith)
      go false false false false true e f last q z = absurd (omega arith)
      go false false false true d e f last q z = absurd (omega arith)
      go false false true c d e f last q z = absurd (omega arith)
      go false true w c d e f last q z = absurd (omega arith)
      go true b w c d e f last q z = absurd (omega arith)

-- each step is counted once
pub counts_le : (n : ℕ) (board : Board) (revoked : List ℕ) (r : Ran)
    → ((iterate n board revoked r).retired ≤ r.retired + n) × ((iterate n board revoked r).trapped ≤ r.trapped + n)
unfolding iterate one_more
counts_le zero board revoked r = (omega arith, omega arith)
counts_le (suc n) board revoked r =
    let b : Bool = retires (effect_at board revoked r.at) in
    let i = counts_le n board revoked (ran (step_of board revoked r.at) (r.retired + cond b 1 0) (r.trapped + cond b 0 1)) in
    let p : cond b 1 0 ≤ 1 = either (λ x. x ≤ 1) b 1 0 (omega arith) (omega arith) in
    let q : cond b 0 1 ≤ 1 = either (λ x. x ≤ 1) b 0 1 (omega arith) (omega arith) in
    (omega (arith, i, p), omega (arith, i, q))

-- a refused run has both counts 0, another at most the steps allowed
run_counts_le : (n : ℕ) (board : Board) (revoked : List ℕ) (s : State) → (retired_by n board revoked s ≤ most_steps)
    × (trapped_by n board revoked s ≤ most_steps)
run_counts_le n board revoked s = go (eqb (refusal_of n board revoked s) 0) refl
  where
    go : (a : Bool) → eqb (refusal_of n board revoked s) 0 ≡ a
        → (cond a (ran_from n board revoked s).retired 0 ≤ most_steps) × (cond a (ran_from n board revoked s).trapped 0 ≤ most_steps)
    go true p =
        let k = counts_le n board revoked (ran s 0 0) in
        let m = few_steps n board revoked s (eqb-true (refusal_of n board revoked s) 0 p) in
        (omega (arith, k, m), omega (arith, k, m))
    go false p = (omega arith, omega arith)

step_counts_le : (a : Result Step Refusal) → (step_retired a ≤ 1) × (step_trapped a ≤ 1)
step_counts_le (Ok Retired) = (omega arith, omega arith)
step_counts_le (Ok Trapped) = (omega arith, omega arith)
step_counts_le (Err r) = (omega arith, omega arith)

-- so an answer fits its places in one 64-bit number
pub step_small : (board : Board) (revoked : List ℕ) (before after : State) (a : Result Step Refusal) → StepPromise board revoked before after a
    → (step_number a < 2 ^ 15) × (step_trapped a < 2 ^ 24) × (step_retired a < 2 ^ 24)
step_small board revoked before after a p =
    let n = refusal_le 1 board revoked before in
    let k = step_counts_le a in
    (omega (arith, n, p.number_is), omega (arith, k), omega (arith, k))

pub run_small : (n : ℕ) (board : Board) (revoked : List ℕ) (before after : State) (a : Result Counts Refusal) → RunPromise n board revoked before after a
    → (run_number a < 2 ^ 15) × (run_trapped a < 2 ^ 24) × (run_retired a < 2 ^ 24)
run_small n board revoked before after a p =
    let m = refusal_le n board revoked before in
    let k = run_counts_le n board revoked before in
    (omega (arith, m, p.number_is), omega (arith, k, p.trapped_is), omega (arith, k, p.retired_is))

-- ---- what the tests of memory and of the bits say

first_holds : (a b : Bool) → a && b ≡ true → a ≡ true
first_holds true b h = refl
first_holds false b h = absurd (true≢false (sym h))

rest_holds : (a b : Bool) → a && b ≡ true → b ≡ true
rest_holds true b h = h
rest_holds false b h = absurd (true≢false (sym h))

-- memory is no larger than allowed, and made of whole blocks
pub good_size : (board : Board) (size : ℕ) → good_memory board size ≡ true → (size ≤ most_memory) × (size % block_bytes ≡ 0)
unfolding good_memory
good_size board size h =
    let a = rest_holds (leb block_bytes size) _ h in
    let b = rest_holds (leb size most_memory) _ a in
    (leb-true size most_memory (first_holds (leb size most_memory) _ a), eqb-true (size % block_bytes) 0 (first_holds (eqb (size % block_bytes) 0) _ b))

-- a byte of tags for each block
pub good_tag_bytes : (board : Board) (revoked : List ℕ) (s : State) → good_bits board revoked s ≡ true → length s.tags ≡ length s.mem / block_bytes
unfolding good_bits
good_tag_bytes board revoked s h = eqb-true _ _ (first_holds (eqb (length s.tags) (length s.mem / block_bytes)) _ h)

-- the test of the bits goes by lengths alone
pub bits_alike : (board : Board) (revoked : List ℕ) (s t : State) → length s.mem ≡ length t.mem → length s.tags ≡ length t.tags
    → good_bits board revoked s ≡ good_bits board revoked t
unfolding good_bits
bits_alike board revoked s t m g = rw (m, g)

-- it is the test of `good_lengths`
pub bits_by_lengths : (board : Board) (revoked : List ℕ) (s : State)
    → good_bits board revoked s ≡ (eqb (length s.tags) (length s.mem / block_bytes) && eqb (length revoked) (board.window.size / block_bytes))
unfolding good_bits
bits_by_lengths board revoked s = refl
