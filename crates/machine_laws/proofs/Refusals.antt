-- A refusal's number says what is wrong with the lent buffers, the lowest first, and a refused call changes nothing. Assumes nothing.
use mathlib.Core.Path.{◌≡◌, refl, sym, ◌∙◌}
use mathlib.Core.Bool.{Bool, true, false, not, ◌&&◌, ◌||◌, true≢false}
use mathlib.Core.List.{List}
use Prim.Native.Nat.{ℕ, zero, suc, ◌+◌, ◌*◌, ◌/◌, ◌%◌, ◌^◌, ◌≤◌, ◌<◌}
use native.Mathlib.Omega.{arith}
use lib.Dec.{eqb, leb, ltb}
use lib.ListN.{get_or, length}
use borrow.Author.Tests.{eqb-true, eqb-false, eq-eqb, ne_eqb, leb-true, leb-false, le-leb, lt-ltb, le-ltb, ltb-true, ltb-false}
use Rattle.words.proofs.Word.{by_test}
use Rattle.capability.specs.Capability.{low, high, tagged}
use Rattle.capability.specs.declared.Capability.{Capability}
use Rattle.state.specs.Layout.{register_words, capability_count, capability_words}
use Rattle.state.specs.Registers.{capability_at}
use Rattle.state.specs.Memory.{granule_bytes}
use Rattle.state.specs.Checks.{fail_if}
use Rattle.state.specs.declared.Board.{Board}
use Rattle.state.specs.Lent.{State, report_edition, later_edition}
use Rattle.machine.specs.Refusals.{block_bytes, most_memory, most_steps, good_memory, good_window, good_bits, good_tags, good_zero, good_words, good_edition}
use Rattle.machine.specs.Refusals.{sound, sound_if_tagged, good_bounds, refusal_of}
use Rattle.machine.specs.Run.{step_refusal, step_answer, step_after, run_answer, run_after}
use Rattle.machine.specs.Refusals.{refusal_named}
use Rattle.std.specs.Prelude.{Err}
use Rattle.machine_laws.specs.Lent.{LentRegisters, LentMemory, LentWindow, LentBits, ZeroRegister, LentWords, LentEdition, GoodState, Refusal}
use Rattle.machine_laws.specs.Lent.{Sound, SoundRegisters}
use Rattle.machine_laws.specs.Lent.{is_report, is_later, none, bad_registers, bad_memory, bad_window, bad_bits, bad_words, too_long, bad_edition, unsound}

-- ---- each test says what it means

both : (a b : Bool) → a && b ≡ true → (a ≡ true) × (b ≡ true)
both true true h = (refl, refl)
both true false h = absurd (true≢false (sym h))
both false b h = absurd (true≢false (sym h))

made : {a b : Bool} → a ≡ true → b ≡ true → a && b ≡ true
made p q = rw (p, q)

-- a test that does not pass says that what it means is not so
fails : {A : Type 0} (t : Bool) → (A → t ≡ true) → t ≡ false → A → ⊥
fails t f e a = true≢false (sym (f a) ∙ e)

failed : {A : Type 0} (t : Bool) → (t ≡ true → A) → (A → ⊥) → t ≡ false
failed true f n = absurd (n (f refl))
failed false f n = refl

module _ (board : Board) (size : ℕ) where
  pub memory_is : good_memory board size ≡ true → LentMemory board size
  unfolding good_memory
  memory_is h =
      let a = both (leb block_bytes size) _ h in
      let b = both (leb size most_memory) _ a.1 in
      let c = both (eqb (size % block_bytes) 0) _ b.1 in
      let d = both (eqb (board.start % granule_bytes) 0) _ c.1 in
      record {
        least = leb-true block_bytes size a.0;
        most = leb-true size most_memory b.0;
        blocks = eqb-true (size % block_bytes) 0 c.0;
        start_aligned = eqb-true (board.start % granule_bytes) 0 d.0;
        in_space = leb-true (board.start + size) (2 ^ 32) d.1;
      }

  memory_test : LentMemory board size → good_memory board size ≡ true
  unfolding good_memory
  memory_test m =
      made (le-leb block_bytes size m.least) (made (le-leb size most_memory m.most) (made (eq-eqb (size % block_bytes) 0 m.blocks)
      (made (eq-eqb (board.start % granule_bytes) 0 m.start_aligned) (le-leb (board.start + size) (2 ^ 32) m.in_space))))

  window_is : good_window board size ≡ true → LentWindow board size
  unfolding good_window
  window_is h =
      let a = both (eqb (board.window.start % block_bytes) 0) _ h in
      let b = both (eqb (board.window.size % block_bytes) 0) _ a.1 in
      record {
        start_blocks = eqb-true (board.window.start % block_bytes) 0 a.0;
        size_blocks = eqb-true (board.window.size % block_bytes) 0 b.0;
        in_memory = leb-true (board.window.start + board.window.size) size b.1;
      }

  pub window_test : LentWindow board size → good_window board size ≡ true
  unfolding good_window
  window_test w =
      made (eq-eqb (board.window.start % block_bytes) 0 w.start_blocks) (made (eq-eqb (board.window.size % block_bytes) 0 w.size_blocks)
      (le-leb (board.window.start + board.window.size) size w.in_memory))

module _ (board : Board) (revoked : List ℕ) (s : State) where
  bits_are : good_bits board revoked s ≡ true → LentBits board revoked s
  unfolding good_bits
  bits_are h =
      let a = both (eqb (length s.tags) (length s.mem / block_bytes)) _ h in
      record { tag_bytes = eqb-true _ _ a.0; revocation_bytes = eqb-true _ _ a.1 }

  bits_test : LentBits board revoked s → good_bits board revoked s ≡ true
  unfolding good_bits
  bits_test b = made (eq-eqb _ _ b.tag_bytes) (eq-eqb _ _ b.revocation_bytes)

after : (j i : ℕ) → i ≤ j → (j ≡ i → ⊥) → i + 1 ≤ j
after j i a d = by_test (leb (i + 1) j) (λ t. leb-true (i + 1) j t) (λ t. absurd (d (omega (arith, leb-false (i + 1) j t))))

tags_are : (n : ℕ) (l : List ℕ) (i : ℕ) → good_tags n l i ≡ true → (j : ℕ) → i ≤ j → j < i + n → get_or l (j * capability_words + 2) 0 ≤ 1
unfolding good_tags
tags_are zero l i h j a b = absurd (omega arith)
tags_are (suc n) l i h j a b =
    let t = both (leb (get_or l (i * capability_words + 2) 0) 1) (good_tags n l (i + 1)) h in
    by_test (eqb j i)
    (λ e. rw (eqb-true j i e) (leb-true (get_or l (i * capability_words + 2) 0) 1 t.0))
    (λ e. let d = eqb-false j i e in tags_are n l (i + 1) t.1 j (after j i a d) (omega arith))

tags_test : (n : ℕ) (l : List ℕ) (i : ℕ) → ((j : ℕ) → i ≤ j → j < i + n → get_or l (j * capability_words + 2) 0 ≤ 1) → good_tags n l i ≡ true
unfolding good_tags
tags_test zero l i h = refl
tags_test (suc n) l i h =
    made (le-leb (get_or l (i * capability_words + 2) 0) 1 (h i (omega arith) (omega arith))) (tags_test n l (i + 1) (λ j a b. h j (omega arith) (omega arith)))

zero_is : (l : List ℕ) → good_zero l ≡ true → ZeroRegister l
unfolding good_zero
zero_is l h i b =
    let p = both (eqb (get_or l 0 0) 0) _ h in
    let q = both (eqb (get_or l 1 0) 0) _ p.1 in
    three i b (eqb-true (get_or l 0 0) 0 p.0) (eqb-true (get_or l 1 0) 0 q.0) (eqb-true (get_or l 2 0) 0 q.1)
  where
    three : (i : ℕ) → i < capability_words → get_or l 0 0 ≡ 0 → get_or l 1 0 ≡ 0 → get_or l 2 0 ≡ 0 → get_or l i 0 ≡ 0
    three zero b x y z = x
    three (suc zero) b x y z = y
    three (suc (suc zero)) b x y z = z
    three (suc (suc (suc i))) b x y z = absurd (omega arith)

zero_test : (l : List ℕ) → ZeroRegister l → good_zero l ≡ true
unfolding good_zero
zero_test l h =
    made (eq-eqb (get_or l 0 0) 0 (h 0 (omega arith))) (made (eq-eqb (get_or l 1 0) 0 (h 1 (omega arith))) (eq-eqb (get_or l 2 0) 0 (h 2 (omega arith))))

words_are : (l : List ℕ) → good_words l ≡ true → LentWords l
unfolding good_words
words_are l h =
    let p = both (good_tags capability_count l 0) (good_zero l) h in
    record { tag_words = λ i b. tags_are capability_count l 0 p.0 i (omega arith) (omega arith); c0_words = zero_is l p.1 }

words_test : (l : List ℕ) → LentWords l → good_words l ≡ true
unfolding good_words
words_test l w = made (tags_test capability_count l 0 (λ j a b. w.tag_words j (omega arith))) (zero_test l w.c0_words)

module _ (board : Board) where
  edition_is : good_edition board ≡ true → LentEdition board
  unfolding good_edition
  edition_is h = go (eqb board.edition report_edition) refl h
    where
      go : (a : Bool) → eqb board.edition report_edition ≡ a → a || eqb board.edition later_edition ≡ true → LentEdition board
      go true p q = is_report (eqb-true board.edition report_edition p)
      go false p q = is_later (eqb-true board.edition later_edition q)

  edition_test : LentEdition board → good_edition board ≡ true
  unfolding good_edition
  edition_test (is_report e) = rw e
  edition_test (is_later e) = rw e

-- ---- the bounds of registers

pub sound_is : (c : Capability) → sound c ≡ true → Sound c
unfolding sound
sound_is c h =
    let p = both (leb (low c) (high c)) (leb (high c) (2 ^ 32)) h in
    record { order = leb-true (low c) (high c) p.0; top = leb-true (high c) (2 ^ 32) p.1 }

pub sound_test : (c : Capability) → Sound c → sound c ≡ true
unfolding sound
sound_test c h = made (le-leb (low c) (high c) h.order) (le-leb (high c) (2 ^ 32) h.top)

tagged_is : (c : Capability) → sound_if_tagged c ≡ true → c.tag ≡ 1 → Sound c
unfolding sound_if_tagged tagged
tagged_is c h t = sound_is c (go (eqb c.tag 1) (eq-eqb c.tag 1 t) h)
  where
    go : (b : Bool) → b ≡ true → not b || sound c ≡ true → sound c ≡ true
    go true e q = q
    go false e q = absurd (true≢false (sym e))

tagged_test : (c : Capability) → (c.tag ≡ 1 → Sound c) → sound_if_tagged c ≡ true
unfolding sound_if_tagged tagged
tagged_test c f = go (eqb c.tag 1) refl
  where
    go : (b : Bool) → eqb c.tag 1 ≡ b → (not b || sound c) ≡ true
    go true e = sound_test c (f (eqb-true c.tag 1 e))
    go false e = refl

bounds_are : (n : ℕ) (l : List ℕ) (i : ℕ) → good_bounds n l i ≡ true → (j : ℕ) → i ≤ j → j < i + n → (capability_at l j).tag ≡ 1 → Sound (capability_at l j)
unfolding good_bounds
bounds_are zero l i h j a b t = absurd (omega arith)
bounds_are (suc n) l i h j a b t =
    let p = both (sound_if_tagged (capability_at l i)) (good_bounds n l (i + 1)) h in
    by_test (eqb j i)
    (λ e. tagged_is (capability_at l j) (rw (eqb-true j i e) p.0) t)
    (λ e. bounds_are n l (i + 1) p.1 j (after j i a (eqb-false j i e)) (omega arith) t)

bounds_test : (n : ℕ) (l : List ℕ) (i : ℕ) → ((j : ℕ) → i ≤ j → j < i + n → (capability_at l j).tag ≡ 1 → Sound (capability_at l j)) → good_bounds n l i ≡ true
unfolding good_bounds
bounds_test zero l i h = refl
bounds_test (suc n) l i h =
    made (tagged_test (capability_at l i) (h i (omega arith) (omega arith))) (bounds_test n l (i + 1) (λ j a b. h j (omega arith) (omega arith)))

soundness_is : (l : List ℕ) → good_bounds capability_count l 0 ≡ true → SoundRegisters l
soundness_is l h i b t = bounds_are capability_count l 0 h i (omega arith) (omega arith) t

soundness_test : (l : List ℕ) → SoundRegisters l → good_bounds capability_count l 0 ≡ true
soundness_test l h = bounds_test capability_count l 0 (λ j a b. h j (omega arith))

-- ---- the number

module _ (board : Board) (revoked : List ℕ) (s : State) where
  registers_are : eqb (length s.regs) register_words ≡ true → LentRegisters s
  registers_are h = eqb-true (length s.regs) register_words h

  registers_test : LentRegisters s → eqb (length s.regs) register_words ≡ true
  registers_test h = eq-eqb (length s.regs) register_words h

  -- the refusal that is answered is the lowest that applies
  pub refusal_is : (n : ℕ) → Refusal n board revoked s (refusal_of n board revoked s)
  unfolding refusal_of
  refusal_is n =
      go (eqb (length s.regs) register_words) refl (good_memory board size) refl (good_window board size) refl (good_bits board revoked s) refl
      (good_words s.regs) refl (ltb most_steps n) refl (good_edition board) refl (good_bounds capability_count s.regs 0) refl
    where
      size : ℕ
      size = length s.mem

      all_good : eqb (length s.regs) register_words ≡ true → good_memory board size ≡ true → good_window board size ≡ true
          → good_bits board revoked s ≡ true → good_words s.regs ≡ true → good_edition board ≡ true → GoodState board revoked s
      all_good p q w r t v =
          record {
            registers = registers_are p;
            memory = memory_is board size q;
            window = window_is board size w;
            bits = bits_are board revoked s r;
            words = words_are s.regs t;
            edition = edition_is board v;
          }

      go : (a : Bool) → eqb (length s.regs) register_words ≡ a → (b : Bool) → good_memory board size ≡ b → (x : Bool) → good_window board size ≡ x
          → (c : Bool) → good_bits board revoked s ≡ c → (d : Bool) → good_words s.regs ≡ d → (e : Bool) → ltb most_steps n ≡ e
          → (f : Bool) → good_edition board ≡ f → (g : Bool) → good_bounds capability_count s.regs 0 ≡ g
          → Refusal n board revoked s
          (fail_if (not a) 1 (fail_if (not b) 2 (fail_if (not x) 2 (fail_if (not c) 3 (fail_if (not d) 4 (fail_if e 5
          (fail_if (not f) 7 (fail_if (not g) 8 0))))))))
      go false p b q x w c r d t e u f v g y = bad_registers (fails _ registers_test p)
      go true p false q x w c r d t e u f v g y = bad_memory (registers_are p) (fails _ (memory_test board size) q)
      go true p true q false w c r d t e u f v g y = bad_window (registers_are p) (memory_is board size q) (fails _ (window_test board size) w)
      go true p true q true w false r d t e u f v g y =
          bad_bits (registers_are p) (memory_is board size q) (window_is board size w) (fails _ (bits_test board revoked s) r)
      go true p true q true w true r false t e u f v g y =
          bad_words (registers_are p) (memory_is board size q) (window_is board size w) (bits_are board revoked s r) (fails _ (words_test s.regs) t)
      go true p true q true w true r true t true u f v g y =
          too_long (registers_are p) (memory_is board size q) (window_is board size w) (bits_are board revoked s r) (words_are s.regs t)
          (ltb-true most_steps n u)
      go true p true q true w true r true t false u false v g y =
          bad_edition (registers_are p) (memory_is board size q) (window_is board size w) (bits_are board revoked s r) (words_are s.regs t)
          (ltb-false most_steps n u) (fails _ (edition_test board) v)
      go true p true q true w true r true t false u true v false y =
          unsound (all_good p q w r t v) (ltb-false most_steps n u) (fails _ (soundness_test s.regs) y)
      go true p true q true w true r true t false u true v true y =
          none (all_good p q w r t v) (ltb-false most_steps n u) (soundness_is s.regs y)

  -- and no other: its case is the only one
  pub refusal_only : (n k : ℕ) → Refusal n board revoked s k → refusal_of n board revoked s ≡ k
  unfolding refusal_of
  refusal_only n k (none g few ok) =
      rw (
        registers_test g.registers,
        memory_test board (length s.mem) g.memory,
        window_test board (length s.mem) g.window,
        bits_test board revoked s g.bits,
        words_test s.regs g.words,
        le-ltb most_steps n few,
        edition_test board g.edition,
        soundness_test s.regs ok,
      )
  refusal_only n k (bad_registers h) = rw (failed _ registers_are h)
  refusal_only n k (bad_memory r h) = rw (registers_test r, failed _ (memory_is board (length s.mem)) h)
  refusal_only n k (bad_window r m h) =
      rw (registers_test r, memory_test board (length s.mem) m, failed _ (window_is board (length s.mem)) h)
  refusal_only n k (bad_bits r m w h) =
      rw (
        registers_test r,
        memory_test board (length s.mem) m,
        window_test board (length s.mem) w,
        failed _ (bits_are board revoked s) h,
      )
  refusal_only n k (bad_words r m w b h) =
      rw (
        registers_test r,
        memory_test board (length s.mem) m,
        window_test board (length s.mem) w,
        bits_test board revoked s b,
        failed _ (words_are s.regs) h,
      )
  refusal_only n k (too_long r m w b d many) =
      rw (
        registers_test r,
        memory_test board (length s.mem) m,
        window_test board (length s.mem) w,
        bits_test board revoked s b,
        words_test s.regs d,
        lt-ltb most_steps n many,
      )
  refusal_only n k (bad_edition r m w b d few h) =
      rw (
        registers_test r,
        memory_test board (length s.mem) m,
        window_test board (length s.mem) w,
        bits_test board revoked s b,
        words_test s.regs d,
        le-ltb most_steps n few,
        failed _ (edition_is board) h,
      )
  refusal_only n k (unsound g few h) =
      rw (
        registers_test g.registers,
        memory_test board (length s.mem) g.memory,
        window_test board (length s.mem) g.window,
        bits_test board revoked s g.bits,
        words_test s.regs g.words,
        le-ltb most_steps n few,
        edition_test board g.edition,
        failed _ (soundness_is s.regs) h,
      )

  -- nothing is refused exactly where the buffers are good, the steps few enough and the registers sound
  accepted_for : (n : ℕ) → refusal_of n board revoked s ≡ 0 → GoodState board revoked s × SoundRegisters s.regs
  accepted_for n h = at (refusal_of n board revoked s) (refusal_is n) h
    where
      at : (k : ℕ) → Refusal n board revoked s k → k ≡ 0 → GoodState board revoked s × SoundRegisters s.regs
      at k (none g few ok) e = (g, ok)
      at k (bad_registers x) e = absurd (omega arith)
      at k (bad_memory r x) e = absurd (omega arith)
      at k (bad_window r m x) e = absurd (omega arith)
      at k (bad_bits r m w x) e = absurd (omega arith)
      at k (bad_words r m w b x) e = absurd (omega arith)
      at k (too_long r m w b d many) e = absurd (omega arith)
      at k (bad_edition r m w b d few x) e = absurd (omega arith)
      at k (unsound g few x) e = absurd (omega arith)

  pub good_for : (n : ℕ) → refusal_of n board revoked s ≡ 0 → GoodState board revoked s
  good_for n h = (accepted_for n h).0

  pub sound_for : (n : ℕ) → refusal_of n board revoked s ≡ 0 → SoundRegisters s.regs
  sound_for n h = (accepted_for n h).1

  pub good_of : step_refusal board revoked s ≡ 0 → GoodState board revoked s
  good_of h = good_for 1 h

  pub of_good : GoodState board revoked s → SoundRegisters s.regs → (n : ℕ) → n ≤ most_steps → refusal_of n board revoked s ≡ 0
  of_good g ok n few = refusal_only n 0 (none g few ok)

  -- ---- a refused call changes nothing

  module _ (refused : step_refusal board revoked s ≡ 0 → ⊥) where
    pub refused_step : step_after board revoked s ≡ s
    unfolding step_after
    refused_step = rw (ne_eqb (step_refusal board revoked s) 0 refused)

    pub refused_step_answer : step_answer board revoked s ≡ Err (refusal_named (step_refusal board revoked s))
    unfolding step_answer
    refused_step_answer = rw (ne_eqb (step_refusal board revoked s) 0 refused)

    -- a run is refused where a step is
    pub refused_too : (n : ℕ) → refusal_of n board revoked s ≡ 0 → ⊥
    refused_too n h = refused (of_good (good_for n h) (sound_for n h) 1 (omega arith))

    -- and with the same number, but that 5 stands before 7 and 8
    pub refused_alike : (n : ℕ) → n ≤ most_steps → refusal_of n board revoked s ≡ step_refusal board revoked s
    refused_alike n few = refusal_only n (step_refusal board revoked s) (alike (step_refusal board revoked s) (refusal_is 1) refused)
      where
        alike : (k : ℕ) → Refusal 1 board revoked s k → (k ≡ 0 → ⊥) → Refusal n board revoked s k
        alike k (none g one ok) h = absurd (h refl)
        alike k (bad_registers x) h = bad_registers x
        alike k (bad_memory r x) h = bad_memory r x
        alike k (bad_window r m x) h = bad_window r m x
        alike k (bad_bits r m w x) h = bad_bits r m w x
        alike k (bad_words r m w b x) h = bad_words r m w b x
        alike k (too_long r m w b d many) h = absurd (omega arith)
        alike k (bad_edition r m w b d one x) h = bad_edition r m w b d few x
        alike k (unsound g one x) h = unsound g few x

  pub refused_run : (n : ℕ) → (refusal_of n board revoked s ≡ 0 → ⊥) → run_after n board revoked s ≡ s
  unfolding run_after
  refused_run n h = rw (ne_eqb (refusal_of n board revoked s) 0 h)

  pub refused_run_answer : (n : ℕ) → (refusal_of n board revoked s ≡ 0 → ⊥) → run_answer n board revoked s
      ≡ Err (refusal_named (refusal_of n board revoked s))
  unfolding run_answer
  refused_run_answer n h = rw (ne_eqb (refusal_of n board revoked s) 0 h)

  -- 5 where nothing else is refused and too many steps are asked; else a run of good buffers is not refused
  module _ (good : step_refusal board revoked s ≡ 0) where
    pub too_many : (n : ℕ) → most_steps < n → refusal_of n board revoked s ≡ 5
    too_many n h =
        let g = good_of good in
        refusal_only n 5 (too_long g.registers g.memory g.window g.bits g.words h)

    pub not_too_many : (n : ℕ) → n ≤ most_steps → refusal_of n board revoked s ≡ 0
    not_too_many n h = of_good (good_of good) (sound_for 1 good) n h
