-- What the first place is, by cases and no other; the refusals' numbers; and the promise of a search, by how it ends. Assumes nothing.
use mathlib.Core.Path.{◌≡◌, refl, sym, ◌∙◌}
use mathlib.Core.Bool.{Bool, true, false, cond, not, ◌&&◌, ◌||◌, true≢false}
use mathlib.Core.List.{[]}
use Rattle.std.specs.Prelude.{Option, Some, None, Result, Ok, Err}
use Prim.Native.Nat.{ℕ, zero, suc, ◌+◌, ◌-◌, ◌^◌, ◌≤◌}
use native.Mathlib.Omega.{arith}
use lib.Dec.{eqb, leb, ltb}
use lib.ListN.{length}
use borrow.Author.Tests.{eq-eqb, ne_eqb, le-leb, eqb-true, eqb-false}
use Rattle.words.proofs.Word.{by_test}
use Rattle.bounds.specs.declared.Region.{Region}
use Rattle.metadata.specs.Rights.{all_rights}
use Rattle.capability.specs.Capability.{low, high, tagged}
use Rattle.capability.specs.declared.Capability.{Capability}
use Rattle.state.specs.Layout.{register_words, capability_count}
use Rattle.state.specs.Lent.{State}
use Rattle.state.specs.Checks.{fail_if}
use Rattle.machine.specs.Refusals.{most_memory, good_memory, good_window, good_bits, good_words, good_edition, good_bounds, sound, refusal_of}
use Rattle.machine.specs.Refusals.{number_of, refusal_named}
use Rattle.machine.specs.declared.answers.Refusal.{Refusal}
use Rattle.machine.proofs.Laws.{refusal_named_number, number_positive, good_size}
use Rattle.reach.specs.Reach.{end, grants_all, reaches_into, places_in, first_of, passes_in, first_reach, board_at, asked_refusal, reach_refusal, reach_answer}
use Rattle.reach.specs.Reach.{NoneBetween, FirstPlace, none_passes, first_passes, reach_number, found_place, packed_reach, ReachPromise}
use Rattle.reach.specs.declared.Query.{Query}

-- ---- the first place

module _ (passes : ℕ → Bool) (to : ℕ) where
  later : (p : ℕ) → passes p ≡ false → (a : Option ℕ) → FirstPlace passes (p + 1) to a → FirstPlace passes p to a
  later p f a (none_passes h) = none_passes (λ k l u. by_test (eqb k p) (λ e. rw (eqb-true k p e) f) (λ e. h k (omega (arith, eqb-false k p e)) u))
  later p f a (first_passes i l u t h) =
      first_passes i (omega arith) u t (λ k m v. by_test (eqb k p) (λ e. rw (eqb-true k p e) f) (λ e. h k (omega (arith, eqb-false k p e)) v))

  pub first_of_is : (n p : ℕ) → p + n ≡ to → FirstPlace passes p to (first_of n passes p)
  unfolding first_of
  first_of_is zero p e = none_passes (λ k l u. absurd (omega (arith, e)))
  first_of_is (suc n) p e =
      by_test (passes p) (λ t. rw t (first_passes p (omega arith) (omega (arith, e)) t (λ k l u. absurd (omega arith))))
      (λ t. rw t (later p t _ (first_of_is n (p + 1) (omega (arith, e)))))

-- its place is 0 where there is none alone
pub none_of : (n p : ℕ) (passes : ℕ → Bool) → found_place (first_of n passes p) ≡ 0 → first_of n passes p ≡ None
none_of n p passes z = at (first_of n passes p) z
  where
    at : (a : Option ℕ) → found_place a ≡ 0 → a ≡ None
    at None z = refl
    at (Some i) z = absurd (omega arith)

module _ (q : Query) (s : State) where
  -- which it is, from a place on
  pub first_is : (from : ℕ) → from ≤ places_in (length s.mem) → FirstPlace (passes_in q s) from (places_in (length s.mem)) (first_reach q s from)
  unfolding first_reach
  first_is from l = first_of_is (passes_in q s) (places_in (length s.mem)) (places_in (length s.mem) - from) from (omega arith)

  -- none from the first place on: none at all
  pub none_at_all : first_reach q s 0 ≡ None → NoneBetween (passes_in q s) 0 (places_in (length s.mem))
  none_at_all e = go (first_reach q s 0) (first_is 0 (omega arith)) e
    where
      go : (a : Option ℕ) → FirstPlace (passes_in q s) 0 (places_in (length s.mem)) a → a ≡ None
          → NoneBetween (passes_in q s) 0 (places_in (length s.mem))
      go a (none_passes h) z = h
      go a (first_passes p l u t h) z = cc

  -- and the other way round
  pub at_all_none : NoneBetween (passes_in q s) 0 (places_in (length s.mem)) → first_reach q s 0 ≡ None
  at_all_none f = go (first_reach q s 0) (first_is 0 (omega arith))
    where
      go : (a : Option ℕ) → FirstPlace (passes_in q s) 0 (places_in (length s.mem)) a → a ≡ None
      go a (none_passes h) = refl
      go a (first_passes p l u t h) = absurd (true≢false (sym t ∙ f p l u))

-- nothing reaches into an empty range
pub empty_range : (q : Query) (c : Capability) → q.length ≡ 0 → reaches_into q c ≡ false
unfolding reaches_into
empty_range q c h = rw h (go (tagged c))
  where
    go : (t : Bool) → t && false ≡ false
    go true = refl
    go false = refl

-- ---- a capability that is tagged, of a range that is not empty

module _ (q : Query) (c : Capability) (region : Region) (is : region ≡ record { low = low c; high = high c }) where
  -- by its bounds as they were read
  pub reaches_by : tagged c ≡ true → (q.length ≡ 0 → ⊥)
      → reaches_into q c
      ≡ (not (leb region.low region.high && leb region.high (2 ^ 32))
      || (grants_all q.rights c && (ltb region.low region.high && (ltb region.low (end q) && ltb q.low region.high))))
  unfolding reaches_into sound
  reaches_by t l = rw (is, t, ne_eqb q.length 0 l)

-- ---- refusals

-- the four tests in a row, then what follows
abbrev in_row : (a b c d : Bool) → (last : ℕ) → ℕ
in_row a b c d last = fail_if a 1 (fail_if b 2 (fail_if c 3 (fail_if d 4 last)))

-- a number that is refused: not 0, and not that of registers which are not sound
abbrev pub refused : (n : ℕ) → Bool
refused n = not (eqb n 0) && not (eqb n 8)

row_stops : (a b c d e : Bool) (last : ℕ) → refused (in_row a b c d (fail_if e 8 0)) ≡ true → in_row a b c d (fail_if e 8 0) ≡ in_row a b c d last
row_stops true b c d e last h = refl
row_stops false true c d e last h = refl
row_stops false false true d e last h = refl
row_stops false false false true e last h = refl
row_stops false false false false true last h = absurd (true≢false (sym h))
row_stops false false false false false last h = absurd (true≢false (sym h))

row_passes : (a b c d e : Bool) (last : ℕ) → refused (in_row a b c d (fail_if e 8 0)) ≡ false → last ≡ in_row a b c d last
row_passes true b c d e last h = absurd (true≢false h)
row_passes false true c d e last h = absurd (true≢false h)
row_passes false false true d e last h = absurd (true≢false h)
row_passes false false false true e last h = absurd (true≢false h)
row_passes false false false false e last h = refl

asked_small : (q : Query) (size from : ℕ) → asked_refusal q size from ≤ 21
unfolding asked_refusal
asked_small q size from = go (not (leb q.rights all_rights)) (not (ltb from (places_in size)))
  where
    go : (a b : Bool) → fail_if a 20 (fail_if b 21 0) ≤ 21
    go true b = omega arith
    go false true = omega arith
    go false false = omega arith

module _ (start : ℕ) (q : Query) (from : ℕ) (s : State) where
  abbrev size : ℕ
  size = length s.mem

  abbrev bad_registers : Bool
  bad_registers = not (eqb (length s.regs) register_words)

  abbrev bad_memory : Bool
  bad_memory = not (good_memory (board_at start) size)

  abbrev bad_bits : Bool
  bad_bits = not (good_bits (board_at start) [] s)

  abbrev bad_words : Bool
  bad_words = not (good_words s.regs)

  abbrev unsound : Bool
  unsound = not (good_bounds capability_count s.regs 0)

  -- a step's refusal, of a call of no steps, with no window
  as_a_step : refusal_of 0 (board_at start) [] s ≡ in_row bad_registers bad_memory bad_bits bad_words (fail_if unsound 8 0)
  unfolding refusal_of good_window good_edition
  as_a_step = rw (le-leb 0 size (omega arith)) refl

  -- that, where a register that is not sound is none
  module _ (n : ℕ) (is : n ≡ refusal_of 0 (board_at start) [] s) where
    pub refused_as_a_step : (why : Refusal) → number_of why ≡ cond (eqb n 8) 0 n → number_of why ≡ reach_refusal start q from s
    unfolding reach_refusal
    refused_as_a_step why e =
        by_test (eqb n 8) (λ t. absurd (number_positive why (rw t at e)))
        (λ t.
        let f : number_of why ≡ n = rw t at e in
        let g = is ∙ as_a_step in
        let h : refused n ≡ true = rw (t, ne_eqb n 0 (λ z. number_positive why (f ∙ z))) in
        f ∙ g ∙ row_stops bad_registers bad_memory bad_bits bad_words unsound (asked_refusal q size from) (rw (← g) h))

    pub refused_as_asked : 0 ≡ cond (eqb n 8) 0 n → asked_refusal q size from ≡ reach_refusal start q from s
    unfolding reach_refusal
    refused_as_asked z =
        let g = is ∙ as_a_step in
        let h : refused n ≡ false = by_test (eqb n 8) (λ t. rw (eqb-true n 8 t)) (λ t. let f : 0 ≡ n = rw t at z in rw (← f)) in
        row_passes bad_registers bad_memory bad_bits bad_words unsound (asked_refusal q size from) (rw (← g) h)

  pub refusal_small : reach_refusal start q from s ≤ 21
  unfolding reach_refusal
  refusal_small = go bad_registers bad_memory bad_bits bad_words
    where
      go : (a b c d : Bool) → in_row a b c d (asked_refusal q size from) ≤ 21
      go true b c d = omega arith
      go false true c d = omega arith
      go false false true d = omega arith
      go false false false true = omega arith
      go false false false false = asked_small q size from

  -- what is not refused has no more memory than may be lent
  pub accepted_size : reach_refusal start q from s ≡ 0 → length s.mem ≤ most_memory
  unfolding reach_refusal
  accepted_size h = go bad_registers (good_memory (board_at start) size) refl _ h
    where
      go : (a b : Bool) → good_memory (board_at start) size ≡ b → (rest : ℕ) → fail_if a 1 (fail_if (not b) 2 rest) ≡ 0 → length s.mem ≤ most_memory
      go false true e rest h = (good_size (board_at start) size e).0
      go false false e rest h = absurd (omega arith)
      go true b e rest h = absurd (omega arith)

  -- ---- the promise

  pub reach_refused : (why : Refusal) → number_of why ≡ reach_refusal start q from s → ReachPromise start q from s (Err why)
  unfolding reach_answer
  reach_refused why e =
      let f : eqb (reach_refusal start q from s) 0 ≡ false = rw (← e) (ne_eqb (number_of why) 0 (number_positive why)) in
      record { answer_is = rw (f, ← e, refusal_named_number why); number_is = e; place_is = rw f }

  pub reach_done : (found : Option ℕ) → 0 ≡ reach_refusal start q from s → found ≡ first_reach q s from → ReachPromise start q from s (Ok found)
  unfolding reach_answer
  reach_done found e a =
      let f : eqb (reach_refusal start q from s) 0 ≡ true = eq-eqb (reach_refusal start q from s) 0 (sym e) in
      record { answer_is = rw (f, a); number_is = e; place_is = rw (f, a) }

  -- its number is that of a refusal
  pub number_small : (answer : Result (Option ℕ) Refusal) → ReachPromise start q from s answer → reach_number answer ≤ 21
  number_small answer p = rw p.number_is refusal_small

  -- ---- an answer of none, as a value and as a number

  pub nowhere_first : reach_answer start q from s ≡ Ok None → first_reach q s from ≡ None
  unfolding reach_answer
  nowhere_first e = go (eqb (reach_refusal start q from s) 0) e
    where
      go : (b : Bool) → cond b (Ok (first_reach q s from)) (Err (refusal_named (reach_refusal start q from s))) ≡ Ok None → first_reach q s from ≡ None
      go true e = cc
      go false e = cc

  pub packed_none : packed_reach (reach_answer start q from s) ≡ 0 → first_reach q s from ≡ None
  unfolding reach_answer first_reach
  packed_none e = go (eqb (reach_refusal start q from s) 0) e
    where
      go : (b : Bool) → packed_reach (cond b (Ok (first_reach q s from)) (Err (refusal_named (reach_refusal start q from s)))) ≡ 0
          → first_reach q s from ≡ None
      go true e = none_of _ from (passes_in q s) (omega (arith, e))
      go false e = absurd (number_positive (refusal_named (reach_refusal start q from s)) (omega (arith, e)))
