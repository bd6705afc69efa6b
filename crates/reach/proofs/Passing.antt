-- The search outside a range of granules: a first find that is none of them is the answer, else what is found behind them. The refusals, and the promise.
-- Assumes nothing.
use mathlib.Core.Path.{◌≡◌, refl, sym, ◌∙◌}
use mathlib.Core.Bool.{Bool, true, false, cond, not, ◌&&◌, true≢false}
use mathlib.Core.List.{[]}
use Rattle.std.specs.Prelude.{Option, None, Result, Ok, Err}
use Prim.Native.Nat.{ℕ, ◌+◌, ◌-◌, ◌*◌, ◌%◌, ◌^◌, ◌≤◌, ◌<◌}
use native.Mathlib.Omega.{arith}
use lib.Dec.{eqb, leb, ltb}
use lib.ListN.{length}
use borrow.Author.Tests.{eq-eqb, ne_eqb, eqb-true, eqb-false, leb-true, ltb-true, ltb-false, le-leb, lt-ltb}
use Rattle.words.proofs.Word.{by_test}
use Rattle.std.proofs.lemmas.Bool.{and_parts}
use Rattle.metadata.specs.Rights.{all_rights}
use Rattle.state.specs.Layout.{register_words, capability_count}
use Rattle.state.specs.Lent.{State}
use Rattle.state.specs.Memory.{granule_bytes}
use Rattle.state.specs.Checks.{fail_if}
use Rattle.machine.specs.declared.answers.Refusal.{Refusal}
use Rattle.machine.proofs.Laws.{refusal_named_number, number_positive}
use Rattle.machine.specs.Refusals.{number_of, refusal_named, block_bytes, most_memory, good_memory, good_bits, good_words}
use Rattle.reach.specs.Reach.{end, places_in, passes_in, first_reach, board_at, asked_refusal, reach_refusal}
use Rattle.reach.specs.Reach.{NoneBetween, FirstPlace, none_passes, first_passes, reach_number, packed_reach}
use Rattle.reach.specs.Outside.{is_hidden, passes_outside, first_outside, at_edges, outside_refusal, outside_answer, OutsidePromise}
use Rattle.reach.specs.Outside.{place_behind, found_hidden}
use Rattle.reach.specs.declared.Query.{Query}
use Rattle.reach.proofs.Search.{passed_over, first_unique, first_alike}
use Rattle.reach.proofs.Laws.{first_of_is, none_of, first_is, refusal_small}

fourth : (a b c d e : Bool) → a && (b && (c && (d && e))) ≡ true → d ≡ true
fourth a b c d e h = (and_parts d e (and_parts c (d && e) (and_parts b (c && (d && e)) (and_parts a (b && (c && (d && e))) h).1).1).1).0

-- ---- the search

module _ (start : ℕ) (q : Query) (s : State) where
  -- the place behind the last
  abbrev last : ℕ
  last = places_in (length s.mem)

  hidden_is : (p : ℕ) → is_hidden start q p ≡ true
      → (capability_count ≤ p) × (q.low ≤ start + (p - capability_count) * granule_bytes) × (start + (p - capability_count) * granule_bytes < end q)
  hidden_is p h =
      let a = and_parts (leb capability_count p) _ h in
      let b = and_parts (leb q.low (start + (p - capability_count) * granule_bytes)) _ a.1 in
      (leb-true _ _ a.0, leb-true _ _ b.0, ltb-true _ _ b.1)

  is_hidden_lem : (p : ℕ) → capability_count ≤ p → q.low ≤ start + (p - capability_count) * granule_bytes
      → start + (p - capability_count) * granule_bytes < end q → is_hidden start q p ≡ true
  is_hidden_lem p a b c = rw (le-leb _ _ a, le-leb _ _ b, lt-ltb _ _ c) refl

  -- what does not pass, does not outside; nor does a granule of the range; all else passes outside as it does
  none_outside : (p : ℕ) → passes_in q s p ≡ false → passes_outside start q s p ≡ false
  unfolding passes_outside
  none_outside p h = rw h (go (not (is_hidden start q p)))
    where
      go : (b : Bool) → b && false ≡ false
      go true = refl
      go false = refl

  hidden_outside : (p : ℕ) → is_hidden start q p ≡ true → passes_outside start q s p ≡ false
  unfolding passes_outside
  hidden_outside p h = rw h refl

  shown_outside : (p : ℕ) → is_hidden start q p ≡ false → passes_outside start q s p ≡ passes_in q s p
  unfolding passes_outside
  shown_outside p h = rw h refl

  -- which it is, from a place on
  pub outside_is : (from : ℕ) → from ≤ last → FirstPlace (passes_outside start q s) from last (first_outside start q s from)
  unfolding first_outside
  outside_is from l = first_of_is (passes_outside start q s) last (last - from) from (omega arith)

  -- none from the first place on: none at all, but those of the range
  pub none_but_hidden : first_outside start q s 0 ≡ None → (p : ℕ) → p < last → is_hidden start q p ≡ false → passes_in q s p ≡ false
  none_but_hidden e p l h = sym (shown_outside p h) ∙ go _ (outside_is 0 (omega arith)) e
    where
      go : (a : Option ℕ) → FirstPlace (passes_outside start q s) 0 last a → a ≡ None → passes_outside start q s p ≡ false
      go a (none_passes f) z = f p (omega arith) l
      go a (first_passes i m u t f) z = cc

  module _ (from : ℕ) (one : from ≤ last) (found : Option ℕ) (is : found ≡ first_reach q s from) where
    -- the first find is no granule of the range
    pub outside_found : found_hidden start q found ≡ false → found ≡ first_outside start q s from
    unfolding first_outside
    outside_found h = rw is (first_unique (passes_outside start q s) last (last - from) from (omega arith) _ (go _ (first_is q s from one) (rw is at h)))
      where
        go : (a : Option ℕ) → FirstPlace (passes_in q s) from last a → found_hidden start q a ≡ false → FirstPlace (passes_outside start q s) from last a
        go a (none_passes f) h = none_passes (λ p l u. none_outside p (f p l u))
        go a (first_passes p l u t f) h = first_passes p l u (shown_outside p h ∙ t) (λ k m v. none_outside k (f k m v))

    -- or it is one of them: a row of places, and behind it none is of the range
    module _ (aligned : start % granule_bytes ≡ 0) (edge : end q % granule_bytes ≡ 0) (hidden : found_hidden start q found ≡ true) where
      abbrev behind : ℕ
      behind = place_behind start q

      -- where the row starts, at the latest
      record Begun : Type 0 where
        first : ℕ
        after : from ≤ first
        is_one : is_hidden start q first ≡ true
        none_before : NoneBetween (passes_in q s) from first

      begun : Begun
      begun = go _ (first_is q s from one) (rw is at hidden)
        where
          go : (a : Option ℕ) → FirstPlace (passes_in q s) from last a → found_hidden start q a ≡ true → Begun
          go a (none_passes f) h = absurd (true≢false (sym h))
          go a (first_passes p l u t f) h = record { first = p; after = l; is_one = h; none_before = f }

      before_behind : (p : ℕ) → from ≤ p → p < behind → passes_outside start q s p ≡ false
      before_behind p l u =
          let b = hidden_is begun.first begun.is_one in
          by_test (ltb p begun.first) (λ t. none_outside p (begun.none_before p l (ltb-true p begun.first t)))
          (λ t.
          let m = ltb-false p begun.first t in
          hidden_outside p (is_hidden_lem p (omega (arith, b.0)) (omega (arith, b.0, b.1)) (omega (arith, b.0, b.2))))

      shown_behind : (p : ℕ) → behind ≤ p → is_hidden start q p ≡ false
      shown_behind p l =
          by_test (is_hidden start q p) (λ t. let b = hidden_is p t in absurd (omega (arith, b.0, b.2))) (λ t. t)

      -- memory's start is not behind the range
      pub outside_starts : start ≤ end q
      outside_starts = let b = hidden_is begun.first begun.is_one in omega (arith, b.2)

      pub outside_behind : (a : Option ℕ) → a ≡ first_reach q s behind → a ≡ first_outside start q s from
      unfolding first_reach first_outside
      outside_behind a e =
          let b = hidden_is begun.first begun.is_one in
          let k : from + (behind - from) ≡ behind = omega (arith, b.0, b.2, begun.after) in
          let d : last - from - (behind - from) ≡ last - behind = omega (arith, b.0, b.2, begun.after) in
          e
          ∙ first_alike (passes_in q s) (passes_outside start q s) (last - behind) behind (λ p l. sym (shown_outside p (shown_behind p l)))
          ∙ sym (rw (k, d) at (passed_over (passes_outside start q s) (behind - from) (last - from) from
          (λ j l. before_behind (from + j) (omega arith) (omega arith))))

-- ---- refusals

module _ (start : ℕ) (q : Query) (from : ℕ) (s : State) where
  abbrev asked : ℕ
  asked = reach_refusal start q from s

  abbrev no : ℕ
  no = outside_refusal start q from s

  -- by a refusal of `reach`
  pub refused_as_reach : (why : Refusal) → number_of why ≡ asked → number_of why ≡ no
  unfolding outside_refusal
  refused_as_reach why e = let f : eqb asked 0 ≡ false = rw (← e) (ne_eqb (number_of why) 0 (number_positive why)) in rw f e

  -- and where there is none, by the range
  pub refused_by_edges : asked ≡ 0 → fail_if (not (at_edges q)) 22 0 ≡ no
  unfolding outside_refusal
  refused_by_edges z = rw (eq-eqb asked 0 z) refl

  -- what `reach` does not refuse has memory's start at the edge of a granule, and a place to search from
  pub accepted_start : asked ≡ 0 → start % granule_bytes ≡ 0
  unfolding reach_refusal good_memory
  accepted_start h = go (not (eqb (length s.regs) register_words)) (good_memory (board_at start) (length s.mem)) refl _ h
    where
      go : (a b : Bool) → good_memory (board_at start) (length s.mem) ≡ b → (rest : ℕ) → fail_if a 1 (fail_if (not b) 2 rest) ≡ 0 → start % granule_bytes ≡ 0
      go false true e rest h =
          eqb-true (start % granule_bytes) 0
          (fourth (leb block_bytes (length s.mem)) (leb (length s.mem) most_memory) (eqb (length s.mem % block_bytes) 0)
          (eqb (start % granule_bytes) 0) (leb (start + length s.mem) (2 ^ 32)) e)
      go false false e rest h = absurd (omega arith)
      go true b e rest h = absurd (omega arith)

  pub accepted_from : asked ≡ 0 → from < places_in (length s.mem)
  unfolding reach_refusal asked_refusal
  accepted_from h =
      go (not (eqb (length s.regs) register_words)) (not (good_memory (board_at start) (length s.mem))) (not (good_bits (board_at start) [] s))
      (not (good_words s.regs)) (not (leb q.rights all_rights)) (ltb from (places_in (length s.mem))) refl h
    where
      go : (a b c d e f : Bool) → ltb from (places_in (length s.mem)) ≡ f
          → fail_if a 1 (fail_if b 2 (fail_if c 3 (fail_if d 4 (fail_if e 20 (fail_if (not f) 21 0))))) ≡ 0 → from < places_in (length s.mem)
      go true b c d e f t z = absurd (omega arith)
      go false true c d e f t z = absurd (omega arith)
      go false false true d e f t z = absurd (omega arith)
      go false false false true e f t z = absurd (omega arith)
      go false false false false true f t z = absurd (omega arith)
      go false false false false false false t z = absurd (omega arith)
      go false false false false false true t z = ltb-true from (places_in (length s.mem)) t

  -- what is not refused is not refused by `reach`, and cuts no granule
  pub accepted_outside : no ≡ 0 → (asked ≡ 0) × (q.low % granule_bytes ≡ 0) × (end q % granule_bytes ≡ 0)
  unfolding outside_refusal
  accepted_outside h = go (eqb asked 0) refl (at_edges q) refl h
    where
      go : (b : Bool) → eqb asked 0 ≡ b → (t : Bool) → at_edges q ≡ t → fail_if (not b) asked (fail_if (not t) 22 0) ≡ 0
          → (asked ≡ 0) × (q.low % granule_bytes ≡ 0) × (end q % granule_bytes ≡ 0)
      go true e true f z =
          let m = and_parts (eqb (q.low % granule_bytes) 0) (eqb (end q % granule_bytes) 0) f in
          (eqb-true asked 0 e, eqb-true (q.low % granule_bytes) 0 m.0, eqb-true (end q % granule_bytes) 0 m.1)
      go true e false f z = absurd (omega (arith, z))
      go false e t f z = absurd (eqb-false asked 0 e z)

  outside_small : no ≤ 22
  unfolding outside_refusal
  outside_small = go (eqb asked 0) (at_edges q)
    where
      go : (b t : Bool) → fail_if (not b) asked (fail_if (not t) 22 0) ≤ 22
      go true true = omega arith
      go true false = omega arith
      go false t = omega (arith, refusal_small start q from s)

  -- ---- the promise

  pub outside_refused : (why : Refusal) → number_of why ≡ no → OutsidePromise start q from s (Err why)
  unfolding outside_answer
  outside_refused why e =
      let f : eqb no 0 ≡ false = rw (← e) (ne_eqb (number_of why) 0 (number_positive why)) in
      record { answer_is = rw (f, ← e, refusal_named_number why); number_is = e; place_is = rw f }

  pub outside_done : (found : Option ℕ) → no ≡ 0 → found ≡ first_outside start q s from → OutsidePromise start q from s (Ok found)
  unfolding outside_answer
  outside_done found e a =
      let f : eqb no 0 ≡ true = eq-eqb no 0 e in
      record { answer_is = rw (f, a); number_is = sym e; place_is = rw (f, a) }

  -- by what was found first
  module _ (z : no ≡ 0) (found : Option ℕ) (is : found ≡ first_reach q s from) where
    one : from ≤ places_in (length s.mem)
    one = omega (arith, accepted_from (accepted_outside z).0)

    pub outside_returned : found_hidden start q found ≡ false → OutsidePromise start q from s (Ok found)
    outside_returned h = outside_done found z (outside_found start q s from one found is h)

    module _ (h : found_hidden start q found ≡ true) where
      pub outside_in_order : start ≤ end q
      outside_in_order = outside_starts start q s from one found is (accepted_start (accepted_outside z).0) (accepted_outside z).2 h

      pub outside_went_on : (p : ℕ) → p ≡ place_behind start q → (answer : Option ℕ) → answer ≡ first_reach q s p → OutsidePromise start q from s (Ok answer)
      outside_went_on p e answer a =
          outside_done answer z
          (outside_behind start q s from one found is (accepted_start (accepted_outside z).0) (accepted_outside z).2 h answer (rw e at a))

  -- its number is that of a refusal
  pub outside_number : (answer : Result (Option ℕ) Refusal) → OutsidePromise start q from s answer → reach_number answer ≤ 22
  outside_number answer p = rw p.number_is outside_small

  -- ---- an answer of none, as a value and as a number

  pub nowhere_outside : outside_answer start q from s ≡ Ok None → (no ≡ 0) × (first_outside start q s from ≡ None)
  unfolding outside_answer
  nowhere_outside e = go (eqb no 0) refl e
    where
      go : (b : Bool) → eqb no 0 ≡ b → cond b (Ok (first_outside start q s from)) (Err (refusal_named no)) ≡ Ok None
          → (no ≡ 0) × (first_outside start q s from ≡ None)
      go true f e = (eqb-true no 0 f, cc)
      go false f e = cc

  pub packed_outside : packed_reach (outside_answer start q from s) ≡ 0 → (no ≡ 0) × (first_outside start q s from ≡ None)
  unfolding outside_answer first_outside
  packed_outside e = go (eqb no 0) refl e
    where
      go : (b : Bool) → eqb no 0 ≡ b → packed_reach (cond b (Ok (first_outside start q s from)) (Err (refusal_named no))) ≡ 0
          → (no ≡ 0) × (first_outside start q s from ≡ None)
      go true f e = (eqb-true no 0 f, none_of _ from (passes_outside start q s) (omega (arith, e)))
      go false f e = absurd (number_positive (refusal_named no) (omega (arith, e)))
