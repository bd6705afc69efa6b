-- A visit that is not refused is of a granule of memory that has a tag; it changes that tag at most, and only from set to clear. Assumes nothing.
use mathlib.Core.Path.{◌≡◌, refl, sym, ap, ◌∙◌}
use mathlib.Core.Logic.{◌⊎◌, inl, inr}
use mathlib.Core.Bool.{Bool, true, false, cond, not}
use mathlib.Core.List.{List, []}
use Prim.Native.Nat.{ℕ, ◌+◌, ◌*◌, ◌/◌, ◌%◌, ◌^◌, ◌≤◌, ◌<◌}
use native.Mathlib.Omega.{arith}
use lib.Dec.{eqb, ltb}
use lib.ListN.{length}
use borrow.Author.Tests.{eqb-true, eqb-false, eq-eqb, ne_eqb, ltb-true, lt-ltb}
use Rattle.words.specs.Words.{Bytes, bit_at, put_bit}
use Rattle.words.proofs.Bits.{length_put_bit, bit_at_put_bit_same, bit_at_put_bit_other, put_bit_Bytes}
use Rattle.capability.specs.declared.Capability.{Capability}
use Rattle.state.specs.Lent.{state}
use Rattle.state.specs.Checks.{fail_if}
use Rattle.state.specs.declared.Board.{Board}
use Rattle.state.proofs.Laws.{cond_holds, capability_in_granule}
use Rattle.memory_instructions.specs.Access.{revoked_value}
use Rattle.memory_instructions.proofs.Laws.{untagged_unrevoked}
use Rattle.machine.specs.Refusals.{block_bytes, most_memory, good_memory, good_window, good_bits}
use Rattle.machine.proofs.Laws.{good_size, good_tag_bytes, bits_alike, refusal_named_number, number_positive, IsNumber, is_number, no_number}
use Rattle.machine.proofs.Laws as machine_laws
use Rattle.sweep.specs.Visits.{granules_in, stored_in, visit_refusal, swept_tags, next_after, visit_answer, tags_after, VisitPromise}
use Rattle.sweep.specs.Visits.{visit_number, visit_last, visit_next, last_told, next_told}
use Rattle.std.specs.Prelude.{Option, Some, None, Result, Ok, Err}
use Rattle.machine.specs.Refusals.{number_of, refusal_named}
use Rattle.machine.specs.declared.answers.Refusal.{Refusal}
use Rattle.machine.specs.declared.answers.Refusal.TheVariants.{Memory, Bits, Granule}

-- ---- what a granule holds

module _ (mem : List ℕ) (g : ℕ) where
  pub stored_tag : (tags : List ℕ) → (stored_in mem tags g).tag ≡ bit_at tags g
  stored_tag tags = ap (λ (c : Capability). c.tag) (capability_in_granule mem tags g)

  -- the same tag, the same capability
  pub stored_alike : (t u : List ℕ) → bit_at t g ≡ bit_at u g → stored_in mem t g ≡ stored_in mem u g
  stored_alike t u e = rw (capability_in_granule mem t g, capability_in_granule mem u g, e)

  -- what has no tag is left alone
  pub untagged_stays : (board : Board) (revoked tags : List ℕ) → bit_at tags g ≡ 0 → revoked_value board revoked (stored_in mem tags g) ≡ false
  untagged_stays board revoked tags h = untagged_unrevoked board revoked (stored_in mem tags g) (stored_tag tags ∙ h)

-- ---- refusals

-- a granule that may be visited
pub record Visitable (mem tags : List ℕ) (granule : ℕ) : Type 0 where
  pub few : length mem ≤ most_memory
  pub blocks : length mem % block_bytes ≡ 0
  pub tag_bytes : length tags ≡ length mem / block_bytes
  pub there : granule < granules_in (length mem)

module _ (board : Board) (revoked mem : List ℕ) where
  module _ (tags : List ℕ) (granule : ℕ) where
    pub visitable : visit_refusal board revoked mem tags granule ≡ 0 → Visitable mem tags granule
    unfolding visit_refusal
    visitable h =
        go (good_memory board (length mem)) refl (good_window board (length mem)) (good_bits board revoked (state [] mem tags)) refl
        (ltb granule (granules_in (length mem))) refl h
      where
        go : (a : Bool) → good_memory board (length mem) ≡ a → (w b : Bool) → good_bits board revoked (state [] mem tags) ≡ b
            → (c : Bool) → ltb granule (granules_in (length mem)) ≡ c
            → fail_if (not a) 2 (fail_if (not w) 2 (fail_if (not b) 3 (fail_if (not c) 9 0))) ≡ 0 → Visitable mem tags granule
        go true p true true q true r z =
            let s = good_size board (length mem) p in
            record {
              few = s.0;
              blocks = s.1;
              tag_bytes = good_tag_bytes board revoked (state [] mem tags) q;
              there = ltb-true granule (granules_in (length mem)) r;
            }
        go true p true true q false r z = absurd (omega arith)
        go true p true false q c r z = absurd (omega arith)
        go true p false b q c r z = absurd (omega arith)
        go false p w b q c r z = absurd (omega arith)

    -- each number is that of a refusal
    pub visit_number_of : IsNumber (visit_refusal board revoked mem tags granule)
    unfolding visit_refusal
    visit_number_of =
        machine_laws.either IsNumber (not (good_memory board (length mem))) 2 _ (is_number Memory)
        (machine_laws.either IsNumber (not (good_window board (length mem))) 2 _ (is_number Memory)
        (machine_laws.either IsNumber (not (good_bits board revoked (state [] mem tags))) 3 _ (is_number Bits)
        (machine_laws.either IsNumber (not (ltb granule (granules_in (length mem)))) 9 0 (is_number Granule) no_number)))

    -- the numbers of granules stay small
    pub few_granules : visit_refusal board revoked mem tags granule ≡ 0 → granule < 2 ^ 17
    few_granules h = let v = visitable h in omega (arith, v.few, v.there)

    pub refusal_small : visit_refusal board revoked mem tags granule ≤ 9
    unfolding visit_refusal
    refusal_small =
        go (not (good_memory board (length mem))) (not (good_window board (length mem))) (not (good_bits board revoked (state [] mem tags)))
        (not (ltb granule (granules_in (length mem))))
      where
        go : (a w b c : Bool) → fail_if a 2 (fail_if w 2 (fail_if b 3 (fail_if c 9 0))) ≤ 9
        go true w b c = omega arith
        go false true b c = omega arith
        go false false true c = omega arith
        go false false false true = omega arith
        go false false false false = omega arith

  -- with as many tags, another granule is refused only for its number
  -- the number of a next granule is small
  module _ (tags : List ℕ) (granule : ℕ) where
    abbrev kind : Result (Option ℕ) Refusal → ℕ
    kind (Ok (Some n)) = 0
    kind (Ok None) = 1
    kind (Err r) = 2

    pub refused_number : (r : Refusal) → visit_answer board revoked mem tags granule ≡ Err r → number_of r ≡ 0 → ⊥
    refused_number r e z = number_positive r z

    pub next_small : (n : ℕ) → visit_answer board revoked mem tags granule ≡ Ok (Some n) → n < 2 ^ 32
    unfolding visit_answer next_after
    next_small n e = go (eqb (visit_refusal board revoked mem tags granule) 0) refl (eqb (granule + 1) (granules_in (length mem))) e
      where
        r : ℕ
        r = visit_refusal board revoked mem tags granule

        go : (a : Bool) → eqb r 0 ≡ a → (b : Bool) → cond a (Ok (cond b None (Some (granule + 1)))) (Err (refusal_named r)) ≡ Ok (Some n) → n < 2 ^ 32
        go true p true q = let z : ◌≡◌ {A = ℕ} 1 0 = ap kind q in absurd (omega (arith, z))
        go true p false q = let z : granule + 1 ≡ n = ap visit_next q in omega (arith, few_granules tags granule (eqb-true r 0 p), z)
        go false p b q = let z : ◌≡◌ {A = ℕ} 2 0 = ap kind q in absurd (omega (arith, z))

  pub visitable_too : (t u : List ℕ) (g h : ℕ) → visit_refusal board revoked mem t g ≡ 0 → length u ≡ length t → h < granules_in (length mem)
      → visit_refusal board revoked mem u h ≡ 0
  unfolding visit_refusal
  visitable_too t u g h z e l =
      rw (bits_alike board revoked (state [] mem u) (state [] mem t) refl e, lt-ltb h (granules_in (length mem)) l)
      (go (good_memory board (length mem)) (good_window board (length mem)) (good_bits board revoked (state [] mem t)) (ltb g (granules_in (length mem))) z)
    where
      go : (a w b c : Bool) → fail_if (not a) 2 (fail_if (not w) 2 (fail_if (not b) 3 (fail_if (not c) 9 0))) ≡ 0
          → fail_if (not a) 2 (fail_if (not w) 2 (fail_if (not b) 3 0)) ≡ 0
      go true true true c z = refl
      go true true false c z = absurd (omega arith)
      go true false b c z = absurd (omega arith)
      go false w b c z = absurd (omega arith)

-- ---- the tags

module _ (board : Board) (revoked mem tags : List ℕ) (k : ℕ) where
  -- a property of the tags with this one cleared and of the tags as they are
  either : (P : List ℕ → Type 0) → P (put_bit tags k 0) → P tags → P (swept_tags board revoked mem tags k)
  unfolding swept_tags
  either P p q = cond_holds P (revoked_value board revoked (stored_in mem tags k)) (put_bit tags k 0) tags p q

  pub swept_size : length (swept_tags board revoked mem tags k) ≡ length tags
  swept_size = either (λ t. length t ≡ length tags) (length_put_bit tags k 0) refl

  pub swept_other : (g : ℕ) → (g ≡ k → ⊥) → bit_at (swept_tags board revoked mem tags k) g ≡ bit_at tags g
  swept_other g d = either (λ t. bit_at t g ≡ bit_at tags g) (bit_at_put_bit_other tags k 0 g d) refl

  pub swept_bytes : Bytes tags → Bytes (swept_tags board revoked mem tags k)
  swept_bytes b = either Bytes (put_bit_Bytes tags k 0 b) b

  pub swept_tag : k < 8 * length tags
      → bit_at (swept_tags board revoked mem tags k) k ≡ cond (revoked_value board revoked (stored_in mem tags k)) 0 (bit_at tags k)
  unfolding swept_tags
  swept_tag l = go (revoked_value board revoked (stored_in mem tags k))
    where
      go : (b : Bool) → bit_at (cond b (put_bit tags k 0) tags) k ≡ cond b 0 (bit_at tags k)
      go true = bit_at_put_bit_same tags k 0 l
      go false = refl

-- ---- a visit by its promise

module _ (board : Board) (revoked mem before : List ℕ) (g : ℕ) where
  abbrev no : ℕ
  no = visit_refusal board revoked mem before g

  abbrev told : (good last : Bool) → Result (Option ℕ) Refusal
  told good last = cond good (Ok (cond last None (Some (g + 1)))) (Err (refusal_named no))

  -- number and values of the answer
  number_told : visit_number (visit_answer board revoked mem before g) ≡ no
  unfolding visit_answer next_after
  number_told = go (eqb no 0) refl (eqb (g + 1) (granules_in (length mem)))
    where
      go : (a : Bool) → eqb no 0 ≡ a → (b : Bool) → visit_number (told a b) ≡ no
      go true q true = sym (eqb-true no 0 q)
      go true q false = sym (eqb-true no 0 q)
      go false q b = visit_number_of board revoked mem before g (eqb-false no 0 q)

  last_of : visit_last (visit_answer board revoked mem before g) ≡ last_told board revoked mem before g
  unfolding visit_answer next_after
  last_of = go (eqb no 0) (eqb (g + 1) (granules_in (length mem)))
    where
      go : (a b : Bool) → visit_last (told a b) ≡ cond a (cond b 1 0) 0
      go true true = refl
      go true false = refl
      go false b = refl

  next_of : visit_next (visit_answer board revoked mem before g) ≡ next_told board revoked mem before g
  unfolding visit_answer next_after
  next_of = go (eqb no 0) (eqb (g + 1) (granules_in (length mem)))
    where
      go : (a b : Bool) → visit_next (told a b) ≡ cond a (cond b 0 (g + 1)) 0
      go true true = refl
      go true false = refl
      go false b = refl

  -- so the answer and the tags are all that is to be shown
  pub visit_promised : (after : List ℕ) (answer : Result (Option ℕ) Refusal) → answer ≡ visit_answer board revoked mem before g
      → after ≡ tags_after board revoked mem before
      g
      → VisitPromise board revoked mem g before after answer
  visit_promised after answer a t = record {
    answer_is = a;
    number_is = ap visit_number a ∙ number_told;
    last_is = ap visit_last a ∙ last_of;
    next_is = ap visit_next a ∙ next_of;
    tags_are = t;
  }

  -- refused: nothing changes
  pub visit_refused : (r : Refusal) → number_of r ≡ visit_refusal board revoked mem before g → VisitPromise board revoked mem g before before (Err r)
  unfolding visit_answer tags_after
  visit_refused r e =
      let f : eqb (visit_refusal board revoked mem before g) 0 ≡ false = rw (← e) (ne_eqb (number_of r) 0 (number_positive r)) in
      visit_promised before (Err r) (rw (f, ← e, refusal_named_number r)) (rw f)

  -- not refused
  pub visit_done : (after : List ℕ) (next : Option ℕ) → 0 ≡ visit_refusal board revoked mem before g → after ≡ swept_tags board revoked mem before g
      → next ≡ next_after (length mem) g → VisitPromise board revoked mem g before after (Ok next)
  unfolding visit_answer tags_after
  visit_done after next e t a =
      let f : eqb (visit_refusal board revoked mem before g) 0 ≡ true = eq-eqb (visit_refusal board revoked mem before g) 0 (sym e) in
      visit_promised after (Ok next) (rw (f, a)) (rw f t)

  module _ (after : List ℕ) (answer : Result (Option ℕ) Refusal) (p : VisitPromise board revoked mem g before after answer) where
    -- its number is that of the refusal
    pub number_small : visit_number answer ≤ 9
    number_small = omega (arith, p.number_is, refusal_small board revoked mem before g)

  -- what any visit leaves, refused or not
  module _ (after : List ℕ) (left : after ≡ tags_after board revoked mem before g) where
    -- each tag stays or goes
    pub tag_falls : (h : ℕ) → (bit_at after h ≡ bit_at before h) ⊎ (bit_at after h ≡ 0)
    unfolding tags_after
    tag_falls h = rw left (go (eqb (visit_refusal board revoked mem before g) 0) refl)
      where
        Falls : List ℕ → Type 0
        Falls t = (bit_at t h ≡ bit_at before h) ⊎ (bit_at t h ≡ 0)

        at : Visitable mem before g → (b : Bool) → eqb h g ≡ b → Falls (swept_tags board revoked mem before g)
        at v true q =
            either board revoked mem before g Falls
            (inr (rw (eqb-true h g q) (bit_at_put_bit_same before g 0 (omega (arith, v.blocks, v.tag_bytes, v.there))))) (inl refl)
        at v false q = inl (swept_other board revoked mem before g h (eqb-false h g q))

        go : (b : Bool) → eqb (visit_refusal board revoked mem before g) 0 ≡ b → Falls (cond b (swept_tags board revoked mem before g) before)
        go true q = at (visitable board revoked mem before g (eqb-true (visit_refusal board revoked mem before g) 0 q)) (eqb h g) refl
        go false q = inl refl

    pub bytes_stay : Bytes before → Bytes after
    unfolding tags_after
    bytes_stay b =
        rw left
        (cond_holds Bytes (eqb (visit_refusal board revoked mem before g) 0) (swept_tags board revoked mem before g) before
        (swept_bytes board revoked mem before g b) b)

  -- what an answer that is no refusal tells
  pub record Told (after : List ℕ) : Type 0 where
    pub good : visit_refusal board revoked mem before g ≡ 0
    pub swept : after ≡ swept_tags board revoked mem before g

  module _ (after : List ℕ) where
    pub told_last : VisitPromise board revoked mem g before after (Ok None) → Told after × (g + 1 ≡ granules_in (length mem))
    unfolding visit_answer tags_after next_after
    told_last p = go (eqb (visit_refusal board revoked mem before g) 0) refl (eqb (g + 1) (granules_in (length mem))) refl p.answer_is p.tags_are
      where
        go : (a : Bool) → eqb (visit_refusal board revoked mem before g) 0 ≡ a → (b : Bool) → eqb (g + 1) (granules_in (length mem)) ≡ b
            → Ok None ≡ cond a (Ok (cond b None (Some (g + 1)))) (Err (refusal_named (visit_refusal board revoked mem before g)))
            → after ≡ cond a (swept_tags board revoked mem before g) before → Told after × (g + 1 ≡ granules_in (length mem))
        go true q true r e t =
            (record { good = eqb-true (visit_refusal board revoked mem before g) 0 q; swept = t }, eqb-true (g + 1) (granules_in (length mem)) r)
        go true q false r e t = absurd (omega (arith, ap visit_last e))
        go false q b r e t = absurd (omega (arith, ap visit_last e))

    pub told_next : (n : ℕ) → VisitPromise board revoked mem g before after (Ok (Some n)) → Told after × (n ≡ g + 1) × (g + 1 < granules_in (length mem))
    unfolding visit_answer tags_after next_after
    told_next n p = go (eqb (visit_refusal board revoked mem before g) 0) refl (eqb (g + 1) (granules_in (length mem))) refl p.answer_is p.tags_are
      where
        go : (a : Bool) → eqb (visit_refusal board revoked mem before g) 0 ≡ a → (b : Bool) → eqb (g + 1) (granules_in (length mem)) ≡ b
            → Ok (Some n) ≡ cond a (Ok (cond b None (Some (g + 1)))) (Err (refusal_named (visit_refusal board revoked mem before g)))
            → after ≡ cond a (swept_tags board revoked mem before g) before → Told after × (n ≡ g + 1) × (g + 1 < granules_in (length mem))
        go true q false r e t =
            let z = eqb-true (visit_refusal board revoked mem before g) 0 q in
            let d = eqb-false (g + 1) (granules_in (length mem)) r in
            let l = (visitable board revoked mem before g z).there in
            (record { good = z; swept = t }, ap visit_next e, omega (arith, l, d))
        go true q true r e t = absurd (omega (arith, ap visit_last e))
        go false q b r e t = absurd (number_positive _ (sym (ap visit_number e)))
