-- From a granule on, the tags below it stay and each from it on is swept once: over the visits, each one's promise. From granule 0 that is every tag.
-- Assumes nothing.
use mathlib.Core.Path.{◌≡◌, refl, sym, ◌∙◌}
use mathlib.Core.Bool.{Bool, true, false, cond}
use mathlib.Core.List.{List}
use Prim.Native.Nat.{ℕ, zero, suc, ◌+◌, ◌*◌, ◌≤◌, ◌<◌}
use native.Mathlib.Omega.{arith}
use lib.Dec.{eqb}
use lib.ListN.{length}
use borrow.Author.Tests.{eqb-true, eqb-false, eq-eqb, ne_eqb}
use Rattle.words.specs.Words.{bit_at}
use Rattle.words.proofs.Word.{by_test}
use Rattle.state.specs.declared.Board.{Board}
use Rattle.memory_instructions.specs.Access.{revoked_value}
use Rattle.sweep.specs.Visits.{granules_in, stored_in, visit_refusal, swept_tags, next_after, VisitPromise}
use Rattle.sweep.specs.Passes.{Visits, ends, goes_on, Pass, Swept, PassClaim}
use Rattle.std.specs.Prelude.{Some, None, Ok}
use Rattle.sweep.proofs.Laws.{stored_alike, untagged_stays, Visitable, visitable, visitable_too, swept_size, swept_other, swept_tag, visit_done}
use Rattle.sweep.proofs.Laws.{Told, told_last, told_next}

module _ (board : Board) (revoked mem : List ℕ) where
  -- a tag as a sweep leaves it
  abbrev left : (tags : List ℕ) → (g : ℕ) → ℕ
  left tags g = cond (revoked_value board revoked (stored_in mem tags g)) 0 (bit_at tags g)

  record SweptFrom (calls granule : ℕ) (before after : List ℕ) : Type 0 where
    counted : granule + calls ≡ granules_in (length mem)
    below : (g : ℕ) → g < granule → bit_at after g ≡ bit_at before g
    above : (g : ℕ) → granule ≤ g → g < granules_in (length mem) → bit_at after g ≡ left before g
    size : length after ≡ length before

  -- the same tag is left the same
  left_alike : (t u : List ℕ) (g : ℕ) → bit_at t g ≡ bit_at u g → left t g ≡ left u g
  left_alike t u g e = rw (stored_alike mem g t u e, e)

  -- the granule of a visit has a tag
  in_tags : {tags : List ℕ} {g : ℕ} → Visitable mem tags g → g < 8 * length tags
  in_tags v = omega (arith, v.blocks, v.tag_bytes, v.there)

  module _ (granule : ℕ) (before between : List ℕ) (t : Told board revoked mem before granule between) where
    own_tag : bit_at between granule ≡ left before granule
    own_tag = rw t.swept (swept_tag board revoked mem before granule (in_tags (visitable board revoked mem before granule t.good)))

    other_tag : (g : ℕ) → (g ≡ granule → ⊥) → bit_at between g ≡ bit_at before g
    other_tag g d = rw t.swept (swept_other board revoked mem before granule g d)

    as_long : length between ≡ length before
    as_long = rw t.swept (swept_size board revoked mem before granule)

    -- the last granule
    swept_last : granule + 1 ≡ granules_in (length mem) → SweptFrom 1 granule before between
    swept_last e =
        record {
          counted = e;
          below = λ g l. other_tag g (λ q. omega arith);
          above = λ g l u. let q : g ≡ granule = omega arith in rw q own_tag;
          size = as_long;
        }

    -- and one before others
    swept_on : (calls : ℕ) (after : List ℕ) → SweptFrom calls (granule + 1) between after → SweptFrom (suc calls) granule before after
    swept_on calls after s =
        record {
          counted = omega (arith, s.counted);
          below = λ g l. s.below g (omega arith) ∙ other_tag g (λ q. omega arith);
          above = λ g l u.
              by_test (eqb g granule)
              (λ q. rw (eqb-true g granule q) (s.below granule (omega arith) ∙ own_tag))
              (λ q. let d = eqb-false g granule q in
              s.above g (later g l d) u ∙ left_alike between before g (other_tag g d));
          size = s.size ∙ as_long;
        }
      where
        later : (g : ℕ) → granule ≤ g → (g ≡ granule → ⊥) → granule + 1 ≤ g
        later g l d = omega (arith, l, d)

  visits_sweep : (calls granule : ℕ) (before after : List ℕ) → Visits board revoked mem calls granule before after → SweptFrom calls granule before after
  visits_sweep calls granule before after (ends g b a p) =
      let t = told_last board revoked mem before granule after p in
      swept_last granule before after t.0 t.1
  visits_sweep calls granule before after (goes_on n g next b between a p v) =
      let t = told_next board revoked mem before granule between next p in
      swept_on granule before between t.0 n after (rw t.1 at (visits_sweep n next between after v))

  -- what is left after the test is left by the test
  none_left : (before after : List ℕ) (g : ℕ) → bit_at after g ≡ left before g → revoked_value board revoked (stored_in mem after g) ≡ false
  none_left before after g e = go (revoked_value board revoked (stored_in mem before g)) refl e
    where
      go : (b : Bool) → revoked_value board revoked (stored_in mem before g) ≡ b → bit_at after g ≡ cond b 0 (bit_at before g)
          → revoked_value board revoked (stored_in mem after g) ≡ false
      go true q x = untagged_stays mem g board revoked after x
      go false q x = rw (stored_alike mem g after before x) q

  pass_sweeps : (calls : ℕ) (before after : List ℕ) → Pass board revoked mem calls before after → Swept board revoked mem before after
  pass_sweeps calls before after p =
      let s = visits_sweep calls 0 before after p in
      record {
        none_left = λ g l. none_left before after g (s.above g (omega arith) l);
        tag_is = λ g l. s.above g (omega arith) l;
        same_size = s.size;
      }

  -- ---- a pass comes to its end

  visited : (before : List ℕ) (g : ℕ) → visit_refusal board revoked mem before g ≡ 0
      → VisitPromise board revoked mem g before (swept_tags board revoked mem before g) (Ok (next_after (length mem) g))
  visited before g z = visit_done board revoked mem before g (swept_tags board revoked mem before g) (next_after (length mem) g) (sym z) refl refl

  at_last : (g : ℕ) → g + 1 ≡ granules_in (length mem) → next_after (length mem) g ≡ None
  unfolding next_after
  at_last g e = rw (eq-eqb (g + 1) (granules_in (length mem)) e)

  at_next : (g : ℕ) → (g + 1 ≡ granules_in (length mem) → ⊥) → next_after (length mem) g ≡ Some (g + 1)
  unfolding next_after
  at_next g d = rw (ne_eqb (g + 1) (granules_in (length mem)) d)

  visits_go : (n g : ℕ) (before : List ℕ) → g + suc n ≡ granules_in (length mem) → visit_refusal board revoked mem before g ≡ 0
      → (after : List ℕ) × Visits board revoked mem (suc n) g before after
  visits_go zero g before e z =
      (swept_tags board revoked mem before g, ends g before _ (rw (at_last g (omega arith)) at (visited before g z)))
  visits_go (suc n) g before e z =
      let between = swept_tags board revoked mem before g in
      let y : visit_refusal board revoked mem between (g + 1) ≡ 0 =
      visitable_too board revoked mem before between g (g + 1) z (swept_size board revoked mem before g) (omega arith) in
      let r = visits_go n (g + 1) between (omega arith) y in
      (r.0, goes_on (suc n) g (g + 1) before between r.0 (rw (at_next g (λ q. omega arith)) at (visited before g z)) r.1)

  -- the theorem of the pass
  pub pass_claim : (before : List ℕ) → PassClaim board revoked mem before
  pass_claim before =
      record {
        comes_to_end = λ z. from_zero z (granules_in (length mem)) refl;
        sweeps = λ calls after p. pass_sweeps calls before after p;
        one_each = λ calls after p. omega (arith, (visits_sweep calls 0 before after p).counted);
      }
    where
      from_zero : visit_refusal board revoked mem before 0 ≡ 0 → (n : ℕ) → granules_in (length mem) ≡ n
          → (after : List ℕ) × Visits board revoked mem n 0 before after
      from_zero z zero q = absurd (omega (arith, q, (visitable board revoked mem before 0 z).there))
      from_zero z (suc n) q = visits_go n 0 before (omega (arith, q)) z
