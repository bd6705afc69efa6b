-- The promise of a list, for each of its four answers: the tests that led there decide the answer, its number, its capability and the words left.
-- Assumes nothing.
use mathlib.Core.Path.{◌≡◌, refl, sym, ap, ◌∙◌}
use mathlib.Core.Bool.{true, false}
use mathlib.Core.List.{List}
use Prim.Native.Nat.{ℕ, ◌^◌, ◌<◌}
use native.Mathlib.Omega.{arith}
use lib.Dec.{ltb}
use lib.ListN.{length, get_or}
use Rattle.capability.specs.declared.Capability.{Capability}
use Rattle.capability_laws.specs.Authority.{Authority}
use Rattle.std.specs.Prelude.{Result, Ok, Err}
use Rattle.call_lists.specs.declared.ListError.{ListError}
use Rattle.call_lists.specs.declared.ListError.TheVariants.{BadTag, WrongSize, UnknownKind}
use Rattle.call_lists.specs.Calls.{trace, last_of, ListClaim}
use Rattle.call_lists.specs.Lists.{all_known, calls_of, sizes_fit, list_refusal, answer_of, answer_number, out_of, Written, Listed, ListedNumber}
use Rattle.call_lists.proofs.Machine.{list_claim, run_last}
use Rattle.call_lists.proofs.Turns.{words_of_lem}

module _ (c : Capability) (ks vs out : List ℕ) where
  -- a refused list has no last capability
  refused : (a : Result Capability ListError) (n : ℕ) → answer_number a ≡ n → 0 < n → (last : Capability) → a ≡ Ok last → Authority c
      → ListClaim (calls_of ks vs) c last
  refused a n q p last e h = let z : answer_number a ≡ 0 = ap answer_number e in absurd (omega arith)

  pub tag_refused : ltb 1 c.tag ≡ true → Listed c ks vs out out (Err BadTag)
  unfolding answer_of list_refusal out_of
  tag_refused t = record { answer_is = rw t; number_is = rw t; last_is = rw t; words_are = rw t; claim = refused (Err BadTag) 4 refl (omega arith) }

  -- from here on the tag is 0 or 1
  module _ (t : ltb 1 c.tag ≡ false) where
    pub size_refused : sizes_fit (length ks) (length vs) (length out) ≡ false → Listed c ks vs out out (Err WrongSize)
    unfolding answer_of list_refusal out_of
    size_refused s =
        record {
          answer_is = rw (t, s);
          number_is = rw (t, s);
          last_is = rw (t, s);
          words_are = rw (t, s);
          claim = refused (Err WrongSize) 11 refl (omega arith);
        }

    pub kind_refused : sizes_fit (length ks) (length vs) (length out) ≡ true → all_known ks ≡ false → Listed c ks vs out out (Err UnknownKind)
    unfolding answer_of list_refusal out_of
    kind_refused s k =
        record {
          answer_is = rw (t, s, k);
          number_is = rw (t, s, k);
          last_is = rw (t, s, k);
          words_are = rw (t, s, k);
          claim = refused (Err UnknownKind) 12 refl (omega arith);
        }

    pub list_ran : sizes_fit (length ks) (length vs) (length out) ≡ true → all_known ks ≡ true → ((i : ℕ) → get_or vs i 0 < 2 ^ 32)
        → (last : Capability) (after : List ℕ) → Written c (calls_of ks vs) last after → Listed c ks vs out after (Ok last)
    unfolding answer_of list_refusal out_of
    list_ran s k w last after r =
        record {
          answer_is = rw (t, s, k, r.last_is);
          number_is = rw (t, s, k);
          last_is = rw (t, s, k) (r.last_is ∙ sym (run_last (calls_of ks vs) c));
          words_are = rw (t, s, k) r.words_are;
          claim = λ l e h. let q : l ≡ last = cc in rw (q, r.last_is) (list_claim (calls_of ks vs) c (words_of_lem ks vs w) h);
        }

-- ---- the answer as a number says as much

numbered : (c : Capability) (ks vs before after : List ℕ) (a : Result Capability ListError) → Listed c ks vs before after a → answer_number a ≡ 0 → Authority c
    → ListClaim (calls_of ks vs) c (last_of c (trace (calls_of ks vs) c))
numbered c ks vs before after (Ok last) l z h =
    let e : last ≡ last_of c (trace (calls_of ks vs) c) = rw (← l.number_is) at l.last_is in
    rw (← e) (l.claim last refl h)
numbered c ks vs before after (Err BadTag) l z h = absurd (omega arith)
numbered c ks vs before after (Err WrongSize) l z h = absurd (omega arith)
numbered c ks vs before after (Err UnknownKind) l z h = absurd (omega arith)

pub listed_number : (c : Capability) (ks vs before after : List ℕ) (a : Result Capability ListError) (n : ℕ) → Listed c ks vs before after a
    → n ≡ answer_number a
    → ListedNumber c ks vs before after n
listed_number c ks vs before after a n l q =
    record {
      number_is = q ∙ l.number_is;
      words_are = l.words_are;
      claim = λ z h. numbered c ks vs before after a l (sym q ∙ z) h;
    }
