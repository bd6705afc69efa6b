-- One turn of each loop over a list of calls: what is done and what is left from here make up the whole. Assumes nothing.
use mathlib.Core.Path.{◌≡◌, refl, sym, ap, ◌∙◌}
use mathlib.Core.Bool.{Bool, true, false, false≢true, cond, ◌&&◌}
use mathlib.Core.List.{List, [], ◌∷◌, ◌++◌, append_assoc, append-nil}
use Prim.Native.Nat.{ℕ, suc, ◌+◌, ◌*◌, ◌/◌, ◌%◌, ◌^◌, ◌≤◌, ◌<◌}
use native.Mathlib.Numerals.{add-one}
use native.Mathlib.Omega.{arith}
use borrow.Author.Tests.{eqb-true, eqb-false, eq-eqb}
use lib.Dec.{eqb}
use lib.ListN.{length, get_or, take, drop, set, length-set, drop_of_length-le}
use lib.Seq.{drop-cons, take-suc-set, take_all}
use Rattle.std.proofs.lemmas.List.Folds.{list_all_at}
use Rattle.capability_laws.proofs.Tests.{both_equal}
use Rattle.capability.specs.declared.Capability.{Capability}
use Rattle.call_lists.specs.declared.Call.{Call}
use Rattle.call_lists.specs.declared.Call.TheVariants.{Cut, ExactCut, Move, Narrow}
use Rattle.call_lists.specs.Calls.{make_call, run, trace}
use Rattle.call_lists.specs.Lists.{is_known, call_of, all_known, calls_of, words_of, put_words, sizes_fit, Written}
use Rattle.call_lists.proofs.Machine.{argument, Words}

-- ---- the sizes, with no product

neither : (k o : ℕ) (a b : Bool) → eqb (o % 3) 0 ≡ a → eqb (o / 3) k ≡ b → (o ≡ 3 * k → ⊥) → a && b ≡ false
neither k o true true p q n = absurd (n (omega (arith, eqb-true (o % 3) 0 p, eqb-true (o / 3) k q)))
neither k o true false p q n = refl
neither k o false b p q n = refl

sizes_out : (k o : ℕ) → (eqb (o % 3) 0 && eqb (o / 3) k) ≡ eqb o (3 * k)
sizes_out k o = go (eqb o (3 * k)) refl
  where
    go : (t : Bool) → eqb o (3 * k) ≡ t → (eqb (o % 3) 0 && eqb (o / 3) k) ≡ eqb o (3 * k)
    go true t =
        let e : o ≡ 3 * k = eqb-true o (3 * k) t in
        rw (t, eq-eqb (o % 3) 0 (omega arith), eq-eqb (o / 3) k (omega arith))
    go false t = neither k o (eqb (o % 3) 0) (eqb (o / 3) k) refl refl (eqb-false o (3 * k) t) ∙ sym t

pub sizes_are : (k v o : ℕ) → (eqb v k && (eqb (o % 3) 0 && eqb (o / 3) k)) ≡ sizes_fit k v o
unfolding sizes_fit
sizes_are k v o = rw (sizes_out k o)

pub sizes_fit_lem : (k v o : ℕ) → sizes_fit k v o ≡ true → (v ≡ k) × (o ≡ 3 * k)
unfolding sizes_fit
sizes_fit_lem k v o h = (both_equal v k o (3 * k)).0 h

-- ---- the check of the kinds

-- where all are known each is: one that is not would make the whole test fail
pub known_at : (ks : List ℕ) (i : ℕ) → all_known ks ≡ true → i < length ks → is_known (get_or ks i 0) ≡ true
unfolding all_known
known_at ks i a h = go (is_known (get_or ks i 0)) refl
  where
    go : (t : Bool) → is_known (get_or ks i 0) ≡ t → is_known (get_or ks i 0) ≡ true
    go true e = e
    go false e = absurd (false≢true (sym (list_all_at is_known ks i 0 h e) ∙ a))

-- ---- the calls

pub calls_turn : (ks vs : List ℕ) (i : ℕ) → i < length ks → i < length vs
    → calls_of (drop i ks) (drop i vs) ≡ call_of (get_or ks i 0) (get_or vs i 0) ∷ calls_of (drop (i + 1) ks) (drop (i + 1) vs)
unfolding calls_of
calls_turn ks vs i h l = rw (add-one, drop-cons ks i 0 h, drop-cons vs i 0 l)

pub calls_end : (ks vs : List ℕ) (i : ℕ) → length ks ≤ i → calls_of (drop i ks) (drop i vs) ≡ []
unfolding calls_of
calls_end ks vs i h = rw (drop_of_length-le ks h)

-- the words of three stores are three words more
three_more : (out : List ℕ) (j a b c : ℕ) → j + 3 ≤ length out
    → take (suc (suc (suc j))) (set (set (set out j a) (suc j) b) (suc (suc j)) c) ≡ take j out ++ (a ∷ b ∷ c ∷ [])
three_more out j a b c h =
    take-suc-set (set (set out j a) (suc j) b) (suc (suc j)) c (simp length-set (omega arith))
    ∙ ap (λ x. x ++ (c ∷ []))
    (take-suc-set (set out j a) (suc j) b (simp length-set (omega arith)) ∙ ap (λ x. x ++ (b ∷ [])) (take-suc-set out j a (omega arith)))
    ∙ simp append_assoc

put_more : (out : List ℕ) (i : ℕ) (c : Capability) → 3 * i + 3 ≤ length out
    → take (3 * (i + 1)) (put_words out i c) ≡ take (3 * i) out ++ (c.address ∷ c.metadata ∷ c.tag ∷ [])
put_more out i c h =
    let e : 3 * (i + 1) ≡ suc (suc (suc (3 * i))) = omega arith in
    let f : 3 * i + 1 ≡ suc (3 * i) = omega arith in
    let g : 3 * i + 2 ≡ suc (suc (3 * i)) = omega arith in
    rw (e, f, g) (three_more out (3 * i) c.address c.metadata c.tag h)

-- what a list runs to from its turn i on, and what it leaves, given the calls before
pub record Turn (ks vs : List ℕ) (s₀ : Capability) (i : ℕ) (s : Capability) (out : List ℕ) : Type 0 where
  pub runs : run (calls_of (drop i ks) (drop i vs)) s ≡ run (calls_of ks vs) s₀
  pub leaves : take (3 * i) out ++ words_of (trace (calls_of (drop i ks) (drop i vs)) s) ≡ words_of (trace (calls_of ks vs) s₀)

pub first_turn : (ks vs : List ℕ) (s : Capability) (out : List ℕ) → Turn ks vs s 0 s out
first_turn ks vs s out = record { runs = refl; leaves = refl }

-- one call more, and its words
pub next_turn : (ks vs : List ℕ) (s₀ : Capability) (i : ℕ) (s s' : Capability) (out out' : List ℕ)
    → i < length ks → i < length vs → 3 * i + 3 ≤ length out → s' ≡ make_call (call_of (get_or ks i 0) (get_or vs i 0)) s → out' ≡ put_words out i s'
    → Turn ks vs s₀ i s out → Turn ks vs s₀ (i + 1) s' out'
unfolding run trace words_of
next_turn ks vs s₀ i s s' out out' h l w made put t =
    let c : Call = call_of (get_or ks i 0) (get_or vs i 0) in
    let r : Capability = make_call c s in
    let cs : List Call = calls_of (drop (i + 1) ks) (drop (i + 1) vs) in
    let e : calls_of (drop i ks) (drop i vs) ≡ c ∷ cs = calls_turn ks vs i h l in
    rw (put, made) (record {
      runs = sym (ap (λ x. run x s) e) ∙ t.runs;
      leaves =
          rw (put_more out i r w)
          (append_assoc (take (3 * i) out) (r.address ∷ r.metadata ∷ r.tag ∷ []) (words_of (trace cs r))
          ∙ sym (ap (λ x. take (3 * i) out ++ words_of (trace x s)) e)
          ∙ t.leaves);
    })

pub last_turn : (ks vs : List ℕ) (s₀ : Capability) (i : ℕ) (s : Capability) (out : List ℕ) → i ≡ length ks → length out ≡ 3 * length ks → Turn ks vs s₀ i s out
    → Written s₀ (calls_of ks vs) s out
unfolding run trace words_of
last_turn ks vs s₀ i s out h l t =
    let e : calls_of (drop i ks) (drop i vs) ≡ [] = calls_end ks vs i (omega arith) in
    let a : take (3 * i) out ≡ out = take_all (3 * i) out (omega arith) in
    record {
      last_is = sym (ap (λ x. run x s) e) ∙ t.runs;
      words_are = sym (append-nil out) ∙ sym (ap (λ x. x ++ []) a) ∙ sym (ap (λ x. take (3 * i) out ++ words_of (trace x s)) e) ∙ t.leaves;
    }

-- ---- the values are words

either : (b : Bool) (x y : Call) (v : ℕ) → argument x ≡ v → argument y ≡ v → argument (cond b x y) ≡ v
either true x y v p q = p
either false x y v p q = q

argument_is : (k v : ℕ) → argument (call_of k v) ≡ v
unfolding call_of
argument_is k v =
    either (eqb k 0) (Cut v) _ v refl (either (eqb k 1) (ExactCut v) _ v refl (either (eqb k 2) (Move v) (Narrow v) v refl refl))

pub words_of_lem : (ks vs : List ℕ) → ((i : ℕ) → get_or vs i 0 < 2 ^ 32) → Words (calls_of ks vs)
unfolding calls_of
words_of_lem [] vs h = tt
words_of_lem (k ∷ ks) [] h = tt
words_of_lem (k ∷ ks) (v ∷ vs) h = (omega (arith, argument_is k v, h 0), words_of_lem ks vs (λ i. h (suc i)))
