-- What an answer of none outside a range says, with no hypothesis left over: what is held outside is sound and apart from what was asked. So secrecy and
-- isolation have all that they ask. Assumes nothing.
use Rattle.std.specs.Prelude.{Option, None, Ok}
use mathlib.Core.Path.{◌≡◌, refl, sym, ◌∙◌}
use mathlib.Core.Bool.{Bool, true, false, not, true≢false}
use mathlib.Core.List.{List}
use Prim.Native.Nat.{ℕ, ◌+◌, ◌-◌, ◌*◌, ◌/◌, ◌%◌, ◌^◌, ◌<◌}
use native.Mathlib.Omega.{arith}
use lib.Dec.{eqb, leb, ltb}
use lib.ListN.{length}
use borrow.Author.Tests.{eqb-true, eqb-false, leb-true, ltb-true, ltb-false, le-leb, lt-leb, not-true}
use Rattle.words.proofs.Word.{by_test}
use Rattle.metadata.specs.Rights.{SD, LD}
use Rattle.capability.specs.declared.Capability.{Capability}
use Rattle.capability_laws.proofs.Tests.{both_true}
use Rattle.state.specs.Layout.{capability_count}
use Rattle.state.specs.Lent.{State}
use Rattle.state.specs.Memory.{granule_bytes}
use Rattle.reach.specs.Reach.{end, reaches_into, places_in, capability_is, passes_in, packed_reach, query_of, FirstPlace, none_passes, first_passes}
use Rattle.reach.specs.Outside.{in_range, is_hidden, passes_outside, first_outside, outside_refusal, outside_answer}
use Rattle.reach.specs.declared.Query.{Query}
use Rattle.reach.proofs.Search.{register_is, granule_is}
use Rattle.reach.proofs.Laws.{empty_range}
use Rattle.reach.proofs.Passing.{outside_is, none_but_hidden, accepted_start, accepted_outside, nowhere_outside, packed_outside}
use Rattle.machine_laws.specs.Fits.{InType}
use Rattle.integrity_laws.specs.Reach.{Apart, InRange}
use Rattle.integrity_laws.proofs.Reach.{apart_of, of_apart, only_right}
use Rattle.secrecy_laws.specs.Outside.{StandsOutside, in_register, in_granule, HeldOutside, StartOutside, Unread, NoGainOutside, Alike}
use Rattle.secrecy_laws.specs.Secrecy.{SecrecyClaim}
use Rattle.secrecy_laws.specs.Isolation.{ShutOutside, Untouched, IsolationClaim, Isolated}
use Rattle.secrecy_laws.specs.Calls.{Call, left, EachStart, calls_of}
use Rattle.secrecy_laws.proofs.Calls.{Secret, none, unread, each_start}
use Rattle.secrecy_laws.proofs.Promises.{secret_claim, no_gain_claim}
use Rattle.secrecy_laws.proofs.Isolation.{stays_claim}

-- not refused, and none found from the first place on
abbrev NoneFound : (start : ℕ) → Query → State → Type 0
NoneFound start q s = (outside_refusal start q 0 s ≡ 0) × (first_outside start q s 0 ≡ None)

-- none counts outside: none is found
no_place : (start : ℕ) (q : Query) (s : State)
    → ((p : ℕ) → p < places_in (length s.mem) → is_hidden start q p ≡ false → passes_in q s p ≡ false) → first_outside start q s 0 ≡ None
unfolding passes_outside
no_place start q s f = go (first_outside start q s 0) (outside_is start q s 0 (omega arith))
  where
    go : (a : Option ℕ) → FirstPlace (passes_outside start q s) 0 (places_in (length s.mem)) a → a ≡ None
    go a (none_passes n) = refl
    go a (first_passes p l u t n) =
        let b = (both_true (not (is_hidden start q p)) (passes_in q s p)).0 t in
        absurd (true≢false (sym b.1 ∙ f p u (not-true (is_hidden start q p) b.0)))

module _ (start : ℕ) (q : Query) (s : State) (answer : NoneFound start q s) where
  -- granules of the range are hidden
  abbrev hidden : ℕ → Bool
  hidden = in_range start q

  at_edge : end q % granule_bytes ≡ 0
  at_edge = (accepted_outside start q 0 s answer.0).2

  aligned : start % granule_bytes ≡ 0
  aligned = accepted_start start q 0 s (accepted_outside start q 0 s answer.0).0

  -- a byte of a hidden granule is in the range
  in_range_lem : (i : ℕ) → hidden (i / granule_bytes) ≡ true → InRange q start i
  in_range_lem i h =
      let b = (both_true (leb q.low (start + i / granule_bytes * granule_bytes)) (ltb (start + i / granule_bytes * granule_bytes) (end q))).0 h in
      let l = leb-true q.low (start + i / granule_bytes * granule_bytes) b.0 in
      let u = ltb-true (start + i / granule_bytes * granule_bytes) (end q) b.1 in
      record { from = omega arith; to = omega (arith, at_edge, aligned) }

  -- nothing is, in an empty range
  none_in_empty : q.length ≡ 0 → (g : ℕ) → hidden g ≡ false
  none_in_empty z g =
      by_test (hidden g)
      (λ h.
      let b = (both_true (leb q.low (start + g * granule_bytes)) (ltb (start + g * granule_bytes) (end q))).0 h in
      absurd (omega (arith, leb-true q.low (start + g * granule_bytes) b.0, ltb-true (start + g * granule_bytes) (end q) b.1, z)))
      (λ h. h)

  module _ (some : q.length ≡ 0 → ⊥) where
    -- what stands outside stands at a place that the search looked at
    not_counted : (c : Capability) → StandsOutside hidden s c → reaches_into q c ≡ false
    not_counted c (in_register i l e) =
        let h : is_hidden start q i ≡ false = rw (lt-leb capability_count i l) refl in
        rw (e ∙ sym (register_is s i l)) (none_but_hidden start q s answer.1 i (omega arith) h)
    not_counted c (in_granule g l shown e) =
        let z : capability_count + g - capability_count ≡ g = omega arith in
        let h : is_hidden start q (capability_count + g) ≡ false = rw (le-leb capability_count (capability_count + g) (omega arith), z) shown in
        rw (e ∙ sym (rw z at (granule_is s (capability_count + g) (omega arith))))
        (none_but_hidden start q s answer.1 (capability_count + g) (omega arith) h)

    held_apart : (c : Capability) → HeldOutside hidden s c → Apart q c
    held_apart c k = apart_of q c some k.is_tagged (not_counted c k.stands)

    pub none_starts : InType s → StartOutside hidden s
    none_starts t = record { in_type = t; sound = λ c k. (held_apart c k).is_sound }

    pub none_unread : q.rights ≡ 2 ^ LD → Unread hidden s start
    none_unread loads c k i h r =
        let m = in_range_lem i h in
        (held_apart c k).no_address (λ j e. rw (only_right LD j (rw loads at e)) r.loads) (start + i) r.from r.to m.from m.to

    pub none_shut : q.rights ≡ 2 ^ SD → (i : ℕ) → InRange q start i → ShutOutside hidden s i start
    none_shut stores i m c k w =
        (held_apart c k).no_address (λ j e. rw (only_right SD j (rw stores at e)) w.stores) (start + i) w.from w.to m.from m.to

    -- what stands at a place that is not hidden stands outside
    stands_at : (a : State) (p : ℕ) → p < places_in (length a.mem) → is_hidden start q p ≡ false → StandsOutside hidden a (capability_is a p)
    stands_at a p l h =
        by_test (ltb p capability_count)
        (λ t. let u = ltb-true p capability_count t in in_register p u (register_is a p u))
        (λ t.
        let u = ltb-false p capability_count t in
        in_granule (p - capability_count) (omega arith) (rw (le-leb capability_count p u) at h) (granule_is a p u))

    -- where no authority is gained outside, the answer stays
    none_stays : (a : State) → NoGainOutside hidden s a → first_outside start q a 0 ≡ None
    none_stays a g = no_place start q a (λ p l h. of_apart q (capability_is a p) some (λ t. apart (capability_is a p) (held p l h t)))
      where
        held : (p : ℕ) → p < places_in (length a.mem) → is_hidden start q p ≡ false → (capability_is a p).tag ≡ 1 → HeldOutside hidden a (capability_is a p)
        held p l h t = record { stands = stands_at a p l h; is_tagged = t }

        apart : (c : Capability) → HeldOutside hidden a c → Apart q c
        apart c k =
            let d = g.derived c k in
            let inside = d.is_inside in
            record {
              is_sound = g.sound c k;
              no_address = λ all x u v y z.
                  (held_apart d.origin d.is_held).no_address (λ j h. inside.no_right j (all j h)) x (omega (arith, inside.region.from))
                  (omega (arith, inside.region.to)) y z;
            }

  -- all that a pair of calls needs
  pub none_secret : InType s → q.rights ≡ 2 ^ LD → Secret hidden s start
  none_secret t loads =
      by_test (eqb q.length 0) (λ z. none (none_in_empty (eqb-true q.length 0 z)))
      (λ z. let some = eqb-false q.length 0 z in unread (none_starts some t) (none_unread some loads))

-- ---- for the caller

module _ (start low length : ℕ) (s : State) (t : InType s) where
  -- the granules of the range are hidden
  abbrev pub range : ℕ → Bool
  range = in_range start (query_of low length 0)

  abbrev pub loading : Query
  loading = query_of low length (2 ^ LD)

  abbrev pub storing : Query
  storing = query_of low length (2 ^ SD)

  -- none for the right to load: what is in the range makes no difference outside it
  none_secrecy : NoneFound start loading s → (b : State) → Alike range s b → SecrecyClaim range (λ k. k ≡ start) s b
  none_secrecy answer b alike = secret_claim range (λ k. k ≡ start) s b alike (λ k e. rw e (none_secret start loading s answer t refl))

  -- none for the right to store too: what is in the range stays
  module _ (loads : NoneFound start loading s) (stores : NoneFound start storing s) where
    some : (i : ℕ) → InRange loading start i → length ≡ 0 → ⊥
    some i m z = omega (arith, m.from, m.to, z)

    claim : (i : ℕ) → InRange loading start i → IsolationClaim (λ i. Unit {0}) (Untouched range s) s
    claim i m = stays_claim range s (none_starts start loading s loads (some i m) t)

    kept : (i : ℕ) → InRange loading start i → (k : ℕ) → k ≡ start → Untouched range s i k
    kept i m k e =
        rw e (none_unread start loading s loads (some i m) refl, none_shut start storing s stores (some i m) refl i (record { from = m.from; to = m.to }))

    none_changed : IsolationClaim (InRange loading start) (λ i k. k ≡ start) s
    none_changed =
        record {
          after_steps = λ n board revoked z i m e. (claim i m).after_steps n board revoked z i tt (kept i m board.start e);
          tags_after_steps = λ n board revoked z g p.
              (claim (g * granule_bytes + 0) (p 0 (omega arith)).0).tags_after_steps n board revoked z g
              (λ k l. (tt, kept (g * granule_bytes + k) (p k l).0 board.start (p k l).1));
          after_calls = λ calls i m e.
              (claim i m).after_calls calls i tt (each_start range (λ k. k ≡ start) (Untouched range s i) (kept i m) calls e);
          after_promises = λ a r i m e.
              (claim i m).after_promises a r i tt (each_start range (λ k. k ≡ start) (Untouched range s i) (kept i m) (calls_of r) e);
        }

    -- and makes no difference outside
    none_isolation : Isolated range (InRange loading start) (λ i k. k ≡ start) (λ k. k ≡ start) s
    none_isolation = record { stays = none_changed; unknown = none_secrecy loads }

  -- and both answers stay, with any rights of which there is none: the search need not be made again
  none_after : NoneFound start loading s → (r : ℕ) → NoneFound start (query_of low length r) s → (calls : List Call) → EachStart (λ k. k ≡ start) calls
      → first_outside start (query_of low length r) (left calls s) 0 ≡ None
  none_after loads r asked calls e =
      by_test (eqb length 0)
      (λ z. no_place start (query_of low length r) (left calls s) (λ p l h. empty_range (query_of low length r) _ (eqb-true length 0 z)))
      (λ z. let more = eqb-false length 0 z in
      none_stays start (query_of low length r) s asked more (left calls s)
      ((no_gain_claim range s (none_starts start loading s loads more t)).after_calls calls
      (each_start range (λ k. k ≡ start) (Unread range s) (λ k f. rw f (none_unread start loading s loads more refl)) calls e)))

  -- where `reach_outside` answers none, from the first place on
  pub outside_secrecy_claim : outside_answer start loading 0 s ≡ Ok None → (b : State) → Alike range s b → SecrecyClaim range (λ k. k ≡ start) s b
  outside_secrecy_claim e b alike = none_secrecy (nowhere_outside start loading 0 s e) b alike

  pub outside_isolation_claim : outside_answer start loading 0 s ≡ Ok None → outside_answer start storing 0 s ≡ Ok None
      → Isolated range (InRange loading start) (λ i k. k ≡ start) (λ k. k ≡ start) s
  outside_isolation_claim e f = none_isolation (nowhere_outside start loading 0 s e) (nowhere_outside start storing 0 s f)

  pub outside_stays : outside_answer start loading 0 s ≡ Ok None → (r : ℕ) → outside_answer start (query_of low length r) 0 s ≡ Ok None
      → (calls : List Call) → EachStart (λ k. k ≡ start) calls → first_outside start (query_of low length r) (left calls s) 0 ≡ None
  outside_stays e r f calls k = none_after (nowhere_outside start loading 0 s e) r (nowhere_outside start (query_of low length r) 0 s f) calls k

  -- and where `oddersnow_reach_outside` answers 0
  pub c_secrecy_claim : packed_reach (outside_answer start loading 0 s) ≡ 0 → (b : State) → Alike range s b → SecrecyClaim range (λ k. k ≡ start) s b
  c_secrecy_claim e b alike = none_secrecy (packed_outside start loading 0 s e) b alike

  pub c_isolation_claim : packed_reach (outside_answer start loading 0 s) ≡ 0 → packed_reach (outside_answer start storing 0 s) ≡ 0
      → Isolated range (InRange loading start) (λ i k. k ≡ start) (λ k. k ≡ start) s
  c_isolation_claim e f = none_isolation (packed_outside start loading 0 s e) (packed_outside start storing 0 s f)
