-- An answer of none is that all held is apart from what was asked. It stays so, since no authority is gained; of a range that is not empty it says that what
-- is held is sound; and with the right to store, that each byte of the range is shut. So integrity has all its hypotheses. Assumes nothing.
use Rattle.std.specs.Prelude.{Option, None, Ok}
use mathlib.Core.Path.{◌≡◌, refl, sym, ◌∙◌}
use mathlib.Core.Logic.{◌↔◌, ◌⊎◌, inl, inr}
use mathlib.Core.Bool.{Bool, true, false, not, ◌&&◌, ◌||◌, true≢false}
use mathlib.Core.List.{List}
use Prim.Native.Nat.{ℕ, suc, ◌+◌, ◌-◌, ◌*◌, ◌/◌, ◌^◌, ◌≤◌, ◌<◌}
use native.Mathlib.Nat.{div-eq_of_lt}
use native.Mathlib.Omega.{arith}
use lib.Dec.{eqb, leb, ltb}
use lib.ListN.{get_or, length}
use lib.Bits.{shifted_even}
use lib.Pow.{pow-lt, pow-add, shl-shr}
use borrow.Author.Tests.{eqb-true, eqb-false, leb-true, leb-false, ltb-true, ltb-false, eq-eqb, ne_eqb, lt-ltb}
use Rattle.words.proofs.Word.{by_test}
use Rattle.metadata.specs.Rights.{SD, Has}
use Rattle.metadata.proofs.Narrowing.{masked_all, masked_each}
use Rattle.capability.specs.Capability.{low, high, rights, tagged}
use Rattle.capability.specs.declared.Capability.{Capability}
use Rattle.capability_laws.proofs.Tests.{both_true}
use Rattle.state.specs.Layout.{capability_count}
use Rattle.state.specs.Lent.{State}
use Rattle.state.specs.Memory.{granule_bytes}
use Rattle.state.specs.declared.Board.{Board}
use Rattle.machine.specs.Refusals.{sound}
use Rattle.machine.specs.Run.{step_refusal, ran_from}
use Rattle.reach.specs.Reach.{end, grants_all, overlaps, reaches_into, places_in, capability_is, passes_in, first_reach, reach_answer, packed_reach, query_of}
use Rattle.reach.specs.Reach.{FirstPlace, none_passes, first_passes}
use Rattle.reach.specs.declared.Query.{Query}
use Rattle.reach.proofs.Search.{register_is, granule_is}
use Rattle.reach.proofs.Laws.{first_is, none_at_all, at_all_none, empty_range, nowhere_first, packed_none}
use Rattle.machine_laws.specs.Fits.{InType}
use Rattle.machine_laws.specs.Lent.{Sound}
use Rattle.machine_laws.proofs.Refusals.{sound_is, sound_test}
use Rattle.authority_laws.specs.Gain.{Stands, in_register, in_granule, Held, Start, NoGain, Reached}
use Rattle.authority_laws.proofs.Runs.{reached_gains_none}
use Rattle.integrity_laws.specs.Integrity.{Writes, ByteShut}
use Rattle.integrity_laws.specs.Reach.{Apart, InRange, ReachClaim}
use Rattle.integrity_laws.proofs.Runs.{integrity_claim}
use Rattle.integrity_laws.proofs.Consequences.{one_start}

-- ---- places

-- what stands in a state stands at a place of the search, and the other way round
pub record Placed (s : State) (c : Capability) : Type 0 where
  pub place : ℕ
  pub is_one : place < places_in (length s.mem)
  pub holds : c ≡ capability_is s place

placed : (s : State) (c : Capability) → Stands s c → Placed s c
placed s c (in_register i l e) = record { place = i; is_one = omega arith; holds = e ∙ sym (register_is s i l) }
placed s c (in_granule g l e) =
    let z : capability_count + g - capability_count ≡ g = omega arith in
    record { place = capability_count + g; is_one = omega arith; holds = e ∙ sym (rw z at (granule_is s (capability_count + g) (omega arith))) }

stands_at : (s : State) (p : ℕ) → p < places_in (length s.mem) → Stands s (capability_is s p)
stands_at s p l =
    by_test (ltb p capability_count)
    (λ t. let u = ltb-true p capability_count t in in_register p u (register_is s p u))
    (λ t. let u = ltb-false p capability_count t in in_granule (p - capability_count) (omega arith) (granule_is s p u))

-- ---- one capability

module _ (q : Query) (c : Capability) where
  overlap : (x : ℕ) → low c ≤ x → x < high c → q.low ≤ x → x < end q → overlaps q c ≡ true
  overlap x a b d e =
      (both_true _ _).1 (
        lt-ltb (low c) (high c) (omega arith),
        (both_true _ _).1 (lt-ltb (low c) (end q) (omega arith), lt-ltb q.low (high c) (omega arith)),
      )

  overlap_of : overlaps q c ≡ true → (low c < high c) × (low c < end q) × (q.low < high c)
  overlap_of h =
      let m = (both_true (ltb (low c) (high c)) (ltb (low c) (end q) && ltb q.low (high c))).0 h in
      let y = (both_true (ltb (low c) (end q)) (ltb q.low (high c))).0 m.1 in
      (ltb-true (low c) (high c) m.0, ltb-true (low c) (end q) y.0, ltb-true q.low (high c) y.1)

  module _ (some : q.length ≡ 0 → ⊥) where
    -- a tagged one that does not count is apart
    pub apart_of : c.tag ≡ 1 → reaches_into q c ≡ false → Apart q c
    unfolding reaches_into tagged
    apart_of t h = go (sound c) refl (rw (eq-eqb c.tag 1 t, ne_eqb q.length 0 some) at h)
      where
        go : (b : Bool) → sound c ≡ b → true && (not false && (not b || (grants_all q.rights c && overlaps q c))) ≡ false → Apart q c
        go false e z = absurd (true≢false z)
        go true e z =
            record {
              is_sound = sound_is c e;
              no_address = λ all x a b d f.
                  true≢false (sym ((both_true _ _).1 (eq-eqb _ _ (masked_all q.rights (rights c) all), overlap x a b d f)) ∙ z);
            }

    -- and one that is apart, if it is tagged, does not count
    pub of_apart : (c.tag ≡ 1 → Apart q c) → reaches_into q c ≡ false
    unfolding reaches_into tagged
    of_apart f =
        by_test (eqb c.tag 1)
        (λ t.
        let p = f (eqb-true c.tag 1 t) in
        rw (t, ne_eqb q.length 0 some, sound_test c p.is_sound)
        (go p (grants_all q.rights c) refl (overlaps q c) refl))
        (λ t. rw t refl)
      where
        go : Apart q c → (g : Bool) → grants_all q.rights c ≡ g → (o : Bool) → overlaps q c ≡ o → g && o ≡ false
        go p false e o r = refl
        go p true e false r = refl
        go p true e true r =
            let o = overlap_of r in
            let all = masked_each q.rights (rights c) (eqb-true _ _ e) in
            absurd (by_test (leb (low c) q.low) (λ t. p.no_address all q.low (leb-true (low c) q.low t) o.2 (omega arith) (omega (arith, some)))
            (λ t. p.no_address all (low c) (omega arith) o.0 (omega (arith, leb-false (low c) q.low t)) o.1))

  -- what counts, if it is sound, has the rights and an address of the range
  of_counted : (c.tag ≡ 1 → Sound c) → reaches_into q c ≡ true → (c.tag ≡ 1) × (grants_all q.rights c ≡ true) × (overlaps q c ≡ true)
  unfolding reaches_into tagged
  of_counted f h =
      let m = (both_true _ _).0 h in
      let t = eqb-true c.tag 1 m.0 in
      let p = f t in
      let l = (both_true (not (eqb q.length 0)) _).0 m.1 in
      let r = rw (sound_test c p) at l.1 in
      let b = (both_true (grants_all q.rights c) (overlaps q c)).0 r in
      (t, b.0, b.1)

-- ---- all that is held

module _ (q : Query) where
  module _ (some : q.length ≡ 0 → ⊥) where
    -- none: all that is held is apart, and the other way round
    pub nowhere_is : (s : State) → (first_reach q s 0 ≡ None) ↔ ((c : Capability) → Held s c → Apart q c)
    nowhere_is s = (there, back)
      where
        there : first_reach q s 0 ≡ None → (c : Capability) → Held s c → Apart q c
        there e c k =
            let p = placed s c k.stands in
            apart_of q c some k.is_tagged (rw p.holds (none_at_all q s e p.place (omega arith) p.is_one))

        back : ((c : Capability) → Held s c → Apart q c) → first_reach q s 0 ≡ None
        back f =
            at_all_none q s
            (λ p l u. of_apart q (capability_is s p) some (λ h. f (capability_is s p) (record { stands = stands_at s p u; is_tagged = h })))

    -- then the state may start
    pub nowhere_starts : (s : State) → InType s → first_reach q s 0 ≡ None → Start s
    nowhere_starts s t e = record { in_type = t; sound = λ c k. ((nowhere_is s).0 e c k).is_sound }

    some_stays : (s a : State) → NoGain s a → first_reach q s 0 ≡ None → first_reach q a 0 ≡ None
    some_stays s a g e =
        (nowhere_is a).1
        (λ c k.
        let d = g.derived c k in
        let inside = d.is_inside in
        let apart = (nowhere_is s).0 e d.origin d.is_held in
        record {
          is_sound = g.sound c k;
          no_address = λ all x u v y z.
              apart.no_address (λ j h. inside.no_right j (all j h)) x (omega (arith, inside.region.from)) (omega (arith, inside.region.to)) y z;
        })

  empty_nowhere : q.length ≡ 0 → (s : State) → first_reach q s 0 ≡ None
  empty_nowhere h s = at_all_none q s (λ p l u. empty_range q (capability_is s p) h)

  -- none stays none over any calls: the search need not be made again
  pub nowhere_stays : (s a : State) → InType s → Reached s a → first_reach q s 0 ≡ None → first_reach q a 0 ≡ None
  nowhere_stays s a t r e =
      by_test (eqb q.length 0) (λ h. empty_nowhere (eqb-true q.length 0 h) a)
      (λ h.
      let some = eqb-false q.length 0 h in
      some_stays some s a (reached_gains_none s a (nowhere_starts some s t e) r).0 e)

-- ---- the right to store

-- a mask of one right has no other
pub only_right : (k j : ℕ) → Has (2 ^ k) j → j ≡ k
only_right k j h =
    by_test (ltb j k)
    (λ t.
    let l = ltb-true j k t in
    let e : suc (k - suc j) + j ≡ k = omega arith in
    absurd (above (k - suc j) (rw (← e) at h)))
    (λ t. by_test (ltb k j)
    (λ u. let z : 2 ^ k / 2 ^ j ≡ 0 = div-eq_of_lt (pow-lt (ltb-true k j u)) in absurd (omega (arith, rw z at h)))
    (λ u. omega (arith, ltb-false j k t, ltb-false k j u)))
  where
    above : (m : ℕ) → Has (2 ^ (suc m + j)) j → ⊥
    above m h =
        let d : 2 ^ (suc m + j) / 2 ^ j ≡ 2 ^ suc m = rw (pow-add 2 (suc m) j) (shl-shr (2 ^ suc m) j) in
        let o : 1 * 2 ^ suc m ≡ 2 ^ suc m = omega arith in
        omega (arith, rw o at (shifted_even 1 m), rw d at h)

module _ (start : ℕ) (q : Query) (stores : q.rights ≡ 2 ^ SD) (s : State) where
  in_some : (i : ℕ) → InRange q start i → q.length ≡ 0 → ⊥
  in_some i r z = omega (arith, r.from, r.to, z)

  module _ (none : first_reach q s 0 ≡ None) where
    -- each byte of the range is shut
    pub nowhere_shut : (i : ℕ) → InRange q start i → ByteShut s start i
    nowhere_shut i r c k w =
        ((nowhere_is q (in_some i r) s).0 none c k).no_address (λ j h. rw (only_right SD j (rw stores at h)) w.stores) (start + i) w.from w.to
        r.from r.to

    -- and all that integrity asks is there
    pub none_claim : InType s → ReachClaim start q s
    none_claim t =
        record {
          after_steps = λ n board revoked e good i r.
              (integrity_claim s (nowhere_starts q (in_some i r) s t none)).after_steps n board revoked good i (rw e (nowhere_shut i r));
          tags_after_steps = λ n board revoked e good g f.
              (integrity_claim s (nowhere_starts q (in_some (g * granule_bytes + 0) (f 0 (omega arith))) s t none)).tags_after_steps n board revoked good g
              (λ k l. rw e (nowhere_shut (g * granule_bytes + k) (f k l)));
          after_calls = λ a r same i m. one_start s a (nowhere_starts q (in_some i m) s t none) r start same i (nowhere_shut i m);
          none_after_calls = λ a r. nowhere_stays q s a t r none;
        }

  -- where `reach` answers none, from the first place on
  pub reach_claim : InType s → reach_answer start q 0 s ≡ Ok None → ReachClaim start q s
  reach_claim t e = none_claim (nowhere_first start q 0 s e) t

  -- and where `oddersnow_reach` answers 0
  pub c_reach_claim : InType s → packed_reach (reach_answer start q 0 s) ≡ 0 → ReachClaim start q s
  c_reach_claim t e = none_claim (packed_none start q 0 s e) t

-- ---- who may write

-- something held may write the byte at an address
pub record WriterHeld (s : State) (address : ℕ) : Type 0 where
  pub writer : Capability
  pub is_held : Held s writer
  pub may : Writes writer address

-- a byte is shut, or one that is held may write it: which one, the search tells
pub shut_or_held : (s : State) → Start s → (start i : ℕ) → ByteShut s start i ⊎ WriterHeld s (start + i)
shut_or_held s h start i = go (first_reach q s 0) refl (first_is q s 0 (omega arith))
  where
    q : Query
    q = query_of (start + i) 1 (2 ^ SD)

    counted : (c : Capability) → Stands s c → reaches_into q c ≡ true → WriterHeld s (start + i)
    counted c p t =
        let m = of_counted q c (λ e. h.sound c (record { stands = p; is_tagged = e })) t in
        let o = overlap_of q c m.2 in
        record {
          writer = c;
          is_held = record { stands = p; is_tagged = m.0 };
          may = record {
            stores = masked_each (2 ^ SD) (rights c) (eqb-true _ _ m.1) SD refl;
            from = omega (arith, o.1);
            to = o.2;
          };
        }

    go : (x : Option ℕ) → first_reach q s 0 ≡ x → FirstPlace (passes_in q s) 0 (places_in (length s.mem)) x → ByteShut s start i ⊎ WriterHeld s (start + i)
    go x e (none_passes f) = inl (nowhere_shut start q refl s e i (record { from = omega arith; to = omega arith }))
    go x e (first_passes p l u t f) = inr (counted (capability_is s p) (stands_at s p u) t)

-- a byte that some steps changed, something held at the start may write
pub changed_by : (s : State) → Start s → (n : ℕ) (board : Board) (revoked : List ℕ) → step_refusal board revoked s ≡ 0
    → (i : ℕ) → (get_or (ran_from n board revoked s).at.mem i 0 ≡ get_or s.mem i 0 → ⊥) → WriterHeld s (board.start + i)
changed_by s h n board revoked good i changed = go (shut_or_held s h board.start i)
  where
    go : ByteShut s board.start i ⊎ WriterHeld s (board.start + i) → WriterHeld s (board.start + i)
    go (inl shut) = absurd (changed ((integrity_claim s h).after_steps n board revoked good i shut).same_byte)
    go (inr w) = w
