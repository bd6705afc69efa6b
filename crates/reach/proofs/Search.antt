-- A search from a place on is one from a later place, where none between counts; a byte of tags that is clear passes over all its granules. Assumes nothing.
use mathlib.Core.Path.{◌≡◌, refl, sym, ap, ◌∙◌}
use mathlib.Core.Bool.{Bool, true, false, cond, ◌&&◌}
use mathlib.Core.List.{List}
use Rattle.std.specs.Prelude.{Option, Some, None, MatchOption, max}
use Prim.Native.Nat.{ℕ, zero, suc, ◌+◌, ◌-◌, ◌*◌, ◌/◌, ◌%◌, ◌^◌, ◌≤◌, ◌<◌}
use native.Mathlib.Nat.{zero-div}
use native.Mathlib.Omega.{arith}
use lib.Dec.{eqb}
use lib.ListN.{get_or, length}
use borrow.Author.Tests.{eqb-true, le-ltb, lt-ltb}
use Rattle.words.specs.Words.{le_bytes, le8, bit_at}
use Rattle.capability.specs.Capability.{tagged}
use Rattle.capability.specs.declared.Capability.{Capability}
use Rattle.state.specs.Layout.{capability_count}
use Rattle.state.specs.Registers.{capability_at}
use Rattle.state.specs.Lent.{State}
use Rattle.state.specs.Memory.{capability_in, granule_bytes}
use Rattle.state.proofs.Laws.{capability_in_granule}
use Rattle.machine.specs.Refusals.{most_memory}
use Rattle.reach.specs.Reach.{reaches_into, places_in, capability_is, first_of, passes_in, first_reach, FirstPlace, none_passes, first_passes}
use Rattle.reach.specs.Search.{tags_of_byte, byte_clear, granule_reaches, granule_passes, clear_from}
use Rattle.reach.specs.declared.Query.{Query}

-- ---- any test

module _ (passes : ℕ → Bool) where
  -- none of k places from p on passes
  pub passed_over : (k n p : ℕ) → ((j : ℕ) → j < k → passes (p + j) ≡ false) → first_of n passes p ≡ first_of (n - k) passes (p + k)
  unfolding first_of
  passed_over zero n p h = let e : n - 0 ≡ n = omega arith in let f : p + 0 ≡ p = omega arith in rw (e, f) refl
  passed_over (suc k) zero p h = let e : 0 - suc k ≡ 0 = omega arith in rw e refl
  passed_over (suc k) (suc n) p h =
      let e : p + 1 + k ≡ p + suc k = omega arith in
      let d : suc n - suc k ≡ n - k = omega arith in
      let z : p + 0 ≡ p = omega arith in
      rw (rw z at (h 0 (omega arith)), d)
      (rw e at (passed_over k n (p + 1) (λ j l. let f : p + 1 + j ≡ p + (j + 1) = omega arith in rw f (h (j + 1) (omega arith)))))

  -- the first does
  pub passes_first : (n p : ℕ) → 1 ≤ n → passes p ≡ true → Some p ≡ first_of n passes p
  unfolding first_of
  passes_first zero p l h = absurd (omega arith)
  passes_first (suc n) p l h = rw h

-- two tests that agree from p on
pub first_alike : (f g : ℕ → Bool) (n p : ℕ) → ((k : ℕ) → p ≤ k → f k ≡ g k) → first_of n f p ≡ first_of n g p
unfolding first_of
first_alike f g zero p h = refl
first_alike f g (suc n) p h = rw (h p (omega arith), first_alike f g n (p + 1) (λ k l. h k (omega arith)))

-- what is the first place by its cases is what the search finds
pub first_unique : (passes : ℕ → Bool) (to n from : ℕ) → from + n ≡ to → (a : Option ℕ) → FirstPlace passes from to a → a ≡ first_of n passes from
unfolding first_of
first_unique passes to n from e a (none_passes f) =
    let z : n - n ≡ 0 = omega arith in
    sym (rw z at (passed_over passes n n from (λ j l. f (from + j) (omega arith) (omega (arith, e)))))
first_unique passes to n from e a (first_passes p l u t f) =
    let k : p - from + from ≡ p = omega arith in
    let m : from + (p - from) ≡ p = omega arith in
    passes_first passes (n - (p - from)) p (omega (arith, e)) t
    ∙ sym (rw m at (passed_over passes (p - from) n from (λ j h. f (from + j) (omega arith) (omega arith))))

-- ---- granules

-- what has no tag does not count
pub untagged_short : (q : Query) (c : Capability) → c.tag ≡ 0 → reaches_into q c ≡ false
unfolding reaches_into tagged
untagged_short q c h = rw h

module _ (q : Query) (mem tags : List ℕ) where
  untagged_granule : (g : ℕ) → bit_at tags g ≡ 0 → granule_reaches q mem tags g ≡ false
  untagged_granule g h =
      untagged_short q (capability_in mem tags (g * granule_bytes)) (ap (λ (c : Capability). c.tag) (capability_in_granule mem tags g) ∙ h)

  clear_bit : (g j : ℕ) → g % tags_of_byte ≡ 0 → le8 tags (g / tags_of_byte) ≡ 0 → j < tags_of_byte → bit_at tags (g + j) ≡ 0
  unfolding le_bytes bit_at
  clear_bit g j a b l =
      let e : (g + j) / 8 ≡ g / 8 + 0 = omega arith in
      let z : get_or tags (g / 8 + 0) 0 ≡ 0 = omega (arith, b) in
      rw (e, z) (rw (zero-div (2 ^ ((g + j) % 8))) refl)

  -- what is passed over does not count
  pub clear_over : (g j : ℕ) → j < clear_from q mem tags g → granule_reaches q mem tags (g + j) ≡ false
  unfolding clear_from byte_clear
  clear_over g j l = go (eqb (g % tags_of_byte) 0) refl (eqb (le8 tags (g / tags_of_byte)) 0) refl l
    where
      one : (r : Bool) → granule_reaches q mem tags g ≡ r → j < cond r 0 1 → granule_reaches q mem tags (g + j) ≡ false
      one true e k = absurd (omega arith)
      one false e k = let z : g + j ≡ g = omega arith in rw z e

      go : (a : Bool) → eqb (g % tags_of_byte) 0 ≡ a → (b : Bool) → eqb (le8 tags (g / tags_of_byte)) 0 ≡ b
          → j < cond (a && b) tags_of_byte (cond (granule_reaches q mem tags g) 0 1) → granule_reaches q mem tags (g + j) ≡ false
      go true e true f k =
          untagged_granule (g + j) (clear_bit g j (eqb-true (g % tags_of_byte) 0 e) (eqb-true (le8 tags (g / tags_of_byte)) 0 f) k)
      go true e false f k = one (granule_reaches q mem tags g) refl k
      go false e b f k = one (granule_reaches q mem tags g) refl k

  -- where nothing is, it counts
  pub clear_none : (g : ℕ) → clear_from q mem tags g ≡ 0 → granule_reaches q mem tags g ≡ true
  unfolding clear_from
  clear_none g z = go (byte_clear tags g) (granule_reaches q mem tags g) refl z
    where
      go : (a r : Bool) → granule_reaches q mem tags g ≡ r → cond a tags_of_byte (cond r 0 1) ≡ 0 → granule_reaches q mem tags g ≡ true
      go true r e z = absurd (omega arith)
      go false true e z = e
      go false false e z = absurd (omega arith)

  -- a turn of the loop over memory, of places to the end n
  module _ (n p : ℕ) (after : capability_count ≤ p) where
    pub memory_turn : first_of (n - (p + clear_from q mem tags (p - capability_count))) (granule_passes q mem tags)
        (p + clear_from q mem tags (p - capability_count))
        ≡ first_of (n - p) (granule_passes q mem tags) p
    memory_turn =
        let k : ℕ = clear_from q mem tags (p - capability_count) in
        let e : n - p - k ≡ n - (p + k) = omega arith in
        sym (rw e at (passed_over (granule_passes q mem tags) k (n - p) p
        (λ j l. let f : p + j - capability_count ≡ p - capability_count + j = omega arith in rw f (clear_over (p - capability_count) j l))))

    pub memory_found : p < n → clear_from q mem tags (p - capability_count) ≡ 0 → Some p ≡ first_of (n - p) (granule_passes q mem tags) p
    memory_found l z = passes_first (granule_passes q mem tags) (n - p) p (omega arith) (clear_none (p - capability_count) z)

-- places are few
pub few_places : (size p k : ℕ) → p < places_in size → k ≤ tags_of_byte → size ≤ most_memory → p + k < 2 ^ 32
few_places size p k l m n = omega arith

-- ---- registers

module _ (s : State) where
  pub register_is : (p : ℕ) → p < capability_count → capability_is s p ≡ capability_at s.regs p
  unfolding capability_is
  register_is p l = rw (lt-ltb p capability_count l)

  pub granule_is : (p : ℕ) → capability_count ≤ p → capability_is s p ≡ capability_in s.mem s.tags ((p - capability_count) * granule_bytes)
  unfolding capability_is
  granule_is p l = rw (le-ltb p capability_count l)

  -- behind them the search is that of memory
  pub memory_left : (q : Query) (n p : ℕ) → capability_count ≤ p → first_of n (granule_passes q s.mem s.tags) p ≡ first_of n (passes_in q s) p
  memory_left q n p l =
      first_alike (granule_passes q s.mem s.tags) (passes_in q s) n p
      (λ k m. let a : capability_count ≤ k = omega arith in rw (granule_is k a) refl)

  abbrev pub Counts : Query → ℕ → Type 0
  Counts q k = reaches_into q (capability_at s.regs k) ≡ true

  abbrev pub Shut : Query → ℕ → Type 0
  Shut q k = reaches_into q (capability_at s.regs k) ≡ false

  module _ (q : Query) (from : ℕ) where
    abbrev pub AllShut : (to : ℕ) → Type 0
    AllShut to = (k : ℕ) → from ≤ k → k < to → Shut q k

    -- the first register from one on that counts is the first place
    pub register_found : (i : ℕ) → from ≤ i → i < capability_count → Counts q i → AllShut i → Some i ≡ first_reach q s from
    unfolding first_reach
    register_found i l u t f =
        first_unique (passes_in q s) (places_in (length s.mem)) (places_in (length s.mem) - from) from (omega arith) (Some i)
        (first_passes i l (omega arith) (rw (register_is i u) t) (λ k m v. rw (register_is k (omega arith)) (f k m v)))

    -- where none counts, it is memory's first, from one on or behind the registers
    pub register_none : (m : ℕ) → m ≡ max from capability_count → AllShut capability_count
        → first_of (places_in (length s.mem) - m) (granule_passes q s.mem s.tags) m ≡ first_reach q s from
    unfolding first_reach
    register_none m e f =
        let n : ℕ = places_in (length s.mem) in
        let k : from + (m - from) ≡ m = omega (arith, e) in
        let d : n - from - (m - from) ≡ n - m = omega (arith, e) in
        memory_left q (n - m) m (omega (arith, e))
        ∙ sym (rw (k, d) at (passed_over (passes_in q s) (m - from) (n - from) from
        (λ j l. let u : from + j < capability_count = omega (arith, e) in rw (register_is (from + j) u) (f (from + j) (omega arith) u))))

    -- by the search of the registers
    module _ (found : Option ℕ)
        (h : MatchOption found (AllShut capability_count) (λ i. (from ≤ i) × (i < capability_count) × Counts q i × AllShut i)) where
      pub held_found : (i : ℕ) → found ≡ Some i → Some i ≡ first_reach q s from
      held_found i e = go found e h
        where
          go : (o : Option ℕ) → o ≡ Some i → MatchOption o (AllShut capability_count) (λ j. (from ≤ j) × (j < capability_count) × Counts q j × AllShut j)
              → Some i ≡ first_reach q s from
          go None e h = cc
          go (Some j) e h = sym e ∙ register_found j h.0 h.1 h.2 h.3

      pub held_none : found ≡ None → AllShut capability_count
      held_none e = go found e h
        where
          go : (o : Option ℕ) → o ≡ None → MatchOption o (AllShut capability_count) (λ j. (from ≤ j) × (j < capability_count) × Counts q j × AllShut j)
              → AllShut capability_count
          go None e h = h
          go (Some j) e h = cc
