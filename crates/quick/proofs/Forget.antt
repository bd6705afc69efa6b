-- What is kept of the entries: after a store and what it clears each entry that is left is one of the memory after it. The five slots that are cleared are
-- those of every four bytes at an even address that a store in one granule can touch. Assumes nothing.
use Rattle.std.proofs.Common.{◌≡◌, ℕ, zero, suc, ◌+◌, ◌-◌, ◌/◌, ◌%◌, ◌<◌, ◌≤◌, Bool, true, false, cond, ◌&&◌, eqb, ltb, ◌⊎◌, List, [], ◌∷◌, length, get_or}
use Rattle.std.proofs.Common.{Option, Some, None, ap}
use Rattle.std.proofs.Common.{set, refl, ◌∙◌, inl, inr, arith, get_or-set_other, get_or-set_same, ltb-false, ltb-true, eqb-true, le-leb}
use borrow.Author.Tests.{eqb-false}
use Rattle.words.specs.Words.{set_bytes}
use Rattle.words.proofs.Bytes.{length_set_bytes, get_d_set_bytes_other, le_bytes_same}
use Rattle.words.proofs.Word.{by_test}
use Rattle.capability.specs.declared.Capability.{Capability}
use Rattle.short_forms.specs.Standing.{half_bytes, long_bytes}
use Rattle.instructions.specs.declared.Instruction.{Instruction}
use Rattle.operations.specs.declared.Operation.{Operation}
use Rattle.quick.specs.declared.Found.{Found}
use Rattle.state.specs.Memory.{granule_bytes}
use Rattle.state.specs.Effects.{Stored, nothing, bytes, whole, Within}
use Rattle.commit.specs.Commit.{stored, stored_capability, memory_after}
use Rattle.quick.specs.Turns.{MayStore, store}
use Rattle.quick.specs.declared.Store.{Store}
use Rattle.quick.specs.Entries.{slots, entries, absent, slot_of, slot_at, there_of, Decoded, Entry, Entries}
use Rattle.quick.specs.Entries.{cleared_slot, cleared_near, touches_hull, forgotten, ClearedUnless}

-- ---- memory after a store

-- as long, and the same outside of width bytes at a place
record Outside (at width : ℕ) (before after : List ℕ) : Type 0 where
  long : length after ≡ length before
  other : (j : ℕ) → (at ≤ j → at + width ≤ j) → get_or after j 0 ≡ get_or before j 0

stored_outside : (mem : List ℕ) (n i value : ℕ) → i + n ≤ length mem → Outside i n mem (stored mem n i value)
unfolding stored
stored_outside mem n i value fits =
    rw (le-leb (i + n) (length mem) fits) (record { long = length_set_bytes n mem i value; other = get_d_set_bytes_other n mem i value })

capability_outside : (mem : List ℕ) (i : ℕ) (c : Capability) → i + granule_bytes ≤ length mem → Outside i granule_bytes mem (stored_capability mem i c)
unfolding stored_capability
capability_outside mem i c fits =
    let first = set_bytes 4 mem i c.address in
    rw (le-leb (i + granule_bytes) (length mem) fits) (record {
      long = length_set_bytes 4 first (i + 4) c.metadata ∙ length_set_bytes 4 mem i c.address;
      other = λ j h.
          get_d_set_bytes_other 4 first (i + 4) c.metadata j (λ l. omega (arith, h (omega arith)))
          ∙ get_d_set_bytes_other 4 mem i c.address j (λ l. omega (arith, h l));
    })

-- ---- an entry of another memory

module _ (start : ℕ) (before after : List ℕ) (a : ℕ) (long : length after ≡ length before)
    (same : (k : ℕ) → k < 4 → get_or after (a - start + k) 0 ≡ get_or before (a - start + k) 0) where
  there_same : there_of start after a ≡ there_of start before a
  there_same =
      rw (le_bytes_same half_bytes after before (a - start) (λ k l. same k (omega arith)), le_bytes_same long_bytes after before (a - start) same) refl

  decoded_same : (m n : ℕ) (x : Instruction) → Decoded start before m a n x → Decoded start after m a n x
  decoded_same m n x d =
      record {
        word_fits = d.word_fits;
        address_fits = d.address_fits;
        is_open = rw long d.is_open;
        length_is = rw there_same d.length_is;
        reads = rw there_same d.reads;
        goes_on = d.goes_on;
      }

-- the hull may be wider
wider : (start : ℕ) (mem : List ℕ) (low high low' high' j key n : ℕ) (op : Operation) → low' ≤ low → high ≤ high' → Entry start mem low high j key n op
    → Entry start mem low' high' j key n op
wider start mem low high low' high' j key n op l g e =
    let above : low ≤ e.address - start = e.in_hull.0 in
    let below : e.address - start + 4 ≤ high = e.in_hull.1 in
    record {
      word = e.word;
      address = e.address;
      instruction = e.instruction;
      key_is = e.key_is;
      slot_is = e.slot_is;
      in_hull = (omega (arith, l, above), omega (arith, g, below));
      decoded = e.decoded;
      means = e.means;
      placed = e.placed;
    }

-- ---- what is cleared

zero_at : (keys : List ℕ) (i : ℕ) → get_or (set keys i 0) i 0 ≡ 0
zero_at [] i = refl
zero_at (x ∷ xs) zero = refl
zero_at (x ∷ xs) (suc i) = zero_at xs i

-- what is left is what was there, at another slot
left_one : (keys : List ℕ) (i j : ℕ) → (get_or (set keys i 0) j 0 ≡ 0 → ⊥) → (get_or (set keys i 0) j 0 ≡ get_or keys j 0) × (j ≡ i → ⊥)
left_one keys i j h =
    by_test (eqb j i)
    (λ t. absurd (h (rw (eqb-true j i t) (zero_at keys i))))
    (λ t. (get_or-set_other keys i j 0 0 (eqb-false j i t), eqb-false j i t))

-- both entries of a slot are cleared, so what is left has another one
left_slot : (half : ℕ) (keys : List ℕ) (j : ℕ) → j < entries → (get_or (cleared_slot half keys) j 0 ≡ 0 → ⊥)
    → (get_or (cleared_slot half keys) j 0 ≡ get_or keys j 0) × (slot_at j ≡ half % slots → ⊥)
left_slot half keys j l h =
    let s = half % slots in
    let b = left_one (set keys s 0) (s + slots) j h in
    let a = left_one keys s j (λ z. h (b.0 ∙ z)) in (
      b.0 ∙ a.0,
      λ q. by_test (ltb j slots) (λ t. a.1 (omega (arith, q, ltb-true j slots t))) (λ t. b.1 (omega (arith, q, l, ltb-false j slots t))),
    )

-- none of the five slots from the first on
abbrev Far : (first j : ℕ) → Type 0
Far first j =
    (j ≡ first % slots → ⊥) × (j ≡ (first + 1) % slots → ⊥) × (j ≡ (first + 2) % slots → ⊥) × (j ≡ (first + 3) % slots → ⊥) × (j ≡ (first + 4) % slots → ⊥)

left_near : (address : ℕ) (keys : List ℕ) (j : ℕ) → j < entries → (get_or (cleared_near address keys) j 0 ≡ 0 → ⊥)
    → (get_or (cleared_near address keys) j 0 ≡ get_or keys j 0) × Far (address / 2 + slots - 1) (slot_at j)
left_near address keys j l h =
    let first = address / 2 + slots - 1 in
    let one = cleared_slot first keys in
    let two = cleared_slot (first + 1) one in
    let three = cleared_slot (first + 2) two in
    let four = cleared_slot (first + 3) three in
    let e = left_slot (first + 4) four j l h in
    let d = left_slot (first + 3) three j l (λ z. h (e.0 ∙ z)) in
    let c = left_slot (first + 2) two j l (λ z. h (e.0 ∙ d.0 ∙ z)) in
    let b = left_slot (first + 1) one j l (λ z. h (e.0 ∙ d.0 ∙ c.0 ∙ z)) in
    let a = left_slot first keys j l (λ z. h (e.0 ∙ d.0 ∙ c.0 ∙ b.0 ∙ z)) in
    (e.0 ∙ d.0 ∙ c.0 ∙ b.0 ∙ a.0, (a.1, b.1, c.1, d.1, e.1))

-- a slot that is left: the hull is not touched, or it is none of the five
left_if : (t : Bool) (keys near : List ℕ) (j : ℕ) (F : Type 0) → ((get_or near j 0 ≡ 0 → ⊥) → (get_or near j 0 ≡ get_or keys j 0) × F)
    → (get_or (cond t near keys) j 0 ≡ 0 → ⊥) → (get_or (cond t near keys) j 0 ≡ get_or keys j 0) × ((t ≡ false) ⊎ F)
left_if true keys near j F f h = ((f h).0, inr (f h).1)
left_if false keys near j F f h = (refl, inl refl)

abbrev Spared : (low high start at width j : ℕ) → Type 0
Spared low high start at width j = (touches_hull low high at width ≡ false) ⊎ Far ((start + at) / 2 + slots - 1) j

left_of : (low high start : ℕ) (s : Store) (keys : List ℕ) (j : ℕ) → j < entries → (get_or (forgotten low high start (Some s) keys) j 0 ≡ 0 → ⊥)
    → (get_or (forgotten low high start (Some s) keys) j 0 ≡ get_or keys j 0) × Spared low high start s.at s.width (slot_at j)
left_of low high start s keys j l h =
    left_if (touches_hull low high s.at s.width) keys (cleared_near (start + s.at) keys) j (Far ((start + s.at) / 2 + slots - 1) (slot_at j))
    (left_near (start + s.at) keys j l) h

-- ---- four bytes whose slot is left are apart from what is stored

-- halves p and q that are near have their slots near
near_slot : (p q : ℕ) → q ≤ p + 1 → p ≤ q + 3 → Far (q + slots - 1) (p % slots) → ⊥
near_slot p q l g far =
    by_test (ltb p q) (λ t. far.0 (omega (arith, ltb-true p q t)))
    (λ f0. by_test (ltb p (q + 1)) (λ t. far.1 (omega (arith, ltb-true p (q + 1) t, ltb-false p q f0)))
    (λ f1. by_test (ltb p (q + 2)) (λ t. far.2 (omega (arith, ltb-true p (q + 2) t, ltb-false p (q + 1) f1)))
    (λ f2. by_test (ltb p (q + 3)) (λ t. far.3 (omega (arith, ltb-true p (q + 3) t, ltb-false p (q + 2) f2)))
    (λ f3. far.4 (omega (arith, ltb-false p (q + 3) f3))))))

one_fails : (t u : Bool) → (t && u) ≡ false → (t ≡ false) ⊎ (u ≡ false)
one_fails true u e = inr e
one_fails false u e = inl refl

-- memory's start is a granule's, the store lies in one, and the four bytes at an even address lie in the hull
module _ (low high start at width a : ℕ) (aligned : start % granule_bytes ≡ 0) (some : 1 ≤ width) (together : at % granule_bytes + width ≤ granule_bytes)
    (even : a % 2 ≡ 0) (above : start ≤ a) (from : low ≤ a - start) (to : a - start + 4 ≤ high) where
  abbrev Apart : Type 0
  Apart = (k : ℕ) → k < 4 → at ≤ a - start + k → at + width ≤ a - start + k

  far_apart : Far ((start + at) / 2 + slots - 1) (slot_of a) → Apart
  far_apart far k l g =
      by_test (ltb (a - start + k) (at + width))
      (λ t. let in-it = ltb-true (a - start + k) (at + width) t in
      absurd (near_slot (a / 2) ((start + at) / 2) (omega (arith, g, l, above)) (omega (arith, in-it, aligned, together, even, above)) far))
      (λ t. ltb-false (a - start + k) (at + width) t)

  untouched_apart : (ltb low (at + width) ≡ false) ⊎ (ltb at high ≡ false) → Apart
  untouched_apart (inl t) k l g = let h = ltb-false low (at + width) t in omega (arith, h, from)
  untouched_apart (inr t) k l g = let h = ltb-false at high t in absurd (omega (arith, h, to, g, l))

  spared_apart : Spared low high start at width (slot_of a) → Apart
  spared_apart (inl t) = untouched_apart (one_fails (ltb low (at + width)) (ltb at high) t)
  spared_apart (inr far) = far_apart far

-- ---- the entries after a store

same_store : {at width i n : ℕ} → ◌≡◌ {A = Option Store} (Some (store at width)) (Some (store i n)) → (at ≡ i) × (width ≡ n)
same_store {at} {width} {i} {n} h =
    let e : store at width ≡ store i n = cc in
    (ap (λ (s : Store). s.at) e, ap (λ (s : Store). s.width) e)

unstored : (mem : List ℕ) (x : Stored) → MayStore x None → memory_after x mem ≡ mem
unstored mem nothing m = refl
unstored mem (bytes n i value) m = cc
unstored mem (whole i value) m = cc

module _ (start : ℕ) (mem : List ℕ) (low high j key n : ℕ) (op : Operation) (at width : ℕ) (aligned : start % granule_bytes ≡ 0)
    (e : Entry start mem low high j key n op) (spared : Spared low high start at width (slot_at j)) where
  entry_outside : (after : List ℕ) → Outside at width mem after → 1 ≤ width → at % granule_bytes + width ≤ granule_bytes → Entry start after low high j key n op
  entry_outside after o some together =
      let a : ℕ = e.address in
      let there = e.decoded.is_open in
      let apart = spared_apart low high start at width a aligned some together there.is_even there.is_above e.in_hull.0 e.in_hull.1
      (rw e.slot_is spared) in
      record {
        word = e.word;
        address = a;
        instruction = e.instruction;
        key_is = e.key_is;
        slot_is = e.slot_is;
        in_hull = e.in_hull;
        decoded = decoded_same start mem after a o.long (λ k l. o.other (a - start + k) (apart k l)) e.word n e.instruction e.decoded;
        means = e.means;
        placed = e.placed;
      }

  entry_after : (x : Stored) → Within (length mem) x → MayStore x (Some (store at width)) → Entry start (memory_after x mem) low high j key n op
  entry_after nothing w m = e
  entry_after (bytes k i value) w m =
      let p = same_store m in
      entry_outside (stored mem k i value) (rw (p.0, p.1) (stored_outside mem k i value w.inside)) (rw p.1 w.some) (rw (p.0, p.1) w.together)
  entry_after (whole i value) w m =
      let p = same_store m in
      entry_outside (stored_capability mem i value) (rw (p.0, p.1) (capability_outside mem i value w.inside)) (rw p.1 w.some)
      (rw (p.0, p.1) w.together)

module _ (start : ℕ) (mem : List ℕ) (low high : ℕ) (keys : List ℕ) (code : List Found) where
  -- each entry that a store leaves is one of memory after it
  pub entries_after : (x : Stored) (o : Option Store) → start % granule_bytes ≡ 0 → Within (length mem) x → MayStore x o
      → Entries start mem low high keys code → Entries start (memory_after x mem) low high (forgotten low high start o keys) code
  entries_after x None aligned w m es j l h =
      let same : Entries start (memory_after x mem) low high keys code = rw (unstored mem x m) es in
      same j l h
  entries_after x (Some s) aligned w m es j l h =
      let k = left_of low high start s keys j l h in
      rw k.0
      (entry_after start mem low high j (get_or keys j 0) (get_or code j absent).bytes (get_or code j absent).op s.at s.width aligned (es j l (λ z. h
      (k.0 ∙ z))) k.1 x w m)

  -- after a plain step none is left, unless it trapped: then memory is as it was
  pub entries_cleared : (alone : Bool) (after keys' : List ℕ) → ClearedUnless alone keys keys' → (alone ≡ true → after ≡ mem)
      → Entries start mem low high keys code → Entries start after low high keys' code
  entries_cleared true after keys' c same es = rw (c, same refl) es
  entries_cleared false after keys' c same es = λ j l h. absurd (h (c j l))

  -- no keys, no entries
  pub entries_none : ((j : ℕ) → j < entries → get_or keys j 0 ≡ 0) → Entries start mem low high keys code
  entries_none none j l h = absurd (h (none j l))

-- ---- a new entry

-- a key that is not 0 is the one that was put
put_same : (l : List ℕ) (i v : ℕ) → (get_or (set l i v) i 0 ≡ 0 → ⊥) → get_or (set l i v) i 0 ≡ v
put_same [] i v h = absurd (h refl)
put_same (x ∷ xs) zero v h = refl
put_same (x ∷ xs) (suc i) v h = put_same xs i v h

module _ (start : ℕ) (mem : List ℕ) (low high low' high' : ℕ) (keys : List ℕ) (code : List Found) (i key : ℕ) (f : Found)
    (inside : i < entries) (code_long : length code ≡ entries) (e : Entry start mem low' high' i key f.bytes f.op) where
  abbrev Put : ℕ → Type 0
  Put j =
      (get_or (set keys i key) j 0 ≡ 0 → ⊥)
      → Entry start mem low' high' j (get_or (set keys i key) j 0) (get_or (set code i f) j absent).bytes (get_or (set code i f) j absent).op

  put_there : Put i
  put_there h =
      rw (put_same keys i key h, get_or-set_same code i f absent (rw code_long inside)) e

  put_other : (j : ℕ) → (j ≡ i → ⊥) → Entry start mem low' high' j (get_or keys j 0) (get_or code j absent).bytes (get_or code j absent).op
      → Entry start mem low' high' j (get_or (set keys i key) j 0) (get_or (set code i f) j absent).bytes (get_or (set code i f) j absent).op
  put_other j d o = rw (get_or-set_other keys i j key 0 d, get_or-set_other code i j f absent d) o

  -- the hull only grows
  pub entries_put : low' ≤ low → high ≤ high' → Entries start mem low high keys code
      → Entries start mem low' high' (set keys i key) (set code i f)
  entries_put l g es j s =
      by_test (eqb j i)
      (λ t. rw (eqb-true j i t) put_there)
      (λ t h. let d = eqb-false j i t in
      put_other j d (wider start mem low high low' high' j (get_or keys j 0) (get_or code j absent).bytes (get_or code j absent).op l g
      (es j s (λ z. h (get_or-set_other keys i j key 0 d ∙ z)))))
