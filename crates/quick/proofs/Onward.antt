-- Where PCC goes on it is itself at another address, so one word of it changes; a register, the mark and time have words of their own. Assumes nothing.
use Rattle.std.proofs.Common.{◌≡◌, ℕ, zero, suc, ◌+◌, ◌*◌, ◌/◌, ◌%◌, ◌^◌, ◌<◌, ◌≤◌, Bool, true, false, cond, ◌&&◌, eqb, ltb, leb, List, [], ◌∷◌, length}
use Rattle.std.proofs.Common.{get_or, set, sym, refl, ap, ◌∙◌, arith, length-set, get_or-set_other, get_or-set_same, ltb-false, ltb-true, ne_eqb, eqb-true}
use borrow.Author.Tests.{eqb-false}
use Rattle.words.specs.Words.{wrap}
use Rattle.words.proofs.Word.{by_test}
use Rattle.capability.specs.Capability.{move_of}
use Rattle.capability.specs.declared.Capability.{Capability}
use Rattle.instructions.specs.declared.StoreKind.{StoreKind}
use Rattle.state.specs.Layout.{register_words, time_index}
use Rattle.state.specs.Registers.{capability_at, set_capability, write_register, pcc_of, mstatus_of}
use Rattle.state.specs.Addresses.{next_address}
use Rattle.state.specs.Marks.{cleared, below_mark, marked}
use Rattle.state.specs.Timer.{time_of, next_time, ticked}
use Rattle.state.specs.Lent.{state}
use Rattle.state.specs.Memory.{store_width, granule_bytes}
use Rattle.state.specs.declared.Effect.TheVariants.{Advance, Write, Store, StoreCapability, Jump}
use Rattle.commit.specs.Commit.{advanced, jumped, stored, stored_capability, retagged, apply_effect}
use Rattle.commit.proofs.Records.{ticked_below, ticked_time}
use Rattle.quick.specs.Turns.{went_on, written_at, pcc_at, Stands}

-- ---- words of a list

pub set_same : (l : List ℕ) (i v : ℕ) → get_or l i 0 ≡ v → set l i v ≡ l
set_same [] i v e = refl
set_same (x ∷ l) zero v e = ap (λ (y : ℕ). y ∷ l) (sym e)
set_same (x ∷ l) (suc i) v e = ap (λ (r : List ℕ). x ∷ r) (set_same l i v e)

pub set_swap : (l : List ℕ) (i j u v : ℕ) → (i ≡ j → ⊥) → set (set l i u) j v ≡ set (set l j v) i u
set_swap [] i j u v h = refl
set_swap (x ∷ l) zero zero u v h = absurd (h refl)
set_swap (x ∷ l) zero (suc j) u v h = refl
set_swap (x ∷ l) (suc i) zero u v h = refl
set_swap (x ∷ l) (suc i) (suc j) u v h = ap (λ (r : List ℕ). x ∷ r) (set_swap l i j u v (λ q. h (ap suc q)))

-- ---- time: the low word one on, with its carry

-- one more wraps to 0 from the largest word, and from no other
pub wraps_largest : (x : ℕ) → x < 2 ^ 32 → wrap (x + 1) ≡ 0 → x ≡ 4294967295
wraps_largest x h z = omega (arith, h, z)

pub wraps_below : (x : ℕ) → x < 2 ^ 32 → (wrap (x + 1) ≡ 0 → ⊥) → (x < 4294967295) × (wrap (x + 1) ≡ x + 1)
wraps_below x h n =
    by_test (ltb x 4294967295)
    (λ t. let k = ltb-true x 4294967295 t in (k, omega (arith, k)))
    (λ t. let k : ◌≡◌ {A = ℕ} x 4294967295 = omega (arith, h, ltb-false x 4294967295 t) in absurd (n (omega (arith, k))))

carried : (h : ℕ) → h < 2 ^ 32 → ((h * 2 ^ 32 + 4294967295 + 1) % 2 ^ 64 % 2 ^ 32 ≡ 0) × ((h * 2 ^ 32 + 4294967295 + 1) % 2 ^ 64 / 2 ^ 32 ≡ wrap (h + 1))
carried h b =
    by_test (ltb h 4294967295)
    (λ t. let k = ltb-true h 4294967295 t in
    let w : (h * 2 ^ 32 + 4294967295 + 1) % 2 ^ 64 ≡ (h + 1) * 2 ^ 32 = omega (arith, k) in rw w (omega arith, omega (arith, k)))
    (λ t. let k : ◌≡◌ {A = ℕ} h 4294967295 = omega (arith, b, ltb-false h 4294967295 t) in rw k (omega arith, omega arith))

uncarried : (l h : ℕ) → l < 4294967295 → h < 2 ^ 32 → ((h * 2 ^ 32 + l + 1) % 2 ^ 64 % 2 ^ 32 ≡ l + 1) × ((h * 2 ^ 32 + l + 1) % 2 ^ 64 / 2 ^ 32 ≡ h)
uncarried l h b k =
    let w : (h * 2 ^ 32 + l + 1) % 2 ^ 64 ≡ h * 2 ^ 32 + (l + 1) = omega (arith, b, k) in
    rw w (omega (arith, b), omega (arith, b))

pub ticked_carry : (l : List ℕ) → get_or l time_index 0 ≡ 4294967295 → get_or l (time_index + 1) 0 < 2 ^ 32
    → ticked l ≡ set (set l time_index 0) (time_index + 1) (wrap (get_or (set l time_index 0) (time_index + 1) 0 + 1))
unfolding ticked time_of
ticked_carry l e h =
    let w = carried (get_or l (time_index + 1) 0) h in
    let kept : get_or (set l time_index 0) (time_index + 1) 0 ≡ get_or l (time_index + 1) 0 = get_or-set_other l time_index (time_index + 1) 0 0
    (λ q. omega arith) in
    rw (e, w.0, w.1, kept) refl

pub ticked_low : (l : List ℕ) → get_or l time_index 0 < 4294967295 → get_or l (time_index + 1) 0 < 2 ^ 32 → ticked l
    ≡ set l time_index (get_or l time_index 0 + 1)
unfolding ticked time_of
ticked_low l e h =
    let w = uncarried (get_or l time_index 0) (get_or l (time_index + 1) 0) e h in
    rw (w.0, w.1) (set_same (set l time_index (get_or l time_index 0 + 1)) (time_index + 1) (get_or l (time_index + 1) 0)
    (get_or-set_other l time_index (time_index + 1) (get_or l time_index 0 + 1) 0 (λ q. omega arith)))

-- ---- what stays

pub stays_on : (l : List ℕ) (to j : ℕ) → (j ≡ 48 → ⊥) → (j ≡ time_index → ⊥) → (j ≡ time_index + 1 → ⊥) → get_or (went_on to l) j 0 ≡ get_or l j 0
unfolding ticked
stays_on l to j h p q =
    let r = set l 48 to in
    get_or-set_other (set r time_index (next_time r % 2 ^ 32)) (time_index + 1) j (next_time r / 2 ^ 32) 0 q ∙ get_or-set_other r time_index j
    (next_time r % 2 ^ 32) 0 p
    ∙ get_or-set_other l 48 j to 0 h

pub stays_written : (l : List ℕ) (at j : ℕ) (c : Capability) → at ≤ 45 → 48 ≤ j → get_or (written_at at c l) j 0 ≡ get_or l j 0
stays_written l at j c h k = go (eqb at 0)
  where
    go : (t : Bool) → get_or (cond t l (set (set (set l at c.address) (at + 1) c.metadata) (at + 2) c.tag)) j 0 ≡ get_or l j 0
    go true = refl
    go false =
        get_or-set_other (set (set l at c.address) (at + 1) c.metadata) (at + 2) j c.tag 0 (λ q. omega arith)
        ∙ get_or-set_other (set l at c.address) (at + 1) j c.metadata 0 (λ q. omega arith) ∙ get_or-set_other l at j c.address 0 (λ q. omega arith)

pub stays_marked : (l : List ℕ) (address j : ℕ) → (j ≡ 66 → ⊥) → get_or (marked address l) j 0 ≡ get_or l j 0
unfolding marked
stays_marked l address j h = go (below_mark l address)
  where
    go : (t : Bool) → get_or (cond t (set l 66 (cleared address)) l) j 0 ≡ get_or l j 0
    go true = get_or-set_other l 66 j (cleared address) 0 h
    go false = refl

pub long_on : (l : List ℕ) (to : ℕ) → length (went_on to l) ≡ length l
unfolding ticked
long_on l to = simp length-set

pub long_written : (l : List ℕ) (at : ℕ) (c : Capability) → length (written_at at c l) ≡ length l
long_written l at c = go (eqb at 0)
  where
    go : (t : Bool) → length (cond t l (set (set (set l at c.address) (at + 1) c.metadata) (at + 2) c.tag)) ≡ length l
    go true = refl
    go false = simp length-set

pub long_marked : (l : List ℕ) (address : ℕ) → length (marked address l) ≡ length l
unfolding marked
long_marked l address = go (below_mark l address)
  where
    go : (t : Bool) → length (cond t (set l 66 (cleared address)) l) ≡ length l
    go true = simp length-set
    go false = refl

-- PCC's address, and time
pub address_on : (l : List ℕ) (to : ℕ) → length l ≡ register_words → get_or (went_on to l) 48 0 ≡ to
address_on l to h = ticked_below (set l 48 to) 48 (omega arith) ∙ get_or-set_same l 48 to 0 (omega arith)

time_moved : (l : List ℕ) (to : ℕ) → time_of (set l 48 to) ≡ time_of l
unfolding time_of
time_moved l to = rw (get_or-set_other l 48 time_index to 0 (λ q. omega arith), get_or-set_other l 48 (time_index + 1) to 0 (λ q. omega arith)) refl

pub time_on : (l : List ℕ) (to : ℕ) → length l ≡ register_words → time_of (went_on to l) ≡ (time_of l + 1) % 2 ^ 64
time_on l to h = ticked_time (set l 48 to) (length-set l 48 to ∙ h) ∙ ap (λ (t : ℕ). (t + 1) % 2 ^ 64) (time_moved l to)

pub time_written : (l : List ℕ) (at : ℕ) (c : Capability) → at ≤ 45 → time_of (written_at at c l) ≡ time_of l
unfolding time_of
time_written l at c h = rw (stays_written l at time_index c h (omega arith), stays_written l at (time_index + 1) c h (omega arith)) refl

pub time_marked : (l : List ℕ) (address : ℕ) → time_of (marked address l) ≡ time_of l
unfolding time_of
time_marked l address = rw (stays_marked l address time_index (λ q. omega arith), stays_marked l address (time_index + 1) (λ q. omega arith)) refl

-- ---- a register by its place

-- the place of a register that is not c0 is not 0
pub written_at_lem : (l : List ℕ) (at rd : ℕ) (c : Capability) → at ≡ rd % 16 * 3 → written_at at c l ≡ write_register l rd c
unfolding write_register set_capability
written_at_lem l at rd c e =
    by_test (eqb (rd % 16) 0)
    (λ t. let z = eqb-true (rd % 16) 0 t in rw (e, z) refl)
    (λ t. let z = eqb-false (rd % 16) 0 t in rw (t, e, ne_eqb (rd % 16 * 3) 0 (λ q. z (omega (arith, q)))) refl)

pub written_other : (l : List ℕ) (rd j : ℕ) (c : Capability) → 48 ≤ j → get_or (write_register l rd c) j 0 ≡ get_or l j 0
written_other l rd j c h =
    ap (λ (r : List ℕ). get_or r j 0) (sym (written_at_lem l (rd % 16 * 3) rd c refl)) ∙ stays_written l (rd % 16 * 3) j c (omega arith) h

-- ---- PCC

pub pcc_words : (l : List ℕ) (m a : ℕ) → pcc_of l ≡ pcc_at m a → (get_or l 48 0 ≡ a) × (get_or l 49 0 ≡ m) × (get_or l 50 0 ≡ 1)
unfolding capability_at
pcc_words l m a e = (ap (λ (c : Capability). c.address) e, ap (λ (c : Capability). c.metadata) e, ap (λ (c : Capability). c.tag) e)

pub written_pcc : (l : List ℕ) (rd : ℕ) (c : Capability) → pcc_of (write_register l rd c) ≡ pcc_of l
unfolding capability_at
written_pcc l rd c = rw (written_other l rd 48 c (omega arith), written_other l rd 49 c (omega arith), written_other l rd 50 c (omega arith)) refl

pub marked_pcc : (l : List ℕ) (address : ℕ) → pcc_of (marked address l) ≡ pcc_of l
unfolding capability_at
marked_pcc l address =
    rw (stays_marked l address 48 (λ q. omega arith), stays_marked l address 49 (λ q. omega arith), stays_marked l address 50 (λ q. omega arith)) refl

-- PCC set to its own word at another address
pub pcc_moved : (l : List ℕ) (m a to : ℕ) → pcc_of l ≡ pcc_at m a → set_capability l 16 (pcc_at m to) ≡ set l 48 to
unfolding set_capability
pcc_moved l m a to e =
    let w = pcc_words l m a e in
    ap (λ (r : List ℕ). set r 50 1) (set_same (set l 48 to) 49 m (get_or-set_other l 48 49 to 0 (λ q. omega arith) ∙ w.1))
    ∙ set_same (set l 48 to) 50 1 (get_or-set_other l 48 50 to 0 (λ q. omega arith) ∙ w.2)

-- the mark looks at no word of PCC, and PCC's at none of the mark
pub marked_moved : (l : List ℕ) (address to : ℕ) → marked address (set l 48 to) ≡ set (marked address l) 48 to
unfolding marked below_mark
marked_moved l address to =
    rw (get_or-set_other l 48 66 to 0 (λ q. omega arith), get_or-set_other l 48 67 to 0 (λ q. omega arith))
    (go (leb (get_or l 67 0) address && ltb address (get_or l 66 0)))
  where
    go : (t : Bool) → cond t (set (set l 48 to) 66 (cleared address)) (set l 48 to) ≡ set (cond t (set l 66 (cleared address)) l) 48 to
    go true = set_swap l 48 66 to (cleared address) (λ q. omega arith)
    go false = refl

-- ---- the effects

module _ (regs mem tags : List ℕ) (start m a n to : ℕ) (s : Stands regs m a n) (q : to ≡ wrap (a + n)) where
  pub advanced_word : (l : List ℕ) → pcc_of l ≡ pcc_of regs → advanced n l ≡ set l 48 to
  unfolding advanced
  advanced_word l e =
      let f : pcc_of l ≡ pcc_at m a = e ∙ s.pcc_is in
      let g : move_of (pcc_of l) (next_address n l) ≡ pcc_at m to =
      ap (λ (c : Capability). move_of c (wrap (c.address + n))) f ∙ s.goes_on ∙ ap (pcc_at m) (sym q) in
      ap (set_capability l 16) g ∙ pcc_moved l m a to f

  pub took_advance : state (went_on to regs) mem tags ≡ apply_effect start n Advance (state regs mem tags)
  unfolding apply_effect
  took_advance = ap (λ (r : List ℕ). state (ticked r) mem tags) (sym (advanced_word regs refl))

  pub took_write : (at rd : ℕ) (v : Capability) → at ≡ rd % 16 * 3
      → state (went_on to (written_at at v regs)) mem tags ≡ apply_effect start n (Write rd v) (state regs mem tags)
  unfolding apply_effect
  took_write at rd v e =
      ap (λ (r : List ℕ). state (went_on to r) mem tags) (written_at_lem regs at rd v e)
      ∙ ap (λ (r : List ℕ). state (ticked r) mem tags) (sym (advanced_word (write_register regs rd v) (written_pcc regs rd v)))

  marked_on : (address : ℕ) → ticked (marked address (advanced n regs)) ≡ went_on to (marked address regs)
  marked_on address =
      ap (λ (r : List ℕ). ticked (marked address r)) (advanced_word regs refl) ∙ ap ticked (marked_moved regs address to)

  pub took_store : (kind : StoreKind) (i v : ℕ)
      → state (went_on to (marked ((start + i) % 2 ^ 32) regs)) (stored mem (store_width kind) i v) (retagged mem tags (store_width kind) i 0)
      ≡ apply_effect start n (Store kind i v) (state regs mem tags)
  unfolding apply_effect
  took_store kind i v =
      ap (λ (r : List ℕ). state r (stored mem (store_width kind) i v) (retagged mem tags (store_width kind) i 0)) (sym (marked_on ((start + i) % 2 ^ 32)))

  pub took_store_capability : (i : ℕ) (v : Capability)
      → state (went_on to (marked ((start + i) % 2 ^ 32) regs)) (stored_capability mem i v) (retagged mem tags granule_bytes i v.tag)
      ≡ apply_effect start n (StoreCapability i v) (state regs mem tags)
  unfolding apply_effect
  took_store_capability i v =
      ap (λ (r : List ℕ). state r (stored_capability mem i v) (retagged mem tags granule_bytes i v.tag)) (sym (marked_on ((start + i) % 2 ^ 32)))

-- a jump with no link to PCC's own word, mstatus as it is
module _ (regs mem tags : List ℕ) (start m a n to : ℕ) (e : pcc_of regs ≡ pcc_at m a) where
  jumped_word : (rd : ℕ) (link : Capability) → rd % 16 ≡ 0 → jumped regs rd link (pcc_at m to) (mstatus_of regs) ≡ set regs 48 to
  unfolding jumped write_register
  jumped_word rd link z =
      rw z (ap (λ (l : List ℕ). set l 63 (mstatus_of regs)) (pcc_moved regs m a to e)
      ∙ set_same (set regs 48 to) 63 (mstatus_of regs) (get_or-set_other regs 48 63 to 0 (λ q. omega arith)))

  pub took_jump : (rd mstatus : ℕ) (link target : Capability) → rd % 16 ≡ 0 → target ≡ pcc_at m to → mstatus ≡ mstatus_of regs
      → state (went_on to regs) mem tags ≡ apply_effect start n (Jump rd link target mstatus) (state regs mem tags)
  unfolding apply_effect
  took_jump rd mstatus link target z t k = rw (t, k) (ap (λ (r : List ℕ). state (ticked r) mem tags) (sym (jumped_word rd link z)))

  -- the same with a link
  linked_word : (at rd : ℕ) (link : Capability) → at ≡ rd % 16 * 3 → jumped regs rd link (pcc_at m to) (mstatus_of regs) ≡ set (written_at at link regs) 48 to
  unfolding jumped
  linked_word at rd link z =
      let w = write_register regs rd link in
      ap (λ (l : List ℕ). set l 63 (mstatus_of regs)) (pcc_moved w m a to (written_pcc regs rd link ∙ e))
      ∙ set_same (set w 48 to) 63 (mstatus_of regs) (get_or-set_other w 48 63 to 0 (λ q. omega arith) ∙ written_other regs rd 63 link (omega arith))
      ∙ ap (λ (l : List ℕ). set l 48 to) (sym (written_at_lem regs at rd link z))

  pub took_linked : (at rd mstatus : ℕ) (link target : Capability) → at ≡ rd % 16 * 3 → target ≡ pcc_at m to → mstatus ≡ mstatus_of regs
      → state (went_on to (written_at at link regs)) mem tags ≡ apply_effect start n (Jump rd link target mstatus) (state regs mem tags)
  unfolding apply_effect
  took_linked at rd mstatus link target z t k =
      rw (t, k) (ap (λ (r : List ℕ). state (ticked r) mem tags) (sym (linked_word at rd link z)))
