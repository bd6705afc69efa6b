-- Where an authority reaches the bytes of an aligned access, no check fails and the place is in memory: the effect is the plain one of its instruction, and
-- the turn leaves what it leaves. Where a turn leaves all as it is, a load stores nothing, and a store at its own place or nowhere. Assumes nothing.
use Rattle.std.proofs.Common.{◌≡◌, ℕ, ◌+◌, ◌-◌, ◌*◌, ◌/◌, ◌%◌, ◌^◌, ◌<◌, ◌≤◌, Bool, true, false, cond, not, ◌&&◌, eqb, leb, List, length, get_or, sym, refl}
use Rattle.std.proofs.Common.{Option, Some, None, Ok, Err, ap}
use Rattle.std.proofs.Common.{ap, ◌∙◌, arith, eq-eqb, ne_eqb, le-leb, leb-false, leb-true}
use lib.Pow.{split}
use Rattle.words.specs.Words.{wrap, set_bytes, put_bit, bit_at, with_bit}
use Rattle.words.proofs.Bits.{with_bit_is, bit_at_bit}
use Rattle.words.proofs.Word.{by_test}
use Rattle.metadata.specs.Rights.{LD, SD, MC, SL, GL}
use Rattle.capability.specs.Capability.{integer, keep_tag_if, tagged, grants}
use Rattle.capability.specs.Loading.{loaded_of}
use Rattle.capability.specs.declared.Capability.{Capability}
use Rattle.instructions.specs.declared.LoadKind.{LoadKind}
use Rattle.instructions.specs.declared.LoadKind.TheVariants.{Lb, Lh, Lw, Lbu, Lhu}
use Rattle.operations.specs.Means.{OneByte}
use Rattle.instructions.specs.declared.StoreKind.{StoreKind}
use Rattle.state.specs.Registers.{capability_at, register_at, integer_at}
use Rattle.state.specs.Marks.{marked}
use Rattle.state.specs.Lent.{state, Lent, lent}
use Rattle.state.specs.Memory.{load_width, store_width, place_of, capability_in, granule_bytes}
use Rattle.state.specs.Checks.{access_cause, checked, load_cause, store_cause}
use Rattle.state.specs.Effects.{stored_by}
use Rattle.state.specs.declared.Board.{Board}
use Rattle.state.specs.declared.Place.{Place}
use Rattle.state.specs.declared.Place.TheVariants.{At, Misaligned, Outside}
use Rattle.state.specs.declared.Effect.{Effect}
use Rattle.state.specs.declared.Effect.TheVariants.{Write, Store, StoreCapability}
use Rattle.state.proofs.Laws.{checked_holds, placed}
use Rattle.memory_instructions.specs.Access.{loaded_value, load_at, load_effect, store_at, store_effect, filtered, revoked_value, load_capability_at}
use Rattle.memory_instructions.specs.Access.{load_capability_effect, store_capability_check, store_capability_at, store_capability_effect, address_of}
use Rattle.memory_instructions.proofs.Laws.{untagged_unrevoked}
use Rattle.commit.specs.Commit.{stored, stored_capability, retagged, retires}
use Rattle.quick.specs.Rows.{Reached}
use Rattle.quick.specs.Turns.{went_on, written_at, MayStore}
use Rattle.quick.specs.Memory.{Aligned, MayHold, Loads, Stores, LoadsCapability, StoresCapability}
use Rattle.quick.specs.Turns.{Took, store}
use Rattle.quick.specs.declared.Store as says
use Rattle.quick.proofs.Onward.{set_same, took_write, took_store, took_store_capability}

-- ---- a bit that is not set

pub bit_clear : (t : List ℕ) (g : ℕ) → bit_at t g ≡ 0 → t ≡ put_bit t g 0
unfolding bit_at put_bit
bit_clear t g e =
    let b : ℕ = get_or t (g / 8) 0 in
    let k : ℕ = g % 8 in
    sym (set_same t (g / 8) (with_bit b k 0) (sym (with_bit_is b k 0 ∙ rw (even (b / 2 ^ k) e) (split b k))))
  where
    even : (x : ℕ) → x % 2 ≡ 0 → x / 2 * 2 + 0 % 2 ≡ x
    even x h = omega arith

-- as the bit that was read
pub bit_unset : (t : List ℕ) (g r : ℕ) → r ≡ bit_at t g → (r ≡ 1 → ⊥) → t ≡ put_bit t g 0
bit_unset t g r e n =
    by_test (leb 1 r) (λ h. absurd (n (omega (arith, leb-true 1 r h, bit_at_bit t g))))
    (λ h. bit_clear t g (omega (arith, leb-false 1 r h)))

-- ---- what a store of a capability asks, and what a load of one loses

and_false : (b : Bool) → (b && false) ≡ false
and_false true = refl
and_false false = refl

pub may_untagged : (c v : Capability) → (v.tag ≡ 1 → ⊥) → MayHold c v
unfolding tagged
may_untagged c v n = let e = ne_eqb v.tag 1 n in record { mutable = rw e refl; kept_local = rw e refl }

pub may_global : (c v : Capability) → grants c MC ≡ true → grants v GL ≡ true → MayHold c v
may_global c v h g = record { mutable = rw h (and_false (tagged v)); kept_local = rw g (and_false (tagged v)) }

pub may_local : (c v : Capability) → grants c MC ≡ true → grants c SL ≡ true → MayHold c v
may_local c v h g = record { mutable = rw h (and_false (tagged v)); kept_local = rw (g, and_false (not (grants v GL))) (and_false (tagged v)) }

pub untagged_kept : (board : Board) (revoked : List ℕ) (v : Capability) → v.tag ≡ 0 → v ≡ keep_tag_if (not (revoked_value board revoked v)) v
untagged_kept board revoked v e = rw (untagged_unrevoked board revoked v e) refl

-- ---- the checks and the place

module _ (right start size address width : ℕ) (c : Capability) (r : Reached right start size c address width) where
  pub reached_cause : (cause : ℕ) → access_cause c right cause address width ≡ 0
  unfolding access_cause tagged
  reached_cause cause = rw (eq-eqb c.tag 1 r.is_tagged, r.is_open, r.has_right, r.in_bounds) refl

  pub reached_place : Aligned address width → place_of start size address width ≡ At (address - start)
  unfolding place_of
  reached_place e =
      rw (eq-eqb (address % width) 0 e, le-leb start address r.after_start, le-leb (address + width) (start + size) r.before_end) refl

-- ---- the effects

load_is : (kind : LoadKind) (rd rs1 address start : ℕ) (c : Capability) (mem : List ℕ) → Aligned address (load_width kind)
    → Reached LD start (length mem) c address (load_width kind)
    → load_effect kind rd rs1 address c start mem ≡ Write rd (integer (loaded_value kind mem (address - start)))
unfolding load_effect checked load_at
load_is kind rd rs1 address start c mem e r =
    rw (reached_cause LD start (length mem) address (load_width kind) c r load_cause, reached_place LD start (length mem) address (load_width kind) c r e) refl

store_is : (kind : StoreKind) (rs1 address value start size : ℕ) (c : Capability) → Aligned address (store_width kind)
    → Reached SD start size c address (store_width kind) → store_effect kind rs1 address value c start size ≡ Store kind (address - start) value
unfolding store_effect checked store_at
store_is kind rs1 address value start size c e r =
    rw (reached_cause SD start size address (store_width kind) c r store_cause, reached_place SD start size address (store_width kind) c r e) refl

load_capability_is : (rd rs1 address : ℕ) (c : Capability) (l : Lent) → Aligned address granule_bytes
    → Reached LD l.board.start (length l.mem) c address granule_bytes
    → load_capability_effect rd rs1 address c l ≡ Write rd (filtered c (capability_in l.mem l.tags (address - l.board.start)) l)
unfolding load_capability_effect checked load_capability_at
load_capability_is rd rs1 address c l e r =
    rw (
      reached_cause LD l.board.start (length l.mem) address granule_bytes c r load_cause,
      reached_place LD l.board.start (length l.mem) address granule_bytes c r e,
    ) refl

tag_test : (c : Capability) → c.tag ≡ 1 → tagged c ≡ true
unfolding tagged
tag_test c e = eq-eqb c.tag 1 e

store_capability_checks : (address start size : ℕ) (c v : Capability) → MayHold c v → Reached SD start size c address granule_bytes
    → store_capability_check c v address ≡ 0
unfolding store_capability_check
store_capability_checks address start size c v h r =
    rw (tag_test c r.is_tagged, r.is_open, r.has_right, h.mutable, h.kept_local, r.in_bounds) refl

store_capability_is : (rs1 address start size : ℕ) (c v : Capability) → Aligned address granule_bytes → MayHold c v
    → Reached SD start size c address granule_bytes → store_capability_effect rs1 address v c start size ≡ StoreCapability (address - start) v
unfolding store_capability_effect checked store_capability_at
store_capability_is rs1 address start size c v e h r =
    rw (store_capability_checks address start size c v h r, reached_place SD start size address granule_bytes c r e) refl

-- ---- what may be stored

place_may : (P : Effect → Type 0) (f : Place → Effect) (start size address w : ℕ) → P (f Misaligned) → P (f Outside)
    → (start ≤ address → P (f (At (address - start)))) → P (f (place_of start size address w))
unfolding place_of
place_may P f start size address w m o a = go (eqb (address % w) 0) (leb start address) refl (leb (address + w) (start + size))
  where
    go : (p q : Bool) → leb start address ≡ q → (r : Bool) → P (f (cond p (cond (q && r) (At (address - start)) Outside) Misaligned))
    go false q e r = m
    go true false e r = o
    go true true e false = o
    go true true e true = a (leb-true start address e)

-- the place of a store, of a difference that wraps
place_is : (at start address : ℕ) → at < 2 ^ 32 → address < 2 ^ 32 → (at + start) % 2 ^ 32 ≡ address → start ≤ address → at ≡ address - start
place_is at start address p q e l = omega arith

load_may : (kind : LoadKind) (rd rs1 address start : ℕ) (o : Option says.Store) (c : Capability) (mem : List ℕ)
    → MayStore (stored_by (load_effect kind rd rs1 address c start mem)) o
unfolding load_effect load_at
load_may kind rd rs1 address start o c mem =
    checked_holds (λ (e : Effect). MayStore (stored_by e) o) rs1 _ _ (λ n v. tt)
    (placed (λ (e : Effect). MayStore (stored_by e) o) (λ (p : Place). load_at p kind rd address mem) tt tt (λ i. tt)
    (place_of start (length mem) address (load_width kind)))

load_capability_may : (rd rs1 address : ℕ) (o : Option says.Store) (c : Capability) (l : Lent)
    → MayStore (stored_by (load_capability_effect rd rs1 address c l)) o
unfolding load_capability_effect load_capability_at
load_capability_may rd rs1 address o c l =
    checked_holds (λ (e : Effect). MayStore (stored_by e) o) rs1 _ _ (λ n v. tt)
    (placed (λ (e : Effect). MayStore (stored_by e) o) (λ (p : Place). load_capability_at p rd address c l) tt tt (λ i. tt)
    (place_of l.board.start (length l.mem) address granule_bytes))

store_may : (kind : StoreKind) (rs1 address value start size at : ℕ) (c : Capability) → (start ≤ address → at ≡ address - start)
    → MayStore (stored_by (store_effect kind rs1 address value c start size)) (Some (store at (store_width kind)))
unfolding store_effect store_at
store_may kind rs1 address value start size at c h =
    checked_holds (λ (e : Effect). MayStore (stored_by e) (Some (store at (store_width kind)))) rs1 _ _ (λ n v. tt)
    (place_may (λ (e : Effect). MayStore (stored_by e) (Some (store at (store_width kind)))) (λ (p : Place). store_at p kind address value) start
    size address _ tt tt
    (λ l. ap (λ (x : ℕ). Some (store x (store_width kind))) (h l)))

store_capability_may : (rs1 address start size at : ℕ) (c v : Capability) → (start ≤ address → at ≡ address - start)
    → MayStore (stored_by (store_capability_effect rs1 address v c start size)) (Some (store at granule_bytes))
unfolding store_capability_effect store_capability_at
store_capability_may rs1 address start size at c v h =
    checked_holds (λ (e : Effect). MayStore (stored_by e) (Some (store at granule_bytes))) rs1 _ _ (λ n x. tt)
    (place_may (λ (e : Effect). MayStore (stored_by e) (Some (store at granule_bytes))) (λ (p : Place). store_capability_at p address v) start size
    address _ tt tt
    (λ l. ap (λ (x : ℕ). Some (store x granule_bytes)) (h l)))

-- ---- registers by their places

abbrev pub held : (regs : List ℕ) → (from : ℕ) → Capability
held regs from = record { address = get_or regs from 0; metadata = get_or regs (from + 1) 0; tag = get_or regs (from + 2) 0 }

register_is : (regs : List ℕ) (from r : ℕ) (c : Capability) → c ≡ held regs from → from ≡ r % 16 * 3 → register_at regs r ≡ c
unfolding capability_at
register_is regs from r c e p = sym (e ∙ ap (held regs) p)

address_is : (regs : List ℕ) (from r offset address : ℕ) (c : Capability) → c ≡ held regs from → address ≡ wrap (c.address + offset) → from ≡ r % 16 * 3
    → address_of regs r offset ≡ address
unfolding integer_at
address_is regs from r offset address c e f p =
    sym (f ∙ ap (λ (x : Capability). wrap (x.address + offset)) e ∙ ap (λ (x : ℕ). wrap (get_or regs x 0 + offset)) p)

integer_held : (regs : List ℕ) (other r v : ℕ) → v ≡ get_or regs other 0 → other ≡ r % 16 * 3 → integer_at regs r ≡ v
unfolding integer_at
integer_held regs other r v e p = sym (e ∙ ap (λ (x : ℕ). get_or regs x 0) p)

-- ---- loads of one byte

pub byte_width : (kind : LoadKind) → OneByte kind → load_width kind ≡ 1
byte_width Lb h = refl
byte_width Lbu h = refl
byte_width Lh h = absurd h
byte_width Lhu h = absurd h
byte_width Lw h = absurd h

pub byte_aligned : (kind : LoadKind) (address : ℕ) → OneByte kind → Aligned address (load_width kind)
byte_aligned kind address h = rw (byte_width kind h) (omega arith)

-- ---- turns

pub load_stays : (kind : LoadKind) (at from offset to start : ℕ) (mem regs : List ℕ) (t : Took) → t ≡ Err None
    → Loads kind at from offset to start mem regs regs t
load_stays kind at from offset to start mem regs t e =
    record { turned = λ rd rs1 m a n s q p r tags. rw e (refl, load_may kind rd rs1 (address_of regs rs1 offset) start None (register_at regs rs1) mem) }

pub load_capability_stays : (at from offset to : ℕ) (l : Lent) (regs : List ℕ) (t : Took) → t ≡ Err None
    → LoadsCapability at from offset to l regs regs t
load_capability_stays at from offset to l regs t e =
    record { turned = λ rd rs1 m a n s q p r. rw e (refl, load_capability_may rd rs1 (address_of regs rs1 offset) None (register_at regs rs1) l) }

pub load_done : (kind : LoadKind) (at from offset to start address width v : ℕ) (mem regs after : List ℕ) (c x : Capability) (t : Took) → c ≡ held regs from
    → address ≡ wrap (c.address + offset) → width ≡ load_width kind → Aligned address (load_width kind) → Reached LD start (length mem) c address width
    → v ≡ loaded_value kind mem (address - start) → x ≡ integer v → after ≡ went_on to (written_at at x regs) → t ≡ Ok None
    → Loads kind at from offset to start mem regs after t
unfolding retires
load_done kind at from offset to start address width v mem regs after c x t ec ea ew al re ev ex eo et =
    let reach : Reached LD start (length mem) c address (load_width kind) = rw ew at re in
    record {
      turned = λ rd rs1 m a n s q p r tags.
          let e : load_effect kind rd rs1 (address_of regs rs1 offset) (register_at regs rs1) start mem ≡ Write rd x =
          rw (address_is regs from rs1 offset address c ec ea r, register_is regs from rs1 c ec r)
          (load_is kind rd rs1 address start c mem al reach ∙ ap (λ (y : ℕ). Write rd (integer y)) (sym ev) ∙ ap (Write rd) (sym ex)) in
          rw (et, e) (ap (λ (y : List ℕ). state y mem tags) eo ∙ took_write regs mem tags start m a n to s q at rd x p, refl, refl);
    }

pub load_capability_done : (at from offset to address : ℕ) (board : Board) (mem tags revoked regs after : List ℕ) (c k v x : Capability) (t : Took)
    → c ≡ held regs from → address ≡ wrap (c.address + offset) → Aligned address granule_bytes
    → Reached LD board.start (length mem) c address granule_bytes → k ≡ capability_in mem tags (address - board.start) → v ≡ loaded_of c k
    → x ≡ keep_tag_if (not (revoked_value board revoked v)) v → after ≡ went_on to (written_at at x regs) → t ≡ Ok None
    → LoadsCapability at from offset to (lent board mem tags revoked) regs after t
unfolding retires filtered
load_capability_done at from offset to address board mem tags revoked regs after c k v x t ec ea al re ek ev ex eo et =
    record {
      turned = λ rd rs1 m a n s q p r.
          let l : Lent = lent board mem tags revoked in
          let f : x ≡ filtered c (capability_in mem tags (address - board.start)) l = rw (ex, ev, ek) refl in
          let e : load_capability_effect rd rs1 (address_of regs rs1 offset) (register_at regs rs1) l ≡ Write rd x =
          rw (address_is regs from rs1 offset address c ec ea r, register_is regs from rs1 c ec r)
          (load_capability_is rd rs1 address c l al re ∙ ap (Write rd) (sym f)) in
          rw (et, e) (ap (λ (y : List ℕ). state y mem tags) eo ∙ took_write regs mem tags board.start m a n to s q at rd x p, refl, refl);
    }

-- a store's place
module _ (from offset start at address : ℕ) (regs : List ℕ) (c : Capability) (ec : c ≡ held regs from) (ea : address ≡ wrap (c.address + offset))
    (word : at < 2 ^ 32) (here : (at + start) % 2 ^ 32 ≡ address) where
  fits : address < 2 ^ 32
  fits = omega (arith, ea)

  same_place : start ≤ address → at ≡ address - start
  same_place l = place_is at start address word fits here l

  -- its address from its place
  back : start ≤ address → address ≡ (start + at) % 2 ^ 32
  back l = omega (arith, here)

  pub store_stays : (kind : StoreKind) (other to width : ℕ) (mem tags : List ℕ) (t : Took) → width ≡ store_width kind → t ≡ Err (Some (store at width))
      → Stores kind from other offset to start (state regs mem tags) (state regs mem tags) t
  store_stays kind other to width mem tags t ew e =
      record {
        turned = λ rs1 rs2 m a n s q p r.
            rw (e, ew, address_is regs from rs1 offset address c ec ea p)
            (refl, store_may kind rs1 address (integer_at regs rs2) start (length mem) at (register_at regs rs1) same_place);
      }

  pub store_capability_stays : (other to : ℕ) (mem tags : List ℕ) (t : Took) → t ≡ Err (Some (store at granule_bytes))
      → StoresCapability from other offset to start (state regs mem tags) (state regs mem tags) t
  store_capability_stays other to mem tags t e =
      record {
        turned = λ rs1 rs2 m a n s q p r.
            rw (e, address_is regs from rs1 offset address c ec ea p)
            (refl, store_capability_may rs1 address start (length mem) at (register_at regs rs1) (register_at regs rs2) same_place);
      }

  bytes_left : (width v : ℕ) (mem tags : List ℕ) → at + width ≤ length mem
      → (set_bytes width mem at v ≡ stored mem width at v) × (put_bit tags (at / 8) 0 ≡ retagged mem tags width at 0)
  unfolding stored retagged
  bytes_left width v mem tags h = rw (le-leb (at + width) (length mem) h) (refl, refl)

  pub store_done : (kind : StoreKind) (other to width v : ℕ) (mem tags mid after-regs after-mem after-tags : List ℕ) (t : Took) → width ≡ store_width kind
      → v ≡ get_or regs other 0 → Aligned address (store_width kind) → Reached SD start (length mem) c address width
      → after-mem ≡ set_bytes (store_width kind) mem at v → after-tags ≡ put_bit tags (at / 8) 0 → mid ≡ marked address regs → after-regs ≡ went_on to mid
      → t ≡ Ok (Some (store at width)) → Stores kind from other offset to start (state regs mem tags) (state after-regs after-mem after-tags) t
  unfolding retires
  store_done kind other to width v mem tags mid after-regs after-mem after-tags t ew ev al re em eg ek er et =
      let reach : Reached SD start (length mem) c address (store_width kind) = rw ew at re in
      let i : at ≡ address - start = same_place re.after_start in
      let b = bytes_left (store_width kind) v mem tags (omega (arith, reach.after_start, reach.before_end)) in
      let x : state after-regs after-mem after-tags
      ≡ state (went_on to (marked ((start + at) % 2 ^ 32) regs)) (stored mem (store_width kind) at v) (retagged mem tags (store_width kind) at 0) =
      rw (er, ek, em, eg, b.0, b.1, ← (back re.after_start)) refl in
      record {
        turned = λ rs1 rs2 m a n s q p r.
            let e : store_effect kind rs1 (address_of regs rs1 offset) (integer_at regs rs2) (register_at regs rs1) start (length mem) ≡ Store kind at v =
            rw (address_is regs from rs1 offset address c ec ea p, register_is regs from rs1 c ec p, integer_held regs other rs2 v ev r)
            (store_is kind rs1 address v start (length mem) c al reach ∙ ap (λ (y : ℕ). Store kind y v) (sym i)) in
            rw (et, ew, e) (x ∙ took_store regs mem tags start m a n to s q kind at v, refl, refl);
      }

  pub store_capability_done : (other to : ℕ) (mem tags mid after-regs after-mem after-tags : List ℕ) (v : Capability) (t : Took) → v ≡ held regs other
      → Aligned address granule_bytes → MayHold c v → Reached SD start (length mem) c address granule_bytes
      → after-mem ≡ stored_capability mem at v → after-tags ≡ retagged mem tags granule_bytes at v.tag → mid ≡ marked address regs
      → after-regs ≡ went_on to mid → t ≡ Ok (Some (store at granule_bytes))
      → StoresCapability from other offset to start (state regs mem tags) (state after-regs after-mem after-tags) t
  unfolding retires
  store_capability_done other to mem tags mid after-regs after-mem after-tags v t ev al mh re em eg ek er et =
      let i : at ≡ address - start = same_place re.after_start in
      let x : state after-regs after-mem after-tags
      ≡ state (went_on to (marked ((start + at) % 2 ^ 32) regs)) (stored_capability mem at v) (retagged mem tags granule_bytes at v.tag) =
      rw (er, ek, em, eg, ← (back re.after_start)) refl in
      record {
        turned = λ rs1 rs2 m a n s q p r.
            let e : store_capability_effect rs1 (address_of regs rs1 offset) (register_at regs rs2) (register_at regs rs1) start (length mem)
            ≡ StoreCapability at v =
            rw (address_is regs from rs1 offset address c ec ea p, register_is regs from rs1 c ec p, register_is regs other rs2 v ev r)
            (store_capability_is rs1 address start (length mem) c v al mh re ∙ ap (λ (y : ℕ). StoreCapability y v) (sym i)) in
            rw (et, e) (x ∙ took_store_capability regs mem tags start m a n to s q at v, refl, refl);
      }
