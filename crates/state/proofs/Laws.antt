-- What holds of each effect that the checks leave, where a place lies, and the tags of what is read. Assumes nothing.
use Rattle.std.proofs.Common.{◌≡◌, ℕ, ◌+◌, ◌-◌, ◌*◌, ◌/◌, ◌%◌, ◌<◌, ◌≤◌, Bool, true, false, cond, ◌&&◌, eqb, leb, ◌⊎◌, List, refl, inl, inr, arith}
use Rattle.std.proofs.Common.{eq-eqb, ne_eqb, eqb-true, le-leb, leb-false, leb-true}
use borrow.Author.Tests.{lt-leb}
use Rattle.words.specs.Words.{le32, bit_at}
use Rattle.words.proofs.Bits.{bit_at_bit}
use Rattle.words.proofs.Word.{by_test}
use Rattle.capability.specs.Capability.{capability}
use Rattle.capability.specs.declared.Capability.{Capability}
use Rattle.capability.proofs.Laws.{Kept, kept_le, move_kept}
use Rattle.instructions.specs.declared.Csr.{Csr}
use Rattle.instructions.specs.declared.Csr.TheVariants.{Mstatus, Mcause, Mtval, Mshwm, Mshwmb}
use Rattle.instructions.specs.declared.Scr.{Scr}
use Rattle.instructions.specs.declared.Scr.TheVariants.{Mtcc, Mtdc, Mscratchc, Mepcc}
use Rattle.instructions.specs.declared.StoreKind.{StoreKind}
use Rattle.instructions.specs.declared.StoreKind.TheVariants.{Sb, Sh, Sw}
use Rattle.state.specs.Layout.{general_count, capability_count, control_start, pcc_index, csr_index, scr_index, time_index}
use Rattle.state.specs.Registers.{capability_at, register_at, integer_at, pcc_of}
use Rattle.state.specs.Addresses.{legalized}
use Rattle.state.specs.Memory.{place_of, capability_in, store_width, granule_bytes}
use Rattle.state.specs.Checks.{checked, capability_trap, capability_fault}
use Rattle.state.specs.Effects.{Stored, nothing, bytes, whole, stored_by, OneGranule, Within, StoresWithin, Nothing, Storeless, GoodTag, GoodTags}
use Rattle.state.specs.declared.Place.{Place}
use Rattle.state.specs.declared.Place.TheVariants.{At, Misaligned, Outside}
use Rattle.state.specs.declared.Effect.{Effect}
use Rattle.state.specs.declared.Effect.TheVariants.{Trap}

-- ---- effects

pub cond_holds : {A : Type 0} (P : A → Type 0) (t : Bool) (x y : A) → P x → P y → P (cond t x y)
cond_holds P true x y h k = h
cond_holds P false x y h k = k

-- what holds of an effect and of the capability trap holds where a check may fail
pub checked_trap : (P : Effect → Type 0) (r cause : ℕ) (e : Effect) → ((v : ℕ) → P (Trap capability_fault v)) → P e → P (checked r cause e)
unfolding checked
checked_trap P r cause e t h = cond_holds P (eqb cause 0) e (capability_trap r cause) h (t _)

-- and what holds of every trap
pub checked_holds : (P : Effect → Type 0) (r cause : ℕ) (e : Effect) → ((n v : ℕ) → P (Trap n v)) → P e → P (checked r cause e)
checked_holds P r cause e t h = checked_trap P r cause e (t capability_fault) h

-- what holds of every trap, and of an effect where no check failed, holds after the checks
pub checked_passed : (P : Effect → Type 0) (r cause : ℕ) (e : Effect) → ((n v : ℕ) → P (Trap n v)) → (cause ≡ 0 → P e) → P (checked r cause e)
unfolding checked
checked_passed P r cause e t h = go (eqb cause 0) refl
  where
    go : (b : Bool) → eqb cause 0 ≡ b → P (cond b e (capability_trap r cause))
    go true q = h (eqb-true cause 0 q)
    go false q = t _ _

-- two effects after the same check, where the relation holds of a trap and itself
pub checked_both : (R : Effect → Effect → Type 0) (r cause : ℕ) (d e : Effect) → ((v : ℕ) → R (Trap capability_fault v) (Trap capability_fault v)) → R d e
    → R (checked r cause d) (checked r cause e)
unfolding checked
checked_both R r cause d e t h = go (eqb cause 0)
  where
    go : (b : Bool) → R (cond b d (capability_trap r cause)) (cond b e (capability_trap r cause))
    go true = h
    go false = t _

-- a store of nothing has no byte outside memory
nothing_within : (size : ℕ) (x : Stored) → Nothing x → Within size x
nothing_within size nothing h = tt
nothing_within size (bytes width i value) h = absurd h
nothing_within size (whole i value) h = absurd h

pub storeless_within : (size : ℕ) (e : Effect) → Storeless e → StoresWithin size e
storeless_within size e h = nothing_within size (stored_by e) h

-- ---- places

-- an access that is not aligned; one below memory; and from memory's start on, by the place counted from there
pub place_misaligned : (start size a w : ℕ) → (a % w ≡ 0 → ⊥) → place_of start size a w ≡ Misaligned
unfolding place_of
place_misaligned start size a w n = rw (ne_eqb (a % w) 0 n) refl

pub place_below : (start size a w : ℕ) → a % w ≡ 0 → a < start → place_of start size a w ≡ Outside
unfolding place_of
place_below start size a w e l = rw (eq-eqb (a % w) 0 e, lt-leb start a l) refl

pub place_from : (start size a w : ℕ) → a % w ≡ 0 → start ≤ a → place_of start size a w ≡ cond (leb (a - start + w) size) (At (a - start)) Outside
unfolding place_of
place_from start size a w e l = rw (eq-eqb (a % w) 0 e, le-leb start a l, same_test) refl
  where
    same_test : leb (a + w) (start + size) ≡ leb (a - start + w) size
    same_test =
        by_test (leb (a - start + w) size)
        (λ t. rw t (le-leb (a + w) (start + size) (omega (arith, leb-true (a - start + w) size t))))
        (λ t. rw t (lt-leb (a + w) (start + size) (omega (arith, leb-false (a - start + w) size t))))

-- what holds of the traps, and of the access at the place that an address has, holds of the access at the address
pub placed_at : (P : Effect → Type 0) (f : Place → Effect) → P (f Misaligned) → P (f Outside)
    → (start size address width : ℕ) → ((i : ℕ) → start + i ≡ address → P (f (At i))) → P (f (place_of start size address width))
unfolding place_of
placed_at P f m o start size address width a =
    go (eqb (address % width) 0) (leb start address) refl (leb (address + width) (start + size))
  where
    go : (x y : Bool) → leb start address ≡ y → (z : Bool) → P (f (cond x (cond (y && z) (At (address - start)) Outside) Misaligned))
    go false y q z = m
    go true false q z = o
    go true true q false = o
    go true true q true = a (address - start) (omega (arith, leb-true start address q))

-- the widths of accesses
abbrev pub Width : ℕ → Type 0
Width w = (w ≡ 1) ⊎ ((w ≡ 2) ⊎ ((w ≡ 4) ⊎ (w ≡ 8)))

pub store_width_lem : (kind : StoreKind) → Width (store_width kind)
store_width_lem Sb = inl refl
store_width_lem Sh = inr (inl refl)
store_width_lem Sw = inr (inr (inl refl))

pub granule_width : Width granule_bytes
granule_width = inr (inr (inr refl))

width_some : (w : ℕ) → Width w → 1 ≤ w
width_some w (inl e) = omega arith
width_some w (inr (inl e)) = omega arith
width_some w (inr (inr (inl e))) = omega arith
width_some w (inr (inr (inr e))) = omega arith

-- a place is in memory and in one granule
abbrev pub Placed : Place → (width size : ℕ) → Type 0
Placed Misaligned width size = Unit {0}
Placed Outside width size = Unit {0}
Placed (At i) width size = OneGranule i width size

in_granule : (start address width : ℕ) → Width width → start % granule_bytes ≡ 0 → address % width ≡ 0 → start ≤ address
    → (address - start) % granule_bytes + width ≤ granule_bytes
in_granule start address width (inl e) h k l = omega arith
in_granule start address width (inr (inl e)) h k l = omega (arith, rw e at k)
in_granule start address width (inr (inr (inl e))) h k l = omega (arith, rw e at k)
in_granule start address width (inr (inr (inr e))) h k l = omega (arith, rw e at k)

pub place_within : (start size address width : ℕ) → Width width → start % granule_bytes ≡ 0 → Placed (place_of start size address width) width size
unfolding place_of
place_within start size address width w h = go (eqb (address % width) 0) refl (leb start address) refl (leb (address + width) (start + size)) refl
  where
    go : (a : Bool) → eqb (address % width) 0 ≡ a → (b : Bool) → leb start address ≡ b → (c : Bool) → leb (address + width) (start + size) ≡ c
        → Placed (cond a (cond (b && c) (At (address - start)) Outside) Misaligned) width size
    go false p b q c r = tt
    go true p false q c r = tt
    go true p true q false r = tt
    go true p true q true r =
        let l = leb-true start address q in
        let m = leb-true (address + width) (start + size) r in
        record { some = width_some width w; inside = omega arith; together = in_granule start address width w h (eqb-true (address % width) 0 p) l }

-- what holds of the traps and of the access at each place holds of every place
pub placed : (P : Effect → Type 0) (f : Place → Effect) → P (f Misaligned) → P (f Outside) → ((i : ℕ) → P (f (At i))) → (p : Place) → P (f p)
placed P f m o a Misaligned = m
placed P f m o a Outside = o
placed P f m o a (At i) = a i

-- ---- the register file

-- the integer in a register is its address
pub integer_is : (regs : List ℕ) (r : ℕ) → integer_at regs r ≡ (register_at regs r).address
unfolding integer_at capability_at
integer_is regs r = refl

-- the special registers stand behind the general ones and PCC, the control words between the capabilities and time
pub scr_place : (scr : Scr) → (general_count ≤ scr_index scr) × (scr_index scr < capability_count)
scr_place Mtcc = (omega arith, omega arith)
scr_place Mtdc = (omega arith, omega arith)
scr_place Mscratchc = (omega arith, omega arith)
scr_place Mepcc = (omega arith, omega arith)

pub csr_place : (csr : Csr) → (control_start ≤ csr_index csr) × (csr_index csr < time_index)
csr_place Mstatus = (omega arith, omega arith)
csr_place Mcause = (omega arith, omega arith)
csr_place Mtval = (omega arith, omega arith)
csr_place Mshwm = (omega arith, omega arith)
csr_place Mshwmb = (omega arith, omega arith)

-- ---- tags

-- a tag that is kept or cleared stays good
pub kept_good : (c d : Capability) → Kept c.tag d.tag → GoodTag c → GoodTag d
kept_good c d k h = omega (arith, kept_le k)

pub capability_tag : (regs : List ℕ) (i : ℕ) → i < capability_count → GoodTags regs → GoodTag (capability_at regs i)
unfolding capability_at
capability_tag regs i l h = h i l

pub register_tag : (regs : List ℕ) (r : ℕ) → GoodTags regs → GoodTag (register_at regs r)
register_tag regs r h = capability_tag regs (r % general_count) (omega arith) h

pub pcc_tag : (regs : List ℕ) → GoodTags regs → GoodTag (pcc_of regs)
pcc_tag regs h = capability_tag regs pcc_index (omega arith) h

stays_kept : (tag : ℕ) → Kept tag tag
stays_kept tag = inl refl

-- by whatever keeps or clears a tag
pub legalized_tag : (unit : ℕ) (c : Capability) → GoodTag c → GoodTag (legalized unit c)
unfolding legalized
legalized_tag unit c h = kept_good c (legalized unit c) (search (move_kept, stays_kept)) h

pub capability_in_tag : (mem tags : List ℕ) (i : ℕ) → GoodTag (capability_in mem tags i)
unfolding capability_in
capability_in_tag mem tags i = omega (arith, bit_at_bit tags (i / granule_bytes))

-- ---- a granule by its number

-- what stands in it: its bytes, with its own tag
pub capability_in_granule : (mem tags : List ℕ) (g : ℕ)
    → capability_in mem tags (g * granule_bytes) ≡ capability (le32 mem (g * granule_bytes)) (le32 mem (g * granule_bytes + 4)) (bit_at tags g)
unfolding capability_in
capability_in_granule mem tags g = let e : g * granule_bytes / granule_bytes ≡ g = omega arith in rw e
