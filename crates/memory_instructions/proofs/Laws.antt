-- A store of this family touches one granule of memory, and no tag other than 0 or 1 is loaded or stored. Assumes nothing.
use Rattle.std.proofs.Common.{◌≡◌, ℕ, ◌+◌, ◌%◌, ◌≤◌, Bool, true, false, not, ◌&&◌, leb, List, length, refl, arith, eqb-true, leb-true}
use borrow.Author.Tests.{not-false}
use Rattle.std.proofs.lemmas.Bool.{and_parts}
use Rattle.metadata.specs.Rights.{SD, MC, SL, GL, Has, bit}
use Rattle.bounds.specs.Bounds.{Contains}
use Rattle.capability.specs.Capability.{keep_tag_if, low, high, rights, grants, sealed, tagged, covers}
use Rattle.capability.specs.Loading.{loaded_of}
use Rattle.capability.specs.declared.Capability.{Capability}
use Rattle.capability.proofs.Laws.{kept, loaded_kept, untagged_spared}
use Rattle.instructions.specs.declared.LoadKind.{LoadKind}
use Rattle.instructions.specs.declared.StoreKind.{StoreKind}
use Rattle.instructions.specs.declared.MemoryInstruction.{MemoryInstruction}
use Rattle.instructions.specs.declared.MemoryInstruction.TheVariants as Instruction
use Rattle.state.specs.Registers.{register_at}
use Rattle.state.specs.Lent.{Lent}
use Rattle.state.specs.Memory.{capability_in, store_width, revocation_at, granule_bytes}
use Rattle.state.specs.Checks.{fail_if, access_cause, in_bounds, tag_cause, seal_cause, bounds_cause, store_cause, store_capability_cause, store_local_cause}
use Rattle.state.specs.Effects.{StoresWithin, GoodTag, GoodTags, GoodEffect}
use Rattle.state.specs.declared.Board.{Board}
use Rattle.state.specs.declared.Place.{Place}
use Rattle.state.specs.declared.Place.TheVariants.{At, Misaligned, Outside}
use Rattle.state.specs.declared.Revocation.{Revocation}
use Rattle.state.proofs.Laws.{Placed, checked_holds, place_within, store_width_lem, granule_width, kept_good, register_tag, capability_in_tag}
use Rattle.memory_instructions.specs.Access.{load_at, load_effect, store_at, store_effect, filtered, load_capability_at, load_capability_effect}
use Rattle.memory_instructions.specs.Access.{store_capability_check, store_capability_at, store_capability_effect, memory_effect, revoked_by, revoked_value}

-- ---- stores

load_within : (size : ℕ) (p : Place) (kind : LoadKind) (rd address : ℕ) (mem : List ℕ) → StoresWithin size (load_at p kind rd address mem)
unfolding load_at
load_within size Misaligned kind rd address mem = tt
load_within size Outside kind rd address mem = tt
load_within size (At i) kind rd address mem = tt

load_capability_within : (size : ℕ) (p : Place) (rd address : ℕ) (authority : Capability) (m : Lent)
    → StoresWithin size (load_capability_at p rd address authority m)
unfolding load_capability_at
load_capability_within size Misaligned rd address authority m = tt
load_capability_within size Outside rd address authority m = tt
load_capability_within size (At i) rd address authority m = tt

store_within : (size : ℕ) (p : Place) (kind : StoreKind) (address value : ℕ) → Placed p (store_width kind) size
    → StoresWithin size (store_at p kind address value)
unfolding store_at
store_within size Misaligned kind address value h = tt
store_within size Outside kind address value h = tt
store_within size (At i) kind address value h = h

store_capability_within : (size : ℕ) (p : Place) (address : ℕ) (value : Capability) → Placed p granule_bytes size
    → StoresWithin size (store_capability_at p address value)
unfolding store_capability_at
store_capability_within size Misaligned address value h = tt
store_capability_within size Outside address value h = tt
store_capability_within size (At i) address value h = h

pub memory_within : (i : MemoryInstruction) (regs : List ℕ) (m : Lent) → m.board.start % granule_bytes ≡ 0
    → StoresWithin (length m.mem) (memory_effect i regs m)
unfolding memory_effect load_effect store_effect load_capability_effect store_capability_effect
memory_within (Instruction.Load kind rd rs1 offset) regs m h =
    checked_holds (StoresWithin (length m.mem)) _ _ _ (λ n v. tt) (load_within _ _ kind rd _ m.mem)
memory_within (Instruction.Store kind rs1 rs2 offset) regs m h =
    checked_holds (StoresWithin (length m.mem)) _ _ _ (λ n v. tt)
    (store_within _ _ kind _ _ (place_within m.board.start (length m.mem) _ (store_width kind) (store_width_lem kind) h))
memory_within (Instruction.LoadCapability rd rs1 offset) regs m h =
    checked_holds (StoresWithin (length m.mem)) _ _ _ (λ n v. tt) (load_capability_within _ _ rd _ _ m)
memory_within (Instruction.StoreCapability rs1 rs2 offset) regs m h =
    checked_holds (StoresWithin (length m.mem)) _ _ _ (λ n v. tt)
    (store_capability_within _ _ _ _ (place_within m.board.start (length m.mem) _ granule_bytes granule_width h))

-- ---- tags

load_good : (p : Place) (kind : LoadKind) (rd address : ℕ) (mem : List ℕ) → GoodEffect (load_at p kind rd address mem)
unfolding load_at
load_good Misaligned kind rd address mem = tt
load_good Outside kind rd address mem = tt
load_good (At i) kind rd address mem = omega arith

-- what the load filter leaves has the tag of memory, or none
pub filtered_tag : (authority value : Capability) (m : Lent) → GoodTag value → GoodTag (filtered authority value m)
unfolding filtered
filtered_tag authority value m h =
    let v = loaded_of authority value in
    kept_good v (keep_tag_if (not (revoked_value m.board m.revoked v)) v)
    (kept (not (revoked_value m.board m.revoked v)) v.tag) (kept_good value v (loaded_kept authority value) h)

load_capability_good : (p : Place) (rd address : ℕ) (authority : Capability) (m : Lent) → GoodEffect (load_capability_at p rd address authority m)
unfolding load_capability_at
load_capability_good Misaligned rd address authority m = tt
load_capability_good Outside rd address authority m = tt
load_capability_good (At i) rd address authority m =
    filtered_tag authority (capability_in m.mem m.tags i) m (capability_in_tag m.mem m.tags i)

store_good : (p : Place) (kind : StoreKind) (address value : ℕ) → GoodEffect (store_at p kind address value)
unfolding store_at
store_good Misaligned kind address value = tt
store_good Outside kind address value = tt
store_good (At i) kind address value = tt

store_capability_good : (p : Place) (address : ℕ) (value : Capability) → GoodTag value → GoodEffect (store_capability_at p address value)
unfolding store_capability_at
store_capability_good Misaligned address value h = tt
store_capability_good Outside address value h = tt
store_capability_good (At i) address value h = h

pub memory_good : (i : MemoryInstruction) (regs : List ℕ) (m : Lent) → GoodTags regs → GoodEffect (memory_effect i regs m)
unfolding memory_effect load_effect store_effect load_capability_effect store_capability_effect
memory_good (Instruction.Load kind rd rs1 offset) regs m h = checked_holds GoodEffect _ _ _ (λ n v. tt) (load_good _ kind rd _ m.mem)
memory_good (Instruction.Store kind rs1 rs2 offset) regs m h = checked_holds GoodEffect _ _ _ (λ n v. tt) (store_good _ kind _ _)
memory_good (Instruction.LoadCapability rd rs1 offset) regs m h = checked_holds GoodEffect _ _ _ (λ n v. tt) (load_capability_good _ rd _ _ m)
memory_good (Instruction.StoreCapability rs1 rs2 offset) regs m h =
    checked_holds GoodEffect _ _ _ (λ n v. tt) (store_capability_good _ _ (register_at regs rs2) (register_tag regs rs2 h))

-- ---- revocation

-- the test never takes what is not tagged
pub untagged_unrevoked : (board : Board) (revoked : List ℕ) (v : Capability) → v.tag ≡ 0 → revoked_value board revoked v ≡ false
unfolding revoked_value
untagged_unrevoked board revoked v h = by (revocation_at board revoked (low v))
  where
    by : (r : Revocation) → revoked_by r v ≡ false
    by Revocation.Outside = refl
    by Revocation.Clear = refl
    by Revocation.Marked = untagged_spared v h

-- ---- stores that pass their checks

-- c is tagged, has the right to store, and has width bytes at an address in its bounds
pub record Through (c : Capability) (address width : ℕ) : Type 0 where
  pub is_tagged : c.tag ≡ 1
  pub stores : Has (rights c) SD
  pub region : Contains (low c) (high c) address (address + width)

-- a row of checks that finds no cause passed the first and the rest
passed : (fails : Bool) (cause rest : ℕ) → 1 ≤ cause → fail_if fails cause rest ≡ 0 → (fails ≡ false) × (rest ≡ 0)
passed true cause rest l z = absurd (omega arith)
passed false cause rest l z = (refl, z)

module _ (c : Capability) (address : ℕ) where
  through : (width : ℕ) → not (tagged c) ≡ false → not (grants c SD) ≡ false → not (in_bounds c address width) ≡ false → Through c address width
  unfolding tagged covers
  through width t g b =
      let r = and_parts (leb (low c) address) (leb (address + width) (high c)) (not-false (in_bounds c address width) b) in
      record {
        is_tagged = eqb-true c.tag 1 (not-false (tagged c) t);
        stores = eqb-true (bit (rights c) SD) 1 (not-false (grants c SD) g);
        region = record { from = leb-true (low c) address r.0; to = leb-true (address + width) (high c) r.1 };
      }

  -- a store whose checks pass
  pub store_passed : (width : ℕ) → access_cause c SD store_cause address width ≡ 0 → Through c address width
  unfolding access_cause
  store_passed width h =
      let t = passed (not (tagged c)) tag_cause _ (omega arith) h in
      let s = passed (sealed c) seal_cause _ (omega arith) t.1 in
      let g = passed (not (grants c SD)) store_cause _ (omega arith) s.1 in
      let b = passed (not (in_bounds c address width)) bounds_cause _ (omega arith) g.1 in
      through width t.0 g.0 b.0

  -- a CSC whose checks pass
  pub store_capability_passed : (value : Capability) → store_capability_check c value address ≡ 0 → Through c address granule_bytes
  unfolding store_capability_check
  store_capability_passed value h =
      let t = passed (not (tagged c)) tag_cause _ (omega arith) h in
      let s = passed (sealed c) seal_cause _ (omega arith) t.1 in
      let g = passed (not (grants c SD)) store_cause _ (omega arith) s.1 in
      let m = passed (tagged value && not (grants c MC)) store_capability_cause _ (omega arith) g.1 in
      let l = passed (tagged value && (not (grants value GL) && not (grants c SL))) store_local_cause _ (omega arith) m.1 in
      let b = passed (not (in_bounds c address granule_bytes)) bounds_cause _ (omega arith) l.1 in
      through granule_bytes t.0 g.0 b.0
