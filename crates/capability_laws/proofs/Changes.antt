-- What each call leaves as it was: a cut all but E, T, B and the tag, a move all but address and tag, a narrowing all but the stored permissions (and the tag
-- of a sealed one). Document 01, "Lists of cuts, moves and narrowings". Assumes nothing.
use mathlib.Core.Path.{◌≡◌, refl}
use mathlib.Core.Bool.{cond, ◌&&◌}
use Prim.Native.Nat.{ℕ, ◌+◌}
use Rattle.metadata.specs.Word.{reserved_of, permissions_of, type_of, scale_of, top_of, base_of}
use Rattle.metadata.proofs.Narrowed.{reserved_of_narrow, type_of_narrow, scale_of_narrow, top_of_narrow, base_of_narrow}
use Rattle.bounds.specs.Cutting.{unrounded}
use Rattle.bounds.proofs.Limits.{type_of_cut, permissions_of_cut, reserved_of_cut}
use Rattle.capability.specs.Capability.{unsealed, covers, same_bounds, move_of, set_bounds_of, set_bounds_exact_of, narrow_of}
use Rattle.capability.specs.declared.Capability.{Capability}

-- reserved bit, permissions and type of b are those of a
pub record AboveBounds (a b : Capability) : Type 0 where
  pub same_address : b.address ≡ a.address
  pub same_reserved : reserved_of b.metadata ≡ reserved_of a.metadata
  pub same_permissions : permissions_of b.metadata ≡ permissions_of a.metadata
  pub same_type : type_of b.metadata ≡ type_of a.metadata

pub cut_changes : (c : Capability) (n : ℕ) → AboveBounds c (set_bounds_of c n)
unfolding set_bounds_of
cut_changes c n =
    record {
      same_address = refl;
      same_reserved = reserved_of_cut c.metadata c.address (c.address + n);
      same_permissions = permissions_of_cut c.metadata c.address (c.address + n);
      same_type = type_of_cut c.metadata c.address (c.address + n);
    }

-- the exact form differs in the tag alone
pub exact_address : (c : Capability) (n : ℕ) → (set_bounds_exact_of c n).address ≡ (set_bounds_of c n).address
unfolding set_bounds_of set_bounds_exact_of
exact_address c n = refl

pub exact_metadata : (c : Capability) (n : ℕ) → (set_bounds_exact_of c n).metadata ≡ (set_bounds_of c n).metadata
unfolding set_bounds_of set_bounds_exact_of
exact_metadata c n = refl

pub move_changes : (c : Capability) (a : ℕ) → ((move_of c a).address ≡ a) × ((move_of c a).metadata ≡ c.metadata)
unfolding move_of
move_changes c a = (refl, refl)

-- reserved bit, type, E, T and B of b are those of a
pub record BelowPermissions (a b : Capability) : Type 0 where
  pub same_address : b.address ≡ a.address
  pub same_reserved : reserved_of b.metadata ≡ reserved_of a.metadata
  pub same_type : type_of b.metadata ≡ type_of a.metadata
  pub same_scale : scale_of b.metadata ≡ scale_of a.metadata
  pub same_top : top_of b.metadata ≡ top_of a.metadata
  pub same_base : base_of b.metadata ≡ base_of a.metadata

pub narrow_changes : (c : Capability) (mask : ℕ) → BelowPermissions c (narrow_of c mask)
unfolding narrow_of
narrow_changes c mask =
    record {
      same_address = refl;
      same_reserved = reserved_of_narrow c.metadata mask;
      same_type = type_of_narrow c.metadata mask;
      same_scale = scale_of_narrow c.metadata mask;
      same_top = top_of_narrow c.metadata mask;
      same_base = base_of_narrow c.metadata mask;
    }

-- ---- the tag that each leaves

pub cut_tag : (c : Capability) (n : ℕ) → (set_bounds_of c n).tag ≡ cond (unsealed c && covers c c.address (c.address + n)) c.tag 0
unfolding set_bounds_of
cut_tag c n = refl

pub exact_tag : (c : Capability) (n : ℕ)
    → (set_bounds_exact_of c n).tag ≡ cond (unsealed c && (covers c c.address (c.address + n) && unrounded c.address (c.address + n))) c.tag 0
unfolding set_bounds_exact_of
exact_tag c n = refl

pub move_tag : (c : Capability) (a : ℕ) → (move_of c a).tag ≡ cond (unsealed c && same_bounds c a) c.tag 0
unfolding move_of
move_tag c a = refl

pub narrow_tag : (c : Capability) (mask : ℕ) → (narrow_of c mask).tag ≡ cond (unsealed c) c.tag 0
unfolding narrow_of
narrow_tag c mask = refl
