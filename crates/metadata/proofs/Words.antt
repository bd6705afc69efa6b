-- What each field is after the word is taken apart, put together, or given other permissions, type or bounds. Assumes nothing.
use mathlib.Core.Path.{◌≡◌}
use Prim.Native.Nat.{ℕ, ◌+◌, ◌*◌, ◌/◌, ◌%◌, ◌^◌, ◌<◌}
use native.Mathlib.Nat.{mod-mod}
use native.Mathlib.Omega.{arith}
use lib.Pow.{split, mod-pow-add}
use Rattle.metadata.specs.Word.{reserved_of, permissions_of, type_of, scale_of, top_of, base_of, fields_of, word_of, Fit, with_permissions, with_type}
use Rattle.metadata.specs.Word.{with_bounds}

-- ---- limits of the fields

pub fields_fit : (w : ℕ) → Fit (fields_of w)
unfolding fields_of reserved_of permissions_of type_of scale_of top_of base_of
fields_fit w =
    record {
      reserved_fits = omega arith;
      permissions_fit = omega arith;
      type_fits = omega arith;
      scale_fits = omega arith;
      top_fits = omega arith;
      base_fits = omega arith;
    }

pub permissions_lt : (w : ℕ) → permissions_of w < 64
unfolding permissions_of
permissions_lt w = omega arith

pub type_lt : (w : ℕ) → type_of w < 8
unfolding type_of
type_lt w = omega arith

pub scale_lt : (w : ℕ) → scale_of w < 16
unfolding scale_of
scale_lt w = omega arith

pub top_lt : (w : ℕ) → top_of w < 512
unfolding top_of
top_lt w = omega arith

pub base_lt : (w : ℕ) → base_of w < 512
unfolding base_of
base_lt w = omega arith

-- ---- a word is the sum of its fields

join : (w a b c d e f p q r t : ℕ) → a + p ≡ w → p ≡ b + q → q ≡ c + r → r ≡ d + t → t ≡ e + f → a + b + c + d + e + f ≡ w
join w a b c d e f p q r t h i j k l = omega arith

pub word_apart : (w : ℕ)
    → w / 2 ^ 31 * 2 ^ 31 + w / 2 ^ 25 % 2 ^ 6 * 2 ^ 25 + w / 2 ^ 22 % 2 ^ 3 * 2 ^ 22 + w / 2 ^ 18 % 2 ^ 4 * 2 ^ 18
    + w / 2 ^ 9 % 2 ^ 9 * 2 ^ 9 + w % 2 ^ 9 ≡ w
word_apart w = join w _ _ _ _ _ _ _ _ _ _ (split w 31) (mod-pow-add w 6 25) (mod-pow-add w 3 22) (mod-pow-add w 4 18) (mod-pow-add w 9 9)

top_bit : (w : ℕ) → w < 2 ^ 32 → w / 2 ^ 31 % 2 ≡ w / 2 ^ 31
top_bit w h = omega arith

-- the fields of a word, put together, are that word: document 01, "Capability word"
pub same_word : (w : ℕ) → w < 2 ^ 32 → word_of (fields_of w) ≡ w
unfolding word_of fields_of reserved_of permissions_of type_of scale_of top_of base_of
same_word w h = simp (mod-mod, top_bit w h, word_apart w)

-- ---- other permissions

module _ (w c : ℕ) where
  pub permissions_of_permissions : c < 64 → permissions_of (with_permissions w c) ≡ c
  unfolding permissions_of with_permissions
  permissions_of_permissions h = omega arith

  pub reserved_of_permissions : c < 64 → reserved_of (with_permissions w c) ≡ reserved_of w
  unfolding reserved_of with_permissions
  reserved_of_permissions h = omega arith

  pub type_of_permissions : type_of (with_permissions w c) ≡ type_of w
  unfolding type_of with_permissions
  type_of_permissions = omega arith

  pub scale_of_permissions : scale_of (with_permissions w c) ≡ scale_of w
  unfolding scale_of with_permissions
  scale_of_permissions = omega arith

  pub top_of_permissions : top_of (with_permissions w c) ≡ top_of w
  unfolding top_of with_permissions
  top_of_permissions = omega arith

  pub base_of_permissions : base_of (with_permissions w c) ≡ base_of w
  unfolding base_of with_permissions
  base_of_permissions = omega arith

  pub permissions_word : w < 2 ^ 32 → c < 64 → with_permissions w c < 2 ^ 32
  unfolding with_permissions
  permissions_word h l = omega arith

-- ---- another type

module _ (w t : ℕ) where
  pub type_of_type : t < 8 → type_of (with_type w t) ≡ t
  unfolding type_of with_type
  type_of_type h = omega arith

  pub permissions_of_type : t < 8 → permissions_of (with_type w t) ≡ permissions_of w
  unfolding permissions_of with_type
  permissions_of_type h = omega arith

  pub scale_of_type : scale_of (with_type w t) ≡ scale_of w
  unfolding scale_of with_type
  scale_of_type = omega arith

  pub top_of_type : top_of (with_type w t) ≡ top_of w
  unfolding top_of with_type
  top_of_type = omega arith

  pub base_of_type : base_of (with_type w t) ≡ base_of w
  unfolding base_of with_type
  base_of_type = omega arith

  pub type_word : w < 2 ^ 32 → t < 8 → with_type w t < 2 ^ 32
  unfolding with_type
  type_word h l = omega arith

-- ---- other bounds

module _ (w E T B : ℕ) (e : E < 16) (t : T < 512) (b : B < 512) where
  pub scale_of_bounds : scale_of (with_bounds w E T B) ≡ E
  unfolding scale_of with_bounds
  scale_of_bounds = omega arith

  pub top_of_bounds : top_of (with_bounds w E T B) ≡ T
  unfolding top_of with_bounds
  top_of_bounds = omega arith

  pub base_of_bounds : base_of (with_bounds w E T B) ≡ B
  unfolding base_of with_bounds
  base_of_bounds = omega arith

  pub type_of_bounds : type_of (with_bounds w E T B) ≡ type_of w
  unfolding type_of with_bounds
  type_of_bounds = omega arith

  pub permissions_of_bounds : permissions_of (with_bounds w E T B) ≡ permissions_of w
  unfolding permissions_of with_bounds
  permissions_of_bounds = omega arith

  -- the ten upper bits stay
  pub above_bounds : with_bounds w E T B / 2 ^ 22 ≡ w / 2 ^ 22
  unfolding with_bounds
  above_bounds = omega arith

  pub bounds_word : w < 2 ^ 32 → with_bounds w E T B < 2 ^ 32
  unfolding with_bounds
  bounds_word h = omega arith
