-- Fields put together and taken apart again, and the reserved bit. Assumes nothing.
use mathlib.Core.Path.{◌≡◌}
use Prim.Native.Nat.{ℕ, ◌+◌, ◌*◌, ◌/◌, ◌%◌, ◌^◌, ◌<◌}
use native.Mathlib.Nat.{mod-eq_of_lt}
use native.Mathlib.Omega.{arith}
use Rattle.metadata.specs.declared.Fields.{Fields}
use Rattle.metadata.specs.Word.{reserved_of, permissions_of, type_of, scale_of, top_of, base_of, fields_of, word_of, Fit, with_type, with_bounds}

-- the six digits of a sum
module _ (r p o s t b : ℕ) (hr : r < 2) (hp : p < 2 ^ 6) (ho : o < 2 ^ 3) (hs : s < 2 ^ 4) (ht : t < 2 ^ 9) (hb : b < 2 ^ 9) where
  sum : ℕ
  sum = r * 2 ^ 31 + p * 2 ^ 25 + o * 2 ^ 22 + s * 2 ^ 18 + t * 2 ^ 9 + b

  sum_reserved : sum / 2 ^ 31 % 2 ≡ r
  unfolding sum
  sum_reserved = omega arith

  sum_permissions : sum / 2 ^ 25 % 2 ^ 6 ≡ p
  unfolding sum
  sum_permissions = omega arith

  sum_type : sum / 2 ^ 22 % 2 ^ 3 ≡ o
  unfolding sum
  sum_type = omega arith

  sum_scale : sum / 2 ^ 18 % 2 ^ 4 ≡ s
  unfolding sum
  sum_scale = omega arith

  sum_top : sum / 2 ^ 9 % 2 ^ 9 ≡ t
  unfolding sum
  sum_top = omega arith

  sum_base : sum % 2 ^ 9 ≡ b
  unfolding sum
  sum_base = omega arith

pub word_lt : (f : Fields) → word_of f < 2 ^ 32
unfolding word_of
word_lt f = omega arith

pub same_fields : (f : Fields) → Fit f → fields_of (word_of f) ≡ f
unfolding fields_of word_of reserved_of permissions_of type_of scale_of top_of base_of sum
same_fields f h =
    let hr = h.reserved_fits in
    let hp = h.permissions_fit in
    let ho = h.type_fits in
    let hs = h.scale_fits in
    let ht = h.top_fits in
    let hb = h.base_fits in
    simp (
      mod-eq_of_lt hr,
      mod-eq_of_lt hp,
      mod-eq_of_lt ho,
      mod-eq_of_lt hs,
      mod-eq_of_lt ht,
      mod-eq_of_lt hb,
      sum_reserved _ _ _ _ _ _ hr hp ho hs ht hb,
      sum_permissions _ _ _ _ _ _ hr hp ho hs ht hb,
      sum_type _ _ _ _ _ _ hr hp ho hs ht hb,
      sum_scale _ _ _ _ _ _ hr hp ho hs ht hb,
      sum_top _ _ _ _ _ _ hr hp ho hs ht hb,
      sum_base _ _ _ _ _ _ hr hp ho hs ht hb,
    )

pub reserved_of_type : (w t : ℕ) → t < 8 → reserved_of (with_type w t) ≡ reserved_of w
unfolding reserved_of with_type
reserved_of_type w t h = omega arith

pub reserved_of_bounds : (w E T B : ℕ) → E < 16 → T < 512 → B < 512 → reserved_of (with_bounds w E T B) ≡ reserved_of w
unfolding reserved_of with_bounds
reserved_of_bounds w E T B e t b = omega arith
