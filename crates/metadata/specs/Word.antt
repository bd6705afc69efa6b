-- The metadata word of a capability, from its highest bit down: 1 bit reserved, 6 of permissions, 3 of the type, 4 of E, 9 of T and 9 of B
-- (document 01, "Capability word").
-- Assumes nothing.
use Rattle.std.specs.Prelude.{ℕ, ◌+◌, ◌*◌, ◌/◌, ◌%◌, ◌^◌, ◌<◌}
use Rattle.metadata.specs.declared.Fields.{Fields}

unfoldable pub reserved_of : ℕ → ℕ
reserved_of w = w / 2 ^ 31 % 2

unfoldable pub permissions_of : ℕ → ℕ
permissions_of w = w / 2 ^ 25 % 2 ^ 6

unfoldable pub type_of : ℕ → ℕ
type_of w = w / 2 ^ 22 % 2 ^ 3

-- the field E
unfoldable pub scale_of : ℕ → ℕ
scale_of w = w / 2 ^ 18 % 2 ^ 4

-- the field T
unfoldable pub top_of : ℕ → ℕ
top_of w = w / 2 ^ 9 % 2 ^ 9

-- the field B
unfoldable pub base_of : ℕ → ℕ
base_of w = w % 2 ^ 9

-- the word taken apart
unfoldable pub fields_of : ℕ → Fields
fields_of w =
    record { reserved = reserved_of w; permissions = permissions_of w; otype = type_of w; scale = scale_of w; top = top_of w; base = base_of w }

-- and put together: each field's own bits, and no others, take part
unfoldable pub word_of : Fields → ℕ
word_of f =
    f.reserved % 2 * 2 ^ 31 + f.permissions % 2 ^ 6 * 2 ^ 25 + f.otype % 2 ^ 3 * 2 ^ 22 + f.scale % 2 ^ 4 * 2 ^ 18 + f.top % 2 ^ 9 * 2 ^ 9
    + f.base % 2 ^ 9

-- fields that fit their places
pub record Fit (f : Fields) : Type 0 where
  pub reserved_fits : f.reserved < 2
  pub permissions_fit : f.permissions < 2 ^ 6
  pub type_fits : f.otype < 2 ^ 3
  pub scale_fits : f.scale < 2 ^ 4
  pub top_fits : f.top < 2 ^ 9
  pub base_fits : f.base < 2 ^ 9

-- the word with another permission code; all else stays
unfoldable pub with_permissions : (w code : ℕ) → ℕ
with_permissions w code = w / 2 ^ 31 * 2 ^ 31 + code * 2 ^ 25 + w % 2 ^ 25

-- the word with another type; all else stays
unfoldable pub with_type : (w t : ℕ) → ℕ
with_type w t = w / 2 ^ 25 * 2 ^ 25 + t * 2 ^ 22 + w % 2 ^ 22

-- the word with other E, T and B; its ten upper bits stay
unfoldable pub with_bounds : (w E T B : ℕ) → ℕ
with_bounds w E T B = w / 2 ^ 22 * 2 ^ 22 + E * 2 ^ 18 + T * 2 ^ 9 + B
