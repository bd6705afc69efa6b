-- A field compressed is the field that was decompressed: the exponent and the type. Assumes nothing.
use mathlib.Core.Path.{◌≡◌, refl, sym}
use mathlib.Core.Bool.{Bool, true, false, cond}
use Prim.Native.Nat.{ℕ, ◌+◌, ◌%◌, ◌^◌, ◌<◌}
use native.Mathlib.Omega.{arith}
use borrow.Author.Tests.{ne_eqb, eqb-true}
use lib.Dec.{eqb}
use Rattle.metadata.specs.Word.{word_of}
use Rattle.bounds.specs.Bounds.{exponent_of}
use Rattle.bounds.specs.Cutting.{scale_field}
use Rattle.metadata.specs.declared.Fields.{Fields}

pub field_of_exponent : (E : ℕ) → E < 16 → scale_field (exponent_of E) ≡ E
unfolding exponent_of scale_field
field_of_exponent E h = go (eqb E 15) refl
  where
    go : (t : Bool) → eqb E 15 ≡ t → cond (eqb (cond (eqb E 15) 24 E) 24) 15 (cond (eqb E 15) 24 E) ≡ E
    go true t = rw t (sym (eqb-true E 15 t))
    go false t = rw (t, ne_eqb E 24 (omega arith))

-- the 4-bit type's three low bits are the stored ones
pub type_again : (b : Bool) (t : ℕ) → cond b (8 + t) t % 2 ^ 3 ≡ t % 2 ^ 3
type_again true t = omega arith
type_again false t = refl

pub retype : (f : Fields) (o : ℕ) → o % 2 ^ 3 ≡ f.otype % 2 ^ 3
    → word_of (record { reserved = f.reserved; permissions = f.permissions; otype = o; scale = f.scale; top = f.top; base = f.base }) ≡ word_of f
unfolding word_of
retype f o h = rw h
