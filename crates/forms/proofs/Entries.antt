-- A field of an entry of a table is the entry of the fields.
use Rattle.std.proofs.Common.{◌≡◌, ℕ, List, map, get_or, sym}
use Rattle.std.proofs.Math.ListN.{get_or-map}

pub field_at : {A B : Type 0} (f : A → B) (l : List A) (i : ℕ) (d : A) → f (get_or l i d) ≡ get_or (map f l) i (f d)
field_at f l i d = sym (get_or-map f l i d)
