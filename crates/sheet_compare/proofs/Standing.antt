-- Whether a region stands in a sheet, as a test and as a fact.
-- Assumes nothing.
use mathlib.Core.Bool.{Bool, true, false, ◌||◌, and-eq-true_iff, or-true}
use mathlib.Core.List.{List, [], ◌∷◌}
use mathlib.Core.Path.{◌≡◌, refl, sym, ◌∙◌}
use Prim.Native.Nat.{ℕ}
use native.Mathlib.Omega.{arith}
use borrow.Author.Tests.{eqb-true, eq-eqb}
use lib.Dec.{eqb}
use Rattle.std.specs.List.{list_any}
use Rattle.sheets.specs.Sheet.{same}
use Rattle.sheets.specs.declared.Region.{Region}
use Rattle.sheet_compare.specs.Compare.{equal, stands}
use Rattle.sheet_compare.specs.Lists.{In, here, there}

pub clash_of : {A : Type 0} → true ≡ false → A
clash_of e = absurd (let z : ◌≡◌ {A = ℕ} 0 1 = cc in omega arith)

same_is : (a b : List ℕ) → same a b ≡ true → a ≡ b
unfolding same
same_is [] [] h = refl
same_is [] (y ∷ b) h = clash_of (sym h)
same_is (x ∷ a) [] h = clash_of (sym h)
same_is (x ∷ a) (y ∷ b) h =
    let t = (and-eq-true_iff (eqb x y) (same a b)).0 h in
    rw (eqb-true x y t.0, same_is a b t.1)

same_self : (a : List ℕ) → same a a ≡ true
unfolding same
same_self [] = refl
same_self (x ∷ a) = rw (eq-eqb x x refl) (same_self a)

made : (name : List ℕ) (start size rights : ℕ) → Region
made n a b c = record { name = n; start = a; size = b; rights = c }

alike : {m n : List ℕ} {a b c x y z : ℕ} → m ≡ n → a ≡ x → b ≡ y → c ≡ z → made m a b c ≡ made n x y z
alike d e f g = rw (d, e, f, g)

equal_is : (r s : Region) → equal r s ≡ true → r ≡ s
unfolding equal made
equal_is r s h =
    let t = (and-eq-true_iff (same r.name s.name) _).0 h in
    let u = (and-eq-true_iff (eqb r.start s.start) _).0 t.1 in
    let v = (and-eq-true_iff (eqb r.size s.size) (eqb r.rights s.rights)).0 u.1 in
    alike (same_is r.name s.name t.0) (eqb-true r.start s.start u.0) (eqb-true r.size s.size v.0)
    (eqb-true r.rights s.rights v.1)

equal_self : (r : Region) → equal r r ≡ true
unfolding equal
equal_self r = rw (same_self r.name, eq-eqb r.start r.start refl, eq-eqb r.size r.size refl, eq-eqb r.rights r.rights refl)

equal_turned : (r s : Region) → equal s r ≡ equal r s
equal_turned r s = go (equal s r) refl (equal r s) refl
  where
    go : (t : Bool) → equal s r ≡ t → (u : Bool) → equal r s ≡ u → t ≡ u
    go true e true f = refl
    go true e false f = clash_of (sym (rw (equal_is s r e) (equal_self r)) ∙ f)
    go false e true f = clash_of (sym (rw (equal_is r s f) (equal_self s)) ∙ e)
    go false e false f = refl

pub stands_any : (r : Region) (rs : List Region) → list_any (λ s. equal s r) rs ≡ stands r rs
unfolding stands
stands_any r [] = refl
stands_any r (s ∷ rs) = rw (equal_turned r s, stands_any r rs)

pub stands_in : (r : Region) (rs : List Region) → stands r rs ≡ true → In r rs
unfolding stands
stands_in r [] h = clash_of (sym h)
stands_in r (s ∷ rs) h = go (equal r s) refl h (stands_in r rs)
  where
    go : (t : Bool) → equal r s ≡ t → (t || stands r rs) ≡ true → (stands r rs ≡ true → In r rs) → In r (s ∷ rs)
    go true e k next = rw (equal_is r s e) here
    go false e k next = there (next k)

pub in_stands : {r : Region} {rs : List Region} → In r rs → stands r rs ≡ true
unfolding stands
in_stands (here {x = r} {l = rs}) = rw (equal_self r)
in_stands (there {x = r} {y = s} {l = rs} k) = rw (in_stands k, or-true)

pub stands_not : (r : Region) (rs : List Region) → (In r rs → ⊥) → stands r rs ≡ false
stands_not r rs h = go (stands r rs) refl
  where
    go : (t : Bool) → stands r rs ≡ t → t ≡ false
    go true e = absurd (h (stands_in r rs e))
    go false e = refl

pub not_in : (r : Region) (rs : List Region) → stands r rs ≡ false → In r rs → ⊥
not_in r rs e i = let x : true ≡ false = sym (in_stands i) ∙ e in let z : ◌≡◌ {A = ℕ} 0 1 = cc in omega arith
