-- Equality of lists as a test.
use Rattle.std.proofs.Common.{◌≡◌, ℕ, true, T, eqb, List, [], ◌∷◌, refl, eqb→eq, eq-eqb}
use Rattle.choices.proofs.Every.{and_left, and_right}
use Rattle.listing.specs.Assembling.{same}

pub same_eq : (l m : List ℕ) → T (same l m) → l ≡ m
same_eq [] [] t = refl
same_eq [] (y ∷ m) t = absurd t
same_eq (x ∷ l) [] t = absurd t
same_eq (x ∷ l) (y ∷ m) t =
    let e = eqb→eq x y (and_left (eqb x y) (same l m) t) in
    let r = same_eq l m (and_right (eqb x y) (same l m) t) in
    rw (e, r) refl

pub same_true : (l m : List ℕ) → same l m ≡ true → l ≡ m
same_true l m e = same_eq l m (rw e tt)

pub same_self : (l : List ℕ) → same l l ≡ true
same_self [] = refl
same_self (x ∷ l) = rw (eq-eqb x x refl) (same_self l)
