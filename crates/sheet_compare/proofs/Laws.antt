-- A comparison is empty exactly when two sheets have the same regions, and it is the same both ways round.
-- Assumes nothing.
use mathlib.Core.Bool.{Bool, true, false}
use mathlib.Core.List.{List, [], ◌∷◌}
use mathlib.Core.Logic.{inl, inr}
use mathlib.Core.Path.{◌≡◌, refl, sym, ap, ◌∙◌}
use Prim.Native.Nat.{ℕ, ◌<◌}
use native.Mathlib.Omega.{arith}
use lib.ListN.{length, length-append}
use Rattle.sheets.specs.Sheet.{Regions}
use Rattle.sheets.specs.declared.Region.{Region}
use Rattle.sheet_compare.specs.Compare.{stands, differing, names_text, list_text}
use Rattle.sheet_compare.specs.Lists.{In, here, there, Odd, odd, Differs, After, next, ListsNames, SameRegions}
use Rattle.sheet_compare.proofs.Exact.{after_in}
use Rattle.sheet_compare.proofs.Order.{less_self, less_trans}
use Rattle.sheet_compare.proofs.Promise.{regions_list}
use Rattle.sheet_compare.proofs.Standing.{clash_of, stands_in, not_in}

-- nothing is in an empty list
in_some : {x : List ℕ} {l : List (List ℕ)} → In x l → 0 < length l
in_some here = omega arith
in_some (there i) = omega arith

not_none : {A : Type 0} {x : List ℕ} → In x [] → A
not_none i = absurd (omega (arith, in_some i))

text_none : (ns : List (List ℕ)) → names_text ns ≡ [] → ns ≡ []
unfolding names_text
text_none [] e = refl
text_none (n ∷ ns) e = absurd (omega (arith, simp length-append at (ap length e)))

module _ (a b : List Region) (g : Regions a) (h : Regions b) where
  abbrev It : ListsNames a b (differing a b)
  It = regions_list a b g h

  none_odd : differing a b ≡ [] → (n : List ℕ) → Differs a b n → ⊥
  none_odd e n d = not_none (rw e at (It.complete n d))

  -- a region of one that is in no list of odd ones is in the other
  in_other : (rs other : List Region) → ((n : List ℕ) → Odd rs other n → ⊥) → (r : Region) → In r rs → In r other
  in_other rs other never r k = go (stands r other) refl
    where
      go : (t : Bool) → stands r other ≡ t → In r other
      go true e = stands_in r other e
      go false e = absurd (never r.name (odd r k (not_in r other e)))

  pub empty_same : list_text a b ≡ [] → SameRegions a b
  empty_same e =
      let z = text_none (differing a b) e in
      record { forth = in_other a b (λ n d. none_odd z n (inl d)); back = in_other b a (λ n d. none_odd z n (inr d)) }

  same_never : SameRegions a b → (n : List ℕ) → Differs a b n → ⊥
  same_never s n (inl (odd r k e)) = e (s.forth r k)
  same_never s n (inr (odd r k e)) = e (s.back r k)

  pub same_empty : SameRegions a b → list_text a b ≡ []
  unfolding names_text
  same_empty s = go (differing a b) refl
    where
      go : (ns : List (List ℕ)) → differing a b ≡ ns → names_text ns ≡ []
      go [] e = refl
      go (n ∷ ns) e = absurd (same_never s n (It.sound n (rw e here)))

-- a list in order is its names
module _ where
  first_same : {last x y : List ℕ} {xs ys : List (List ℕ)} → After last (x ∷ xs) → After last (y ∷ ys) → In x (y ∷ ys) → In y (x ∷ xs) → x ≡ y
  first_same p q here j = refl
  first_same p q (there i) here = refl
  first_same {x = x} {y} (next h p) (next k q) (there i) (there j) = clash_of (sym (less_trans x y x (after_in p j) (after_in q i)) ∙ less_self x)

  rest_in : {n x : List ℕ} {xs ys : List (List ℕ)} → After x xs → In n xs → In n (x ∷ ys) → In n ys
  rest_in {n} p i here = clash_of (sym (after_in p i) ∙ less_self n)
  rest_in p i (there j) = j

  ordered_same : {last : List ℕ} (xs ys : List (List ℕ)) → After last xs → After last ys → ((n : List ℕ) → In n xs → In n ys)
      → ((n : List ℕ) → In n ys → In n xs)
      → xs ≡ ys
  ordered_same [] [] p q f b = refl
  ordered_same [] (y ∷ ys) p q f b = not_none (b y here)
  ordered_same (x ∷ xs) [] p q f b = not_none (f x here)
  ordered_same (x ∷ xs) (y ∷ ys) p q f b = go (first_same p q (f x here) (b y here)) p q f b (λ r s g c. ordered_same xs ys r s g c)
    where
      go : {last : List ℕ} → x ≡ y → After last (x ∷ xs) → After last (y ∷ ys) → ((n : List ℕ) → In n (x ∷ xs) → In n (y ∷ ys))
          → ((n : List ℕ) → In n (y ∷ ys) → In n (x ∷ xs))
          → (After x xs → After x ys → ((n : List ℕ) → In n xs → In n ys) → ((n : List ℕ) → In n ys → In n xs) → xs ≡ ys)
          → x ∷ xs ≡ y ∷ ys
      go e (next h r) (next k s) f b same =
          let s2 : After x ys = rw (sym e) at s in
          let t : xs ≡ ys
          = same r s2 (λ n i. rest_in r i (rw (sym e) at (f n (there i)))) (λ n i. rest_in s2 i (b n (there i))) in
          rw (e, t)

swapped : {a b : List Region} {n : List ℕ} → Differs a b n → Differs b a n
swapped (inl d) = inr d
swapped (inr d) = inl d

-- the two sheets in the other order have the same list
pub compare_symmetric : (a b : List Region) → Regions a → Regions b → differing a b ≡ differing b a
compare_symmetric a b g h =
    let x = regions_list a b g h in
    let y = regions_list b a h g in
    ordered_same (differing a b) (differing b a) x.sorted y.sorted
    (λ n i. y.complete n (swapped (x.sound n i))) (λ n i. x.complete n (swapped (y.sound n i)))
