-- The order of names, and the least name after another.
-- Assumes nothing.
use mathlib.Core.Bool.{Bool, true, false, cond, ◌&&◌, ◌||◌}
use mathlib.Core.List.{List, [], ◌∷◌}
use mathlib.Core.Logic.{◌⊎◌, inl, inr}
use mathlib.Core.Path.{◌≡◌, refl, sym, ◌∙◌}
use Prim.Native.Nat.{ℕ, ◌<◌}
use native.Mathlib.Nat.{suc_inj}
use native.Mathlib.Omega.{arith}
use borrow.Author.Tests.{ltb-true, ltb-false, lt-ltb, le-ltb, eqb-true, eq-eqb}
use lib.Dec.{ltb, eqb}
use lib.ListN.{length}
use Rattle.sheets.specs.declared.Region.{Region}
use Rattle.std.specs.Prelude.{Option, None, Some}
use Rattle.sheet_compare.specs.Compare.{less, stands, sooner, considered, least_of, next_name}
use Rattle.sheet_compare.specs.Lists.{In, here, there, odd, Differs}
use Rattle.sheet_compare.proofs.Standing.{clash_of, not_in, stands_not}

-- what a byte decides
data Order (x y : ℕ) (rest : Bool) : Type 0 where
  lower : x < y → Order x y rest
  level : x ≡ y → rest ≡ true → Order x y rest

order : (x y : ℕ) (rest : Bool) → (ltb x y || (eqb x y && rest)) ≡ true → Order x y rest
order x y rest h = go (ltb x y) refl h
  where
    more : (u : Bool) → eqb x y ≡ u → (u && rest) ≡ true → Order x y rest
    more true e k = level (eqb-true x y e) k
    more false e k = clash_of (sym k)

    go : (t : Bool) → ltb x y ≡ t → (t || (eqb x y && rest)) ≡ true → Order x y rest
    go true e k = lower (ltb-true x y e)
    go false e k = more (eqb x y) refl k

order_lower : (x y : ℕ) (rest : Bool) → x < y → (ltb x y || (eqb x y && rest)) ≡ true
order_lower x y rest h = rw (lt-ltb x y h)

order_level : (x : ℕ) (rest : Bool) → (ltb x x || (eqb x x && rest)) ≡ rest
order_level x rest = rw (le-ltb x x (omega arith), eq-eqb x x refl)

pub less_self : (a : List ℕ) → less a a ≡ false
unfolding less
less_self [] = refl
less_self (x ∷ a) = order_level x (less a a) ∙ less_self a

pub less_trans : (a b c : List ℕ) → less a b ≡ true → less b c ≡ true → less a c ≡ true
unfolding less
less_trans [] b c h k = clash_of (sym h)
less_trans (x ∷ a) [] c h k = clash_of (sym h)
less_trans (x ∷ a) (y ∷ b) [] h k = clash_of (sym k)
less_trans (x ∷ a) (y ∷ b) (z ∷ c) h k = go (order x y (less a b) h) (order y z (less b c) k) (less_trans a b c)
  where
    go : Order x y (less a b) → Order y z (less b c) → (less a b ≡ true → less b c ≡ true → less a c ≡ true) → (ltb x z || (eqb x z && less a c)) ≡ true
    go (lower p) (lower q) r = order_lower x z (less a c) (omega arith)
    go (lower p) (level q u) r = order_lower x z (less a c) (omega arith)
    go (level p v) (lower q) r = order_lower x z (less a c) (omega arith)
    go (level p v) (level q u) r = rw (p, q) (order_level z (less a c) ∙ r v u)

pub less_total : (a b : List ℕ) → length a ≡ length b → less a b ≡ false → (a ≡ b) ⊎ (less b a ≡ true)
unfolding less
less_total [] [] e h = inl refl
less_total [] (y ∷ b) e h = absurd (omega arith)
less_total (x ∷ a) [] e h = absurd (omega arith)
less_total (x ∷ a) (y ∷ b) e h = go (ltb y x) refl (ltb x y) refl (less_total a b (suc_inj e))
  where
    same : x ≡ y → (a ≡ b) ⊎ (less b a ≡ true) → (x ∷ a ≡ y ∷ b) ⊎ ((ltb y x || (eqb y x && less b a)) ≡ true)
    same p (inl q) = inl (rw (p, q))
    same p (inr q) = inr (rw p (order_level y (less b a) ∙ q))

    go : (t : Bool) → ltb y x ≡ t → (u : Bool) → ltb x y ≡ u → (less a b ≡ false → (a ≡ b) ⊎ (less b a ≡ true))
        → (x ∷ a ≡ y ∷ b) ⊎ ((ltb y x || (eqb y x && less b a)) ≡ true)
    go true p u q r = inr (order_lower y x (less b a) (ltb-true y x p))
    go false p true q r = clash_of (sym (order_lower x y (less a b) (ltb-true x y q)) ∙ h)
    go false p false q r =
        let m : x ≡ y = omega (arith, ltb-false y x p, ltb-false x y q) in
        same m (r (sym (order_level y (less a b)) ∙ (rw m at h)))

-- ---- the least name

-- a name has been picked, and n does not come before it
pub data Least (n : List ℕ) : Option (List ℕ) → Type 0 where
  least : (picked : List ℕ) → less n picked ≡ false → Least n (Some picked)

module _ (last : List ℕ) (other : List Region) where
  -- a region considered: p stays, or the region's name is picked
  data Chosen (p : Option (List ℕ)) (r : Region) : Option (List ℕ) → Type 0 where
    stays : ((less last r.name ≡ true) → (stands r other ≡ false) → Least r.name p) → Chosen p r p
    picks : less last r.name ≡ true → sooner p r.name ≡ true → stands r other ≡ false → Chosen p r (Some r.name)

  -- a name that is not sooner
  kept : (p : Option (List ℕ)) (n : List ℕ) → sooner p n ≡ false → Least n p
  unfolding sooner
  kept None n e = clash_of e
  kept (Some m) n e = least m e

  chosen : (p : Option (List ℕ)) (r : Region) → Chosen p r (considered last p r other)
  unfolding considered
  chosen p r = g1 (less last r.name) refl
    where
      g3 : (t : Bool) → stands r other ≡ t → less last r.name ≡ true → sooner p r.name ≡ true → Chosen p r (cond t p (Some r.name))
      g3 true e h k = stays (λ x y. clash_of (sym e ∙ y))
      g3 false e h k = picks h k e

      g2 : (t : Bool) → sooner p r.name ≡ t → less last r.name ≡ true → Chosen p r (cond t (cond (stands r other) p (Some r.name)) p)
      g2 true e h = g3 (stands r other) refl h e
      g2 false e h = stays (λ x y. kept p r.name e)

      g1 : (t : Bool) → less last r.name ≡ t → Chosen p r (cond t (cond (sooner p r.name) (cond (stands r other) p (Some r.name)) p) p)
      g1 true e = g2 (sooner p r.name) refl e
      g1 false e = stays (λ x y. clash_of (sym x ∙ e))

  -- what did not come before p does not come before one that does
  still_least : {p : Option (List ℕ)} (m n : List ℕ) → Least n p → sooner p m ≡ true → less n m ≡ false
  unfolding sooner
  still_least m n (least q g) before = go (less n m) refl
    where
      go : (t : Bool) → less n m ≡ t → t ≡ false
      go true e = clash_of (sym (less_trans n m q e before) ∙ g)
      go false e = refl

  least_old : (p : Option (List ℕ)) (r : Region) (n : List ℕ) → Least n p → Least n (considered last p r other)
  least_old p r n g = go (chosen p r)
    where
      go : {q : Option (List ℕ)} → Chosen p r q → Least n q
      go (stays k) = g
      go (picks h k e) = least r.name (still_least r.name n g k)

  least_new : (p : Option (List ℕ)) (r : Region) → less last r.name ≡ true → stands r other ≡ false → Least r.name (considered last p r other)
  least_new p r x y = go (chosen p r)
    where
      go : {q : Option (List ℕ)} → Chosen p r q → Least r.name q
      go (stays k) = k x y
      go (picks h k e) = least r.name (less_self r.name)

  pub all_old : (p : Option (List ℕ)) (rs : List Region) (n : List ℕ) → Least n p → Least n (least_of last p rs other)
  unfolding least_of
  all_old p [] n g = g
  all_old p (r ∷ rs) n g = all_old (considered last p r other) rs n (least_old p r n g)

  pub all_new : (p : Option (List ℕ)) {rs : List Region} {r : Region} → In r rs → less last r.name ≡ true → stands r other ≡ false
      → Least r.name (least_of last p rs other)
  unfolding least_of
  all_new p (here {x = r} {l = rs}) x y = all_old (considered last p r other) rs r.name (least_new p r x y)
  all_new p (there {x = r} {y = s} {l = rs} k) x y = all_new (considered last p s other) k x y

  -- what is picked is a name after the last that has a property of all odd names
  pub data Sound (P : List ℕ → Type 0) : Option (List ℕ) → Type 0 where
    none : Sound P None
    some : {n : List ℕ} → less last n ≡ true → P n → Sound P (Some n)

  sound_one : (P : List ℕ → Type 0) (p : Option (List ℕ)) (r : Region) → (stands r other ≡ false → P r.name) → Sound P p
      → Sound P (considered last p r other)
  sound_one P p r f g = go (chosen p r)
    where
      go : {q : Option (List ℕ)} → Chosen p r q → Sound P q
      go (stays k) = g
      go (picks h k e) = some h (f e)

  pub sound_all : (P : List ℕ → Type 0) (p : Option (List ℕ)) (rs : List Region) → ((r : Region) → In r rs → stands r other ≡ false → P r.name)
      → Sound P p → Sound P (least_of last p rs other)
  unfolding least_of
  sound_all P p [] f g = g
  sound_all P p (r ∷ rs) f g = sound_all P (considered last p r other) rs (λ s k. f s (there k)) (sound_one P p r (f r here) g)

module _ (last : List ℕ) (a b : List Region) where
  abbrev First : Option (List ℕ)
  First = least_of last None a b

  pub next_sound : Sound last a (Differs a b) (next_name last a b)
  unfolding next_name
  next_sound = sound_all last a (Differs a b) First b (λ r k e. inr (odd r k (not_in r a e))) (go s)
    where
      s : Sound last b (Differs a b) First
      s = sound_all last b (Differs a b) None a (λ r k e. inl (odd r k (not_in r b e))) none

      go : {q : Option (List ℕ)} → Sound last b (Differs a b) q → Sound last a (Differs a b) q
      go none = none
      go (some h d) = some h d

  pub next_least : (n : List ℕ) → Differs a b n → less last n ≡ true → Least n (next_name last a b)
  unfolding next_name
  next_least n (inl (odd r k e)) h = all_old last a First b n (all_new last b None k h (stands_not r b e))
  next_least n (inr (odd r k e)) h = all_new last a First k h (stands_not r a e)
