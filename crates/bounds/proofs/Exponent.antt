-- The exponent of a cut is one of 0 to 14 or 24, fits, and is the least that does. Assumes nothing.
use Rattle.std.proofs.Common.{◌≡◌, ℕ, zero, suc, ◌+◌, ◌<◌, ◌≤◌, Bool, true, false, cond, eqb, ◌⊎◌, refl, inl, inr, le_antisymm, arith, ne_eqb}
use borrow.Author.Tests.{eqb-false}
use lib.Arith.{lt_of_le-ne}
use Rattle.bounds.specs.Bounds.{exponent_of}
use Rattle.bounds.specs.Cutting.{fits_at, first_fit, cut_exponent, scale_field}

-- a case of a test, with what it says
pub cond_ind : (P : ℕ → Type 0) (t : Bool) (a b : ℕ) → (t ≡ true → P a) → (t ≡ false → P b) → P (cond t a b)
cond_ind P true a b f g = f refl
cond_ind P false a b f g = g refl

-- the exponents that a field E has
abbrev pub Exponent : ℕ → Type 0
Exponent e = (e ≤ 14) ⊎ (e ≡ 24)

pub exponent_of_lem : (E : ℕ) → E < 16 → Exponent (exponent_of E)
unfolding exponent_of
exponent_of_lem E h = cond_ind Exponent (eqb E 15) 24 E (λ t. inr refl) (λ f. inl (omega (arith, eqb-false E 15 f)))

pub exponent_of_field : (e : ℕ) → Exponent e → exponent_of (scale_field e) ≡ e
unfolding exponent_of scale_field
exponent_of_field e (inl h) = simp (ne_eqb e 24 (omega arith), ne_eqb e 15 (omega arith))
exponent_of_field e (inr h) = rw h

pub field_small : (e : ℕ) → Exponent e → scale_field e < 16
unfolding scale_field
field_small e (inl h) = rw (ne_eqb e 24 (omega arith)) (omega arith)
field_small e (inr h) = rw h (omega arith)

pub first_exponent : (f e base end : ℕ) → e + f ≤ 15 → Exponent (first_fit f e base end)
unfolding first_fit
first_exponent zero e base end h = inr refl
first_exponent (suc f) e base end h =
    cond_ind Exponent (fits_at base end e) e (first_fit f (suc e) base end) (λ t. inl (omega arith)) (λ t. first_exponent f (suc e) base end (omega arith))

pub first_fits : (f e base end : ℕ) → fits_at base end 24 ≡ true → fits_at base end (first_fit f e base end) ≡ true
unfolding first_fit
first_fits zero e base end h = h
first_fits (suc f) e base end h =
    cond_ind (λ x. fits_at base end x ≡ true) (fits_at base end e) e (first_fit f (suc e) base end) (λ t. t) (λ t. first_fits f (suc e) base end h)

pub first_least : (f e base end x : ℕ) → e ≤ x → x < e + f → fits_at base end x ≡ true → first_fit f e base end ≤ x
unfolding first_fit
first_least zero e base end x l u h = omega arith
first_least (suc f) e base end x l u h =
    cond_ind (λ y. y ≤ x) (fits_at base end e) e (first_fit f (suc e) base end) (λ t. l)
    (λ t. first_least f (suc e) base end x (lt_of_le-ne l (λ q. let z : ◌≡◌ {A = ℕ} 0 1 = cc in omega arith)) (omega arith) h)

first_either : (f e base end : ℕ) → (first_fit f e base end ≡ 24) ⊎ (fits_at base end (first_fit f e base end) ≡ true)
unfolding first_fit
first_either zero e base end = inl refl
first_either (suc f) e base end =
    cond_ind (λ x. (x ≡ 24) ⊎ (fits_at base end x ≡ true)) (fits_at base end e) e (first_fit f (suc e) base end) (λ t. inr t)
    (λ t. first_either f (suc e) base end)

true_false : (b : Bool) → b ≡ true → b ≡ false → ⊥
true_false b p q = let z : ◌≡◌ {A = ℕ} 0 1 = cc in omega arith

not_lt→le : {a b : ℕ} → (a < b → ⊥) → b ≤ a
not_lt→le h = omega arith

none_fits : {e : ℕ} → Exponent e → (e ≤ 14 → ⊥) → e ≡ 24
none_fits (inl h) f = absurd (f h)
none_fits (inr h) f = h

-- the exponent, by what fits
pub exponent_is : (base end x : ℕ) → x ≤ 14 → fits_at base end x ≡ true → ((y : ℕ) → y < x → fits_at base end y ≡ false) → cut_exponent base end ≡ x
unfolding cut_exponent
exponent_is base end x h t below = go (first_either 15 0 base end)
  where
    most : first_fit 15 0 base end ≤ x
    most = first_least 15 0 base end x (omega arith) (omega arith) t

    go : (first_fit 15 0 base end ≡ 24) ⊎ (fits_at base end (first_fit 15 0 base end) ≡ true) → first_fit 15 0 base end ≡ x
    go (inl e) = omega (arith, most)
    go (inr u) = le_antisymm most (not_lt→le (λ l. true_false (fits_at base end (first_fit 15 0 base end)) u (below (first_fit 15 0 base end) l)))

pub exponent_none : (base end : ℕ) → ((y : ℕ) → y ≤ 14 → fits_at base end y ≡ false) → cut_exponent base end ≡ 24
unfolding cut_exponent
exponent_none base end below = go (first_either 15 0 base end)
  where
    go : (first_fit 15 0 base end ≡ 24) ⊎ (fits_at base end (first_fit 15 0 base end) ≡ true) → first_fit 15 0 base end ≡ 24
    go (inl e) = e
    go (inr u) =
        let e : ℕ = first_fit 15 0 base end in
        none_fits (first_exponent 15 0 base end (omega arith)) (λ l. true_false (fits_at base end e) u (below e l))

-- where 24 fits, the cut's exponent is the least of 0 to 14 or 24 that does
pub record IsLeast (base end e : ℕ) : Type 0 where
  pub is_exponent : Exponent e
  pub is_fit : fits_at base end e ≡ true
  pub is_least : (x : ℕ) → Exponent x → fits_at base end x ≡ true → e ≤ x

pub exponent_le : {e : ℕ} → Exponent e → e ≤ 24
exponent_le (inl h) = omega arith
exponent_le (inr h) = omega arith

pub cut_exponent_lem : (base end : ℕ) → Exponent (cut_exponent base end)
unfolding cut_exponent
cut_exponent_lem base end = first_exponent 15 0 base end (omega arith)

pub least : (base end : ℕ) → fits_at base end 24 ≡ true → IsLeast base end (cut_exponent base end)
unfolding cut_exponent
least base end h = record { is_exponent = cut_exponent_lem base end; is_fit = first_fits 15 0 base end h; is_least = go }
  where
    go : (x : ℕ) → Exponent x → fits_at base end x ≡ true → first_fit 15 0 base end ≤ x
    go x (inl l) t = first_least 15 0 base end x (omega arith) (omega arith) t
    go x (inr l) t = omega (arith, exponent_le (first_exponent 15 0 base end (omega arith)))
