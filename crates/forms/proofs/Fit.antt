-- What is listed of a word: operands that are words, as many as the count says and 0 before them.
use Rattle.std.proofs.Common.{◌≡◌, ℕ, ◌^◌, ◌<◌, ◌⊎◌, refl, inl, inr, arith}
use Rattle.forms.specs.declared.Shape.{Shape}
use Rattle.forms.specs.Shapes.{three, two, one, bare}

abbrev pub Aligned : (count a b c : ℕ) → Type 0
Aligned n a b c = ((n ≡ 3) ⊎ ((n ≡ 2) × (a ≡ 0))) ⊎ (((n ≡ 1) × (a ≡ 0) × (b ≡ 0)) ⊎ ((n ≡ 0) × (a ≡ 0) × (b ≡ 0) × (c ≡ 0)))

pub record Fit (s : Shape) : Type 0 where
  pub aligned : Aligned s.count s.a s.b s.c
  pub a_fits : s.a < 2 ^ 32
  pub b_fits : s.b < 2 ^ 32
  pub c_fits : s.c < 2 ^ 32

pub fit3 : (r x y z : ℕ) → x < 2 ^ 32 → y < 2 ^ 32 → z < 2 ^ 32 → Fit (three r x y z)
fit3 r x y z p q t = record { aligned = inl (inl refl); a_fits = p; b_fits = q; c_fits = t }

pub fit2 : (r y z : ℕ) → y < 2 ^ 32 → z < 2 ^ 32 → Fit (two r y z)
fit2 r y z q t = record { aligned = inl (inr (refl, refl)); a_fits = omega arith; b_fits = q; c_fits = t }

pub fit1 : (r z : ℕ) → z < 2 ^ 32 → Fit (one r z)
fit1 r z t = record { aligned = inr (inl (refl, refl, refl)); a_fits = omega arith; b_fits = omega arith; c_fits = t }

pub fit0 : (r : ℕ) → Fit (bare r)
fit0 r = record { aligned = inr (inr (refl, refl, refl, refl)); a_fits = omega arith; b_fits = omega arith; c_fits = omega arith }
