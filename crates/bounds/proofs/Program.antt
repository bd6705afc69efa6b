-- Powers of 2 as the functions use them, the tests h and t, and limits of the cut's fields. Assumes nothing.
use Rattle.std.proofs.Common.{◌≡◌, ℕ, ◌+◌, ◌-◌, ◌*◌, ◌%◌, ◌^◌, ◌<◌, ◌≤◌, Bool, true, false, cond, ltb, ◌⊎◌, sym, refl, ap, ◌∙◌, inl, inr, one-mul, arith}
use Rattle.std.proofs.Common.{pow_mono, shl_exact, ltb-false, ltb-true}
use Rattle.bounds.specs.Bounds.{less}
use Rattle.bounds.specs.Cutting.{cut_exponent, scale_field, cut_base, cut_top}
use Rattle.bounds.proofs.Exponent.{cut_exponent_lem, field_small}
use Rattle.bounds.proofs.Rounding.{pow_split}

-- `1 << e` at 64 bits
pub one_shl : (e : ℕ) → e ≤ 24 → (1 * 2 ^ e) % 2 ^ 64 ≡ 2 ^ e
one_shl e h = shl_exact {a = 1} 1 e 64 (omega arith) (omega arith) ∙ one-mul (2 ^ e)

-- units up to 2^24
pub unit_le : (e : ℕ) → e ≤ 24 → 2 ^ e ≤ 2 ^ 24
unit_le e h = pow_mono h

-- 2^32 in units
pub space : (e : ℕ) → e ≤ 24 → 2 ^ (32 - e) * 2 ^ e ≡ 2 ^ 32
space e h = sym (pow_split {i = e} {j = 32} (omega arith))

-- h is the test a < b, as 1 or 0
abbrev pub Test : ℕ → ℕ → ℕ → Type 0
Test a b h = ((a < b) × (h ≡ 1)) ⊎ ((b ≤ a) × (h ≡ 0))

pub test : (a b : ℕ) → Test a b (less a b)
test a b = go (ltb a b) refl
  where
    go : (t : Bool) → ltb a b ≡ t → Test a b (less a b)
    go true e = inl (ltb-true a b e, ap (λ x. cond x 1 0) e)
    go false e = inr (ltb-false a b e, ap (λ x. cond x 1 0) e)

-- how far the top stands above the base, both of nine bits
span_test : (T B h : ℕ) → T < 512 → B < 512 → Test T B h → B + (T + 512 - B) % 512 ≡ h * 512 + T
span_test T B h a b (inl t) = omega arith
span_test T B h a b (inr t) = omega arith

pub span_is : (T B : ℕ) → T < 512 → B < 512 → B + (T + 512 - B) % 512 ≡ less T B * 512 + T
span_is T B a b = span_test T B (less T B) a b (test T B)

test_le : (a b h : ℕ) → Test a b h → h ≤ 1
test_le a b h (inl t) = omega arith
test_le a b h (inr t) = omega arith

pub less_le : (a b : ℕ) → less a b ≤ 1
less_le a b = test_le a b (less a b) (test a b)

-- the cut's E, T and B fit their places
pub cut_field_lt : (base end : ℕ) → scale_field (cut_exponent base end) < 16
cut_field_lt base end = field_small (cut_exponent base end) (cut_exponent_lem base end)

pub cut_base_lt : (base end : ℕ) → cut_base base end < 512
unfolding cut_base
cut_base_lt base end = omega arith

pub cut_top_lt : (base end : ℕ) → cut_top base end < 512
unfolding cut_top
cut_top_lt base end = omega arith
