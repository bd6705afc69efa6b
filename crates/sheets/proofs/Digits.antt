-- Eight hexadecimal digits and the number that they write.
-- Assumes nothing.
use mathlib.Core.Bool.{Bool, true, false, cond}
use mathlib.Core.Path.{◌≡◌, refl, ◌∙◌}
use mathlib.Core.List.{[], ◌∷◌, ◌++◌}
use Prim.Native.Nat.{ℕ, suc, ◌+◌, ◌-◌, ◌*◌, ◌/◌, ◌%◌, ◌^◌, ◌≤◌, ◌<◌}
use native.Mathlib.Nat.{pow-succ', pow-le-pow_right}
use native.Mathlib.Numerals.{add-one}
use native.Mathlib.Omega.{arith}
use borrow.Author.Tests.{lt-ltb, le-ltb, ltb-true, ltb-false}
use lib.Dec.{ltb}
use Rattle.text.specs.Digits.{digit_of, glyph, digits}

pub digit_glyph : (d : ℕ) → d < 16 → digit_of (glyph d) ≡ d
unfolding digit_of glyph
digit_glyph d h = go (ltb d 10) refl
  where
    small : d < 10 → digit_of (48 + d) ≡ d
    small k = rw (le-ltb (48 + d) 48 (omega arith), lt-ltb (48 + d) 58 (omega arith)) (omega arith)

    large : 10 ≤ d → digit_of (87 + d) ≡ d
    large k = rw (le-ltb (87 + d) 48 (omega arith), le-ltb (87 + d) 58 (omega arith), le-ltb (87 + d) 97 (omega arith), lt-ltb (87 + d) 103 (omega arith))
        (omega arith)

    go : (t : Bool) → ltb d 10 ≡ t → digit_of (cond t (48 + d) (87 + d)) ≡ d
    go true e = small (ltb-true d 10 e)
    go false e = large (ltb-false d 10 e)

glyph_small : (d : ℕ) → d < 10 → glyph d ≡ 48 + d
unfolding glyph
glyph_small d h = rw (lt-ltb d 10 h)

glyph_large : (d : ℕ) → 10 ≤ d → glyph d ≡ 87 + d
unfolding glyph
glyph_large d h = rw (le-ltb d 10 h)

pub glyph_digit : (b : ℕ) → digit_of b < 16 → glyph (digit_of b) ≡ b
unfolding digit_of
glyph_digit b h = g1 (ltb b 48) refl h
  where
    D3 : Bool → ℕ
    D3 t = cond t (b - 87) 16

    D2 : Bool → ℕ
    D2 t = cond t 16 (D3 (ltb b 103))

    D1 : Bool → ℕ
    D1 t = cond t (b - 48) (D2 (ltb b 97))

    g4 : (t : Bool) → ltb b 103 ≡ t → 97 ≤ b → D3 t < 16 → glyph (D3 t) ≡ b
    g4 true e k x = let l = ltb-true b 103 e in glyph_large (b - 87) (omega arith) ∙ omega arith
    g4 false e k x = absurd (omega arith)

    g3 : (t : Bool) → ltb b 97 ≡ t → D2 t < 16 → glyph (D2 t) ≡ b
    g3 true e x = absurd (omega arith)
    g3 false e x = g4 (ltb b 103) refl (ltb-false b 97 e) x

    g2 : (t : Bool) → ltb b 58 ≡ t → 48 ≤ b → D1 t < 16 → glyph (D1 t) ≡ b
    g2 true e k x = let l = ltb-true b 58 e in glyph_small (b - 48) (omega arith) ∙ omega arith
    g2 false e k x = g3 (ltb b 97) refl x

    g1 : (t : Bool) → ltb b 48 ≡ t → cond t 16 (D1 (ltb b 58)) < 16 → glyph (cond t 16 (D1 (ltb b 58))) ≡ b
    g1 true e x = absurd (omega arith)
    g1 false e x = g2 (ltb b 58) refl (ltb-false b 48 e) x

pub glyph_from : (d : ℕ) → 48 ≤ glyph d
unfolding glyph
glyph_from d = go (ltb d 10)
  where
    go : (t : Bool) → 48 ≤ cond t (48 + d) (87 + d)
    go true = omega arith
    go false = omega arith

-- a digit more
pub digits_more : (n v d : ℕ) → d < 16 → digits 16 (n + 1) (v * 16 + d) ≡ digits 16 n v ++ (glyph d ∷ [])
unfolding digits
digits_more n v d h =
    let q : (v * 16 + d) / 16 ≡ v = omega arith in
    let m : (v * 16 + d) % 16 ≡ d = omega arith in
    rw (add-one n, q, m)

pub more_below : (n v d : ℕ) → v < 16 ^ n → d < 16 → v * 16 + d < 16 ^ (n + 1)
more_below n v d h k = rw (add-one n, pow-succ' 16 n) (omega arith)

pub less_below : (n v : ℕ) → v < 16 ^ suc n → v / 16 < 16 ^ n
less_below n v h = omega (arith, rw (pow-succ' 16 n) at h)

-- so few digits write less than 2 ^ 28, and eight less than 2 ^ 32
pub seven : (n v : ℕ) → n < 8 → v < 16 ^ n → v < 2 ^ 28
seven n v h k = omega (arith, pow-le-pow_right {n = 16} (omega arith) {i = n} {j = 7} (omega arith))
