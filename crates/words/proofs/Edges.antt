-- The eight results at the edges, by computing: 0, 1, minus one, the most positive and the most negative word, every pair of them; then 7 and 2 with each
-- pair of signs. The results were computed apart.
use Rattle.std.proofs.Common.{◌≡◌, ℕ, List, [], ◌∷◌, map, refl}
use Rattle.words.specs.declared.Reading.TheVariants.{Unsigned, Signed}
use Rattle.words.specs.Multiply.{is_negative, size_of, with_sign, value_of, differ, integer_word, product_low, product_high, quotient_of, remainder_of}

pub record Row : Type 0 where
  pub first : ℕ
  pub second : ℕ
  pub results : List ℕ

abbrev row : ℕ → ℕ → List ℕ → Row
row a b l = record { first = a; second = b; results = l }

-- MUL, MULH, MULHSU, MULHU, DIV, DIVU, REM, REMU
abbrev pub computed : Row → List ℕ
computed r =
    let a = r.first in
    let b = r.second in
    product_low a b ∷ product_high Signed Signed a b ∷ product_high Signed Unsigned a b ∷ product_high Unsigned Unsigned a b
    ∷ quotient_of Signed a b ∷ quotient_of Unsigned a b ∷ remainder_of Signed a b ∷ remainder_of Unsigned a b ∷ []

abbrev pub edges : List Row
edges =
    (row 0 0 (0 ∷ 0 ∷ 0 ∷ 0 ∷ 0xffffffff ∷ 0xffffffff ∷ 0 ∷ 0 ∷ [])) ∷
    (row 0 1 (0 ∷ 0 ∷ 0 ∷ 0 ∷ 0 ∷ 0 ∷ 0 ∷ 0 ∷ [])) ∷
    (row 0 0xffffffff (0 ∷ 0 ∷ 0 ∷ 0 ∷ 0 ∷ 0 ∷ 0 ∷ 0 ∷ [])) ∷
    (row 0 0x7fffffff (0 ∷ 0 ∷ 0 ∷ 0 ∷ 0 ∷ 0 ∷ 0 ∷ 0 ∷ [])) ∷
    (row 0 0x80000000 (0 ∷ 0 ∷ 0 ∷ 0 ∷ 0 ∷ 0 ∷ 0 ∷ 0 ∷ [])) ∷
    (row 1 0 (0 ∷ 0 ∷ 0 ∷ 0 ∷ 0xffffffff ∷ 0xffffffff ∷ 1 ∷ 1 ∷ [])) ∷
    (row 1 1 (1 ∷ 0 ∷ 0 ∷ 0 ∷ 1 ∷ 1 ∷ 0 ∷ 0 ∷ [])) ∷
    (row 1 0xffffffff (0xffffffff ∷ 0xffffffff ∷ 0 ∷ 0 ∷ 0xffffffff ∷ 0 ∷ 0 ∷ 1 ∷ [])) ∷
    (row 1 0x7fffffff (0x7fffffff ∷ 0 ∷ 0 ∷ 0 ∷ 0 ∷ 0 ∷ 1 ∷ 1 ∷ [])) ∷
    (row 1 0x80000000 (0x80000000 ∷ 0xffffffff ∷ 0 ∷ 0 ∷ 0 ∷ 0 ∷ 1 ∷ 1 ∷ [])) ∷
    (row 0xffffffff 0 (0 ∷ 0 ∷ 0 ∷ 0 ∷ 0xffffffff ∷ 0xffffffff ∷ 0xffffffff ∷ 0xffffffff ∷ [])) ∷
    (row 0xffffffff 1 (0xffffffff ∷ 0xffffffff ∷ 0xffffffff ∷ 0 ∷ 0xffffffff ∷ 0xffffffff ∷ 0 ∷ 0 ∷ [])) ∷
    (row 0xffffffff 0xffffffff (1 ∷ 0 ∷ 0xffffffff ∷ 0xfffffffe ∷ 1 ∷ 1 ∷ 0 ∷ 0 ∷ [])) ∷
    (row 0xffffffff 0x7fffffff (0x80000001 ∷ 0xffffffff ∷ 0xffffffff ∷ 0x7ffffffe ∷ 0 ∷ 2 ∷ 0xffffffff ∷ 1 ∷ [])) ∷
    (row 0xffffffff 0x80000000 (0x80000000 ∷ 0 ∷ 0xffffffff ∷ 0x7fffffff ∷ 0 ∷ 1 ∷ 0xffffffff ∷ 0x7fffffff ∷ [])) ∷
    (row 0x7fffffff 0 (0 ∷ 0 ∷ 0 ∷ 0 ∷ 0xffffffff ∷ 0xffffffff ∷ 0x7fffffff ∷ 0x7fffffff ∷ [])) ∷
    (row 0x7fffffff 1 (0x7fffffff ∷ 0 ∷ 0 ∷ 0 ∷ 0x7fffffff ∷ 0x7fffffff ∷ 0 ∷ 0 ∷ [])) ∷
    (row 0x7fffffff 0xffffffff (0x80000001 ∷ 0xffffffff ∷ 0x7ffffffe ∷ 0x7ffffffe ∷ 0x80000001 ∷ 0 ∷ 0 ∷ 0x7fffffff ∷ [])) ∷
    (row 0x7fffffff 0x7fffffff (1 ∷ 0x3fffffff ∷ 0x3fffffff ∷ 0x3fffffff ∷ 1 ∷ 1 ∷ 0 ∷ 0 ∷ [])) ∷
    (row 0x7fffffff 0x80000000 (0x80000000 ∷ 0xc0000000 ∷ 0x3fffffff ∷ 0x3fffffff ∷ 0 ∷ 0 ∷ 0x7fffffff ∷ 0x7fffffff ∷ [])) ∷
    (row 0x80000000 0 (0 ∷ 0 ∷ 0 ∷ 0 ∷ 0xffffffff ∷ 0xffffffff ∷ 0x80000000 ∷ 0x80000000 ∷ [])) ∷
    (row 0x80000000 1 (0x80000000 ∷ 0xffffffff ∷ 0xffffffff ∷ 0 ∷ 0x80000000 ∷ 0x80000000 ∷ 0 ∷ 0 ∷ [])) ∷
    (row 0x80000000 0xffffffff (0x80000000 ∷ 0 ∷ 0x80000000 ∷ 0x7fffffff ∷ 0x80000000 ∷ 0 ∷ 0 ∷ 0x80000000 ∷ [])) ∷
    (row 0x80000000 0x7fffffff (0x80000000 ∷ 0xc0000000 ∷ 0xc0000000 ∷ 0x3fffffff ∷ 0xffffffff ∷ 1 ∷ 0xffffffff ∷ 1 ∷ [])) ∷
    (row 0x80000000 0x80000000 (0 ∷ 0x40000000 ∷ 0xc0000000 ∷ 0x40000000 ∷ 1 ∷ 1 ∷ 0 ∷ 0 ∷ [])) ∷
    -- rounded toward zero, and the dividend's sign
    (row 7 2 (0x0000000e ∷ 0 ∷ 0 ∷ 0 ∷ 3 ∷ 3 ∷ 1 ∷ 1 ∷ [])) ∷
    (row 0xfffffff9 2 (0xfffffff2 ∷ 0xffffffff ∷ 0xffffffff ∷ 1 ∷ 0xfffffffd ∷ 0x7ffffffc ∷ 0xffffffff ∷ 1 ∷ [])) ∷
    (row 7 0xfffffffe (0xfffffff2 ∷ 0xffffffff ∷ 6 ∷ 6 ∷ 0xfffffffd ∷ 0 ∷ 1 ∷ 7 ∷ [])) ∷
    (row 0xfffffff9 0xfffffffe (0x0000000e ∷ 0 ∷ 0xfffffff9 ∷ 0xfffffff7 ∷ 3 ∷ 0 ∷ 0xffffffff ∷ 0xfffffff9 ∷ [])) ∷
    []

pub edges_hold : map computed edges ≡ map (λ (r : Row). r.results) edges
unfolding is_negative size_of with_sign value_of differ integer_word product_low product_high quotient_of remainder_of
edges_hold = refl
