-- Every address in the bounds that an address gives gives the same. Assumes nothing.
use mathlib.Core.Path.{◌≡◌}
use mathlib.Core.Logic.{inl, inr}
use mathlib.Core.Bool.{true}
use Prim.Native.Nat.{ℕ, ◌-◌, ◌/◌, ◌^◌, ◌≤◌, ◌<◌}
use native.Mathlib.Nat.{div-lt_iff_lt-mul}
use native.Mathlib.Omega.{arith}
use borrow.Author.Tests.{eq-eqb}
use lib.Pow.{pow_pos}
use Rattle.metadata.specs.Word.{scale_of, top_of, base_of}
use Rattle.metadata.proofs.Words.{scale_lt, top_lt, base_lt}
use Rattle.bounds.specs.Bounds.{less, low_of, high_of, low_at, high_at, exponent_of}
use Rattle.bounds.proofs.Rounding.{floor_ge}
use Rattle.bounds.proofs.Exponent.{Exponent, exponent_of_lem}
use Rattle.bounds.proofs.Program.{Test, test}
use Rattle.bounds.proofs.Decode.{block_of, Stands}
use Rattle.bounds.proofs.Blocks.{Same, same_block, few_same, spot}
use Rattle.capability.specs.Capability.{capability, low, high, unsealed, same_bounds, move_of}
use Rattle.capability.specs.declared.Capability.{Capability}

inside_block : (M q r T B t i j : ℕ) → 0 < M → T < 512 → B < 512 → Test T B t → Stands M (block_of q B) T B t i j → i ≤ q → q < j → i ≤ r → r < j
    → block_of r B ≡ block_of q B
inside_block M q r T B t i j h hT hB (inl u) (inl s) a b c d = omega arith
inside_block M q r T B t i j h hT hB (inr u) (inl s) a b c d = omega arith
inside_block M q r T B t i j h hT hB u (inr s) a b c d = absurd (omega arith)

inside_fields : (e T B a b : ℕ) → Exponent e → T < 512 → B < 512 → a < 2 ^ 32 → b < 2 ^ 32
    → low_of e B a ≤ a → a < high_of e T B a → low_of e B a ≤ b → b < high_of e T B a → Same e T B a b
inside_fields e T B a b (inl x) hT hB ha hb la ah lb bh =
    let (i, j, li, hj, s) = spot e T B a x hT hB ha in
    same_block e T B a b (omega arith) hB
    (inside_block (2 ^ (23 - e)) (a / 2 ^ e) (b / 2 ^ e) T B (less T B) i j (pow_pos (23 - e)) hT hB (test T B) s
    (floor_ge a i (pow_pos e) (rw (← li) la)) ((div-lt_iff_lt-mul (pow_pos e)).1 (rw (← hj) ah))
    (floor_ge b i (pow_pos e) (rw (← li) lb)) ((div-lt_iff_lt-mul (pow_pos e)).1 (rw (← hj) bh)))
inside_fields e T B a b (inr x) hT hB ha hb la ah lb bh = rw x (few_same T B a b hT hB ha hb)

-- for every metadata word: no address in the bounds loses them
pub inside_keeps_bounds : (a b w : ℕ) → a < 2 ^ 32 → b < 2 ^ 32 → low_at a w ≤ a → a < high_at a w → low_at a w ≤ b → b < high_at a w
    → (low_at b w ≡ low_at a w) × (high_at b w ≡ high_at a w)
unfolding low_at high_at
inside_keeps_bounds a b w ha hb la ah lb bh =
    inside_fields (exponent_of (scale_of w)) (top_of w) (base_of w) a b (exponent_of_lem (scale_of w) (scale_lt w)) (top_lt w) (base_lt w) ha hb la ah lb bh

-- so a move inside the bounds of an unsealed capability changes its address alone
pub inside_move : (c : Capability) (b : ℕ) → c.address < 2 ^ 32 → b < 2 ^ 32 → unsealed c ≡ true
    → low c ≤ c.address → c.address < high c → low c ≤ b → b < high c → move_of c b ≡ capability b c.metadata c.tag
unfolding move_of same_bounds low high
inside_move c b ha hb u la ah lb bh =
    let s = inside_keeps_bounds c.address b c.metadata ha hb la ah lb bh in
    rw (u, eq-eqb (low_at b c.metadata) (low_at c.address c.metadata) s.0, eq-eqb (high_at b c.metadata) (high_at c.address c.metadata) s.1)
