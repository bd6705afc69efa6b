-- Every address inside the bounds of a word at an address that is inside them has the same bounds: up to exponent 14 the bounds span less than a block of
-- 512 units, and those that wrap hold no address of their own block; at exponent 24 the address has no part in them. Assumes nothing.
use Rattle.std.proofs.Common.{◌≡◌, ℕ, ◌-◌, ◌/◌, ◌^◌, ◌<◌, ◌≤◌, inl, inr, div-lt_iff_lt-mul, arith, pow_pos}
use Rattle.metadata.specs.Word.{scale_of, top_of, base_of}
use Rattle.metadata.proofs.Words.{scale_lt, top_lt, base_lt}
use Rattle.bounds.specs.Bounds.{less, low_of, high_of, low_at, high_at, exponent_of}
use Rattle.bounds.proofs.Rounding.{floor_ge}
use Rattle.bounds.proofs.Exponent.{Exponent, exponent_of_lem}
use Rattle.bounds.proofs.Program.{Test, test}
use Rattle.bounds.proofs.Decode.{block_of, Stands}
use Rattle.bounds.proofs.Blocks.{Same, same_block, few_same, spot}

-- in units: q is a's, r is b's
same_unit : (M q r T B t i j : ℕ) → 0 < M → T < 512 → B < 512 → Test T B t → Stands M (block_of q B) T B t i j → i ≤ q → i ≤ r → r < j
    → block_of r B ≡ block_of q B
same_unit M q r T B t i j m hT hB (inl u) (inl s) a b c = omega arith
same_unit M q r T B t i j m hT hB (inr u) (inl s) a b c = omega arith
same_unit M q r T B t i j m hT hB u (inr s) a b c = omega arith

same_fields : (e T B a b : ℕ) → Exponent e → T < 512 → B < 512 → a < 2 ^ 32 → b < 2 ^ 32 → low_of e B a ≤ a → low_of e B a ≤ b → b < high_of e T B a
    → Same e T B a b
same_fields e T B a b (inr x) hT hB ha hb la lb hh = rw x (few_same T B a b hT hB ha hb)
same_fields e T B a b (inl x) hT hB ha hb la lb hh =
    let (i, j, li, hj, s) = spot e T B a x hT hB ha in
    same_block e T B a b (omega arith) hB
    (same_unit (2 ^ (23 - e)) (a / 2 ^ e) (b / 2 ^ e) T B (less T B) i j (pow_pos (23 - e)) hT hB (test T B) s
    (floor_ge a i (pow_pos e) (rw li at la)) (floor_ge b i (pow_pos e) (rw li at lb)) ((div-lt_iff_lt-mul (pow_pos e)).1 (rw hj at hh)))

pub same_inside : (m a b : ℕ) → a < 2 ^ 32 → b < 2 ^ 32 → low_at a m ≤ a → low_at a m ≤ b → b < high_at a m
    → (low_at b m ≡ low_at a m) × (high_at b m ≡ high_at a m)
unfolding low_at high_at
same_inside m a b ha hb la lb hh =
    same_fields (exponent_of (scale_of m)) (top_of m) (base_of m) a b (exponent_of_lem (scale_of m) (scale_lt m)) (top_lt m) (base_lt m) ha hb la lb hh
