-- The arithmetic shift of the signed number that a word stands for is the definition's: by the sign, a word or its complement is shifted.
-- Assumes nothing.
use Rattle.std.proofs.Common.{◌≡◌, ℕ, suc, ◌-◌, ◌/◌, ◌%◌, ◌^◌, ◌<◌, ◌≤◌, ltb, ltb-true, ltb-false, Bool, true, false, refl, ◌∙◌, arith}
use Rattle.std.proofs.lemmas.Int.{of_z-to_z, to_z_pos}
use Rattle.std.proofs.lemmas.Nat.{shr_le}
use Rattle.std.specs.Int.Signed.{shr_z}
use lib.IntN.{ℤ, pos, negsuc}
use mir.Syntax.{w32}
use mir.Val.{of_z, to_z}
use Rattle.words.specs.Words.{sra_of}

-- the word of a shifted signed number
abbrev shifted : (z : ℤ) (k : ℕ) → ℕ
shifted z k = of_z w32 (to_z w32 (of_z w32 (shr_z z (2 ^ (k % 32)))))

shifted_is : (a k : ℕ) → a < 2 ^ 32 → shifted (to_z w32 a) k ≡ sra_of a k
unfolding sra_of
shifted_is a k h = go (ltb a 2147483648) refl
  where
    go : (t : Bool) → ltb a 2147483648 ≡ t → shifted (to_z w32 a) k ≡ sra_of a k
    go true t =
        let e : to_z w32 a ≡ pos a = to_z_pos w32 a (ltb-true a 2147483648 t) in
        rw (e, t) (of_z-to_z w32 (a / 2 ^ (k % 32)) (omega (arith, h, shr_le a (k % 32))))
    go false t =
        let e : to_z w32 a ≡ negsuc (2 ^ 32 - suc a) = rw t refl in
        let f : 2 ^ 32 - suc a ≡ 4294967295 - a = omega arith in
        let q : ℕ = (4294967295 - a) / 2 ^ (k % 32) in
        rw (e, f, t) (of_z-to_z w32 (2 ^ 32 - suc q) (omega arith) ∙ omega arith)

pub sra_is : (a k : ℕ) (z : ℤ) (r : ℕ) → a < 2 ^ 32 → z ≡ to_z w32 a → r ≡ shifted (to_z w32 (of_z w32 z)) k → r ≡ sra_of a k
sra_is a k z r h e f = f ∙ rw (e, of_z-to_z w32 a h) (shifted_is a k h)
