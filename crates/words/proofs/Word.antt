-- Each result is a word, and the signed order is the signed order.
use Rattle.std.proofs.Common.{◌≡◌, ℕ, ◌+◌, ◌*◌, ◌/◌, ◌%◌, ◌^◌, ◌<◌, ◌≤◌, Bool, true, false, ltb, refl, mod-lt, mod-eq_of_lt, arith, pow_pos, pow_mono}
use Rattle.std.proofs.Common.{ltb-false, ltb-true, le-ltb, lt-ltb}
use native.Mathlib.Nat.{mod-le}
use lib.Pow.{shr_le}
use Rattle.words.specs.Words.{sign_extend, sll_of, srl_of, sra_of, flip, less_signed, slt_of, sltu_of}

-- to split on a test, with what it tells
pub by_test : {P : Type 0} (t : Bool) → (t ≡ true → P) → (t ≡ false → P) → P
by_test true f g = f refl
by_test false f g = g refl

pub sign_extend_word : (x n : ℕ) → x < 2 ^ 32 → sign_extend x n < 2 ^ 32
unfolding sign_extend
sign_extend_word x n h =
    let l = mod-le x (2 ^ n) in
    let p = mod-lt x (pow_pos n) in
    by_test (ltb (2 * (x % 2 ^ n)) (2 ^ n)) (λ t. rw t (omega arith)) (λ t. rw t (omega arith))

pub sign_extend_all : (x n : ℕ) → x < 2 ^ 32 → 32 ≤ n → sign_extend x n ≡ x
unfolding sign_extend
sign_extend_all x n h g =
    let p = pow_mono {i = 32} {j = n} g in
    rw (mod-eq_of_lt {n = x} {m = 2 ^ n} (omega arith))
    (by_test (ltb (2 * x) (2 ^ n)) (λ t. rw t refl) (λ t. rw t (omega arith)))

pub sll_word : (a k : ℕ) → sll_of a k < 2 ^ 32
sll_word a k = omega arith

pub srl_word : (a k : ℕ) → a < 2 ^ 32 → srl_of a k < 2 ^ 32
srl_word a k h = omega (arith, shr_le a (k % 32))

pub sra_word : (a k : ℕ) → sra_of a k < 2 ^ 32
unfolding sra_of
sra_word a k =
    by_test (ltb a 2147483648)
    (λ t. rw t (omega (arith, shr_le a (k % 32), ltb-true a 2147483648 t)))
    (λ t. rw t (omega arith))

pub slt_bit : (a b : ℕ) → slt_of a b < 2
unfolding slt_of
slt_bit a b = by_test (ltb ((a + 2147483648) % 2 ^ 32) ((b + 2147483648) % 2 ^ 32)) (λ t. rw t (omega arith)) (λ t. rw t (omega arith))

pub sltu_bit : (a b : ℕ) → sltu_of a b < 2
unfolding sltu_of
sltu_bit a b = by_test (ltb a b) (λ t. rw t (omega arith)) (λ t. rw t (omega arith))

-- on one side of zero the signed order is the order, and a negative word is below one that is not
pub less_signed_same : (a b : ℕ) → a < 2 ^ 32 → b < 2 ^ 32 → a / 2 ^ 31 ≡ b / 2 ^ 31 → less_signed a b ≡ ltb a b
less_signed_same a b ha hb e =
    by_test (ltb a b)
    (λ t. rw t (lt-ltb (flip a) (flip b) (omega (arith, ltb-true a b t))))
    (λ t. rw t (le-ltb (flip a) (flip b) (omega (arith, ltb-false a b t))))

pub less_signed_across : (a b : ℕ) → a < 2 ^ 31 → 2 ^ 31 ≤ b → b < 2 ^ 32 → (less_signed a b ≡ false) × (less_signed b a ≡ true)
less_signed_across a b ha hb h = (le-ltb (flip a) (flip b) (omega arith), lt-ltb (flip b) (flip a) (omega arith))
