-- A number of n bits with one of them changed is one of n bits: once, over the width. Assumes nothing.
use Rattle.std.proofs.Common.{◌≡◌, ℕ, ◌+◌, ◌-◌, ◌*◌, ◌/◌, ◌%◌, ◌^◌, ◌<◌, ◌≤◌, subst, mul-le-mul_right, mod-lt, arith, pow_pos, pow-add, shr_lt}
use Rattle.words.specs.Words.{with_bit}
use Rattle.words.proofs.Bits.{with_bit_is}

pub with_bit_lt : (n b k v : ℕ) → b < 2 ^ n → k < n → with_bit b k v < 2 ^ n
with_bit_lt n b k v hb hk =
    let j : ℕ = n - k - 1 in
    let e : 1 + j + k ≡ n = omega arith in
    let q : b / 2 ^ k < 2 ^ (1 + j) = shr_lt (1 + j) k (rw e hb) in
    let p = pow-add 2 1 j in
    let l : b / 2 ^ k / 2 * 2 + v % 2 + 1 ≤ 2 ^ (1 + j) = omega arith in
    let m = mul-le-mul_right (2 ^ k) l in
    let r : 2 ^ n ≡ 2 ^ (1 + j) * 2 ^ k = subst (λ (x : ℕ). 2 ^ x ≡ 2 ^ (1 + j) * 2 ^ k) e (pow-add 2 (1 + j) k) in
    rw (with_bit_is b k v) (omega (arith, mod-lt b (pow_pos k)))
