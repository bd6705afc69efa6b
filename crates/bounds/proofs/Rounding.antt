-- Rounding to multiples of a unit, and units that divide one another. Assumes nothing.
use Rattle.std.proofs.Common.{◌≡◌, ℕ, zero, ◌+◌, ◌-◌, ◌*◌, ◌/◌, ◌^◌, ◌<◌, ◌≤◌, ap, mul-le-mul_right, mul_assoc, div-lt_iff_lt-mul, le-div_iff_mul-le}
use Rattle.std.proofs.Common.{sub-add_cancel, div-mul-le_self, arith, pow-add}
use native.Mathlib.Nat.{lt-div-mul-add}

-- x over p, rounded down: k * p ≤ x exactly for the k up to it
pub floor_ge : (x k : ℕ) {p : ℕ} → zero < p → k * p ≤ x → k ≤ x / p
floor_ge x k hp h = (le-div_iff_mul-le hp).1 h

-- x over p, rounded up: x ≤ k * p exactly for the k from it on
pub ceil_ge : (x : ℕ) {p : ℕ} → zero < p → x ≤ (x + (p - 1)) / p * p
ceil_ge x {p} hp = omega (arith, lt-div-mul-add {a = x + (p - 1)} {b = p} hp)

pub ceil_le : (x k : ℕ) {p : ℕ} → zero < p → x ≤ k * p → (x + (p - 1)) / p ≤ k
ceil_le x k {p} hp h =
    let l : x + (p - 1) < (k + 1) * p = omega arith in
    let m : (x + (p - 1)) / p < k + 1 = (div-lt_iff_lt-mul hp).1 l in
    omega arith

-- the larger unit rounds further: p = k * q
pub floor_nest : (x k : ℕ) {p q : ℕ} → zero < q → p ≡ k * q → x / p * p ≤ x / q * q
floor_nest x k {p} {q} hq e =
    let m : x / p * (k * q) ≤ x = rw (← e) (div-mul-le_self x p) in
    let n : x / p * k ≤ x / q = floor_ge x (x / p * k) hq (rw mul_assoc m) in
    rw (ap (λ y. x / p * y) e) (rw (← mul_assoc) (mul-le-mul_right q n))

pub ceil_nest : (x k : ℕ) {p q : ℕ} → zero < p → zero < q → p ≡ k * q → (x + (q - 1)) / q * q ≤ (x + (p - 1)) / p * p
ceil_nest x k {p} {q} hp hq e =
    let c : ℕ = (x + (p - 1)) / p in
    let m : x ≤ c * (k * q) = rw (← e) (ceil_ge x hp) in
    let n : (x + (q - 1)) / q ≤ c * k = ceil_le x (c * k) hq (rw mul_assoc m) in
    rw (ap (λ y. c * y) e) (rw (← mul_assoc) (mul-le-mul_right q n))

-- of two powers, the larger is a multiple of the smaller
pub pow_split : {i j : ℕ} → i ≤ j → 2 ^ j ≡ 2 ^ (j - i) * 2 ^ i
pow_split {i} {j} h = rw (← pow-add 2 (j - i) i, sub-add_cancel h)
