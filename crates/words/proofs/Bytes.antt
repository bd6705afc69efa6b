-- Laws of n little-endian bytes, once over n: what a store keeps, and what is read back.
use Rattle.std.proofs.Common.{◌≡◌, ℕ, zero, suc, ◌+◌, ◌*◌, ◌/◌, ◌%◌, ◌^◌, ◌<◌, ◌≤◌, eqb, ltb, List, length, get_or, set, refl, ◌∙◌, mul-le-mul_right, arith}
use Rattle.std.proofs.Common.{length-set, get_or-set_other, get_or-set_same, pow-add, ltb-false, ltb-true, eqb-true}
use lib.Seq.{set_out}
use lib.Pow.{mod-pow-add}
use borrow.Author.Tests.{eqb-false}
use Rattle.words.specs.Words.{le_bytes, set_bytes, Bytes}
use Rattle.words.proofs.Word.{by_test}

pub length_set_bytes : (n : ℕ) (m : List ℕ) (i v : ℕ) → length (set_bytes n m i v) ≡ length m
unfolding set_bytes
length_set_bytes zero m i v = refl
length_set_bytes (suc n) m i v = length-set (set_bytes n m i v) (i + n) _ ∙ length_set_bytes n m i v

-- a byte outside the n bytes at i is as it was
pub get_d_set_bytes_other : (n : ℕ) (m : List ℕ) (i v j : ℕ) → (i ≤ j → i + n ≤ j) → get_or (set_bytes n m i v) j 0 ≡ get_or m j 0
unfolding set_bytes
get_d_set_bytes_other zero m i v j h = refl
get_d_set_bytes_other (suc n) m i v j h =
    get_or-set_other (set_bytes n m i v) (i + n) j _ 0 (λ e. absurd (omega (arith, h (omega arith))))
    ∙ get_d_set_bytes_other n m i v j (λ l. omega (arith, h l))

-- byte k of the n bytes at i is byte k of the value
pub get_d_set_bytes_same : (n : ℕ) (m : List ℕ) (i v k : ℕ) → k < n → i + n ≤ length m → get_or (set_bytes n m i v) (i + k) 0 ≡ v / 2 ^ (8 * k) % 256
unfolding set_bytes
get_d_set_bytes_same zero m i v k h l = absurd (omega arith)
get_d_set_bytes_same (suc n) m i v k h l =
    by_test (eqb k n)
    (λ t. rw (eqb-true k n t) (get_or-set_same (set_bytes n m i v) (i + n) _ 0 (omega (arith, length_set_bytes n m i v))))
    (λ t. let d = eqb-false k n t in
    get_or-set_other (set_bytes n m i v) (i + n) (i + k) _ 0 (λ e. d (omega arith))
    ∙ get_d_set_bytes_same n m i v k (below k n h d) (omega arith))
  where
    below : (k n : ℕ) → k < suc n → (k ≡ n → ⊥) → k < n
    below k n h d = by_test (ltb k n) (λ t. ltb-true k n t) (λ t. absurd (d (omega (arith, ltb-false k n t))))

-- n bytes read depend on nothing else
pub le_bytes_same : (n : ℕ) (a b : List ℕ) (i : ℕ) → ((k : ℕ) → k < n → get_or a (i + k) 0 ≡ get_or b (i + k) 0) → le_bytes n a i ≡ le_bytes n b i
unfolding le_bytes
le_bytes_same zero a b i h = refl
le_bytes_same (suc n) a b i h = rw (le_bytes_same n a b i (λ k l. h k (omega arith)), h n (omega arith))

-- a number is made of its bytes
le_bytes_digits : (n : ℕ) (a : List ℕ) (i v : ℕ) → ((k : ℕ) → k < n → get_or a (i + k) 0 ≡ v / 2 ^ (8 * k) % 256) → le_bytes n a i ≡ v % 2 ^ (8 * n)
unfolding le_bytes
le_bytes_digits zero a i v h = omega arith
le_bytes_digits (suc n) a i v h =
    let e : 8 * suc n ≡ 8 + 8 * n = omega arith in
    let s = mod-pow-add v 8 (8 * n) in
    rw (e, s, le_bytes_digits n a i v (λ k l. h k (omega arith)), h n (omega arith)) (omega arith)

-- what was stored is read back, and apart from it a read is as it was
pub le_bytes_set_bytes_same : (n : ℕ) (m : List ℕ) (i v : ℕ) → i + n ≤ length m → le_bytes n (set_bytes n m i v) i ≡ v % 2 ^ (8 * n)
le_bytes_set_bytes_same n m i v l = le_bytes_digits n (set_bytes n m i v) i v (λ k h. get_d_set_bytes_same n m i v k h l)

pub le_bytes_set_bytes_other : (n k : ℕ) (m : List ℕ) (i j v : ℕ) → (i < j + k → i + n ≤ j) → le_bytes n (set_bytes k m j v) i ≡ le_bytes n m i
le_bytes_set_bytes_other n k m i j v h =
    le_bytes_same n (set_bytes k m j v) m i
    (λ d l. get_d_set_bytes_other k m j v (i + d) (λ g. apart i j k n d g l h))
  where
    apart : (i j k n d : ℕ) → j ≤ i + d → d < n → (i < j + k → i + n ≤ j) → j + k ≤ i + d
    apart i j k n d g l h = by_test (ltb i (j + k)) (λ t. absurd (omega (arith, h (ltb-true i (j + k) t)))) (λ t. omega (arith, ltb-false i (j + k) t))

-- n bytes make a number of 8 n bits
pub le_bytes_lt : (n : ℕ) (m : List ℕ) (i : ℕ) → Bytes m → le_bytes n m i < 2 ^ (8 * n)
unfolding le_bytes
le_bytes_lt zero m i h = omega arith
le_bytes_lt (suc n) m i h =
    let e : 8 * suc n ≡ 8 + 8 * n = omega arith in
    let b = h (i + n) in
    let l = le_bytes_lt n m i h in
    rw (e, pow-add 2 8 (8 * n)) (top (le_bytes n m i) (get_or m (i + n) 0) (2 ^ (8 * n)) l b)
  where
    top : (a b p : ℕ) → a < p → b < 256 → a + b * p < 2 ^ 8 * p
    top a b p l h = omega (arith, mul-le-mul_right {m = b} {n = 255} p (omega arith))

-- a list of bytes stays one
pub set_Bytes : (m : List ℕ) (i v : ℕ) → v < 256 → Bytes m → Bytes (set m i v)
set_Bytes m i v h b j =
    by_test (eqb j i)
    (λ t. rw (eqb-true j i t) (by_test (ltb i (length m))
    (λ s. rw (get_or-set_same m i v 0 (ltb-true i (length m) s)) h)
    (λ s. rw (set_out m i v (ltb-false i (length m) s)) (b i))))
    (λ t. rw (get_or-set_other m i j v 0 (eqb-false j i t)) (b j))

pub set_bytes_Bytes : (n : ℕ) (m : List ℕ) (i v : ℕ) → Bytes m → Bytes (set_bytes n m i v)
unfolding set_bytes
set_bytes_Bytes zero m i v b = b
set_bytes_Bytes (suc n) m i v b = set_Bytes (set_bytes n m i v) (i + n) _ (omega arith) (set_bytes_Bytes n m i v b)
