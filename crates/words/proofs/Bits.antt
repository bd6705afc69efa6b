-- Laws of one bit of a list of bytes: what was put is read back, and no other bit changes.
use Rattle.std.proofs.Common.{◌≡◌, ℕ, ◌+◌, ◌-◌, ◌*◌, ◌/◌, ◌%◌, ◌^◌, ◌<◌, ◌≤◌, eqb, ltb, List, length, get_or, sym, refl, ap, ◌∙◌, subst, mul-le-mul_right}
use Rattle.std.proofs.Common.{mod-lt, arith, length-set, get_or-set_other, get_or-set_same, pow_pos, pow-add, shr-shr, shr_lt, ltb-false, ltb-true, eqb-true}
use native.Mathlib.Nat.{lt-div-mul-add}
use lib.Seq.{set_out}
use lib.Pow.{high, low, field, mod-mod-pow}
use borrow.Author.Tests.{eqb-false}
use Rattle.words.specs.Words.{bit_at, with_bit, put_bit, Bytes}
use Rattle.words.proofs.Word.{by_test}
use Rattle.words.proofs.Bytes.{set_Bytes}

-- a bit below place j + 1 + l is not changed by cutting there
low_bit : (n j l : ℕ) → n % 2 ^ (j + 1 + l) / 2 ^ l % 2 ≡ n / 2 ^ l % 2
low_bit n j l = ap (λ (x : ℕ). x % 2) (field n (j + 1) l) ∙ mod-mod-pow (n / 2 ^ l) j 1

-- a bit put in its place, as a sum
pub with_bit_is : (b k v : ℕ) → with_bit b k v ≡ (b / 2 ^ k / 2 * 2 + v % 2) * 2 ^ k + b % 2 ^ k
unfolding with_bit
with_bit_is b k v = refl

module _ (b k v : ℕ) where
  above : with_bit b k v / 2 ^ k ≡ b / 2 ^ k / 2 * 2 + v % 2
  unfolding with_bit
  above = high (b / 2 ^ k / 2 * 2 + v % 2) k (mod-lt b (pow_pos k))

  below : with_bit b k v % 2 ^ k ≡ b % 2 ^ k
  unfolding with_bit
  below = low (b / 2 ^ k / 2 * 2 + v % 2) k (mod-lt b (pow_pos k))

  pub with_bit_same : with_bit b k v / 2 ^ k % 2 ≡ v % 2
  with_bit_same = rw above (omega arith)

  higher : (j : ℕ) → with_bit b k v / 2 ^ (k + 1 + j) ≡ b / 2 ^ (k + 1 + j)
  higher j =
      let h : with_bit b k v / 2 ^ k / 2 ≡ b / 2 ^ k / 2 = rw above (omega arith) in
      sym (shr-shr (with_bit b k v) (k + 1) j)
      ∙ ap (λ (x : ℕ). x / 2 ^ j) (sym (shr-shr (with_bit b k v) k 1) ∙ h ∙ shr-shr b k 1)
      ∙ shr-shr b (k + 1) j

  lower : (j l : ℕ) → k ≡ j + 1 + l → with_bit b k v / 2 ^ l % 2 ≡ b / 2 ^ l % 2
  lower j l e =
      sym (low_bit (with_bit b k v) j l)
      ∙ ap (λ (x : ℕ). x / 2 ^ l % 2) (subst (λ (x : ℕ). with_bit b k v % 2 ^ x ≡ b % 2 ^ x) e below)
      ∙ low_bit b j l

  pub with_bit_other : (l : ℕ) → (l ≡ k → ⊥) → with_bit b k v / 2 ^ l % 2 ≡ b / 2 ^ l % 2
  with_bit_other l d =
      by_test (ltb l k)
      (λ t. let h = ltb-true l k t in lower (k - l - 1) l (omega arith))
      (λ t. let h = ltb-false l k t in
      by_test (eqb l k) (λ s. absurd (d (eqb-true l k s)))
      (λ s. let e : l ≡ k + 1 + (l - k - 1) = omega arith in rw e (ap (λ (x : ℕ). x % 2) (higher (l - k - 1)))))

  -- a byte stays one
  pub with_bit_byte : b < 256 → k < 8 → with_bit b k v < 256
  with_bit_byte hb hk =
      let e : 1 + (7 - k) + k ≡ 8 = omega arith in
      let q : b / 2 ^ k < 2 ^ (1 + (7 - k)) = shr_lt (1 + (7 - k)) k (rw e hb) in
      let p = pow-add 2 1 (7 - k) in
      let a = above in
      let l : with_bit b k v / 2 ^ k + 1 ≤ 2 ^ (1 + (7 - k)) = omega arith in
      let m = mul-le-mul_right (2 ^ k) l in
      let r : 2 ^ 8 ≡ 2 ^ (1 + (7 - k)) * 2 ^ k = subst (λ (x : ℕ). 2 ^ x ≡ 2 ^ (1 + (7 - k)) * 2 ^ k) e (pow-add 2 (1 + (7 - k)) k) in
      omega (arith, lt-div-mul-add {a = with_bit b k v} {b = 2 ^ k} (pow_pos k))

pub length_put_bit : (t : List ℕ) (g v : ℕ) → length (put_bit t g v) ≡ length t
unfolding put_bit
length_put_bit t g v = length-set t (g / 8) _

pub bit_at_bit : (t : List ℕ) (g : ℕ) → bit_at t g < 2
unfolding bit_at
bit_at_bit t g = omega arith

pub bit_at_put_bit_same : (t : List ℕ) (g v : ℕ) → g < 8 * length t → bit_at (put_bit t g v) g ≡ v % 2
unfolding bit_at put_bit
bit_at_put_bit_same t g v h =
    rw (get_or-set_same t (g / 8) (with_bit (get_or t (g / 8) 0) (g % 8) v) 0 (omega arith)) (with_bit_same (get_or t (g / 8) 0) (g % 8) v)

pub bit_at_put_bit_other : (t : List ℕ) (g v h : ℕ) → (h ≡ g → ⊥) → bit_at (put_bit t g v) h ≡ bit_at t h
unfolding bit_at put_bit
bit_at_put_bit_other t g v h d =
    by_test (eqb (h / 8) (g / 8))
    (λ s. let e = eqb-true (h / 8) (g / 8) s in
    by_test (ltb (g / 8) (length t))
    (λ l. rw (e, get_or-set_same t (g / 8) (with_bit (get_or t (g / 8) 0) (g % 8) v) 0 (ltb-true (g / 8) (length t) l))
    (with_bit_other (get_or t (g / 8) 0) (g % 8) v (h % 8) (λ q. d (omega arith))))
    (λ l. rw (set_out t (g / 8) (with_bit (get_or t (g / 8) 0) (g % 8) v) (ltb-false (g / 8) (length t) l)) refl))
    (λ s. rw (get_or-set_other t (g / 8) (h / 8) (with_bit (get_or t (g / 8) 0) (g % 8) v) 0 (eqb-false (h / 8) (g / 8) s)) refl)

pub put_bit_Bytes : (t : List ℕ) (g v : ℕ) → Bytes t → Bytes (put_bit t g v)
unfolding put_bit
put_bit_Bytes t g v b = set_Bytes t (g / 8) _ (with_bit_byte (get_or t (g / 8) 0) (g % 8) v (b (g / 8)) (omega arith)) b
