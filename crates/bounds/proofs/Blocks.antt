-- Which addresses give a metadata word the same bounds: those of one block, and at exponent 24 all. Assumes nothing.
use Rattle.std.proofs.Common.{◌≡◌, ℕ, ◌+◌, ◌-◌, ◌*◌, ◌/◌, ◌%◌, ◌^◌, ◌<◌, ◌≤◌, Bool, true, false, ◌&&◌, ◌||◌, eqb, ◌⊎◌, ◌↔◌, sym, refl, ap, ◌∙◌, inl, inr}
use Rattle.std.proofs.Common.{eq-zero-or-pos, mul-div_cancel, arith, pow_pos, eq-eqb, eqb-true}
use Rattle.metadata.specs.Word.{scale_of, top_of, base_of}
use Rattle.metadata.proofs.Words.{scale_lt, top_lt, base_lt}
use Rattle.bounds.specs.Bounds.{less, mid_of, up_of, low_of, high_of, low_at, high_at, exponent_of}
use Rattle.bounds.proofs.Exponent.{Exponent, exponent_of_lem, exponent_le}
use Rattle.bounds.proofs.Program.{Test, test}
use Rattle.bounds.proofs.Decode.{whole_space, unit_below, many, block_of, block_up, low_block, high_block, low_at_lem, high_at_lem, Stands, units_many}
use Rattle.bounds.proofs.Decode.{units_few}

-- both bounds at b are those at a
abbrev pub Same : (e T B a b : ℕ) → Type 0
Same e T B a b = (low_of e B b ≡ low_of e B a) × (high_of e T B b ≡ high_of e T B a)

-- the same block gives the same bounds
pub same_block : (e T B a b : ℕ) → e ≤ 24 → B < 512 → block_of (b / 2 ^ e) B ≡ block_of (a / 2 ^ e) B → Same e T B a b
same_block e T B a b l h q = (rw (low_block e B a l h, low_block e B b l h, q), rw (high_block e T B a l h, high_block e T B b l h, q))

-- at exponent 24 the address has no part in the bounds
few_low : (T B a : ℕ) → T < 512 → B < 512 → a < 2 ^ 32 → (low_of 24 B a ≡ B % 256 * 2 ^ 24) × (high_of 24 T B a ≡ T * 2 ^ 24)
few_low T B a hT hB ha =
    let (c, d, f) = units_few (a / 2 ^ 24) T B _ (omega arith) hT hB (test _ _) (eq-zero-or-pos _) in (
      low_at_lem 24 B a 256 c (B % 256) (omega arith) hB refl f.in_space f.starts,
      high_at_lem 24 T B a 256 d T (omega arith) hB refl f.in_twice f.ends,
    )

pub few_same : (T B a b : ℕ) → T < 512 → B < 512 → a < 2 ^ 32 → b < 2 ^ 32 → Same 24 T B a b
few_same T B a b hT hB ha hb =
    let x = few_low T B a hT hB ha in
    let y = few_low T B b hT hB hb in
    (y.0 ∙ sym x.0, y.1 ∙ sym x.1)

-- up to exponent 14 the bounds stand in their block
pub spot : (e T B a : ℕ) → e ≤ 14 → T < 512 → B < 512 → a < 2 ^ 32
    → (i : ℕ) × (j : ℕ) × (low_of e B a ≡ i * 2 ^ e) × (high_of e T B a ≡ j * 2 ^ e) × Stands (2 ^ (23 - e)) (block_of (a / 2 ^ e) B) T B (less T B) i j
spot e T B a x hT hB ha =
    let k = many e x in
    let w : 512 * 2 ^ (23 - e) * 2 ^ e ≡ 2 ^ 32 = rw k at (whole_space {e = e} (inl x)) in
    let (i, j, c, d, (f, s)) = units_many (2 ^ (23 - e)) (a / 2 ^ e) T B _ (rw k at (unit_below (inl x) ha)) hT hB (test _ _) (eq-zero-or-pos _) in (
      i,
      j,
      low_at_lem e B a (512 * 2 ^ (23 - e)) c i (omega arith) hB w f.in_space f.starts,
      high_at_lem e T B a (512 * 2 ^ (23 - e)) d j (omega arith) hB w f.in_twice f.ends,
      s,
    )

-- and the same bounds are of the same block
stands_same : (M r s T B t i j : ℕ) → 0 < M → Test T B t → Stands M r T B t i j → Stands M s T B t i j → s ≡ r
stands_same M r s T B t i j h u (inl x) (inl y) = omega arith
stands_same M r s T B t i j h u (inr x) (inr y) = omega arith
stands_same M r s T B t i j h (inl u) (inl x) (inr y) = omega (arith, ap (λ z. (1 - z) * (1024 * M)) u.1)
stands_same M r s T B t i j h (inl u) (inr x) (inl y) = omega (arith, ap (λ z. (1 - z) * (1024 * M)) u.1)
stands_same M r s T B t i j h (inr u) (inl x) (inr y) = omega (arith, ap (λ z. (1 - z) * (1024 * M)) u.1)
stands_same M r s T B t i j h (inr u) (inr x) (inl y) = omega (arith, ap (λ z. (1 - z) * (1024 * M)) u.1)

unit_cancel : (e m i : ℕ) → m * 2 ^ e ≡ i * 2 ^ e → m ≡ i
unit_cancel e m i q = sym (mul-div_cancel m (pow_pos e)) ∙ ap (λ x. x / 2 ^ e) q ∙ mul-div_cancel i (pow_pos e)

pub block_of_same : (e T B a b : ℕ) → e ≤ 14 → T < 512 → B < 512 → a < 2 ^ 32 → b < 2 ^ 32 → Same e T B a b → block_of (b / 2 ^ e) B ≡ block_of (a / 2 ^ e) B
block_of_same e T B a b x hT hB ha hb q =
    let (i, j, li, hj, s) = spot e T B a x hT hB ha in
    let (m, n, lm, hn, r) = spot e T B b x hT hB hb in
    let im : m ≡ i = unit_cancel e m i (sym lm ∙ q.0 ∙ li) in
    let jn : n ≡ j = unit_cancel e n j (sym hn ∙ q.1 ∙ hj) in
    stands_same (2 ^ (23 - e)) _ _ T B _ i j (pow_pos (23 - e)) (test T B) s (rw (im, jn) at r)

-- ---- both bounds are the same exactly at exponent 24, or in the same block

same_fields : (e T B a b : ℕ) → Exponent e → T < 512 → B < 512 → a < 2 ^ 32 → b < 2 ^ 32
    → Same e T B a b ↔ ((e ≡ 24) ⊎ (block_of (b / 2 ^ e) B ≡ block_of (a / 2 ^ e) B))
same_fields e T B a b x hT hB ha hb = (to x, back)
  where
    to : Exponent e → Same e T B a b → (e ≡ 24) ⊎ (block_of (b / 2 ^ e) B ≡ block_of (a / 2 ^ e) B)
    to (inl l) s = inr (block_of_same e T B a b l hT hB ha hb s)
    to (inr l) s = inl l

    back : (e ≡ 24) ⊎ (block_of (b / 2 ^ e) B ≡ block_of (a / 2 ^ e) B) → Same e T B a b
    back (inl l) = rw l (few_same T B a b hT hB ha hb)
    back (inr q) = same_block e T B a b (exponent_le x) hB q

-- for every metadata word
pub same_blocks : (a b w : ℕ) → a < 2 ^ 32 → b < 2 ^ 32
    → ((low_at b w ≡ low_at a w) × (high_at b w ≡ high_at a w))
    ↔ ((exponent_of (scale_of w) ≡ 24) ⊎ (block_of (b / 2 ^ exponent_of (scale_of w)) (base_of w) ≡ block_of (a / 2 ^ exponent_of (scale_of w)) (base_of w)))
unfolding low_at high_at
same_blocks a b w ha hb =
    same_fields (exponent_of (scale_of w)) (top_of w) (base_of w) a b (exponent_of_lem (scale_of w) (scale_lt w)) (top_lt w) (base_lt w) ha hb

-- The same block is the same `up - h`, here with no difference.
pub same_up : (e B a b : ℕ) → B < 512 → (block_of (b / 2 ^ e) B ≡ block_of (a / 2 ^ e) B) ↔ (up_of e b + less (mid_of e a) B ≡ up_of e a + less (mid_of e b) B)
same_up e B a b l =
    let p = block_up e B a l in
    let q = block_up e B b l in
    (λ h. omega arith, λ h. omega arith)

-- ---- the law as tests

both : (x y t : Bool) → (x ≡ true → y ≡ true → t ≡ true) → (t ≡ true → (x ≡ true) × (y ≡ true)) → x && y ≡ t
both true true t f g = sym (f refl refl)
both true false true f g = (g refl).1
both true false false f g = refl
both false y true f g = (g refl).0
both false y false f g = refl

either : (x y : Bool) → (x || y ≡ true) ↔ ((x ≡ true) ⊎ (y ≡ true))
either true y = (λ h. inl refl, λ h. refl)
either false y = (λ h. inr h, back)
  where
    back : (false ≡ true) ⊎ (y ≡ true) → y ≡ true
    back (inl h) = let z : ◌≡◌ {A = ℕ} 0 1 = cc in absurd (omega arith)
    back (inr h) = h

either_equal : (a b c d : ℕ) → (eqb a b || eqb c d ≡ true) ↔ ((a ≡ b) ⊎ (c ≡ d))
either_equal a b c d = (λ h. to ((either (eqb a b) (eqb c d)).0 h), λ h. (either (eqb a b) (eqb c d)).1 (back h))
  where
    to : (eqb a b ≡ true) ⊎ (eqb c d ≡ true) → (a ≡ b) ⊎ (c ≡ d)
    to (inl h) = inl (eqb-true a b h)
    to (inr h) = inr (eqb-true c d h)

    back : (a ≡ b) ⊎ (c ≡ d) → (eqb a b ≡ true) ⊎ (eqb c d ≡ true)
    back (inl h) = inl (eq-eqb a b h)
    back (inr h) = inr (eq-eqb c d h)

pub same_test : (a b w : ℕ) → a < 2 ^ 32 → b < 2 ^ 32
    → eqb (low_at b w) (low_at a w) && eqb (high_at b w) (high_at a w)
    ≡ (eqb (exponent_of (scale_of w)) 24 || eqb (block_of (b / 2 ^ exponent_of (scale_of w)) (base_of w))
    (block_of (a / 2 ^ exponent_of (scale_of w)) (base_of w)))
same_test a b w ha hb =
    let s = same_blocks a b w ha hb in
    let e : ℕ = exponent_of (scale_of w) in
    let t = either_equal e 24 (block_of (b / 2 ^ e) (base_of w)) (block_of (a / 2 ^ e) (base_of w)) in
    both _ _ _ (λ p q. t.1 (s.0 (eqb-true (low_at b w) (low_at a w) p, eqb-true (high_at b w) (high_at a w) q)))
    (λ h. let r = s.1 (t.0 h) in (eq-eqb (low_at b w) (low_at a w) r.0, eq-eqb (high_at b w) (high_at a w) r.1))
