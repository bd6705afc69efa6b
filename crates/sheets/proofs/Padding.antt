-- Names in sixteen bytes: letters, and zeros after them.
-- Assumes nothing.
use mathlib.Core.Bool.{Bool, true, false, cond, ◌&&◌, and-eq-true_iff}
use mathlib.Core.Path.{◌≡◌, refl, sym, ap}
use mathlib.Core.List.{List, [], ◌∷◌, ◌++◌, append_assoc}
use Prim.Native.Nat.{ℕ, zero, suc, ◌+◌, ◌-◌, ◌≤◌, ◌<◌}
use native.Mathlib.Numerals.{add-one}
use native.Mathlib.Omega.{arith}
use borrow.Author.Tests.{eqb-true}
use lib.Dec.{eqb}
use lib.ListN.{length, get_or, take, drop, set, replicate, length-append, length-drop}
use lib.Seq.{get_or-drop, length-take-le, take-suc}
use Rattle.sheets.specs.Sheet.{is_letter, letters_of, all_zero}
use Rattle.sheets.specs.Scanning.{padded}

unfoldable pub all_letters : List ℕ → Bool
all_letters [] = true
all_letters (b ∷ l) = is_letter b && all_letters l

pub letters_append : (l : List ℕ) (b : ℕ) → all_letters l ≡ true → is_letter b ≡ true → all_letters (l ++ (b ∷ [])) ≡ true
unfolding all_letters
letters_append [] b h k = rw k
letters_append (x ∷ l) b h k =
    let t = (and-eq-true_iff (is_letter x) (all_letters l)).0 h in
    rw t.0 (letters_append l b t.1 k)

set_at : (p q : List ℕ) (x b : ℕ) → set (p ++ (x ∷ q)) (length p) b ≡ p ++ (b ∷ q)
set_at [] q x b = refl
set_at (y ∷ p) q x b = ap (λ (l : List ℕ). y ∷ l) (set_at p q x b)

-- a letter more
pub set_padded : (p : List ℕ) (b : ℕ) → length p < 16 → set (padded p) (length p) b ≡ padded (p ++ (b ∷ []))
unfolding padded
set_padded p b h = go (15 - length p) (omega arith) (omega (arith, length-append p (b ∷ [])))
  where
    go : (m : ℕ) → 16 - length p ≡ suc m → 16 - length (p ++ (b ∷ [])) ≡ m
        → set (p ++ replicate (16 - length p) 0) (length p) b ≡ (p ++ (b ∷ [])) ++ replicate (16 - length (p ++ (b ∷ []))) 0
    go m e f = rw (e, f, append_assoc) (set_at p (replicate m 0) 0 b)

-- a byte more of a name that is copied from a text
pub name_turn : (text : List ℕ) (at i : ℕ) → at + i < length text → i < 16
    → set (padded (take i (drop at text))) i (get_or text (at + i) 0) ≡ padded (take (i + 1) (drop at text))
name_turn text at i h k =
    let d = drop at text in
    let m : i < length d = simp length-drop (omega arith) in
    let n : length (take i d) ≡ i = length-take-le i d (omega arith) in
    let g : get_or d i 0 ≡ get_or text (at + i) 0 = get_or-drop at text i 0 in
    let e : take (i + 1) d ≡ take i d ++ (get_or text (at + i) 0 ∷ []) = rw (add-one i, take-suc d i 0 m, g) in
    rw e (rw n at (set_padded (take i d) (get_or text (at + i) 0) (omega arith)))

letters_zeros : (m : ℕ) → letters_of (replicate m 0) ≡ []
unfolding letters_of is_letter
letters_zeros zero = refl
letters_zeros (suc m) = refl

letters_of_lem : (l : List ℕ) (m : ℕ) → all_letters l ≡ true → letters_of (l ++ replicate m 0) ≡ l
unfolding letters_of all_letters
letters_of_lem [] m h = letters_zeros m
letters_of_lem (b ∷ l) m h =
    let t = (and-eq-true_iff (is_letter b) (all_letters l)).0 h in
    rw t.0 (ap (λ (x : List ℕ). b ∷ x) (letters_of_lem l m t.1))

pub letters_padded : (l : List ℕ) → all_letters l ≡ true → letters_of (padded l) ≡ l
unfolding padded
letters_padded l h = letters_of_lem l (16 - length l) h

pub letters_all : (l : List ℕ) → all_letters (letters_of l) ≡ true
unfolding letters_of all_letters
letters_all [] = refl
letters_all (b ∷ l) = go (is_letter b) refl (letters_all l)
  where
    go : (t : Bool) → is_letter b ≡ t → all_letters (letters_of l) ≡ true → all_letters (cond t (b ∷ letters_of l) []) ≡ true
    go true e r = rw e r
    go false e r = refl

letters_split : (l : List ℕ) → letters_of l ++ drop (length (letters_of l)) l ≡ l
unfolding letters_of
letters_split [] = refl
letters_split (b ∷ l) = go (is_letter b) (letters_split l)
  where
    go : (t : Bool) → letters_of l ++ drop (length (letters_of l)) l ≡ l
        → cond t (b ∷ letters_of l) [] ++ drop (length (cond t (b ∷ letters_of l) [])) (b ∷ l) ≡ b ∷ l
    go true r = ap (λ (x : List ℕ). b ∷ x) r
    go false r = refl

zero_zeros : (l : List ℕ) → all_zero l ≡ true → l ≡ replicate (length l) 0
unfolding all_zero
zero_zeros [] h = refl
zero_zeros (b ∷ l) h =
    let t = (and-eq-true_iff (eqb b 0) (all_zero l)).0 h in
    rw (eqb-true b 0 t.0) (ap (λ (x : List ℕ). 0 ∷ x) (zero_zeros l t.1))

pub zeros_zero : (m : ℕ) → all_zero (replicate m 0) ≡ true
unfolding all_zero
zeros_zero zero = refl
zeros_zero (suc m) = zeros_zero m

-- a name of sixteen bytes, with zeros after its letters
pub name_padded : (n : List ℕ) → length n ≡ 16 → all_zero (drop (length (letters_of n)) n) ≡ true → n ≡ padded (letters_of n)
unfolding padded
name_padded n e h =
    let z = zero_zeros (drop (length (letters_of n)) n) h in
    let w : letters_of n ++ replicate (length (drop (length (letters_of n)) n)) 0 ≡ n = rw (← z) (letters_split n) in
    rw (length-drop, e) at (sym w)

pub name_length_lem : (n : List ℕ) → length n ≡ 16 → length (letters_of n) ≤ 16
name_length_lem n e = omega (arith, simp length-append at (ap length (letters_split n)))
