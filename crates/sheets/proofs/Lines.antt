-- A line's bytes and the region that they say: each formed region's line reads as that region, and a line that reads as a region is that region's line.
-- Assumes nothing.
use mathlib.Core.Bool.{Bool, true, false, cond, and-eq-true_iff}
use mathlib.Core.Path.{◌≡◌, refl, sym, ap, ◌∙◌}
use mathlib.Core.Logic.{◌⊎◌, inl, inr}
use mathlib.Core.List.{List, [], ◌∷◌, ◌++◌, append_assoc, append-nil}
use Prim.Native.Nat.{ℕ, zero, suc, ◌+◌, ◌-◌, ◌*◌, ◌/◌, ◌%◌, ◌^◌, ◌≤◌, ◌<◌}
use native.Mathlib.Nat.{add-zero, zero-add}
use native.Mathlib.Numerals.{add-one}
use native.Mathlib.Omega.{arith}
use borrow.Author.Tests.{lt-ltb, ltb-true, ltb-false, eq-eqb, eqb-true}
use lib.Dec.{ltb, eqb}
use lib.ListN.{length, get_or, take, drop, replicate, length-append, length-replicate}
use lib.Seq.{take-suc, take-append_seam, append_snoc, drop_at}
use Rattle.text.specs.Digits.{digit_of, glyph, digits}
use Rattle.text.specs.Writing.{tab}
use Rattle.sheets.specs.Sheet.{word, is_letter, letters_of, name_of, all_zero, rights_text, line_text, formed}
use Rattle.sheets.specs.Scanning.{scan, start_scan, spoiled, in_word, in_name, in_number, in_start, in_size, in_rights, right_of, with_digit, advanced}
use Rattle.sheets.specs.Scanning.{line_read, whole}
use Rattle.sheets.specs.Scanning.{padded, name_place, region_in, scan_of, region_of}
use Rattle.sheets.specs.declared.Field.TheVariants.{Word, Name, Start, Size, Rights}
use Rattle.sheets.specs.declared.Scan.{Scan}
use Rattle.sheets.specs.declared.Region.{Region}
use Rattle.sheets.proofs.Padding.{all_letters, letters_append, letters_padded, letters_all, name_padded, name_length_lem, zeros_zero}
use Rattle.sheets.proofs.Digits.{digit_glyph, glyph_digit, digits_more, more_below, less_below, seven}

-- ---- from the bytes to the region

-- the bytes p of a line, read from its start, left the state s, and the line may yet be well-formed
pub data Held : Scan → List ℕ → Type 0 where
  held_word : (n : ℕ) → n ≤ 6 → Held (scan Word n 0 0 0 0) (take n word)
  held_name : (l : List ℕ) → length l ≤ 16 → all_letters l ≡ true → Held (scan Name (length l) 0 0 0 0) (word ++ (tab ∷ l))
  held_start : (l : List ℕ) → 0 < length l → length l ≤ 16 → all_letters l ≡ true → (n a : ℕ) → n ≤ 8 → a < 16 ^ n
      → Held (scan Start n (length l) a 0 0) (word ++ (tab ∷ l) ++ (tab ∷ digits 16 n a))
  held_size : (l : List ℕ) → 0 < length l → length l ≤ 16 → all_letters l ≡ true → (a : ℕ) → a < 2 ^ 32 → (n b : ℕ) → n ≤ 8 → b < 16 ^ n
      → Held (scan Size n (length l) a b 0) (word ++ (tab ∷ l) ++ (tab ∷ digits 16 8 a) ++ (tab ∷ digits 16 n b))
  held_rights : (l : List ℕ) → 0 < length l → length l ≤ 16 → all_letters l ≡ true → (a b c : ℕ) → a < 2 ^ 32 → b < 2 ^ 32 → c < 8
      → Held (scan Rights 0 (length l) a b c) (word ++ (tab ∷ l) ++ (tab ∷ digits 16 8 a) ++ (tab ∷ digits 16 8 b) ++ (tab ∷ rights_text c))

abbrev Step : Scan → List ℕ → ℕ → Type 0
Step s p b = (advanced s b ≡ spoiled) ⊎ Held (advanced s b) (p ++ (b ∷ []))

-- the end of a field's text
snoc : (p q : List ℕ) (b : ℕ) → (p ++ (tab ∷ q)) ++ (b ∷ []) ≡ p ++ (tab ∷ (q ++ (b ∷ [])))
snoc p q b = append_assoc p (tab ∷ q) (b ∷ [])

step_word : (n : ℕ) → n ≤ 6 → (b : ℕ) → Step (scan Word n 0 0 0 0) (take n word) b
unfolding advanced in_word all_letters
step_word n h b = go (ltb n 6) refl
  where
    S : Bool → Scan
    S t = cond t (cond (eqb b (get_or word n 0)) (scan Word (n + 1) 0 0 0 0) spoiled) (cond (eqb b tab) (scan Name 0 0 0 0 0) spoiled)

    more : (u : Bool) → eqb b (get_or word n 0) ≡ u → n < 6
        → (cond u (scan Word (n + 1) 0 0 0 0) spoiled ≡ spoiled) ⊎ Held (cond u (scan Word (n + 1) 0 0 0 0) spoiled) (take n word ++ (b ∷ []))
    more true e k =
        let t : take n word ++ (get_or word n 0 ∷ []) ≡ take (n + 1) word = sym (take-suc word n 0 k) ∙ ap (λ (m : ℕ). take m word) (sym (add-one n)) in
        inr (rw (eqb-true b (get_or word n 0) e, t) (held_word (n + 1) (omega arith)))
    more false e k = inl refl

    last : (u : Bool) → eqb b tab ≡ u → n ≡ 6
        → (cond u (scan Name 0 0 0 0 0) spoiled ≡ spoiled) ⊎ Held (cond u (scan Name 0 0 0 0 0) spoiled) (take n word ++ (b ∷ []))
    last true e k = inr (rw (eqb-true b tab e, k) (held_name [] (omega arith) refl))
    last false e k = inl refl

    go : (t : Bool) → ltb n 6 ≡ t → (S t ≡ spoiled) ⊎ Held (S t) (take n word ++ (b ∷ []))
    go true e = more (eqb b (get_or word n 0)) refl (ltb-true n 6 e)
    go false e = last (eqb b tab) refl (omega (arith, ltb-false n 6 e))

step_name : (l : List ℕ) → length l ≤ 16 → all_letters l ≡ true → (b : ℕ) → Step (scan Name (length l) 0 0 0 0) (word ++ (tab ∷ l)) b
unfolding advanced in_name digits
step_name l h a b = go (is_letter b) refl
  where
    P : List ℕ
    P = (word ++ (tab ∷ l)) ++ (b ∷ [])

    named : Scan
    named = scan Name (length l + 1) 0 0 0 0

    next : Scan
    next = scan Start 0 (length l) 0 0 0

    letter : (u : Bool) → ltb (length l) 16 ≡ u → is_letter b ≡ true → (cond u named spoiled ≡ spoiled) ⊎ Held (cond u named spoiled) P
    letter true e k =
        let n : length (l ++ (b ∷ [])) ≡ length l + 1 = length-append l (b ∷ []) in
        inr (rw (snoc word l b, ← n) (held_name (l ++ (b ∷ [])) (omega (arith, ltb-true (length l) 16 e)) (letters_append l b a k)))
    letter false e k = inl refl

    some : (u : Bool) → ltb 0 (length l) ≡ u → b ≡ tab → (cond u next spoiled ≡ spoiled) ⊎ Held (cond u next spoiled) P
    some true e k = inr (rw k (held_start l (ltb-true 0 (length l) e) h a 0 0 (omega arith) (omega arith)))
    some false e k = inl refl

    other : (u : Bool) → eqb b tab ≡ u
        → (cond u (cond (ltb 0 (length l)) next spoiled) spoiled ≡ spoiled) ⊎ Held (cond u (cond (ltb 0 (length l)) next spoiled) spoiled) P
    other true e = some (ltb 0 (length l)) refl (eqb-true b tab e)
    other false e = inl refl

    S : Bool → Scan
    S t = cond t (cond (ltb (length l) 16) named spoiled) (cond (eqb b tab) (cond (ltb 0 (length l)) next spoiled) spoiled)

    go : (t : Bool) → is_letter b ≡ t → (S t ≡ spoiled) ⊎ Held (S t) P
    go true e = letter (ltb (length l) 16) refl e
    go false e = other (eqb b tab) refl

with_digit_lem : (n v b : ℕ) → n < 8 → v < 16 ^ n → digit_of b < 16
    → (with_digit v b ≡ v * 16 + digit_of b) × (with_digit v b < 16 ^ (n + 1)) × (digits 16 (n + 1) (with_digit v b) ≡ digits 16 n v ++ (b ∷ []))
with_digit_lem n v b h k d =
    let e : with_digit v b ≡ v * 16 + digit_of b = omega (arith, seven n v h k) in
    (e, rw e (more_below n v (digit_of b) k d), rw (e, digits_more n v (digit_of b) d, glyph_digit b d))

pub read_append : (s : Scan) (a b : List ℕ) → line_read s (a ++ b) ≡ line_read (line_read s a) b
unfolding line_read
read_append s [] b = refl
read_append s (x ∷ a) b = read_append (advanced s x) a b

-- ---- a number's field: F in its state after n digits, and the state of the field after it
record Number (F : (count value : ℕ) → Scan) (next : (value : ℕ) → Scan) : Type 0 where
  byte : (n v b : ℕ) → advanced (F n v) b ≡ in_number n v b (F (n + 1)) (next v)

number_start : (l : ℕ) → Number (λ n v. scan Start n l v 0 0) (λ v. scan Size 0 l v 0 0)
unfolding advanced in_start
number_start l = record { byte = λ n v b. refl }

number_size : (l a : ℕ) → Number (λ n v. scan Size n l a v 0) (λ v. scan Rights 0 l a v 0)
unfolding advanced in_size
number_size l a = record { byte = λ n v b. refl }

module _ {F : (count value : ℕ) → Scan} {next : (value : ℕ) → Scan} (f : Number F next) where
  step_number : (p : List ℕ) → ((n v : ℕ) → n ≤ 8 → v < 16 ^ n → Held (F n v) (p ++ (tab ∷ digits 16 n v)))
      → ((v : ℕ) → v < 2 ^ 32 → Held (next v) (p ++ (tab ∷ digits 16 8 v) ++ (tab ∷ []))) → (n v : ℕ) → n ≤ 8 → v < 16 ^ n → (b : ℕ)
      → Step (F n v) (p ++ (tab ∷ digits 16 n v)) b
  step_number p held after n v k m b = rw (f.byte n v b) (go (ltb n 8) refl)
    where
      P : List ℕ
      P = (p ++ (tab ∷ digits 16 n v)) ++ (b ∷ [])

      more : Scan
      more = F (n + 1) (with_digit v b)

      digit : (u : Bool) → ltb (digit_of b) 16 ≡ u → n < 8 → (cond u more spoiled ≡ spoiled) ⊎ Held (cond u more spoiled) P
      digit true e q =
          let w = with_digit_lem n v b q m (ltb-true (digit_of b) 16 e) in
          inr (rw (snoc p (digits 16 n v) b, ← w.2) (held (n + 1) (with_digit v b) (omega arith) w.1))
      digit false e q = inl refl

      last : (u : Bool) → eqb b tab ≡ u → n ≡ 8 → (cond u (next v) spoiled ≡ spoiled) ⊎ Held (cond u (next v) spoiled) P
      last true e q = inr (rw (eqb-true b tab e, q) (after v (omega (arith, rw q at m))))
      last false e q = inl refl

      S : Bool → Scan
      S t = cond t (cond (ltb (digit_of b) 16) more spoiled) (cond (eqb b tab) (next v) spoiled)

      go : (t : Bool) → ltb n 8 ≡ t → (S t ≡ spoiled) ⊎ Held (S t) P
      go true e = digit (ltb (digit_of b) 16) refl (ltb-true n 8 e)
      go false e = last (eqb b tab) refl (omega (arith, ltb-false n 8 e))

  takes : (n v b : ℕ) → n < 8 → digit_of b < 16 → advanced (F n v) b ≡ F (n + 1) (with_digit v b)
  takes n v b h d = f.byte n v b ∙ rw (lt-ltb n 8 h, lt-ltb (digit_of b) 16 d)

  read_digits : (n v : ℕ) → n ≤ 8 → v < 16 ^ n → line_read (F 0 0) (digits 16 n v) ≡ F n v
  unfolding digits line_read
  read_digits zero v h k = ap (F 0) (omega arith)
  read_digits (suc n) v h k =
      let d : v % 16 < 16 = omega arith in
      let q : v / 16 < 16 ^ n = less_below n v k in
      let w : with_digit (v / 16) (glyph (v % 16)) ≡ v = omega (arith, seven n (v / 16) (omega arith) q, digit_glyph (v % 16) d) in
      read_append (F 0 0) (digits 16 n (v / 16)) (glyph (v % 16) ∷ [])
      ∙ ap (λ (s : Scan). advanced s (glyph (v % 16))) (read_digits n (v / 16) (omega arith) q)
      ∙ takes n (v / 16) (glyph (v % 16)) (omega arith) (rw (digit_glyph (v % 16) d) d)
      ∙ rw (w, add-one n)

step_start : (l : List ℕ) → 0 < length l → length l ≤ 16 → all_letters l ≡ true → (n a : ℕ) → n ≤ 8 → a < 16 ^ n → (b : ℕ)
    → Step (scan Start n (length l) a 0 0) (word ++ (tab ∷ l) ++ (tab ∷ digits 16 n a)) b
unfolding digits
step_start l some h letters =
    step_number (number_start (length l)) (word ++ (tab ∷ l)) (held_start l some h letters)
    (λ a x. held_size l some h letters a x 0 0 (omega arith) (omega arith))

step_size : (l : List ℕ) → 0 < length l → length l ≤ 16 → all_letters l ≡ true → (a : ℕ) → a < 2 ^ 32 → (n v : ℕ) → n ≤ 8 → v < 16 ^ n → (b : ℕ)
    → Step (scan Size n (length l) a v 0) (word ++ (tab ∷ l) ++ (tab ∷ digits 16 8 a) ++ (tab ∷ digits 16 n v)) b
unfolding rights_text
step_size l some h letters a x =
    step_number (number_size (length l) a) (word ++ (tab ∷ l) ++ (tab ∷ digits 16 8 a)) (held_size l some h letters a x)
    (λ v y. held_rights l some h letters a v 0 x y (omega arith))

-- a right more: the bits below it are those of the letters before it
right_r : (c : ℕ) → c < 1 → (c + 1 < 8) × (rights_text (c + 1) ≡ rights_text c ++ (114 ∷ []))
unfolding rights_text
right_r zero h = (omega arith, refl)
right_r (suc c) h = absurd (omega arith)

right_w : (c : ℕ) → c < 2 → (c + 2 < 8) × (rights_text (c + 2) ≡ rights_text c ++ (119 ∷ []))
unfolding rights_text
right_w zero h = (omega arith, refl)
right_w (suc zero) h = (omega arith, refl)
right_w (suc (suc c)) h = absurd (omega arith)

right_x : (c : ℕ) → c < 4 → (c + 4 < 8) × (rights_text (c + 4) ≡ rights_text c ++ (120 ∷ []))
unfolding rights_text
right_x zero h = (omega arith, refl)
right_x (suc zero) h = (omega arith, refl)
right_x (suc (suc zero)) h = (omega arith, refl)
right_x (suc (suc (suc zero))) h = (omega arith, refl)
right_x (suc (suc (suc (suc c)))) h = absurd (omega arith)

right_more : (c b : ℕ) → c < right_of b → (c + right_of b < 8) × (rights_text (c + right_of b) ≡ rights_text c ++ (b ∷ []))
unfolding right_of
right_more c b h = g1 (eqb b 114) refl h
  where
    R : ℕ → Type 0
    R n = (c + n < 8) × (rights_text (c + n) ≡ rights_text c ++ (b ∷ []))

    g3 : (t : Bool) → eqb b 120 ≡ t → c < cond t 4 0 → R (cond t 4 0)
    g3 true e k = rw (eqb-true b 120 e) (right_x c k)
    g3 false e k = absurd (omega arith)

    g2 : (t : Bool) → eqb b 119 ≡ t → c < cond t 2 (cond (eqb b 120) 4 0) → R (cond t 2 (cond (eqb b 120) 4 0))
    g2 true e k = rw (eqb-true b 119 e) (right_w c k)
    g2 false e k = g3 (eqb b 120) refl k

    g1 : (t : Bool) → eqb b 114 ≡ t → c < cond t 1 (cond (eqb b 119) 2 (cond (eqb b 120) 4 0)) → R (cond t 1 (cond (eqb b 119) 2 (cond (eqb b 120) 4 0)))
    g1 true e k = rw (eqb-true b 114 e) (right_r c k)
    g1 false e k = g2 (eqb b 119) refl k

step_rights : (l : List ℕ) → 0 < length l → length l ≤ 16 → all_letters l ≡ true → (a v c : ℕ) → a < 2 ^ 32 → v < 2 ^ 32 → c < 8 → (b : ℕ)
    → Step (scan Rights 0 (length l) a v c) (word ++ (tab ∷ l) ++ (tab ∷ digits 16 8 a) ++ (tab ∷ digits 16 8 v) ++ (tab ∷ rights_text c)) b
unfolding advanced in_rights
step_rights l some h letters a v c x y z b = go (ltb c (right_of b)) refl
  where
    p : List ℕ
    p = word ++ (tab ∷ l) ++ (tab ∷ digits 16 8 a) ++ (tab ∷ digits 16 8 v)

    go : (t : Bool) → ltb c (right_of b) ≡ t
        → (cond t (scan Rights 0 (length l) a v (c + right_of b)) spoiled ≡ spoiled) ⊎ Held (cond t (scan Rights 0 (length l) a v (c + right_of b)) spoiled)
        ((p ++ (tab ∷ rights_text c)) ++ (b ∷ []))
    go true e =
        let w = right_more c b (ltb-true c (right_of b) e) in
        inr (rw (snoc p (rights_text c) b, ← w.1) (held_rights l some h letters a v (c + right_of b) x y w.0))
    go false e = inl refl

step : {s : Scan} {p : List ℕ} → Held s p → (b : ℕ) → Step s p b
step (held_word n h) b = step_word n h b
step (held_name l h a) b = step_name l h a b
step (held_start l some h a n v k m) b = step_start l some h a n v k m b
step (held_size l some h a v x n w k m) b = step_size l some h a v x n w k m b
step (held_rights l some h a v w c x y z) b = step_rights l some h a v w c x y z b

spoiled_read : (l : List ℕ) → line_read spoiled l ≡ spoiled
unfolding line_read advanced
spoiled_read [] = refl
spoiled_read (b ∷ l) = spoiled_read l

padded_length : (l : List ℕ) → length l ≤ 16 → eqb (length (padded l)) 16 ≡ true
unfolding padded
padded_length l h = eq-eqb (length (l ++ replicate (16 - length l) 0)) 16 (simp (length-append, length-replicate) (omega arith))

padded_zero : (l : List ℕ) → all_zero (drop (length l) (padded l)) ≡ true
unfolding padded
padded_zero l = rw (drop_at l (replicate (16 - length l) 0) (length l) refl) (zeros_zero (16 - length l))

never_whole : (l : List ℕ) → whole (line_read spoiled l) ≡ true → ⊥
unfolding whole
never_whole l h =
    let e : false ≡ true = rw (spoiled_read l) at h in
    let z : ◌≡◌ {A = ℕ} 0 1 = cc in omega arith

held_read : {s : Scan} {p : List ℕ} → Held s p → (l : List ℕ) → whole (line_read s l) ≡ true → Held (line_read s l) (p ++ l)
unfolding line_read
held_read {s = s} {p = p} k [] h = rw append-nil k
held_read {s = s} {p = p} k (b ∷ l) h = go (step k b) h (λ x. held_read {s = advanced s b} x l)
  where
    go : Step s p b → whole (line_read (advanced s b) l) ≡ true
        → (Held (advanced s b) (p ++ (b ∷ [])) → whole (line_read (advanced s b) l) ≡ true → Held (line_read (advanced s b) l) ((p ++ (b ∷ [])) ++ l))
        → Held (line_read (advanced s b) l) (p ++ (b ∷ l))
    go (inl e) q f = absurd (never_whole l (sym (ap (λ (t : Scan). whole (line_read t l)) e) ∙ q))
    go (inr x) q f = rw (append_snoc p b l) at (f x q)

-- what a line of five fields has: the name from its place on, in a line that is the region's
name_in : (l a b c : List ℕ) → take (length l) (drop name_place (word ++ (tab ∷ l) ++ a ++ b ++ c)) ≡ l
name_in l a b c =
    let e : l ++ a ++ b ++ c ≡ l ++ (a ++ (b ++ c)) = simp append_assoc in
    ap (λ (t : List ℕ). take (length l) t) e ∙ take-append_seam l (a ++ (b ++ c))

pub record Told (s : Scan) (line : List ℕ) : Type 0 where
  pub text_is : line ≡ line_text (region_in line s)
  pub well_formed : formed (region_in line s) ≡ true
  pub few : s.letters ≤ 16
  pub within : name_place + s.letters ≤ length line

held_whole : {s : Scan} {p : List ℕ} → Held s p → whole s ≡ true → Told s p
unfolding whole line_text formed name_of region_in
held_whole (held_word n h) w = absurd (let z : ◌≡◌ {A = ℕ} 0 1 = cc in omega arith)
held_whole (held_name l h a) w = absurd (let z : ◌≡◌ {A = ℕ} 0 1 = cc in omega arith)
held_whole (held_start l some h a n v k m) w = absurd (let z : ◌≡◌ {A = ℕ} 0 1 = cc in omega arith)
held_whole (held_size l some h a v x n b k m) w = absurd (let z : ◌≡◌ {A = ℕ} 0 1 = cc in omega arith)
held_whole (held_rights l some h a v b c x y z) w =
    let t = name_in l (tab ∷ digits 16 8 v) (tab ∷ digits 16 8 b) (tab ∷ rights_text c) in
    let e : letters_of (padded l) ≡ l = letters_padded l a in
    record {
      text_is = rw (t, e);
      well_formed =
          rw (
            t,
            e,
            lt-ltb 0 (length l) some,
            padded_length l h,
            padded_zero l,
            lt-ltb v (2 ^ 32) x,
            lt-ltb b (2 ^ 32) y,
            lt-ltb 0 c (ltb-true 0 c w),
            lt-ltb
                c 8 z,
          );
      few = h;
      within = simp length-append (omega arith);
    }

pub line_told : (l : List ℕ) → whole (scan_of l) ≡ true → Told (scan_of l) l
line_told l h = held_whole (held_read (held_word 0 (omega arith)) l h) h

-- ---- from the region to the bytes

read_name : (n : ℕ) (l : List ℕ) → n + length l ≤ 16 → all_letters l ≡ true → line_read (scan Name n 0 0 0 0) l ≡ scan Name (n + length l) 0 0 0 0
unfolding line_read advanced in_name all_letters
read_name n [] h a = rw add-zero
read_name n (b ∷ l) h a =
    let t = (and-eq-true_iff (is_letter b) (all_letters l)).0 a in
    let m : n + 1 + length l ≡ n + suc (length l) = omega arith in
    rw (t.0, lt-ltb n 16 (omega arith)) (read_name (n + 1) l (omega arith) t.1 ∙ rw m)

read_rights : (name a v c : ℕ) → c < 8 → line_read (scan Rights 0 name a v 0) (rights_text c) ≡ scan Rights 0 name a v c
unfolding line_read advanced in_rights right_of rights_text
read_rights name a v zero h = refl
read_rights name a v (suc zero) h = refl
read_rights name a v (suc (suc zero)) h = refl
read_rights name a v (suc (suc (suc zero))) h = refl
read_rights name a v (suc (suc (suc (suc zero)))) h = refl
read_rights name a v (suc (suc (suc (suc (suc zero))))) h = refl
read_rights name a v (suc (suc (suc (suc (suc (suc zero)))))) h = refl
read_rights name a v (suc (suc (suc (suc (suc (suc (suc zero))))))) h = refl
read_rights name a v (suc (suc (suc (suc (suc (suc (suc (suc c)))))))) h = absurd (omega arith)

read_tab : (s t : Scan) (p q : List ℕ) (u : Scan) → line_read s p ≡ t → line_read (advanced t tab) q ≡ u → line_read s (p ++ (tab ∷ q)) ≡ u
unfolding line_read
read_tab s t p q u e f = read_append s p (tab ∷ q) ∙ rw e f

tab_name : (n : ℕ) → 0 < n → advanced (scan Name n 0 0 0 0) tab ≡ scan Start 0 n 0 0 0
unfolding advanced in_name is_letter
tab_name n h = rw (lt-ltb 0 n h)

read_word : (l : List ℕ) → length l ≤ 16 → all_letters l ≡ true → line_read start_scan (word ++ (tab ∷ l)) ≡ scan Name (length l) 0 0 0 0
unfolding line_read advanced in_word
read_word l h a = read_name 0 l (omega arith) a ∙ rw zero-add

read_fields : (l : List ℕ) → 0 < length l → length l ≤ 16 → all_letters l ≡ true → (a v c : ℕ) → a < 2 ^ 32 → v < 2 ^ 32 → c < 8
    → line_read start_scan (word ++ (tab ∷ l) ++ (tab ∷ digits 16 8 a) ++ (tab ∷ digits 16 8 v) ++ (tab ∷ rights_text c)) ≡ scan Rights 0 (length l) a v c
read_fields l some h letters a v c x y z =
    let n = length l in
    let p1 : List ℕ = word ++ (tab ∷ l) in
    let p2 : List ℕ = p1 ++ (tab ∷ digits 16 8 a) in
    let p3 : List ℕ = p2 ++ (tab ∷ digits 16 8 v) in
    let e2 : line_read start_scan p2 ≡ scan Start 8 n a 0 0
    = read_tab start_scan (scan Name n 0 0 0 0) p1 (digits 16 8 a) (scan Start 8 n a 0 0) (read_word l h letters)
    (rw (tab_name n some) (read_digits (number_start n) 8 a (omega arith) (omega arith))) in
    let e3 : line_read start_scan p3 ≡ scan Size 8 n a v 0
    = read_tab start_scan (scan Start 8 n a 0 0) p2 (digits 16 8 v) (scan Size 8 n a v 0) e2
    (rw ((number_start n).byte 8 a tab) (read_digits (number_size n a) 8 v (omega arith) (omega arith))) in
    read_tab start_scan (scan Size 8 n a v 0) p3 (rights_text c) (scan Rights 0 n a v c) e3 (rw ((number_size n a).byte 8 v tab) (read_rights n a v c z))

-- what `formed` tells
pub record Form (r : Region) : Type 0 where
  pub some : 0 < length (name_of r)
  pub most : length (name_of r) ≤ 16
  pub letters : all_letters (name_of r) ≡ true
  pub sixteen : length r.name ≡ 16
  pub held : r.name ≡ padded (name_of r)
  pub start_fits : r.start < 2 ^ 32
  pub size_fits : r.size < 2 ^ 32
  pub some_right : 0 < r.rights
  pub rights_fit : r.rights < 8

pub form_of : (r : Region) → formed r ≡ true → Form r
unfolding formed name_of
form_of r h =
    let a = (and-eq-true_iff (ltb 0 (length (name_of r))) _).0 h in
    let b = (and-eq-true_iff (eqb (length r.name) 16) _).0 a.1 in
    let c = (and-eq-true_iff (all_zero (drop (length (name_of r)) r.name)) _).0 b.1 in
    let d = (and-eq-true_iff (ltb r.start (2 ^ 32)) _).0 c.1 in
    let e = (and-eq-true_iff (ltb r.size (2 ^ 32)) _).0 d.1 in
    let f = (and-eq-true_iff (ltb 0 r.rights) _).0 e.1 in
    let n : length r.name ≡ 16 = eqb-true (length r.name) 16 b.0 in
    record {
      some = ltb-true 0 (length (name_of r)) a.0;
      most = name_length_lem r.name n;
      letters = letters_all r.name;
      sixteen = n;
      held = name_padded r.name n c.0;
      start_fits = ltb-true r.start (2 ^ 32) d.0;
      size_fits = ltb-true r.size (2 ^ 32) e.0;
      some_right = ltb-true 0 r.rights f.0;
      rights_fit = ltb-true r.rights 8 f.1;
    }

-- the line of a formed region reads as the region
pub region_read : (r : Region) → formed r ≡ true → scan_of (line_text r) ≡ scan Rights 0 (length (name_of r)) r.start r.size r.rights
unfolding line_text
region_read r h =
    let f = form_of r h in
    read_fields (name_of r) f.some f.most f.letters r.start r.size r.rights f.start_fits f.size_fits f.rights_fit

region_name : (r : Region) → formed r ≡ true → padded (take (length (name_of r)) (drop name_place (line_text r))) ≡ r.name
unfolding line_text
region_name r h =
    ap padded (name_in (name_of r) (tab ∷ digits 16 8 r.start) (tab ∷ digits 16 8 r.size) (tab ∷ rights_text r.rights)) ∙ sym (form_of r h).held

pub region_whole : (r : Region) → formed r ≡ true → (whole (scan_of (line_text r)) ≡ true) × (region_of (line_text r) ≡ r)
unfolding whole region_in
region_whole r h =
    let e = region_name r h in
    (rw (region_read r h, lt-ltb 0 r.rights (form_of r h).some_right), rw (region_read r h, e))
