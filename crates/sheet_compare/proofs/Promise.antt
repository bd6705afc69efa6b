-- For any two texts that read as sheets the list is exact: all that it asks of the regions, the reader has shown.
-- Assumes nothing.
use mathlib.Core.Bool.{Bool, true, false, cond, ◌&&◌, and-eq-true_iff}
use mathlib.Core.List.{List, [], ◌∷◌, ◌++◌}
use mathlib.Core.Logic.{◌⊎◌, inl, inr}
use mathlib.Core.Path.{◌≡◌, refl}
use Prim.Native.Nat.{ℕ, zero, suc, ◌*◌, ◌≤◌, ◌<◌}
use native.Mathlib.Omega.{arith}
use borrow.Author.Tests.{leb-true, ltb-true, lt-ltb, eqb-true}
use lib.Dec.{leb, ltb, eqb}
use lib.ListN.{length, length-append}
use Rattle.sheets.specs.Sheet.{is_letter, letters_of, name_of, formed, admitted, follows, Regions, none, more, sheet, IsSheet}
use Rattle.sheets.specs.Scanning.{no_name, read_of}
use Rattle.sheets.specs.declared.Region.{Region}
use Rattle.sheets.proofs.Answers.{read_says}
use Rattle.sheets.proofs.Lengths.{regions_few}
use Rattle.sheets.proofs.Lines.{form_of}
use Rattle.std.specs.Prelude.{Option, None, Some}
use Rattle.std.specs.Option.{option_map_or}
use Rattle.sheet_compare.specs.Compare.{less, next_name, names_after, names_text, differing, list_text}
use Rattle.sheet_compare.specs.Lists.{In, here, there, odd, Differs, ListsNames}
use Rattle.sheet_compare.proofs.Exact.{differing_lists}

in_more : (rs : List Region) (s r : Region) → In r (rs ++ (s ∷ [])) → In r rs ⊎ (r ≡ s)
in_more [] s r here = inr refl
in_more [] s r (there k) = elim k [ ]
in_more (x ∷ rs) s r here = inl here
in_more (x ∷ rs) s r (there k) = go (in_more rs s r k)
  where
    go : In r rs ⊎ (r ≡ s) → In r (x ∷ rs) ⊎ (r ≡ s)
    go (inl i) = inl (there i)
    go (inr e) = inr e

regions_formed : {rs : List Region} → Regions rs → (r : Region) → In r rs → formed r ≡ true
unfolding follows
regions_formed none r k = elim k [ ]
regions_formed (more {rs} s g f) r k = go (in_more rs s r k) (λ i. regions_formed g r i)
  where
    go : In r rs ⊎ (r ≡ s) → (In r rs → formed r ≡ true) → formed r ≡ true
    go (inl i) next = next i
    go (inr e) next = rw e ((and-eq-true_iff (formed s) (admitted rs s)).0 f).0

name_long : (r : Region) → formed r ≡ true → length r.name ≡ 16
unfolding formed
name_long r h = eqb-true (length r.name) 16
    ((and-eq-true_iff (eqb (length r.name) 16) _).0 ((and-eq-true_iff (ltb 0 (length (name_of r))) _).0 h).1).0

-- a name with a letter comes after no name
named : (l : List ℕ) → 0 < length (letters_of l) → less no_name l ≡ true
unfolding letters_of less is_letter
named [] h = absurd (omega arith)
named (b ∷ l) h = go (leb 97 b && leb b 122) refl h
  where
    go : (t : Bool) → (leb 97 b && leb b 122) ≡ t → 0 < length (cond t (b ∷ letters_of l) []) → less no_name (b ∷ l) ≡ true
    go true e k = let m = leb-true 97 b ((and-eq-true_iff (leb 97 b) (leb b 122)).0 e).0 in rw (lt-ltb 0 b (omega arith))
    go false e k = absurd (omega arith)

name_named : (r : Region) → formed r ≡ true → less no_name r.name ≡ true
unfolding formed name_of
name_named r h = named r.name (ltb-true 0 (length (letters_of r.name)) ((and-eq-true_iff (ltb 0 (length (letters_of r.name))) _).0 h).0)

-- a name has at most sixteen letters
named_short : (r : Region) → formed r ≡ true → length (letters_of r.name) ≤ 16
unfolding name_of
named_short r h = (form_of r h).most

pub regions_list : (a b : List Region) → Regions a → Regions b → ListsNames a b (differing a b)
regions_list a b g h = differing_lists a b long (regions_few g) (regions_few h) names
  where
    long : (r : Region) → In r a ⊎ In r b → length r.name ≡ 16
    long r (inl k) = name_long r (regions_formed g r k)
    long r (inr k) = name_long r (regions_formed h r k)

    names : (n : List ℕ) → Differs a b n → less no_name n ≡ true
    names n (inl (odd r k e)) = name_named r (regions_formed g r k)
    names n (inr (odd r k e)) = name_named r (regions_formed h r k)

-- the list is at most 128 lines of 17 bytes
names_count : (k : ℕ) (last : List ℕ) (a b : List Region) → length (names_after k last a b) ≤ k
unfolding names_after
names_count zero last a b = omega arith
names_count (suc k) last a b = go (next_name last a b) (λ n. names_count k n a b)
  where
    go : (p : Option (List ℕ)) → ((n : List ℕ) → length (names_after k n a b) ≤ k) → length (option_map_or (λ n. n ∷ names_after k n a b) p []) ≤ suc k
    go None h = omega arith
    go (Some n) h = omega (arith, h n)

names_le : (ns : List (List ℕ)) → ((n : List ℕ) → In n ns → length (letters_of n) ≤ 16) → length (names_text ns) ≤ length ns * 17
unfolding names_text
names_le [] h = omega arith
names_le (n ∷ ns) h = simp length-append (omega (arith, h n here, names_le ns (λ m i. h m (there i))))

pub list_le : (a b : List Region) → Regions a → Regions b → length (list_text a b) ≤ 2176
unfolding differing
list_le a b g h = omega (arith, names_count 128 no_name a b, names_le (differing a b) short)
  where
    short : (n : List ℕ) → In n (differing a b) → length (letters_of n) ≤ 16
    short n i = go n ((regions_list a b g h).sound n i)
      where
        go : (m : List ℕ) → Differs a b m → length (letters_of m) ≤ 16
        go m (inl (odd r k e)) = named_short r (regions_formed g r k)
        go m (inr (odd r k e)) = named_short r (regions_formed h r k)

-- two texts that read as sheets
pub compared_lists : (first second : List ℕ) (a b : List Region) (x y : List ℕ) → read_of false first ≡ sheet a x → read_of false second ≡ sheet b y
    → ListsNames a b (differing a b)
compared_lists first second a b x y e f =
    let k : IsSheet false first a x = rw e at (read_says false first) in
    let l : IsSheet false second b y = rw f at (read_says false second) in
    regions_list a b k.regions l.regions
