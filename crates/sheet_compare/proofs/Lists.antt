-- Laws of the lists that the code walks: names and regions.
-- Assumes nothing.
use mathlib.Core.Bool.{true, false, or-false}
use mathlib.Core.Path.{◌≡◌, refl, sym, ◌∙◌}
use mathlib.Core.List.{List, [], ◌∷◌, ◌++◌, append_assoc, append-nil}
use Prim.Native.Nat.{ℕ, suc, ◌+◌, ◌-◌, ◌≤◌, ◌<◌}
use native.Mathlib.Numerals.{add-one}
use native.Mathlib.Omega.{arith}
use borrow.Author.Tests.{eq-eqb, ne_eqb, le-ltb}
use lib.Dec.{ltb}
use lib.ListN.{length, get_or, drop, drop_of_length-le}
use lib.Seq.{drop-cons}
use Rattle.std.specs.Prelude.{None, Some}
use Rattle.text.specs.Writing.{newline, Puts}
use Rattle.text.proofs.Putting.{puts_none, puts_then, puts_length}
use Rattle.sheets.specs.Sheet.{letters_of}
use Rattle.sheets.specs.Scanning.{no_name}
use Rattle.sheets.specs.declared.Region.{Region}
use Rattle.sheet_compare.specs.Compare.{less, next_name, names_after, differing, names_text}

-- names, from index i on
module _ (a b : List ℕ) (i : ℕ) where
  pub less_turn : i < length a → i < length b → get_or a i 0 ≡ get_or b i 0 → less (drop (i + 1) a) (drop (i + 1) b) ≡ less (drop i a) (drop i b)
  unfolding less
  less_turn h k e =
      let x = get_or a i 0 in
      let y = get_or b i 0 in
      rw (add-one i, drop-cons a i 0 h, drop-cons b i 0 k, eq-eqb x y e, le-ltb x y (omega arith))

  pub less_here : i < length a → i < length b → (get_or a i 0 ≡ get_or b i 0 → ⊥) → ltb (get_or a i 0) (get_or b i 0) ≡ less (drop i a) (drop i b)
  unfolding less
  less_here h k e = rw (drop-cons a i 0 h, drop-cons b i 0 k, ne_eqb (get_or a i 0) (get_or b i 0) e, or-false)

  pub less_end : length a ≤ i → less (drop i a) (drop i b) ≡ false
  unfolding less
  less_end h = rw (drop_of_length-le a {i = i} h)

-- the names that are left
module _ (a b : List Region) where
  pub names_turn : (k : ℕ) (last name : List ℕ) → k < 128 → Some name ≡ next_name last a b → (t : List ℕ)
      → (t ++ (letters_of name ++ (newline ∷ []))) ++ names_text (names_after (128 - (k + 1)) name a b) ≡ t ++ names_text
      (names_after (128 - k) last a b)
  unfolding names_after names_text
  names_turn k last name h e t =
      let n : 128 - k ≡ suc (128 - (k + 1)) = omega arith in
      rw (n, ← e) (append_assoc t (letters_of name ++ (newline ∷ [])) (names_text (names_after (128 - (k + 1)) name a b)))

  pub names_done : (k : ℕ) (last : List ℕ) → k < 128 → None ≡ next_name last a b → (t : List ℕ) → t ≡ t ++ names_text (names_after (128 - k) last a b)
  unfolding names_after names_text
  names_done k last h e t =
      let n : 128 - k ≡ suc (128 - (k + 1)) = omega arith in
      rw (n, ← e) (sym (append-nil t))

  pub names_all : (k : ℕ) (last : List ℕ) → 128 ≤ k → (t : List ℕ) → t ≡ t ++ names_text (names_after (128 - k) last a b)
  unfolding names_after names_text
  names_all k last h t =
      let n : 128 - k ≡ 0 = omega arith in
      rw n (sym (append-nil t))

-- the list so far, and what is left of it
pub record Listing (start : List ℕ) (a b : List Region) (out last : List ℕ) (at i : ℕ) : Type 0 where
  pub text : List ℕ
  pub most : i ≤ 128
  pub long : length out ≡ length start
  pub puts : Puts start 0 text out at
  pub rest : text ++ names_text (names_after (128 - i) last a b) ≡ names_text (differing a b)

pub listing_start : (start : List ℕ) (a b : List Region) (last : List ℕ) → last ≡ no_name → Listing start a b start last 0 0
unfolding differing
listing_start start a b last e =
    record { text = []; most = omega arith; long = refl; puts = puts_none start 0; rest = rw e }

module _ {start : List ℕ} {a b : List Region} {out last : List ℕ} {at i : ℕ} (g : Listing start a b out last at i) where
  pub listing_turn : {name after : List ℕ} {n : ℕ} → i < 128 → Some name ≡ next_name last a b → Puts out at (letters_of name ++ (newline ∷ [])) after n
      → Listing start a b after name n (i + 1)
  listing_turn {name} h e q =
      record {
        text = g.text ++ (letters_of name ++ (newline ∷ []));
        most = omega arith;
        long = puts_length q ∙ g.long;
        puts = puts_then g.puts q;
        rest = names_turn a b i last name h e g.text ∙ g.rest;
      }

  pub listing_done : i < 128 → None ≡ next_name last a b → Puts start 0 (names_text (differing a b)) out at
  listing_done h e = rw (names_done a b i last h e g.text ∙ g.rest) at g.puts

  pub listing_all : 128 ≤ i → Puts start 0 (names_text (differing a b)) out at
  listing_all h = rw (names_all a b i last h g.text ∙ g.rest) at g.puts
