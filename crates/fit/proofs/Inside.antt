-- An image that was read fits exactly if each of its regions stays inside: a region that was read is not empty, so its first and last address tell where it
-- lies. And the images in the other order have the answer in the other order.
-- Assumes nothing.
use mathlib.Core.Bool.{Bool, true, false, cond, ◌&&◌, ◌||◌, and-eq-true_iff, or-true}
use mathlib.Core.List.{List, [], ◌∷◌, ◌++◌}
use mathlib.Core.Logic.{◌⊎◌, inl, inr, ◌↔◌}
use mathlib.Core.Path.{◌≡◌, refl, sym, ap, ◌∙◌}
use Prim.Native.Nat.{ℕ, suc, ◌+◌, ◌-◌, ◌/◌, ◌%◌, ◌^◌, ◌<◌, min}
use native.Mathlib.Nat.{div-one, div-div-eq-div-mul, pow-succ'}
use native.Mathlib.Omega.{arith}
use borrow.Author.Tests.{eqb-true, eqb-false, eq-eqb, leb-true, le-leb}
use lib.Arith.{bin_ind}
use lib.Bits.{bit_and, and_shr, and_step}
use lib.Dec.{eqb, leb}
use Rattle.sheets.specs.Scanning.{read_of}
use Rattle.sheets.specs.Sheet.{Regions, none, more, Answer, sheet, bad, IsSheet}
use Rattle.sheets.specs.declared.Region.{Region}
use Rattle.sheets.proofs.Answers.{read_says}
use Rattle.sheets.proofs.Lengths.{follows_some}
use Rattle.fit.specs.Fit.{within, held, fits, first, second, neither, chosen, or_bad, regions_of, rest_of, judged}
use Rattle.fit.specs.Inside.{Among, here, there, Has, Grants, Inside, EachInside, swapped, alike}

-- a right that both have
bit_kept : (x y k : ℕ) → bit_and x y ≡ x → x / 2 ^ k % 2 ≡ 1 → y / 2 ^ k % 2 ≡ 1
bit_kept x y k e h =
    let s : bit_and (x / 2 ^ k) (y / 2 ^ k) ≡ x / 2 ^ k = sym (and_shr x y k) ∙ ap (λ (n : ℕ). n / 2 ^ k) e in
    omega (arith, s, and_step (x / 2 ^ k) (y / 2 ^ k), h)

within_place : (r b : Region) → within r b ≡ true → ((a : ℕ) → Has r a → Has b a) × ((k : ℕ) → Grants r k → Grants b k)
unfolding within
within_place r b h =
    let t = (and-eq-true_iff (leb b.start r.start) _).0 h in
    let u = (and-eq-true_iff (leb (r.start + r.size) (b.start + b.size)) (eqb (bit_and r.rights b.rights) r.rights)).0 t.1 in
    let low = leb-true b.start r.start t.0 in
    let high = leb-true (r.start + r.size) (b.start + b.size) u.0 in (
      λ a q. (omega (arith, q.0), omega (arith, q.1)),
      λ k q. bit_kept r.rights b.rights k
          (eqb-true (bit_and r.rights b.rights) r.rights u.1) q,
    )

held_inside : (r : Region) (board : List Region) → held r board ≡ true → Inside r board
unfolding held
held_inside r [] h = absurd (let z : ◌≡◌ {A = ℕ} 0 1 = cc in omega arith)
held_inside r (b ∷ board) h = go (within r b) refl h (held_inside r board)
  where
    go : (t : Bool) → within r b ≡ t → (t || held r board) ≡ true → (held r board ≡ true → Inside r board) → Inside r (b ∷ board)
    go true e k next =
        let w = within_place r b e in
        record { place = b; on_board = here; addresses = w.0; rights = w.1 }
    go false e k next =
        let i = next k in
        record { place = i.place; on_board = there i.on_board; addresses = i.addresses; rights = i.rights }

-- each region of an image that fits is inside one of the board's
fits_among : (board : List Region) (r : Region) {image : List Region} → Among r image → fits board image ≡ true → Inside r board
unfolding fits
fits_among board r (here {rs = image}) h = held_inside r board ((and-eq-true_iff (held r board) (fits board image)).0 h).0
fits_among board r (there {s = s} {rs = image} i) h = fits_among board r i ((and-eq-true_iff (held s board) (fits board image)).0 h).1

pub fits_inside : (board image : List Region) → fits board image ≡ true → EachInside board image
fits_inside board image h r i = fits_among board r i h

-- ---- the other way

-- a number whose every bit another one has
bits_kept : (x y : ℕ) → ((k : ℕ) → x / 2 ^ k % 2 ≡ 1 → y / 2 ^ k % 2 ≡ 1) → bit_and x y ≡ x
bits_kept = bin_ind (λ (n : ℕ). (y : ℕ) → ((k : ℕ) → n / 2 ^ k % 2 ≡ 1 → y / 2 ^ k % 2 ≡ 1) → bit_and n y ≡ n) (λ y h. refl) step
  where
    halved : (n k : ℕ) → n / 2 ^ suc k ≡ n / 2 / 2 ^ k
    halved n k = ap (λ (m : ℕ). n / m) (pow-succ' 2 k) ∙ sym (div-div-eq-div-mul n 2 (2 ^ k))

    low : (n y : ℕ) → (n % 2 ≡ 1 → y % 2 ≡ 1) → min (n % 2) (y % 2) ≡ n % 2
    low n y h = go (eqb (n % 2) 1) refl
      where
        go : (t : Bool) → eqb (n % 2) 1 ≡ t → min (n % 2) (y % 2) ≡ n % 2
        go true e = let k = eqb-true (n % 2) 1 e in omega (arith, k, h k)
        go false e = omega (arith, eqb-false (n % 2) 1 e)

    step : (n : ℕ) → ((y : ℕ) → ((k : ℕ) → n / 2 / 2 ^ k % 2 ≡ 1 → y / 2 ^ k % 2 ≡ 1) → bit_and (n / 2) y ≡ n / 2)
        → (y : ℕ) → ((k : ℕ) → n / 2 ^ k % 2 ≡ 1 → y / 2 ^ k % 2 ≡ 1) → bit_and n y ≡ n
    step n ih y h =
        let rest = ih (y / 2) (λ k e. ap (λ (m : ℕ). m % 2) (sym (halved y k)) ∙ h (suc k) (ap (λ (m : ℕ). m % 2) (halved n k) ∙ e)) in
        let first : n % 2 ≡ 1 → y % 2 ≡ 1 = λ e. rw div-one at (h 0 (rw div-one e)) in
        omega (arith, and_step n y, rest, low n y first)

-- a region that is not empty
place_within : (r b : Region) → 0 < r.size → ((a : ℕ) → Has r a → Has b a) → ((k : ℕ) → Grants r k → Grants b k) → within r b ≡ true
unfolding within
place_within r b h low high =
    let s = low r.start (omega arith, omega arith) in
    let e = low (r.start + r.size - 1) (omega arith, omega arith) in
    rw (
      le-leb b.start r.start s.0,
      le-leb (r.start + r.size) (b.start + b.size) (omega (arith, e.1)),
      eq-eqb (bit_and r.rights b.rights) r.rights (bits_kept r.rights b.rights high),
    )

inside_held : (r : Region) {place : Region} {board : List Region} → within r place ≡ true → Among place board → held r board ≡ true
unfolding held
inside_held r h (here {rs = board}) = rw h
inside_held r h (there {s = b} {rs = board} i) = rw (inside_held r h i, or-true)

inside_fits : (board image : List Region) → ((r : Region) → Among r image → 0 < r.size) → EachInside board image → fits board image ≡ true
unfolding fits
inside_fits board [] some h = refl
inside_fits board (r ∷ image) some h =
    let i = h r here in
    rw (
      inside_held r (place_within r i.place (some r here) i.addresses i.rights) i.on_board,
      inside_fits board image (λ x k. some x (there k)) (λ x k. h x (there k)),
    )

none_among : {A : Type 0} {r : Region} → Among r [] → A
none_among = elim [ ]

-- no region of a sheet is empty
last_among : (rs : List Region) (r x : Region) → Among x (rs ++ (r ∷ [])) → Among x rs ⊎ (x ≡ r)
last_among [] r x here = inr refl
last_among [] r x (there k) = none_among k
last_among (s ∷ rs) r x here = inl here
last_among (s ∷ rs) r x (there k) = go (last_among rs r x k)
  where
    go : Among x rs ⊎ (x ≡ r) → Among x (s ∷ rs) ⊎ (x ≡ r)
    go (inl i) = inl (there i)
    go (inr e) = inr e

regions_some : {rs : List Region} → Regions rs → (r : Region) → Among r rs → 0 < r.size
regions_some none r i = none_among i
regions_some (more {rs = rs} s g f) r i = go (last_among rs s r i) (λ k. regions_some g r k)
  where
    go : Among r rs ⊎ (r ≡ s) → (Among r rs → 0 < r.size) → 0 < r.size
    go (inl k) next = next k
    go (inr e) next = rw e (follows_some rs s f)

-- an image's text that was read as regions fits a board exactly if each of them is inside one of the board's
pub fits_exactly : (image : Bool) (text : List ℕ) (rs : List Region) (rest : List ℕ) → read_of image text ≡ sheet rs rest
    → (board : List Region) → (fits board rs ≡ true) ↔ EachInside board rs
fits_exactly image text rs rest e board =
    let s : IsSheet image text rs rest = rw e at (read_says image text) in
    (fits_inside board rs, inside_fits board rs (regions_some s.regions))

-- the images in the other order
chosen_swapped : (board one two : List Region) (p q : List ℕ) → (fits board one && fits board two) ≡ false
    → chosen board two q one p ≡ swapped (chosen board one p two q)
unfolding chosen swapped
chosen_swapped board one two p q h = go (fits board one) (fits board two) h
  where
    go : (t u : Bool) → (t && u) ≡ false → cond u (first q) (cond t (second p) neither) ≡ swapped (cond t (first p) (cond u (second q) neither))
    go true true k = absurd (let z : ◌≡◌ {A = ℕ} 0 1 = cc in omega arith)
    go true false k = refl
    go false true k = refl
    go false false k = refl

pub judged_swapped : (board one two : Answer) → alike board one two ≡ false → judged board two one ≡ swapped (judged board one two)
unfolding alike judged or_bad regions_of rest_of swapped
judged_swapped (bad n) one two h = refl
judged_swapped (sheet board x) (bad n) (bad m) h = absurd (let z : ◌≡◌ {A = ℕ} 0 1 = cc in omega arith)
judged_swapped (sheet board x) (bad n) (sheet two q) h = refl
judged_swapped (sheet board x) (sheet one p) (bad m) h = refl
judged_swapped (sheet board x) (sheet one p) (sheet two q) h = chosen_swapped board one two p q h
