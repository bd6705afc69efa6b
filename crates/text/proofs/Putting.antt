-- Laws of a text in a buffer: texts written one after the other are one text, also where the buffer ends within them.
-- Assumes nothing.
use mathlib.Core.Bool.{Bool, true, false}
use mathlib.Core.Path.{◌≡◌, refl, sym, ap, ◌∙◌}
use mathlib.Core.List.{List, [], ◌∷◌, ◌++◌, append_assoc, append-nil}
use Prim.Native.Nat.{ℕ, ◌+◌, ◌-◌, ◌≤◌, ◌<◌}
use Rattle.std.proofs.Common.{min}
use borrow.Rule.Slice.PartMut.{put_mid}
use native.Mathlib.Nat.{add_assoc, add-zero, zero-add}
use native.Mathlib.Numerals.{add-one}
use native.Mathlib.Omega.{arith}
use borrow.Author.Tests.{leb-true, leb-false, le-leb}
use lib.Dec.{leb}
use lib.ListN.{length, take, drop, set, length-append, length-take, length-drop, take-append-drop}
use lib.Seq.{take_at, take-nil, take_all, take-append-le, take-append-add, drop-append-add, drop-drop, set_split, append_snoc, take-append_seam}
use Rattle.text.specs.Writing.{put, fitting, fits_in, delivered, Puts, Placed, Delivers}

-- how much fits
pub fitting_whole : {A : Type 0} (o : List A) (at : ℕ) (t : List A) → at + length t ≤ length o → fitting o at t ≡ t
unfolding fitting
fitting_whole o at t h = take_all (length o - at) t (omega arith)

fitting_past : {A : Type 0} (o : List A) (at : ℕ) (t : List A) → length o ≤ at → fitting o at t ≡ []
unfolding fitting
fitting_past o at t h = let e : length o - at ≡ 0 = omega arith in rw e

pub fitting_le : {A : Type 0} (o : List A) (at : ℕ) (t : List A) → at ≤ length o → at + length (fitting o at t) ≤ length o
unfolding fitting
fitting_le o at t h = simp length-take (omega arith)

fitting_text : {A : Type 0} (o : List A) (at : ℕ) (t : List A) → length (fitting o at t) ≤ length t
unfolding fitting
fitting_text o at t = simp length-take (omega arith)

take_across : {A : Type 0} (n : ℕ) (a b : List A) → take n (a ++ b) ≡ take n a ++ take (n - length a) b
take_across n a b = go (leb n (length a)) refl
  where
    go : (t : Bool) → leb n (length a) ≡ t → take n (a ++ b) ≡ take n a ++ take (n - length a) b
    go true e =
        let l = leb-true n (length a) e in
        let z : n - length a ≡ 0 = omega arith in
        rw (z, append-nil) (take-append-le n a b l)
    go false e =
        let l = leb-false n (length a) e in
        let s : length a + (n - length a) ≡ n = omega arith in
        rw (take_all n a (omega arith)) (rw s at (take-append-add a b (n - length a)))

-- what fits of two texts: of the first, and of the second after it
fitting_then : {A : Type 0} (o o₁ : List A) (at : ℕ) (a b : List A) → length o₁ ≡ length o
    → fitting o at (a ++ b) ≡ fitting o at a ++ fitting o₁ (at + length (fitting o at a)) b
unfolding fitting
fitting_then o o₁ at a b h =
    let n = length-take (length o - at) a in
    let e : length o₁ - (at + length (take (length o - at) a)) ≡ length o - at - length a = omega arith in
    rw e (take_across (length o - at) a b)

-- a text that fits leaves the buffer's length
length_put : {A : Type 0} (o : List A) (at : ℕ) (t : List A) → at + length t ≤ length o → length (put o at t) ≡ length o
unfolding put
length_put o at t h = simp (length-append, length-take, length-drop) (omega arith)

-- the bytes up to the text's end
length_front : {A : Type 0} (o : List A) (at : ℕ) (t : List A) → at + length t ≤ length o → length (take at o ++ t) ≡ at + length t
length_front o at t h = simp (length-append, length-take) (omega arith)

drop_past : {A : Type 0} (p q : List A) (n m : ℕ) → length p ≡ n → drop (n + m) (p ++ q) ≡ drop m q
drop_past p q n m e = rw (← e) (drop-append-add p q m)

put_then : {A : Type 0} (o : List A) (at : ℕ) (a b : List A) → at + length a + length b ≤ length o → put (put o at a) (at + length a) b ≡ put o at (a ++ b)
unfolding put
put_then o at a b h =
    let n : length (take at o ++ a) ≡ at + length a = length_front o at a (omega arith) in
    let front : take (at + length a) (take at o ++ a ++ drop (at + length a) o) ≡ take at o ++ a
    = take_at (take at o ++ a) (drop (at + length a) o) (at + length a) n in
    let back : drop (at + length a + length b) (take at o ++ a ++ drop (at + length a) o) ≡ drop (at + length a + length b) o
    = drop_past (take at o ++ a) (drop (at + length a) o) (at + length a) (length b) n ∙ drop-drop (length b) (at + length a) o in
    rw (front, back, length-append, append_assoc (take at o) a b, ← (add_assoc at (length a) (length b)))

pub put_nil : {A : Type 0} (o : List A) (at : ℕ) → put o at [] ≡ o
unfolding put
put_nil o at = rw (add-zero, append-nil) (take-append-drop at o)

-- past the buffer's end nothing is written
pub puts_past : {A : Type 0} (o : List A) (at : ℕ) (t : List A) → length o ≤ at → Puts o at t o at
puts_past o at t h =
    let e = fitting_past o at t h in
    record { ends = rw e (sym (add-zero at)); bytes = rw e (sym (put_nil o at)) }

fitting_nil : {A : Type 0} (o : List A) (at : ℕ) → fitting o at [] ≡ []
unfolding fitting
fitting_nil o at = take-nil (length o - at)

pub puts_none : {A : Type 0} (o : List A) (at : ℕ) → Puts o at [] o at
puts_none o at =
    let e = fitting_nil o at in
    record { ends = rw e (sym (add-zero at)); bytes = rw e (sym (put_nil o at)) }

pub puts_length : {A : Type 0} {o o₁ t : List A} {at n : ℕ} → Puts o at t o₁ n → length o₁ ≡ length o
puts_length {A} {o} {o₁} {t} {at} p = ap length p.bytes ∙ go (leb at (length o)) refl
  where
    go : (x : Bool) → leb at (length o) ≡ x → length (put o at (fitting o at t)) ≡ length o
    go true e = length_put o at (fitting o at t) (fitting_le o at t (leb-true at (length o) e))
    go false e = let l = leb-false at (length o) e in rw (fitting_past o at t (omega arith), put_nil)

-- written one after the other
pub puts_then : {A : Type 0} {o o₁ o₂ a b : List A} {at m n : ℕ} → Puts o at a o₁ m → Puts o₁ m b o₂ n → Puts o at (a ++ b) o₂ n
puts_then {A} {o} {o₁} {o₂} {a} {b} {at} {m} {n} p q =
    let l = puts_length p in
    let f : fitting o at (a ++ b) ≡ fitting o at a ++ fitting o₁ m b = rw p.ends (fitting_then o o₁ at a b l) in
    record {
      ends = q.ends ∙ rw (f, length-append, p.ends) (add_assoc at (length (fitting o at a)) (length (fitting o₁ (at + length (fitting o at a)) b)));
      bytes = q.bytes ∙ rw f (go (leb at (length o)) refl);
    }
  where
    go : (x : Bool) → leb at (length o) ≡ x → put o₁ m (fitting o₁ m b) ≡ put o at (fitting o at a ++ fitting o₁ m b)
    go true e =
        let f = fitting_le o at a (leb-true at (length o) e) in
        let g = fitting_le o₁ m b (omega (arith, p.ends, puts_length p)) in
        let h : at + length (fitting o at a) + length (fitting o₁ m b) ≤ length o = omega (arith, p.ends, puts_length p) in
        ap (λ (t : List A). put t m (fitting o₁ m b)) p.bytes ∙ ap (λ (k : ℕ). put (put o at (fitting o at a)) k (fitting o₁ m b)) p.ends
        ∙ put_then o at (fitting o at a) (fitting o₁ m b) h
    go false e =
        let l = leb-false at (length o) e in
        let f = fitting_past o at a (omega arith) in
        let g = fitting_past o₁ m b (omega (arith, p.ends, puts_length p)) in
        rw (f, g) (put_nil o₁ m ∙ p.bytes ∙ rw f)

-- a byte between two texts
pub puts_between : {o o₁ o₂ o₃ a b : List ℕ} {t at l m n : ℕ} → Puts o at a o₁ l → Puts o₁ l (t ∷ []) o₂ m → Puts o₂ m b o₃ n → Puts o at (a ++ (t ∷ b)) o₃ n
puts_between {a = a} {b} {t} p q r = rw (append_snoc a t b) at (puts_then (puts_then p q) r)

-- one byte stored
pub puts_byte : {A : Type 0} (o : List A) (at : ℕ) (b : A) → at < length o → Puts o at (b ∷ []) (set o at b) (at + 1)
unfolding put
puts_byte o at b h =
    let f = fitting_whole o at (b ∷ []) (omega arith) in
    record { ends = rw f; bytes = rw (f, add-one, append_assoc) (set_split o at b h) }

-- as much of a text as there is room for, copied
fitting_front : {A : Type 0} (o : List A) (at : ℕ) (t : List A) (n : ℕ) → n ≡ min (length t) (length o - at) → fitting o at t ≡ take n t
unfolding fitting
fitting_front o at t n e = go (leb (length t) (length o - at)) refl
  where
    go : (x : Bool) → leb (length t) (length o - at) ≡ x → take (length o - at) t ≡ take n t
    go true h =
        let l = leb-true (length t) (length o - at) h in
        take_all (length o - at) t l ∙ sym (take_all n t (omega arith))
    go false h =
        let l = leb-false (length t) (length o - at) h in
        let m : length o - at ≡ n = omega arith in
        ap (λ (k : ℕ). take k t) m

pub puts_copied : {A : Type 0} (o : List A) (at : ℕ) (t y : List A) (k n : ℕ) → n ≡ min (length t) (length o - at) → y ≡ take n t → k ≡ n
    → Puts o at t (put_mid at k o y) (at + n)
unfolding put
puts_copied o at t y k n m e h =
    let f = fitting_front o at t n m in
    let l : length (take n t) ≡ n = simp length-take (omega arith) in
    let d : drop n (drop at o) ≡ drop (at + n) o = drop-drop n at o in
    record { ends = rw (f, l); bytes = rw (f, l, e, h, d) (sym (append_assoc (take at o) (take n t) (drop (at + n) o))) }

-- a writer that starts within the buffer stays there
pub puts_within : {A : Type 0} {o o₁ t : List A} {at n : ℕ} → at ≤ length o → Puts o at t o₁ n → n ≤ length o
puts_within {A} {o} {o₁} {t} {at} h p = omega (arith, p.ends, fitting_le o at t h)

pub puts_le : {A : Type 0} {o o₁ t : List A} {at n : ℕ} → Puts o at t o₁ n → n ≤ at + length t
puts_le {A} {o} {o₁} {t} {at} p = omega (arith, p.ends, fitting_text o at t)

-- a text that fits is written whole
pub placed : {o o₁ t : List ℕ} {at n : ℕ} → at + length t ≤ length o → Puts o at t o₁ n → Placed o at t o₁ n
placed {o} {o₁} {t} {at} h p =
    let f = fitting_whole o at t h in
    record { fits = h; ends = rw f at p.ends; bytes = rw f at p.bytes }

pub placed_puts : {o o₁ t : List ℕ} {at n : ℕ} → Placed o at t o₁ n → Puts o at t o₁ n
placed_puts {o} {o₁} {t} {at} p =
    let f = fitting_whole o at t p.fits in
    record { ends = rw f p.ends; bytes = rw f p.bytes }

pub placed_none : (o : List ℕ) (at : ℕ) → at ≤ length o → Placed o at [] o at
placed_none o at h = placed (omega arith) (puts_none o at)

pub placed_length : {o o₁ t : List ℕ} {at n : ℕ} → Placed o at t o₁ n → length o₁ ≡ length o
placed_length p = puts_length (placed_puts p)

pub placed_then : {o o₁ o₂ a b : List ℕ} {at m n : ℕ} → Placed o at a o₁ m → Placed o₁ m b o₂ n → Placed o at (a ++ b) o₂ n
placed_then p q = placed (simp length-append (omega (arith, p.ends, q.fits, placed_length p))) (puts_then (placed_puts p) (placed_puts q))

-- and is read again there, where it starts at 0
pub placed_take : {o o₁ t : List ℕ} {n : ℕ} → Placed o 0 t o₁ n → take n o₁ ≡ t
unfolding put
placed_take {o} {o₁} {t} {n} p = rw (p.bytes, p.ends, zero-add) (take-append_seam t (drop (length t) o))

-- a text that was made whole in a buffer, delivered from there
pub delivers_made : {buffer made t o o₁ : List ℕ} {n : ℕ} {done : Bool} → Placed buffer 0 t made n → Delivers (take (n - 0) (drop 0 made)) o o₁ done
    → Delivers t o o₁ done
delivers_made {made = made} {t} {n = n} p d =
    let z : n - 0 ≡ n = omega arith in
    let e : take (n - 0) (drop 0 made) ≡ t = ap (λ (i : ℕ). take i made) z ∙ placed_take p in
    rw e at d

-- a text that fits is delivered, and is read again there
pub delivered_take : (t o : List ℕ) → length t ≤ length o → take (length t) (delivered t o) ≡ t
unfolding delivered put
delivered_take t o h =
    let f : fits_in t o ≡ true = le-leb (length t) (length o) h in
    rw (f, zero-add) (take-append_seam t (drop (length t) o))
