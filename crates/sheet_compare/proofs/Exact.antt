-- A comparison lists exactly the names that differ, in order, each once.
-- Assumes nothing.
use mathlib.Core.Bool.{Bool, true, false}
use mathlib.Core.List.{List, [], ◌∷◌}
use mathlib.Core.Logic.{◌⊎◌, inl, inr}
use mathlib.Core.Path.{◌≡◌, refl, sym, ◌∙◌}
use Prim.Native.Nat.{ℕ, zero, suc, ◌+◌, ◌≤◌, ◌<◌}
use native.Mathlib.Omega.{arith}
use lib.ListN.{length}
use Rattle.sheets.specs.Scanning.{no_name}
use Rattle.sheets.specs.declared.Region.{Region}
use Rattle.sheet_compare.specs.Compare.{less, names_after, differing}
use Rattle.sheet_compare.specs.Lists.{In, here, there, odd, Differs, After, done, next, Once, empty, new, ListsNames}
use Rattle.std.specs.Prelude.{Option}
use Rattle.std.specs.Option.{option_map_or}
use Rattle.sheet_compare.proofs.Order.{less_self, less_trans, less_total, Least, least, Sound, none, some, next_sound, next_least}
use Rattle.sheet_compare.proofs.Standing.{clash_of}

-- what is listed after a name comes after it, and so no name is listed twice
pub after_in : {last n : List ℕ} {ns : List (List ℕ)} → After last ns → In n ns → less last n ≡ true
after_in done i = elim i [ ]
after_in (next h r) here = h
after_in (next {last = last} {n = m} h r) (there {x = n} i) = less_trans last m n h (after_in r i)

once_of : {last : List ℕ} {ns : List (List ℕ)} → After last ns → Once ns
once_of done = empty
once_of (next {n = n} h r) = new (λ i. clash_of (sym (after_in r i) ∙ less_self n)) (once_of r)

-- how many regions have a name after the last
bit : Bool → ℕ
bit true = 1
bit false = 0

above : (last : List ℕ) → List Region → ℕ
above last [] = 0
above last (r ∷ rs) = bit (less last r.name) + above last rs

above_most : (last : List ℕ) (rs : List Region) → above last rs ≤ length rs
unfolding above bit
above_most last [] = omega arith
above_most last (r ∷ rs) = go (less last r.name) (above_most last rs)
  where
    go : (t : Bool) → above last rs ≤ length rs → bit t + above last rs ≤ suc (length rs)
    go true k = omega arith
    go false k = omega arith

above_some : (last : List ℕ) {rs : List Region} {r : Region} → In r rs → less last r.name ≡ true → 0 < above last rs
unfolding above bit
above_some last (here {x = r} {l = rs}) h = rw h (omega arith)
above_some last (there {x = r} {y = s} {l = rs} k) h = omega (arith, above_some last k h)

above_less : (last n : List ℕ) → less last n ≡ true → (rs : List Region) → above n rs ≤ above last rs
unfolding above bit
above_less last n h [] = omega arith
above_less last n h (r ∷ rs) = go (less n r.name) refl (less last r.name) refl (above_less last n h rs)
  where
    go : (t : Bool) → less n r.name ≡ t → (u : Bool) → less last r.name ≡ u → above n rs ≤ above last rs → bit t + above n rs ≤ bit u + above last rs
    go true e true f k = omega arith
    go true e false f k = clash_of (sym (less_trans last n r.name h e) ∙ f)
    go false e true f k = omega arith
    go false e false f k = omega arith

above_fewer : (last : List ℕ) {rs : List Region} {r : Region} → In r rs → less last r.name ≡ true → above r.name rs < above last rs
unfolding above bit
above_fewer last (here {x = r} {l = rs}) h = rw (h, less_self r.name) (omega (arith, above_less last r.name h rs))
above_fewer last (there {x = r} {y = s} {l = rs} k) h = go (less r.name s.name) refl (less last s.name) refl (above_fewer last k h)
  where
    go : (t : Bool) → less r.name s.name ≡ t → (u : Bool) → less last s.name ≡ u → above r.name rs < above last rs
        → bit t + above r.name rs < bit u + above last rs
    go true e true f q = omega arith
    go true e false f q = clash_of (sym (less_trans last r.name s.name h e) ∙ f)
    go false e true f q = omega arith
    go false e false f q = omega arith

module _ (a b : List Region) (long : (r : Region) → In r a ⊎ In r b → length r.name ≡ 16) where
  all_above : List ℕ → ℕ
  all_above last = above last a + above last b

  differs_long : (n : List ℕ) → Differs a b n → length n ≡ 16
  differs_long n (inl (odd r k e)) = long r (inl k)
  differs_long n (inr (odd r k e)) = long r (inr k)

  some_above : (last n : List ℕ) → Differs a b n → less last n ≡ true → 0 < all_above last
  unfolding all_above
  some_above last n (inl (odd r k e)) h = omega (arith, above_some last k h)
  some_above last n (inr (odd r k e)) h = omega (arith, above_some last k h)

  fewer_above : (last n : List ℕ) → Differs a b n → less last n ≡ true → all_above n < all_above last
  unfolding all_above
  fewer_above last n (inl (odd r k e)) h = omega (arith, above_fewer last k h, above_less last r.name h b)
  fewer_above last n (inr (odd r k e)) h = omega (arith, above_fewer last k h, above_less last r.name h a)

  after_all : (k : ℕ) (last : List ℕ) → After last (names_after k last a b)
  unfolding names_after
  after_all zero last = done
  after_all (suc k) last = go (next_sound last a b) (λ n. after_all k n)
    where
      go : {p : Option (List ℕ)} → Sound last a (Differs a b) p → ((n : List ℕ) → After n (names_after k n a b))
          → After last (option_map_or (λ n. n ∷ names_after k n a b) p [])
      go none r = done
      go (some {n = n} h d) r = next h (r n)

  sound_all : (k : ℕ) (last n : List ℕ) → In n (names_after k last a b) → Differs a b n
  unfolding names_after
  sound_all zero last n i = elim i [ ]
  sound_all (suc k) last n i = go (next_sound last a b) i (λ m. sound_all k m n)
    where
      one : (x : List ℕ) → Differs a b x → (l : List (List ℕ)) → In n (x ∷ l) → (In n l → Differs a b n) → Differs a b n
      one x d l here r = d
      one x d l (there i) r = r i

      go : {p : Option (List ℕ)} → Sound last a (Differs a b) p → In n (option_map_or (λ m. m ∷ names_after k m a b) p [])
          → ((m : List ℕ) → In n (names_after k m a b) → Differs a b n) → Differs a b n
      go none i r = elim i [ ]
      go (some {n = m} h d) i r = one m d (names_after k m a b) i (r m)

  complete_all : (k : ℕ) (last n : List ℕ) → all_above last ≤ k → Differs a b n → less last n ≡ true → In n (names_after k last a b)
  unfolding names_after
  complete_all zero last n m d h = absurd (omega (arith, some_above last n d h))
  complete_all (suc k) last n m d h = go (next_sound last a b) (next_least last a b n d h) (λ it l. complete_all k it n l d)
    where
      one : (it : List ℕ) → (n ≡ it) ⊎ (less it n ≡ true) → (less it n ≡ true → In n (names_after k it a b)) → In n (it ∷ names_after k it a b)
      one it (inl e) r = rw e here
      one it (inr e) r = there (r e)

      go : {p : Option (List ℕ)} → Sound last a (Differs a b) p → Least n p
          → ((it : List ℕ) → all_above it ≤ k → less it n ≡ true → In n (names_after k it a b)) → In n (option_map_or (λ q. q ∷ names_after k q a b) p [])
      go none l r = elim l [ ]
      go (some {n = it} g e) (least _ f) r =
          one it (less_total n it (differs_long n d ∙ sym (differs_long it e)) f) (r it (omega (arith, m, fewer_above last it e g)))

  -- all of it, for sheets of at most 64 regions each, whose names come after no name
  pub differing_lists : length a ≤ 64 → length b ≤ 64 → ((n : List ℕ) → Differs a b n → less no_name n ≡ true) → ListsNames a b (differing a b)
  unfolding differing all_above
  differing_lists h k named =
      record {
        sorted = after_all 128 no_name;
        once = once_of (after_all 128 no_name);
        sound = sound_all 128 no_name;
        complete = λ n d. complete_all 128 no_name n (omega (arith, above_most no_name a, above_most no_name b)) d (named n d);
      }
