-- Room counted down: after two texts what it is after both at once; and what is left in the end says whether there was enough.
use Rattle.std.proofs.Common.{◌≡◌, ℕ, ◌+◌, ◌-◌, ◌≤◌, true, false, leb, refl, arith, le-leb, leb-false, leb-true}
use Rattle.std.specs.Prelude.{Option, Some, None, Ok, Err}
use Rattle.std.specs.Option.{ok_or}
use borrow.Author.Tests.{lt-leb}
use Rattle.words.proofs.Word.{by_test}
use Rattle.listing.specs.Rooms.{spent}

pub room_left : (s n at : ℕ) → at ≤ n → leb s (n - at) ≡ leb (at + s) n
room_left s n at h =
    by_test (leb (at + s) n)
    (λ e. let l = leb-true (at + s) n e in rw e (le-leb s (n - at) (omega arith)))
    (λ e. let l = leb-false (at + s) n e in rw e (lt-leb s (n - at) (omega arith)))

pub spent_twice : (room : Option ℕ) (n m : ℕ) → spent (spent room n) m ≡ spent room (n + m)
unfolding spent
spent_twice None n m = refl
spent_twice (Some left) n m =
    by_test (leb n left)
    (λ t.
    let e : left - n - m ≡ left - (n + m) = omega arith in
    rw (t, room_left m left n (leb-true n left t), e) refl)
    (λ t. let l = leb-false n left t in rw (t, lt-leb (n + m) left (omega arith)) refl)

pub spent_nothing : (room : Option ℕ) → spent room 0 ≡ room
unfolding spent
spent_nothing None = refl
spent_nothing (Some left) = let e : left - 0 ≡ left = omega arith in rw (le-leb 0 left (omega arith), e) refl

-- room was enough for all
pub record Enough (most total left : ℕ) : Type 0 where
  pub fits : leb total most ≡ true
  pub order : left ≤ most
  pub spent_is : most - left ≡ total

pub enough : {E : Type 0} (most total left : ℕ) (e : E) → ok_or (spent (Some most) total) e ≡ Ok left → Enough most total left
unfolding spent
enough most total left e h =
    by_test (leb total most)
    (λ t.
    let l = leb-true total most t in
    let k = rw t at h in
    let p : left ≡ most - total = cc in
    record { fits = t; order = omega arith; spent_is = omega arith })
    (λ t.
    let k = rw t at h in
    let z : ⊥ = cc in
    absurd z)

pub too_little : {E : Type 0} (most total : ℕ) (e x : E) → ok_or (spent (Some most) total) e ≡ Err x → (leb total most ≡ false) × (x ≡ e)
unfolding spent
too_little most total e x h =
    by_test (leb total most)
    (λ t.
    let k = rw t at h in
    let z : ⊥ = cc in
    absurd z)
    (λ t.
    let k = rw t at h in
    let p : x ≡ e = cc in
    (t, p))
