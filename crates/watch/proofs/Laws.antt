-- Laws of the watch record: what a hit is, and what is empty is never hit. Assumes nothing.
use Prim.Native.Nat.{ℕ, ◌+◌, ◌<◌}
use mathlib.Core.Path.{◌≡◌, refl, sym, ap₂}
use mathlib.Core.Bool.{Bool, true, false, ◌&&◌, true≢false}
use native.Mathlib.Omega.{arith}
use lib.Dec.{ltb, leb}
use borrow.Author.Tests.{ltb-true, lt-ltb, leb-true, leb-false}
use Rattle.watch.specs.Watch.{hits, Shares, range_touched, touched_at}
use Rattle.watch.specs.declared.Range.{Range}
use Rattle.watch.specs.declared.Watch.{Watch}

first_holds : (a b : Bool) → a && b ≡ true → a ≡ true
first_holds true b h = refl
first_holds false b h = absurd (true≢false (sym h))

rest_holds : (a b : Bool) → a && b ≡ true → b ≡ true
rest_holds true b h = h
rest_holds false b h = absurd (true≢false (sym h))

both_hold : (a b : Bool) → a ≡ true → b ≡ true → a && b ≡ true
both_hold true b h g = g
both_hold false b h g = absurd (true≢false (sym h))

-- a hit is a byte in common: the later of the two starts is one
pub hit_shares : (r : Range) (address width : ℕ) → hits r address width ≡ true → Shares r address width
unfolding hits
hit_shares r address width h = go (leb r.start address) refl
  where
    rest : ltb 0 width && (ltb r.start (address + width) && ltb address (r.start + r.length)) ≡ true
    rest = rest_holds (ltb 0 r.length) _ h

    ends : ltb r.start (address + width) && ltb address (r.start + r.length) ≡ true
    ends = rest_holds (ltb 0 width) _ rest

    full : 0 < r.length
    full = ltb-true 0 r.length (first_holds (ltb 0 r.length) _ h)

    wide : 0 < width
    wide = ltb-true 0 width (first_holds (ltb 0 width) _ rest)

    before : r.start < address + width
    before = ltb-true r.start (address + width) (first_holds (ltb r.start (address + width)) _ ends)

    after : address < r.start + r.length
    after = ltb-true address (r.start + r.length) (rest_holds (ltb r.start (address + width)) _ ends)

    go : (b : Bool) → leb r.start address ≡ b → Shares r address width
    go true q =
        let le = leb-true r.start address q in
        record { byte = address; in_range = (le, after); in_store = (omega arith, omega (arith, wide)) }
    go false q =
        let gt = leb-false r.start address q in
        record { byte = r.start; in_range = (omega arith, omega (arith, full)); in_store = (omega (arith, gt), before) }

pub shares_hit : (r : Range) (address width : ℕ) → Shares r address width → hits r address width ≡ true
unfolding hits
shares_hit r address width s =
    both_hold _ _ (lt-ltb 0 r.length (omega (arith, s.in_range)))
    (both_hold _ _ (lt-ltb 0 width (omega (arith, s.in_store)))
    (both_hold _ _ (lt-ltb r.start (address + width) (omega (arith, s.in_range, s.in_store)))
    (lt-ltb address (r.start + r.length) (omega (arith, s.in_range, s.in_store)))))

-- a range of length 0 is never hit
pub empty_missed : (r : Range) (address width : ℕ) → r.length ≡ 0 → hits r address width ≡ false
unfolding hits
empty_missed r address width h = rw h refl

-- a range that is not hit stays, count and all
pub missed_stays : (r : Range) (address width : ℕ) → hits r address width ≡ false → r ≡ range_touched r address width
unfolding range_touched
missed_stays r address width h = rw h refl

pub empty_stays : (r : Range) (address width : ℕ) → r.length ≡ 0 → r ≡ range_touched r address width
empty_stays r address width h = missed_stays r address width (empty_missed r address width h)

-- and so does a record whose two ranges are empty
pub both_stay : (w : Watch) (address width : ℕ) → w.first.length + w.second.length ≡ 0 → w ≡ touched_at w address width
unfolding touched_at
both_stay w address width h =
    ap₂ (λ (x y : Range). record { first = x; second = y }) (empty_stays w.first address width (omega arith))
    (empty_stays w.second address width (omega arith))
