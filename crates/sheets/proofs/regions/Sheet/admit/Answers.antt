-- `admit`: a region that is admitted has room after those that are there. Assumes nothing.
use Rattle.std.proofs.Common.{◌≡◌, ◌<◌, ◌≤◌, ◌+◌, ◌-◌, ◌++◌, [], ◌∷◌, List, ℕ, true, sym, ◌∙◌, arith, length, take, drop, refl, drop-drop, add-one}
use lib.ListN.{set, length-set}
use lib.Seq.{take-suc-set}
use Rattle.std.proofs.lemmas.List.{drop-set-lt, drop-replicate}
use Rattle.sheets.specs.Places.{blank, nowhere}
use Rattle.sheets.proofs.Walk.{room}
use Rattle.sheets.proofs.Lists.{taken_length}
use Rattle.sheets.specs.Sheet.{admitted}
use Rattle.sheets.specs.declared.Region.{Region}
use Rattle.sheets.proofs.regions.Sheet.admit.Goals as goal

-- the first n places are a sheet to which r is admitted
module _ (places : List Region) (n : ℕ) (sheet : List Region) (r : Region) (e : take n places ≡ sheet) (few : n ≤ 64) (long : length places ≡ 64)
    (may : admitted sheet r ≡ true) where
  below : n < 64
  below = omega (arith, room sheet r may, rw e at (taken_length places n few long))

  more : take (n + 1) (set places n r) ≡ sheet ++ (r ∷ [])
  more = let h : n < length places = omega (arith, below) in rw (add-one n, take-suc-set places n r h, e)

-- the places after it stay blank
blank_left : (places : List Region) (n : ℕ) (r : Region) → n < 64 → drop n places ≡ blank (64 - n) → drop (n + 1) (set places n r) ≡ blank (64 - (n + 1))
blank_left places n r b e =
    let h : n < n + 1 = omega arith in
    let step : drop (n + 1) places ≡ drop 1 (drop n places) = sym (drop-drop 1 n places) in
    let left : 64 - n - 1 ≡ 64 - (n + 1) = omega arith in
    rw (drop-set-lt (n + 1) places n r h, step, e, drop-replicate 1 (64 - n) nowhere, left) refl

pub bounds-self-inside-self-inside : goal.bounds-self-inside-self-inside
bounds-self-inside-self-inside c =
    let s = c.self in
    below s.inside.places s.inside.count c.args.self.now c.args.r s.view_is s.invariant.1 s.invariant.0
    (rw c.regions.ensures.0 at (sym c.admits.ensures ∙ c.if-not-admits.false))

pub invariant_of-self : goal.invariant_of-self
invariant_of-self c =
    let s = c.self in
    let b = below s.inside.places s.inside.count c.args.self.now c.args.r s.view_is s.invariant.1 s.invariant.0
    (rw c.regions.ensures.0 at (sym c.admits.ensures ∙ c.if-not-admits.false)) in
    let room : s.inside.count + 1 ≤ 64 = omega (arith, b) in
    let long : length (set s.inside.places s.inside.count c.args.r) ≡ 64 = omega (arith, length-set s.inside.places s.inside.count c.args.r, s.invariant.0) in
    (long, room, blank_left s.inside.places s.inside.count c.args.r b s.invariant.2)

pub returns : goal.returns
returns c =
    let s = c.self in
    let may : admitted c.args.self.now c.args.r ≡ true = rw c.regions.ensures.0 at (sym c.admits.ensures ∙ c.if-not-admits.false) in
    record { taken_is = sym may; after_is = rw may (more s.inside.places s.inside.count c.args.self.now c.args.r s.view_is s.invariant.1 s.invariant.0 may) }
