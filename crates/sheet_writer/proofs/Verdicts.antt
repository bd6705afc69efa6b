-- Records judged one after the other.
-- Assumes nothing.
use mathlib.Core.Bool.{Bool, true, false, cond}
use mathlib.Core.Path.{◌≡◌, refl, ap, ◌∙◌}
use mathlib.Core.List.{List, [], ◌∷◌, ◌++◌}
use Prim.Native.Nat.{ℕ, zero, suc, ◌+◌, ◌-◌, ◌*◌, ◌/◌, ◌%◌, ◌≤◌, ◌<◌}
use native.Mathlib.Omega.{arith}
use borrow.Author.Tests.{eq-eqb, ne_eqb}
use lib.Dec.{eqb}
use lib.ListN.{length, length-append, get_or, take, drop}
use Rattle.std.specs.Prelude.{Ok, Err}
use Rattle.std.specs.Simd.{first_chunks}
use Rattle.std.proofs.lemmas.List.{get_or-take, get_or-drop, drop-drop}
use Rattle.sheets.specs.Records.{record_at, judged_from, judged}
use Rattle.sheets.specs.Scanning.{bad_at, ended, ended_as}
use Rattle.sheets.specs.Sheet.{follows, sheet, bad}
use Rattle.sheets.specs.declared.Region.{Region}
use Rattle.sheet_writer.specs.Writing.{judged_as}

-- a record of the words: seven of them, from an index on
chunk_at : (n k i : ℕ) (ws d : List ℕ) → i < k → get_or (first_chunks n k ws) i d ≡ take n (drop (i * n) ws)
chunk_at n zero i ws d h = absurd (omega arith)
chunk_at n (suc k) zero ws d h = let e : 0 * n ≡ 0 = omega arith in rw e
chunk_at n (suc k) (suc i) ws d h =
    let e : n + i * n ≡ suc i * n = omega arith in
    chunk_at n k i (drop n ws) d (omega arith) ∙ rw (drop-drop, e)

word_in : (ws : List ℕ) (at k : ℕ) → k < 7 → get_or (take 7 (drop at ws)) k 0 ≡ get_or ws (at + k) 0
word_in ws at k h = rw (get_or-take 7 (drop at ws) k 0 h, get_or-drop)

pub record_in : (ws d : List ℕ) (k i : ℕ) → i < k → record_at (get_or (first_chunks 7 k ws) i d) 0 ≡ record_at ws (i * 7)
unfolding record_at
record_in ws d k i h =
    let w = word_in ws (i * 7) in
    let z : i * 7 + 0 ≡ i * 7 = omega arith in
    rw (
      chunk_at 7 k i ws d h,
      w 0 (omega arith),
      z,
      w 1 (omega arith),
      w 2 (omega arith),
      w 3 (omega arith),
      w 4 (omega arith),
      w 5 (omega arith),
      w 6 (omega arith),
    )

-- a sheet that ends here, as an answer
ended_is : (regions : List Region) → judged_as (ended_as regions) ≡ ended regions []
unfolding ended ended_as
ended_is rs = go (eqb (length rs) 0)
  where
    go : (t : Bool) → judged_as (cond t (Err (bad_at 1)) (Ok rs)) ≡ cond t (bad 1) (sheet rs [])
    go true = refl
    go false = refl

-- the loop over the records: after those so far the answer is that for what is left
pub record Going (ws : List ℕ) (regions : List Region) (count : ℕ) : Type 0 where
  pub counted : length regions ≡ count
  pub within : count ≤ length ws / 7
  pub rest : judged_from ws regions (length ws / 7 - count) ≡ judged ws

module _ {ws : List ℕ} {regions : List Region} {count : ℕ} (g : Going ws regions count) where
  abbrev it : Region
  it = record_at ws (count * 7)

  next_is : count < length ws / 7
      → cond (follows regions it) (judged_from ws (regions ++ (it ∷ [])) (length ws / 7 - suc count)) (bad (count + 1)) ≡ judged ws
  unfolding judged_from
  next_is h =
      let e : length ws / 7 - count ≡ suc (length ws / 7 - suc count) = omega arith in
      rw (e, g.counted) at g.rest

  pub going_bad : count < length ws / 7 → follows regions it ≡ false → bad (count + 1) ≡ judged ws
  going_bad h f = rw f at (next_is h)

  pub going_odd : length ws / 7 ≤ count → (length ws % 7 ≡ 0 → ⊥) → bad (count + 1) ≡ judged ws
  unfolding judged_from
  going_odd h f =
      let e : length ws / 7 - count ≡ 0 = omega arith in
      rw (e, ne_eqb (length ws % 7) 0 f, g.counted) at g.rest

  pub going_ended : length ws / 7 ≤ count → length ws % 7 ≡ 0 → judged_as (ended_as regions) ≡ judged ws
  unfolding judged_from
  going_ended h f =
      let e : length ws / 7 - count ≡ 0 = omega arith in
      ended_is regions ∙ (rw (e, eq-eqb (length ws % 7) 0 f) at g.rest)

  pub going_turn : count < length ws / 7 → follows regions it ≡ true → Going ws (regions ++ (it ∷ [])) (count + 1)
  going_turn h f =
      let n : length ws / 7 - (count + 1) ≡ length ws / 7 - suc count = omega arith in
      record {
        counted = omega (arith, length-append regions (it ∷ []), g.counted);
        within = omega arith;
        rest = rw n (rw f at (next_is h));
      }

pub going_start : (ws : List ℕ) → Going ws [] 0
unfolding judged
going_start ws = record { counted = refl; within = omega arith; rest = ap (judged_from ws []) (omega arith) }
