-- A row that is filled for a capability inside its own bounds is good, since every address of its range has those bounds; and what is in a good row is
-- reached: every check passes, in memory. Assumes nothing.
use Rattle.std.proofs.Common.{◌≡◌, ℕ, ◌+◌, ◌%◌, ◌^◌, ◌<◌, ◌≤◌, Bool, true, false, not, ◌&&◌, eqb, leb, List, length, get_or, set, sym, refl, ◌∙◌, arith}
use Rattle.std.proofs.Common.{length-set, get_or-set_other, get_or-set_same, le-ltb, lt-ltb, eq-eqb, eqb-true, le-leb}
use borrow.Author.Tests.{eqb-false}
use Rattle.words.proofs.Word.{by_test}
use Rattle.metadata.specs.Rights.{LD, SD}
use Rattle.bounds.specs.Bounds.{low_at, high_at}
use Rattle.capability.specs.Capability.{grants, sealed, rights, low, high, covers, same_bounds}
use Rattle.capability.specs.declared.Capability.{Capability}
use Rattle.quick.specs.Rows.{right_of, Known, Row, Good, InRow, Reached}
use Rattle.quick.proofs.Inside.{same_inside}

-- rows with no address in any range
pub good_empty : (start size : ℕ) (rows : List ℕ) → length rows ≡ 99 → ((i : ℕ) → get_or rows i 0 ≡ 0) → Good start size rows
good_empty start size rows n h = record { long = n; each = λ i l d a f p q. absurd (omega (arith, h (i + 2), q)) }

-- the right of a register's row for loads, and of its row for stores
pub right_load : (i : ℕ) → i ≤ 45 → LD ≡ right_of i
right_load i h = rw (lt-ltb i 48 (omega arith)) refl

pub right_store : (i : ℕ) → i ≤ 45 → SD ≡ right_of (i + 48)
right_store i h = rw (le-ltb (i + 48) 48 (omega arith), lt-ltb (i + 48) 96 (omega arith)) refl

-- a test that passed, by its negation
pub passed : (b : Bool) → not b ≡ false → b ≡ true
passed true h = refl
passed false h = sym h

-- ---- a row filled

pub row_filled : (right start size l h : ℕ) (c : Capability) → c.address < 2 ^ 32 → sealed c ≡ false → grants c right ≡ true → low c ≤ c.address
    → c.address < high c → low c ≤ l → start ≤ l → h ≤ high c → h ≤ start + size → Row right start size c.metadata l h
unfolding low high sealed rights
row_filled right start size l h c f s g la ah ll sl hh he a fa la' ah' =
    let m : ℕ = c.metadata in
    let at : (b : ℕ) → b < 2 ^ 32 → l ≤ b → b < h → (low_at b m ≡ low_at c.address m) × (high_at b m ≡ high_at c.address m) =
    λ b fb lb bh. same_inside m c.address b f fb la (omega (arith, ll, lb)) (omega (arith, hh, bh)) in
    let own = at a fa la' ah' in
    record {
      is_open = s;
      granted = g;
      low_below = rw own.0 ll;
      high_above = rw own.1 hh;
      from_start = sl;
      to_end = he;
      same = λ b fb lb bh. ((at b fb lb bh).0 ∙ sym own.0, (at b fb lb bh).1 ∙ sym own.1);
    }

-- and put among good ones
abbrev put : (rows : List ℕ) → (i m l h : ℕ) → List ℕ
put rows i m l h = set (set (set rows i m) (i + 1) l) (i + 2) h

put_other : (rows : List ℕ) (i m l h j : ℕ) → (j ≡ i → ⊥) → (j ≡ i + 1 → ⊥) → (j ≡ i + 2 → ⊥) → get_or (put rows i m l h) j 0 ≡ get_or rows j 0
put_other rows i m l h j p q r =
    get_or-set_other (set (set rows i m) (i + 1) l) (i + 2) j h 0 r ∙ get_or-set_other (set rows i m) (i + 1) j l 0 q ∙ get_or-set_other rows i j m 0 p

module _ (rows : List ℕ) (i m l h : ℕ) (long : length rows ≡ 99) (in_rows : i ≤ 96) where
  put_first : get_or (put rows i m l h) i 0 ≡ m
  put_first =
      get_or-set_other (set (set rows i m) (i + 1) l) (i + 2) i h 0 (λ e. omega arith) ∙ get_or-set_other (set rows i m) (i + 1) i l 0 (λ e. omega arith)
      ∙ get_or-set_same rows i m 0 (omega arith)

  put_second : get_or (put rows i m l h) (i + 1) 0 ≡ l
  put_second =
      get_or-set_other (set (set rows i m) (i + 1) l) (i + 2) (i + 1) h 0 (λ e. omega arith)
      ∙ get_or-set_same (set rows i m) (i + 1) l 0 (omega (arith, length-set rows i m))

  put_third : get_or (put rows i m l h) (i + 2) 0 ≡ h
  put_third = get_or-set_same (set (set rows i m) (i + 1) l) (i + 2) h 0 (omega (arith, length-set rows i m, length-set (set rows i m) (i + 1) l))

pub good_put : (start size : ℕ) (rows : List ℕ) (i m l h : ℕ) → i ≤ 96 → i % 3 ≡ 0 → Row (right_of i) start size m l h
    → Good start size rows → Good start size (set (set (set rows i m) (i + 1) l) (i + 2) h)
good_put start size rows i m l h k d r g = record { long = simp length-set g.long; each = there }
  where
    there : (j : ℕ) → j ≤ 96 → j % 3 ≡ 0
        → Row (right_of j) start size (get_or (put rows i m l h) j 0) (get_or (put rows i m l h) (j + 1) 0) (get_or (put rows i m l h) (j + 2) 0)
    there j kj dj =
        by_test (eqb j i)
        (λ t. let e : j ≡ i = eqb-true j i t in
        rw (e, put_first rows i m l h g.long k, put_second rows i m l h g.long k, put_third rows i m l h g.long k) r)
        (λ t. let n = eqb-false j i t in
        rw (
          put_other rows i m l h j n (λ q. omega arith) (λ q. omega arith),
          put_other rows i m l h (j + 1) (λ q. omega arith) (λ q. n (omega arith)) (λ q. omega arith),
          put_other rows i m l h (j + 2) (λ q. omega arith) (λ q. omega arith) (λ q. n (omega arith)),
        )
        (g.each j kj dj))

-- ---- a row used

both : (x y : Bool) → x ≡ true → y ≡ true → (x && y) ≡ true
both x y p q = rw (p, q) refl

module _ (start size : ℕ) (rows : List ℕ) (i address width : ℕ) (c : Capability) (good : Good start size rows) (k : i ≤ 96) (d : i % 3 ≡ 0)
    (tag : c.tag ≡ 1) (word : c.address < 2 ^ 32) (new : address < 2 ^ 32) (r : InRow rows i c address width) where
  known : Known (right_of i) start size c.metadata (get_or rows (i + 1) 0) (get_or rows (i + 2) 0) c.address
  known = rw r.word_is at (good.each i k d c.address word r.own_above r.own_below)

  pub reached : Reached (right_of i) start size c address width
  unfolding covers low high same_bounds sealed rights
  reached =
      let l : ℕ = low_at c.address c.metadata in
      let h : ℕ = high_at c.address c.metadata in
      let from : l ≤ address = omega (arith, known.low_below, r.above) in
      let to : address + width ≤ h = omega (arith, known.high_above, r.below) in
      record {
        is_tagged = tag;
        is_open = known.is_open;
        has_right = known.granted;
        in_bounds = both (leb l address) (leb (address + width) h) (le-leb l address from) (le-leb (address + width) h to);
        after_start = omega (arith, known.from_start, r.above);
        before_end = omega (arith, known.to_end, r.below);
        same_bounds =
            λ w. let s = known.same address new r.above (omega (arith, r.below, w)) in
            both (eqb (low_at address c.metadata) l) (eqb (high_at address c.metadata) h) (eq-eqb (low_at address c.metadata) l s.0)
            (eq-eqb (high_at address c.metadata) h s.1);
      }
