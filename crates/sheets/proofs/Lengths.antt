-- How long a sheet is at most: 64 lines of 46 bytes; and that what records are judged to be, if not bad, is the regions of a sheet.
-- Assumes nothing.
use mathlib.Core.Bool.{Bool, true, false, cond, and-eq-true_iff}
use mathlib.Core.Path.{◌≡◌, refl}
use mathlib.Core.List.{List, [], ◌∷◌, ◌++◌}
use Prim.Native.Nat.{ℕ, zero, suc, ◌+◌, ◌*◌, ◌/◌, ◌%◌, ◌≤◌, ◌<◌}
use native.Mathlib.Omega.{arith}
use borrow.Author.Tests.{eqb-false, ltb-true}
use lib.Dec.{eqb, ltb}
use lib.ListN.{length, length-append}
use Rattle.text.proofs.Numbers.{length_digits}
use Rattle.sheets.specs.Records.{record_at, judged_from, judged}
use Rattle.sheets.specs.Scanning.{ended}
use Rattle.sheets.specs.Sheet.{rights_text, line_text, sheet_text, formed, admitted, follows, Regions, none, more, sheet, bad}
use Rattle.sheets.specs.declared.Region.{Region}
use Rattle.sheets.proofs.Answers.{sheet_more}
use Rattle.sheets.proofs.Lines.{form_of}

right_le : (t : Bool) (b : ℕ) → length (cond t (b ∷ []) []) ≤ 1
right_le true b = omega arith
right_le false b = omega arith

rights_le : (n : ℕ) → length (rights_text n) ≤ 3
unfolding rights_text
rights_le n =
    simp length-append (omega (arith, right_le (eqb (n % 2) 1) 114, right_le (eqb (n / 2 % 2) 1) 119, right_le (eqb (n / 4 % 2) 1) 120))

pub line_le : (r : Region) → formed r ≡ true → length (line_text r) ≤ 45
unfolding line_text
line_le r h = simp (length-append, length_digits) (omega (arith, (form_of r h).most, rights_le r.rights))

-- what `follows` tells
pub follows_both : (rs : List Region) (r : Region) → follows rs r ≡ true → (formed r ≡ true) × (length rs < 64)
unfolding follows admitted
follows_both rs r h =
    let t = (and-eq-true_iff (formed r) _).0 h in
    (t.0, ltb-true (length rs) 64 ((and-eq-true_iff (ltb (length rs) 64) _).0 t.1).0)

pub follows_some : (rs : List Region) (r : Region) → follows rs r ≡ true → 0 < r.size
unfolding follows admitted
follows_some rs r h =
    let t = (and-eq-true_iff (formed r) _).0 h in
    let u = (and-eq-true_iff (ltb (length rs) 64) _).0 t.1 in
    ltb-true 0 r.size ((and-eq-true_iff (ltb 0 r.size) _).0 u.1).0

pub regions_few : {rs : List Region} → Regions rs → length rs ≤ 64
regions_few none = omega arith
regions_few (more {rs} r g f) = simp length-append (omega (arith, (follows_both rs r f).1))

lines_le : {rs : List Region} → Regions rs → length (sheet_text rs) ≤ length rs * 46
unfolding sheet_text
lines_le none = omega arith
lines_le (more {rs} r g f) = rw (sheet_more rs r) (simp length-append (omega (arith, lines_le g, line_le r (follows_both rs r f).0)))

pub sheet_le : {rs : List Region} → Regions rs → length (sheet_text rs) ≤ 2944
sheet_le g = omega (arith, lines_le g, regions_few g)

-- the regions of a sheet, at least one
pub record Whole (rs : List Region) : Type 0 where
  pub regions : Regions rs
  pub some : 0 < length rs

never : {A : Type 0} {n : ℕ} {rs : List Region} {rest : List ℕ} → bad n ≡ sheet rs rest → A
never e = absurd (let z : ◌≡◌ {A = ℕ} 0 1 = cc in omega arith)

whole_ended : (before rs : List Region) (rest : List ℕ) → Regions before → ended before [] ≡ sheet rs rest → Whole rs
unfolding ended
whole_ended before rs rest g e = go (eqb (length before) 0) refl e
  where
    go : (t : Bool) → eqb (length before) 0 ≡ t → cond t (bad 1) (sheet before []) ≡ sheet rs rest → Whole rs
    go true z k = never k
    go false z k =
        let n = eqb-false (length before) 0 z in
        let s : before ≡ rs = cc in
        let w : Whole before = record { regions = g; some = omega arith } in
        rw s at w

whole_from : (ws : List ℕ) (left : ℕ) (before rs : List Region) (rest : List ℕ) → Regions before → judged_from ws before left ≡ sheet rs rest → Whole rs
unfolding judged_from
whole_from ws zero before rs rest g e = go (eqb (length ws % 7) 0) e
  where
    go : (t : Bool) → cond t (ended before []) (bad (length before + 1)) ≡ sheet rs rest → Whole rs
    go true k = whole_ended before rs rest g k
    go false k = never k
whole_from ws (suc left) before rs rest g e = go (follows before r) refl e (λ f. whole_from ws left (before ++ (r ∷ [])) rs rest (more r g f))
  where
    r : Region
    r = record_at ws (length before * 7)

    go : (t : Bool) → follows before r ≡ t → cond t (judged_from ws (before ++ (r ∷ [])) left) (bad (length before + 1)) ≡ sheet rs rest
        → (follows before r ≡ true → judged_from ws (before ++ (r ∷ [])) left ≡ sheet rs rest → Whole rs) → Whole rs
    go true f k next = next f k
    go false f k next = never k

pub judged_whole : (ws : List ℕ) (rs : List Region) (rest : List ℕ) → judged ws ≡ sheet rs rest → Whole rs
unfolding judged
judged_whole ws rs rest e = whole_from ws (length ws / 7) [] rs rest none e
