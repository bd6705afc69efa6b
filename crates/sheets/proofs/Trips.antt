-- Both round trips: the text of regions reads as these regions, and what was read has the text's bytes; and what a text says is one answer.
-- Assumes nothing.
use mathlib.Core.Bool.{Bool, true, false, cond, ◌&&◌, not, and-eq-true_iff, and-false}
use mathlib.Core.Path.{◌≡◌, refl, sym, ap, ◌∙◌}
use mathlib.Core.List.{List, [], ◌∷◌, ◌++◌, append_assoc, append-nil}
use Prim.Native.Nat.{ℕ, suc, ◌+◌, ◌<◌}
use native.Mathlib.Omega.{arith}
use borrow.Author.Tests.{ne_eqb, eq-eqb, eqb-true, ltb-true, ltb-false}
use lib.Dec.{eqb, ltb}
use lib.ListN.{length, drop}
use lib.Seq.{append_snoc}
use Rattle.sheets.specs.Sheet.{line_text, sheet_text, formed, admitted, follows, Regions, none, more, Answer, sheet, bad, ending, IsSheet, FirstBad, Says}
use Rattle.text.specs.Writing.{newline}
use Rattle.sheets.specs.Scanning.{whole, scan_of, first_line, region_of, takes, is_empty, ended, at_end, at_newline, read_from, read_of}
use Rattle.sheets.specs.declared.Region.{Region}
use Rattle.sheets.proofs.Lines.{line_told, region_whole}
use Rattle.sheets.proofs.Answers.{clean, clean_line, clash_of, empty_is, sheet_more, read_says}
use Rattle.sheets.proofs.Walk.{after_line, line_le, read_last, read_line}

-- bytes without a newline
read_clean : (image : Bool) (before : List Region) (q p l : List ℕ) → clean p ≡ true → read_from image before q (p ++ l) ≡ read_from image before (q ++ p) l
unfolding read_from clean
read_clean image before q [] l h = rw append-nil
read_clean image before q (b ∷ p) l h =
    let t = (and-eq-true_iff (not (eqb b newline)) (clean p)).0 h in
    go (eqb b newline) refl t.0 (read_clean image before (q ++ (b ∷ [])) p l t.1)
  where
    go : (t : Bool) → eqb b newline ≡ t → not (eqb b newline) ≡ true
        → read_from image before (q ++ (b ∷ [])) (p ++ l) ≡ read_from image before ((q ++ (b ∷ [])) ++ p) l
        → read_from image before q (b ∷ (p ++ l)) ≡ read_from image before (q ++ (b ∷ p)) l
    go true e k r = clash_of (sym k ∙ ap not e)
    go false e k r = rw (e, ← (append_snoc q b p)) r

-- a region's line is not empty
line_begun : (r : Region) → is_empty (line_text r) ≡ false
unfolding line_text is_empty
line_begun r = refl

takes_line : (before : List Region) (r : Region) → formed r ≡ true → admitted before r ≡ true → takes before (line_text r) ≡ true
unfolding takes
takes_line before r f a = let w = region_whole r f in rw (w.0, w.1) a

-- the newline after a region's line
read_newline : (image : Bool) (before : List Region) (r : Region) (rest : List ℕ) → formed r ≡ true → admitted before r ≡ true
    → read_from image before (line_text r) (newline ∷ rest) ≡ read_from image (before ++ (r ∷ [])) [] rest
unfolding read_from at_newline
read_newline image before r rest f a = rw (line_begun r, and-false image, takes_line before r f a, (region_whole r f).1)

-- a line of a region that may follow
read_one : (image : Bool) (before : List Region) (r : Region) (rest : List ℕ) → follows before r ≡ true
    → read_from image before [] (line_text r ++ (newline ∷ rest)) ≡ read_from image (before ++ (r ∷ [])) [] rest
unfolding follows
read_one image before r rest h =
    let t = (and-eq-true_iff (formed r) (admitted before r)).0 h in
    read_clean image before [] (line_text r) (newline ∷ rest) (clean_line r t.0) ∙ read_newline image before r rest t.0 t.1

-- the lines of regions
read_regions : (image : Bool) {rs : List Region} → Regions rs → (rest : List ℕ) → read_from image [] [] (sheet_text rs ++ rest) ≡ read_from image rs [] rest
unfolding sheet_text
read_regions image none rest = refl
read_regions image (more {rs} r g h) rest =
    let e : sheet_text (rs ++ (r ∷ [])) ++ rest ≡ sheet_text rs ++ (line_text r ++ (newline ∷ rest)) = rw (sheet_more rs r) (simp append_assoc) in
    rw e (read_regions image g (line_text r ++ (newline ∷ rest)) ∙ read_one image rs r rest h)

read_ending : (image : Bool) (rs : List Region) (rest : List ℕ) → 0 < length rs → (image ≡ false → rest ≡ [])
    → read_from image rs [] (ending image rest) ≡ sheet rs rest
unfolding ending read_from at_end at_newline is_empty ended
read_ending true rs rest h k = rw (ne_eqb (length rs) 0 (omega arith))
read_ending false rs rest h k = rw (ne_eqb (length rs) 0 (omega arith), k refl)

-- what is a sheet reads as that sheet
pub sheet_read : (image : Bool) (text : List ℕ) (rs : List Region) (rest : List ℕ) → IsSheet image text rs rest → read_of image text ≡ sheet rs rest
unfolding read_of
sheet_read image text rs rest k = rw k.text_is (read_regions image k.regions (ending image rest) ∙ read_ending image rs rest k.some k.alone)

-- written regions read as these regions
pub written_reads : (rs : List Region) → Regions rs → 0 < length rs → read_of false (sheet_text rs) ≡ sheet rs []
unfolding ending
written_reads rs g h = sheet_read false (sheet_text rs) rs [] (record { regions = g; some = h; text_is = rw append-nil; alone = λ z. refl })

-- what was read is written as the same bytes
pub read_writes : (text : List ℕ) (rs : List Region) (rest : List ℕ) → read_of false text ≡ sheet rs rest → sheet_text rs ≡ text
unfolding ending
read_writes text rs rest e =
    let k : IsSheet false text rs rest = rw e at (read_says false text) in
    sym (k.text_is ∙ append-nil (sheet_text rs))

-- an image's sheet and payload
pub image_reads : (rs : List Region) (payload : List ℕ) → Regions rs → 0 < length rs → read_of true (sheet_text rs ++ (newline ∷ payload)) ≡ sheet rs payload
unfolding ending
image_reads rs payload g h =
    sheet_read true (sheet_text rs ++ (newline ∷ payload)) rs payload
    (record { regions = g; some = h; text_is = refl; alone = λ z. absurd (let y : ◌≡◌ {A = ℕ} 0 1 = cc in omega arith) })

-- ---- what a text says is one answer

-- the line at the front of a text, and what is after it
line_split : (l : List ℕ) → length (first_line l) < length l → l ≡ first_line l ++ (newline ∷ drop (suc (length (first_line l))) l)
unfolding first_line
line_split [] h = absurd (omega arith)
line_split (b ∷ l) h = go (eqb b newline) refl h (line_split l)
  where
    go : (t : Bool) → eqb b newline ≡ t → length (cond t [] (b ∷ first_line l)) < suc (length l)
        → (length (first_line l) < length l → l ≡ first_line l ++ (newline ∷ drop (suc (length (first_line l))) l))
        → b ∷ l ≡ cond t [] (b ∷ first_line l) ++ (newline ∷ drop (suc (length (cond t [] (b ∷ first_line l)))) (b ∷ l))
    go true e k r = rw (eqb-true b newline e)
    go false e k r = ap (λ (x : List ℕ). b ∷ x) (r (omega arith))

bad_ended : (before : List Region) (rest : List ℕ) → length before ≡ 0 → ended before rest ≡ bad (length before + 1)
unfolding ended
bad_ended before rest e = rw (eq-eqb (length before) 0 e, e)

empty_line : (l rest : List ℕ) → l ≡ [] → l ++ (newline ∷ rest) ≡ ending true rest
unfolding ending
empty_line l rest e = rw e

both_true : (before : List Region) (r : Region) → formed r ≡ true → admitted before r ≡ true → follows before r ≡ true
unfolding follows
both_true before r h k = rw (h, k)

-- the text's end
bad_last : (image : Bool) (before : List Region) (from : List ℕ) → ((rest : List ℕ) → from ≡ ending image rest → length before ≡ 0)
    → at_end image before from ≡ bad (length before + 1)
unfolding at_end ending
bad_last true before from stop = refl
bad_last false before from stop = go (is_empty from) refl
  where
    go : (t : Bool) → is_empty from ≡ t → cond t (ended before []) (bad (length before + 1)) ≡ bad (length before + 1)
    go true e = bad_ended before [] (stop [] (empty_is from e))
    go false e = refl

taken_both : (before : List Region) (line : List ℕ) → takes before line ≡ true → (whole (scan_of line) ≡ true) × (admitted before (region_of line) ≡ true)
unfolding takes
taken_both before line h = (and-eq-true_iff (whole (scan_of line)) (admitted before (region_of line))).0 h

-- a newline
module _ (image : Bool) (before : List Region) (from : List ℕ) (short : length (first_line from) < length from) where
  abbrev line : List ℕ
  line = first_line from

  abbrev rest : List ℕ
  rest = after_line from

  bad_line : (after : Answer) → ((r : Region) (left : List ℕ) → from ≡ line_text r ++ (newline ∷ left) → follows before r ≡ true → ⊥)
      → ((left : List ℕ) → from ≡ ending image left → length before ≡ 0)
      → at_newline image before line rest after ≡ bad (length before + 1)
  unfolding at_newline
  bad_line after never stop = go (image && is_empty line) refl
    where
      ends : (i : Bool) → i ≡ image → (i && is_empty line) ≡ true → length before ≡ 0
      ends true e k = stop rest (line_split from short ∙ empty_line line rest (empty_is line k) ∙ ap (λ (j : Bool). ending j rest) e)
      ends false e k = clash_of (sym k)

      taken : (takes before line) ≡ true → ⊥
      taken k =
          let t = taken_both before line k in
          let d = line_told line t.0 in
          never (region_of line) rest (line_split from short ∙ ap (λ (x : List ℕ). x ++ (newline ∷ rest)) d.text_is)
          (both_true before (region_of line) d.well_formed t.1)

      on : (u : Bool) → (takes before line) ≡ u → cond u after (bad (length before + 1)) ≡ bad (length before + 1)
      on true e = absurd (taken e)
      on false e = refl

      go : (t : Bool) → (image && is_empty line) ≡ t
          → cond t (ended before rest) (cond (takes before line) after (bad (length before + 1))) ≡ bad (length before + 1)
      go true e = bad_ended before rest (ends image refl e)
      go false e = on (takes before line) refl

-- what is bad at line n reads as bad at line n
pub bad_read : (image : Bool) (text : List ℕ) (n : ℕ) → FirstBad image text n → read_of image text ≡ bad n
unfolding read_of
bad_read image text n k = rw (k.text_is, k.number)
    (read_regions image k.regions k.from ∙ go (ltb (length (first_line k.from)) (length k.from)) refl)
  where
    go : (t : Bool) → ltb (length (first_line k.from)) (length k.from) ≡ t → read_from image k.before [] k.from ≡ bad (length k.before + 1)
    go true e =
        let h = ltb-true (length (first_line k.from)) (length k.from) e in
        read_line image k.before [] k.from h ∙ bad_line image k.before k.from h _ k.no_line k.no_end
    go false e =
        let h = ltb-false (length (first_line k.from)) (length k.from) e in
        read_last image k.before [] k.from (omega (arith, line_le k.from)) ∙ bad_last image k.before k.from k.no_end

-- so a text says one thing
pub says_read : (image : Bool) (text : List ℕ) (answer : Answer) → Says image text answer → read_of image text ≡ answer
says_read image text (sheet rs rest) k = sheet_read image text rs rest k
says_read image text (bad n) k = bad_read image text n k
