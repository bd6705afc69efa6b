-- A sheet read line by line: what the lines and the end say is what the bytes say, and the loop over the lines keeps it.
-- Assumes nothing.
use mathlib.Core.Bool.{Bool, true, false, cond, ◌&&◌, and-false, and-eq-true_iff}
use mathlib.Core.Path.{◌≡◌, refl, sym, ap, ◌∙◌}
use mathlib.Core.List.{List, [], ◌∷◌, ◌++◌, append-nil}
use mathlib.Core.Logic.{◌⊎◌, inl, inr}
use Prim.Native.Nat.{ℕ, suc, ◌+◌, ◌-◌, ◌≤◌, ◌<◌}
use native.Mathlib.Nat.{suc_inj}
use native.Mathlib.Omega.{arith}
use borrow.Author.Tests.{eq-eqb, ne_eqb, ltb-true}
use lib.Dec.{eqb, ltb}
use lib.ListN.{length, take, drop, drop_of_length-le, length-append, length-drop}
use lib.Seq.{append_snoc, drop-append-le, drop-drop, take-append-le}
use Rattle.std.specs.Prelude.{Some, None, Result, Ok, Err}
use Rattle.text.specs.Writing.{newline}
use Rattle.sheets.specs.Sheet.{admitted, sheet, bad}
use Rattle.sheets.specs.Scanning.{whole, name_place, region_in, region_told, region_of, takes, is_empty, ended, at_end, at_newline, read_from, read_of}
use Rattle.sheets.specs.Scanning.{first_line, Lined, bad_at, ended_as, answer_of, reading_of, Reads}
use Rattle.sheets.specs.declared.Scan.{Scan}
use Rattle.sheets.specs.declared.Region.{Region}
use Rattle.sheets.specs.declared.BadLine.{BadLine}
use Rattle.sheets.specs.declared.Reading.{Reading}
use Rattle.sheets.proofs.Lines.{Told, line_told}

-- what holds of both ways of a test holds of the choice
pub both : {A : Type 0} (P : A → Type 0) (t : Bool) {x y : A} → P x → P y → P (cond t x y)
both P true p q = p
both P false p q = q

-- a line that the text's end ends, and one that a newline ends
pub read_last : (image : Bool) (before : List Region) (p l : List ℕ) → length (first_line l) ≡ length l
    → read_from image before p l ≡ at_end image before (p ++ l)
unfolding read_from first_line
read_last image before p [] h = rw append-nil
read_last image before p (b ∷ l) h = go (eqb b newline) refl h (read_last image before (p ++ (b ∷ [])) l)
  where
    go : (t : Bool) → eqb b newline ≡ t → length (cond t [] (b ∷ first_line l)) ≡ suc (length l)
        → (length (first_line l) ≡ length l → read_from image before (p ++ (b ∷ [])) l ≡ at_end image before ((p ++ (b ∷ [])) ++ l))
        → read_from image before p (b ∷ l) ≡ at_end image before (p ++ (b ∷ l))
    go true e k r = absurd (omega arith)
    go false e k r = rw (e, ← (append_snoc p b l)) (r (suc_inj k))

-- what comes after the first line and its newline
abbrev pub after_line : List ℕ → List ℕ
after_line l = drop (suc (length (first_line l))) l

pub read_line : (image : Bool) (before : List Region) (p l : List ℕ) → length (first_line l) < length l
    → read_from image before p l
    ≡ at_newline image before (p ++ first_line l) (after_line l) (read_from image (before ++ (region_of (p ++ first_line l) ∷ [])) [] (after_line l))
unfolding read_from first_line
read_line image before p [] h = absurd (omega arith)
read_line image before p (b ∷ l) h = go (eqb b newline) refl h (read_line image before (p ++ (b ∷ [])) l)
  where
    At : (line rest : List ℕ) → Type 0
    At line rest =
        read_from image before p (b ∷ l) ≡ at_newline image before line rest (read_from image (before ++ (region_of line ∷ [])) [] rest)

    go : (t : Bool) → eqb b newline ≡ t → length (cond t [] (b ∷ first_line l)) < suc (length l)
        → (length (first_line l) < length l
        → read_from image before (p ++ (b ∷ [])) l
        ≡ at_newline image before ((p ++ (b ∷ [])) ++ first_line l) (after_line l)
        (read_from image (before ++ (region_of ((p ++ (b ∷ [])) ++ first_line l) ∷ [])) [] (after_line l)))
        → At (p ++ cond t [] (b ∷ first_line l)) (drop (suc (length (cond t [] (b ∷ first_line l)))) (b ∷ l))
    go true e k r = rw (e, append-nil)
    go false e k r = rw (e, ← (append_snoc p b (first_line l))) (r (omega arith))

pub line_le : (l : List ℕ) → length (first_line l) ≤ length l
unfolding first_line
line_le [] = omega arith
line_le (b ∷ l) = both (λ (x : List ℕ). length x ≤ suc (length l)) (eqb b newline) {x = []} {y = b ∷ first_line l} (omega arith) (omega (arith, line_le l))

-- the first line is the front of the text
line_front : (l : List ℕ) → l ≡ first_line l ++ drop (length (first_line l)) l
unfolding first_line
line_front [] = refl
line_front (b ∷ l) = go (eqb b newline) (line_front l)
  where
    go : (t : Bool) → l ≡ first_line l ++ drop (length (first_line l)) l
        → b ∷ l ≡ cond t [] (b ∷ first_line l) ++ drop (length (cond t [] (b ∷ first_line l))) (b ∷ l)
    go true r = refl
    go false r = ap (λ (x : List ℕ). b ∷ x) r

-- so a name within it is the same in both
name_there : (l : List ℕ) (n : ℕ) → name_place + n ≤ length (first_line l) → take n (drop name_place l) ≡ take n (drop name_place (first_line l))
name_there l n h =
    let f = first_line l in
    let r = drop (length f) l in
    ap (λ (t : List ℕ). take n (drop name_place t)) (line_front l) ∙ ap (λ (t : List ℕ). take n t) (drop-append-le name_place f r (omega arith))
    ∙ take-append-le n (drop name_place f) r (simp length-drop (omega arith))

pub region_there : (l : List ℕ) (s : Scan) → name_place + s.letters ≤ length (first_line l) → region_in l s ≡ region_in (first_line l) s
unfolding region_in
region_there l s h = rw (name_there l s.letters h)

-- ---- the reading that the code makes of a sheet's end

unfoldable pub close : (end : ℕ) → Result (List Region) BadLine → Result Reading BadLine
close end (Ok rs) = Ok (record { sheet = rs; end = end })
close end (Err e) = Err e

-- ---- the loop: after the regions so far the answer is that for what is left

pub record Going (image : Bool) (text : List ℕ) (before : List Region) (rest : List ℕ) : Type 0 where
  pub within : length rest ≤ length text
  pub tail : rest ≡ drop (length text - length rest) text
  pub few : length before ≤ 64
  pub reads : read_from image before [] rest ≡ read_of image text

pub going_start : (image : Bool) (text : List ℕ) → Going image text [] text
unfolding read_of
going_start image text =
    let z : length text - length text ≡ 0 = omega arith in
    record { within = omega arith; tail = rw z; few = omega arith; reads = refl }

-- an empty line has no length
empty_there : (l : List ℕ) (n : ℕ) → n ≡ length l → eqb n 0 ≡ is_empty l
unfolding is_empty
empty_there [] n e = eq-eqb n 0 e
empty_there (b ∷ l) n e = ne_eqb n 0 (λ k. omega arith)

-- no image's sheet ends here
pub stays : {image : Bool} {n : ℕ} → ((image ≡ true) × (n ≡ 0 → ⊥)) ⊎ (image ≡ false) → (image && eqb n 0) ≡ false
stays {image} {n} (inl h) = rw (h.0, ne_eqb n 0 h.1)
stays (inr h) = rw h

begun : (l : List ℕ) → 0 < length l → is_empty l ≡ false
unfolding is_empty
begun [] h = absurd (omega arith)
begun (b ∷ l) h = refl

-- a region more has room
pub room : (before : List Region) (r : Region) → admitted before r ≡ true → length before < 64
unfolding admitted
room before r a = ltb-true (length before) 64 ((and-eq-true_iff (ltb (length before) 64) _).0 a).0

none_left : (l : List ℕ) → length l ≡ 0 → l ≡ []
none_left [] z = refl
none_left (b ∷ l) z = absurd (omega arith)

some_none : {r : Region} → Some r ≡ None → ⊥
some_none e = let z : ◌≡◌ {A = ℕ} 0 1 = cc in omega arith

some_same : {r t : Region} → Some r ≡ Some t → r ≡ t
some_same e = cc

module _ {image : Bool} {text : List ℕ} {before : List Region} {rest : List ℕ} (g : Going image text before rest) where
  abbrev line : List ℕ
  line = first_line rest

  bad_here : read_of image text ≡ bad (length before + 1) → Reads image text (Err (bad_at (length before + 1)))
  unfolding reading_of answer_of
  bad_here e = record { reading_is = ap (reading_of text) (sym e); answer_is = sym e; fits = tt }

  closed_here : (end : ℕ) → end ≤ length text → ended before (drop end text) ≡ read_of image text → Reads image text (close end (ended_as before))
  unfolding ended ended_as reading_of answer_of close
  closed_here end h e = go (eqb (length before) 0) e
    where
      place : length text - length (drop end text) ≡ end
      place = omega (arith, length-drop end text)

      ended_there : Ok (record { sheet = before; end = end }) ≡ reading_of text (sheet before (drop end text))
      ended_there = sym (ap (λ (n : ℕ). Ok (record { sheet = before; end = n })) place)

      go : (t : Bool) → cond t (bad 1) (sheet before (drop end text)) ≡ read_of image text
          → Reads image text (close end (cond t (Err (bad_at 1)) (Ok before)))
      go true k = record { reading_is = ap (reading_of text) k; answer_is = k; fits = tt }
      go false k = record { reading_is = ended_there ∙ ap (reading_of text) k; answer_is = k; fits = (g.few, h) }

  -- the text's end within a line, and at a line's start
  pub refused_last : {s : Scan} {n : ℕ} → Lined rest 0 s n → 0 < length rest → n ≡ length rest → Reads image text (Err (bad_at (length before + 1)))
  unfolding at_end
  refused_last l h e =
      let same : length line ≡ length rest = omega (arith, l.end_is) in
      bad_here (sym g.reads ∙ read_last image before [] rest same ∙ rw (begun rest h, and-false))

  pub closed_end : length rest ≡ 0 → image ≡ false → Reads image text (close (length text) (ended_as before))
  unfolding at_end read_from is_empty
  closed_end z f =
      let none : rest ≡ [] = none_left rest z in
      let gone : drop (length text) text ≡ [] = drop_of_length-le text (omega arith) in
      closed_here (length text) (omega arith) (ap (ended before) gone ∙ (rw (none, f) at g.reads) ∙ rw f)

  pub refused_end : length rest ≡ 0 → image ≡ true → Reads image text (Err (bad_at (length before + 1)))
  unfolding at_end read_from
  refused_end z f = let none : rest ≡ [] = none_left rest z in bad_here (sym (rw (none, f) at g.reads ∙ rw f))

  -- what follows n bytes more
  further : (n : ℕ) → drop n rest ≡ drop (length text - length rest + n) text
  further n = ap (drop n) g.tail ∙ drop-drop n (length text - length rest) text

  -- a line that a newline ends
  module _ {s : Scan} {n : ℕ} (l : Lined rest 0 s n) (h : n ≡ length rest → ⊥) where
    pub short : n < length rest
    short = omega (arith, l.end_is, line_le rest)

    at_newline_lem : at_newline image before line (drop (n + 1) rest) (read_from image (before ++ (region_of line ∷ [])) [] (drop (n + 1) rest))
        ≡ read_of image text
    at_newline_lem =
        let k : length line < length rest = omega (arith, l.end_is, short) in
        let m : suc (length line) ≡ n + 1 = omega (arith, l.end_is) in
        rw m at (sym (read_line image before [] rest k) ∙ g.reads)

    stop_is : (image && eqb n 0) ≡ (image && is_empty line)
    stop_is = ap (λ (t : Bool). image && t) (empty_there line n (omega (arith, l.end_is)))

    pub stopped : n ≡ 0 → (image && eqb n 0) ≡ true → Reads image text (close (length text - length rest + 1) (ended_as before))
    unfolding at_newline
    stopped z f =
        let e : n + 1 ≡ 1 = omega arith in
        closed_here (length text - length rest + 1) (omega (arith, short, g.within)) (rw (sym stop_is ∙ f, e, further 1) at at_newline_lem)

    refused_line : (image && eqb n 0) ≡ false → takes before line ≡ false → Reads image text (Err (bad_at (length before + 1)))
    unfolding at_newline
    refused_line f t = bad_here (sym (rw (sym stop_is ∙ f, t) at at_newline_lem))

    -- a whole line: its name is there, and its region
    pub told : whole s ≡ true → (7 + s.letters ≤ length rest) × (s.letters ≤ 16) × (region_in rest s ≡ region_of line)
    told w =
        let t : Told s line = rw l.scan_is (line_told line (ap whole (sym l.scan_is) ∙ w)) in
        (omega (arith, t.within, line_le rest), t.few, region_there rest s t.within ∙ ap (region_in line) l.scan_is)

    pub refused_shape : (image && eqb n 0) ≡ false → region_told rest s ≡ None → Reads image text (Err (bad_at (length before + 1)))
    unfolding takes region_told
    refused_shape f e = go (whole s) refl e
      where
        go : (t : Bool) → whole s ≡ t → cond t (Some (region_in rest s)) None ≡ None → Reads image text (Err (bad_at (length before + 1)))
        go true w k = absurd (some_none k)
        go false w k = refused_line f (rw (ap whole (sym l.scan_is) ∙ w))

    -- the region that a whole line tells
    takes_is : {r : Region} → region_told rest s ≡ Some r → (takes before line ≡ admitted before r) × (region_of line ≡ r)
    unfolding takes region_told
    takes_is {r} e = go (whole s) refl e
      where
        go : (t : Bool) → whole s ≡ t → cond t (Some (region_in rest s)) None ≡ Some r → (takes before line ≡ admitted before r) × (region_of line ≡ r)
        go true w k =
            let q : region_of line ≡ r = sym (told w).2 ∙ some_same k in
            (rw (ap whole (sym l.scan_is) ∙ w, q), q)
        go false w k = absurd (some_none (sym k))

    pub refused_region : (image && eqb n 0) ≡ false → {r : Region} → region_told rest s ≡ Some r → admitted before r ≡ false
        → Reads image text (Err (bad_at (length before + 1)))
    refused_region f e a = refused_line f ((takes_is e).0 ∙ a)

    pub turned : (image && eqb n 0) ≡ false → {r : Region} → region_told rest s ≡ Some r → admitted before r ≡ true
        → Going image text (before ++ (r ∷ [])) (drop (n + 1) rest)
    unfolding at_newline
    turned f {r} e a =
        let k : length before < 64 = room before r a in
        let t = takes_is e in
        let d : length (drop (n + 1) rest) ≡ length rest - (n + 1) = length-drop (n + 1) rest in
        let p : length text - length rest + (n + 1) ≡ length text - length (drop (n + 1) rest) = omega (arith, d, short, g.within) in
        record {
          within = omega (arith, d, g.within);
          tail = further (n + 1) ∙ ap (λ (i : ℕ). drop i text) p;
          few = omega (arith, length-append before (r ∷ []));
          reads = rw (sym stop_is ∙ f, t.0 ∙ a, t.1) at at_newline_lem;
        }
