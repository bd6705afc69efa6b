-- What is read of a text is what the text says: the regions of a sheet and the rest, or the number of the first bad line.
-- Assumes nothing.
use mathlib.Core.Bool.{Bool, true, false, cond, ◌&&◌, not, and-eq-true_iff, and-false}
use mathlib.Core.Path.{◌≡◌, refl, sym, ap, ◌∙◌}
use mathlib.Core.List.{List, [], ◌∷◌, ◌++◌, append_assoc, append-nil}
use Prim.Native.Nat.{ℕ, zero, suc, ◌+◌, ◌/◌, ◌%◌}
use native.Mathlib.Omega.{arith}
use borrow.Author.Tests.{eqb-true, eqb-false, leb-true, ne_eqb, eq-eqb}
use lib.Dec.{eqb, leb}
use lib.ListN.{length, length-append}
use lib.Seq.{append_snoc}
use Rattle.text.specs.Digits.{digits, glyph}
use Rattle.text.specs.Writing.{tab, newline}
use Rattle.sheets.specs.Sheet.{word, is_letter, name_of, rights_text, line_text, sheet_text, formed, admitted, follows, Regions, none, more, Answer, sheet}
use Rattle.sheets.specs.Sheet.{bad, ending, Says}
use Rattle.sheets.specs.Scanning.{whole, scan_of, region_of, takes, is_empty, ended, at_end, at_newline, read_from, read_of}
use Rattle.sheets.specs.declared.Region.{Region}
use Rattle.sheets.proofs.Padding.{all_letters}
use Rattle.sheets.proofs.Digits.{glyph_from}
use Rattle.sheets.proofs.Lines.{line_told, region_whole, form_of}

-- no newline in it
unfoldable pub clean : List ℕ → Bool
clean [] = true
clean (b ∷ l) = not (eqb b newline) && clean l

clean_append : (a b : List ℕ) → clean a ≡ true → clean b ≡ true → clean (a ++ b) ≡ true
unfolding clean
clean_append [] b h k = k
clean_append (x ∷ a) b h k =
    let t = (and-eq-true_iff (not (eqb x newline)) (clean a)).0 h in
    rw t.0 (clean_append a b t.1 k)

clean_one : (b : ℕ) (l : List ℕ) → (b ≡ newline → ⊥) → clean l ≡ true → clean (b ∷ l) ≡ true
unfolding clean
clean_one b l h k = rw (ne_eqb b newline h) k

clean_digits : (n v : ℕ) → clean (digits 16 n v) ≡ true
unfolding digits clean
clean_digits zero v = refl
clean_digits (suc n) v = clean_append (digits 16 n (v / 16)) (glyph (v % 16) ∷ []) (clean_digits n (v / 16))
    (clean_one (glyph (v % 16)) [] (λ e. omega (arith, glyph_from (v % 16), e)) refl)

clean_letters : (l : List ℕ) → all_letters l ≡ true → clean l ≡ true
unfolding all_letters is_letter clean
clean_letters [] h = refl
clean_letters (b ∷ l) h =
    let t = (and-eq-true_iff (leb 97 b && leb b 122) (all_letters l)).0 h in
    let u = leb-true 97 b ((and-eq-true_iff (leb 97 b) (leb b 122)).0 t.0).0 in
    clean_one b l (λ e. omega arith) (clean_letters l t.1)

clean_rights : (c : ℕ) → clean (rights_text c) ≡ true
unfolding rights_text clean
clean_rights c =
    clean_append (cond (eqb (c % 2) 1) (114 ∷ []) [] ++ cond (eqb (c / 2 % 2) 1) (119 ∷ []) []) (cond (eqb (c / 4 % 2) 1) (120 ∷ []) [])
    (clean_append (cond (eqb (c % 2) 1) (114 ∷ []) []) (cond (eqb (c / 2 % 2) 1) (119 ∷ []) []) (one (eqb (c % 2) 1) 114 refl)
    (one (eqb (c / 2 % 2) 1) 119 refl))
    (one (eqb (c / 4 % 2) 1) 120 refl)
  where
    one : (t : Bool) (b : ℕ) → clean (b ∷ []) ≡ true → clean (cond t (b ∷ []) []) ≡ true
    one true b h = h
    one false b h = refl

pub clean_line : (r : Region) → formed r ≡ true → clean (line_text r) ≡ true
unfolding line_text clean
clean_line r h =
    let f = form_of r h in
    clean_append (word ++ (tab ∷ name_of r) ++ (tab ∷ digits 16 8 r.start) ++ (tab ∷ digits 16 8 r.size)) (tab ∷ rights_text r.rights)
    (clean_append (word ++ (tab ∷ name_of r) ++ (tab ∷ digits 16 8 r.start)) (tab ∷ digits 16 8 r.size)
    (clean_append (word ++ (tab ∷ name_of r)) (tab ∷ digits 16 8 r.start) (clean_letters (name_of r) f.letters) (clean_digits 8 r.start))
    (clean_digits 8 r.size))
    (clean_rights r.rights)

-- a newline in it
not_clean : (q rest : List ℕ) → clean (q ++ (newline ∷ rest)) ≡ false
unfolding clean
not_clean [] rest = refl
not_clean (b ∷ q) rest = rw (not_clean q rest, and-false)

pub clash_of : {A : Type 0} → true ≡ false → A
clash_of e = absurd (let z : ◌≡◌ {A = ℕ} 0 1 = cc in omega arith)

-- two lines that newlines end
first_of : (b c : ℕ) (l m : List ℕ) → b ∷ l ≡ c ∷ m → (b ≡ c) × (l ≡ m)
first_of b c l m e = (cc, cc)

line_unique : (p q a b : List ℕ) → clean p ≡ true → clean q ≡ true → p ++ (newline ∷ a) ≡ q ++ (newline ∷ b) → p ≡ q
unfolding clean
line_unique [] [] a b h k e = refl
line_unique [] (y ∷ q) a b h k e =
    let t = ((and-eq-true_iff (not (eqb y newline)) (clean q)).0 k).0 in
    clash_of (sym t ∙ ap not (eq-eqb y newline (sym (first_of newline y a (q ++ (newline ∷ b)) e).0)))
line_unique (x ∷ p) [] a b h k e =
    let t = ((and-eq-true_iff (not (eqb x newline)) (clean p)).0 h).0 in
    clash_of (sym t ∙ ap not (eq-eqb x newline (first_of x newline (p ++ (newline ∷ a)) b e).0))
line_unique (x ∷ p) (y ∷ q) a b h k e =
    let f = first_of x y (p ++ (newline ∷ a)) (q ++ (newline ∷ b)) e in
    let t = line_unique p q a b ((and-eq-true_iff (not (eqb x newline)) (clean p)).0 h).1 ((and-eq-true_iff (not (eqb y newline)) (clean q)).0 k).1
    f.1 in
    rw (f.0, t)

pub sheet_more : (rs : List Region) (r : Region) → sheet_text (rs ++ (r ∷ [])) ≡ sheet_text rs ++ (line_text r ++ (newline ∷ []))
unfolding sheet_text
sheet_more [] r = refl
sheet_more (x ∷ rs) r = rw (sheet_more rs r) (sym (append_assoc (line_text x) (newline ∷ sheet_text rs) (line_text r ++ (newline ∷ []))))

-- a line that is empty
pub empty_is : (p : List ℕ) → is_empty p ≡ true → p ≡ []
unfolding is_empty
empty_is [] h = refl
empty_is (b ∷ p) h = clash_of (sym h)

is_empty_lem : (p : List ℕ) → p ≡ [] → is_empty p ≡ true
unfolding is_empty
is_empty_lem p e = rw e

-- the sheet's end
says_ended : (image : Bool) (before : List Region) (rest from : List ℕ) → Regions before → from ≡ ending image rest → (image ≡ false → rest ≡ [])
    → ((r : Region) (left : List ℕ) → from ≡ line_text r ++ (newline ∷ left) → follows before r ≡ true → ⊥) → Says image (sheet_text before ++ from)
    (ended before rest)
unfolding ended
says_ended image before rest from g e alone never = go (eqb (length before) 0) refl
  where
    go : (t : Bool) → eqb (length before) 0 ≡ t → Says image (sheet_text before ++ from) (cond t (bad 1) (sheet before rest))
    go true z =
        let n : length before ≡ 0 = eqb-true (length before) 0 z in
        record { before = before; from = from; regions = g; number = omega arith; text_is = refl; no_line = never; no_end = λ r k. n }
    go false z =
        let n = eqb-false (length before) 0 z in
        record { regions = g; some = omega arith; text_is = rw e; alone = alone }

says_bad : (image : Bool) (before : List Region) (from : List ℕ) → Regions before
    → ((r : Region) (left : List ℕ) → from ≡ line_text r ++ (newline ∷ left) → follows before r ≡ true → ⊥) → ((rest : List ℕ) → from ≡ ending image rest → ⊥)
    → Says image (sheet_text before ++ from) (bad (length before + 1))
says_bad image before from g never stop =
    record { before = before; from = from; regions = g; number = refl; text_is = refl; no_line = never; no_end = λ r k. absurd (stop r k) }

-- the text's end
says_end : (image : Bool) (before : List Region) (p : List ℕ) → Regions before → clean p ≡ true → Says image (sheet_text before ++ p) (at_end image before p)
unfolding at_end ending
says_end true before p g c =
    says_bad true before p g
    (λ r rest e k. clash_of (sym c ∙ ap clean e ∙ not_clean (line_text r) rest))
    (λ rest e. clash_of (sym c ∙ ap clean e ∙ not_clean [] rest))
says_end false before p g c = go (is_empty p) refl
  where
    go : (t : Bool) → is_empty p ≡ t → Says false (sheet_text before ++ p) (cond t (ended before []) (bad (length before + 1)))
    go true f =
        says_ended false before [] p g (empty_is p f) (λ z. refl)
        (λ r rest e k. clash_of (sym c ∙ ap clean e ∙ not_clean (line_text r) rest))
    go false f =
        says_bad false before p g
        (λ r rest e k. clash_of (sym c ∙ ap clean e ∙ not_clean (line_text r) rest))
        (λ rest e. clash_of (sym (is_empty_lem p e) ∙ f))

no_line_end : (r : Region) (l rest : List ℕ) → newline ∷ l ≡ line_text r ++ (newline ∷ rest) → ⊥
unfolding line_text
no_line_end r l rest e = let z : ◌≡◌ {A = ℕ} newline 114 = cc in omega arith

-- a newline after the bytes p of its line
module _ (image : Bool) (before : List Region) (p l : List ℕ) (g : Regions before) (c : clean p ≡ true) where
  abbrev from : List ℕ
  from = p ++ (newline ∷ l)

  said_region : (r : Region) (rest : List ℕ) → from ≡ line_text r ++ (newline ∷ rest) → follows before r ≡ true → takes before p ≡ true
  unfolding follows takes
  said_region r rest e f =
      let t = (and-eq-true_iff (formed r) (admitted before r)).0 f in
      let q : p ≡ line_text r = line_unique p (line_text r) l rest c (clean_line r t.0) e in
      let w = region_whole r t.0 in
      rw (q, w.0, w.1) t.1

  says_refused : (image && is_empty p) ≡ false → takes before p ≡ false → Says image (sheet_text before ++ from) (bad (length before + 1))
  unfolding ending clean
  says_refused f t =
      says_bad image before from g (λ r rest e k. clash_of (sym (said_region r rest e k) ∙ t)) (λ rest e. stop image f rest e)
    where
      stop : (i : Bool) → (i && is_empty p) ≡ false → (rest : List ℕ) → from ≡ ending i rest → ⊥
      stop true k rest e = clash_of (sym (is_empty_lem p (line_unique p [] l rest c refl e)) ∙ k)
      stop false k rest e = omega (arith, simp length-append at (ap length e))

  says_stopped : (image && is_empty p) ≡ true → Says image (sheet_text before ++ from) (ended before l)
  unfolding ending
  says_stopped f =
      let t = (and-eq-true_iff image (is_empty p)).0 f in
      let e : p ≡ [] = empty_is p t.1 in
      says_ended image before l from g (rw (t.0, e)) (λ z. clash_of (sym t.0 ∙ z)) (λ r rest q k. no_line_end r l rest (rw e at q))

  says_newline : (next : Answer) → (takes before p ≡ true → Says image (sheet_text before ++ from) next)
      → Says image (sheet_text before ++ from) (at_newline image before p l next)
  unfolding at_newline
  says_newline next k = go (image && is_empty p) refl
    where
      on : (u : Bool) → takes before p ≡ u → (image && is_empty p) ≡ false → Says image (sheet_text before ++ from) (cond u next (bad (length before + 1)))
      on true e f = k e
      on false e f = says_refused f e

      go : (t : Bool) → (image && is_empty p) ≡ t
          → Says image (sheet_text before ++ from) (cond t (ended before l) (cond (takes before p) next (bad (length before + 1))))
      go true f = says_stopped f
      go false f = on (takes before p) refl f

  -- the line's region is one more
  one_more : takes before p ≡ true → Regions (before ++ (region_of p ∷ [])) × (sheet_text (before ++ (region_of p ∷ [])) ++ l ≡ sheet_text before ++ from)
  unfolding follows takes
  one_more h =
      let t = (and-eq-true_iff (whole (scan_of p)) (admitted before (region_of p))).0 h in
      let d = line_told p t.0 in (
        more (region_of p) g (rw (d.well_formed, t.1)),
        rw (sheet_more before (region_of p), ← d.text_is) (simp append_assoc),
      )

says_from : (image : Bool) (text p : List ℕ) (before : List Region) → Regions before → clean p ≡ true
    → Says image (sheet_text before ++ (p ++ text)) (read_from image before p text)
unfolding read_from clean
says_from image [] p before g c = rw append-nil (says_end image before p g c)
says_from image (b ∷ l) p before g c =
    go (eqb b newline) refl
    (λ h. says_from image l [] (before ++ (region_of p ∷ [])) (one_more image before p l g c h).0 refl)
    (λ h. says_from image l (p ++ (b ∷ [])) before g (clean_append p (b ∷ []) c h))
  where
    more_read : Answer
    more_read = read_from image (before ++ (region_of p ∷ [])) [] l

    go : (t : Bool) → eqb b newline ≡ t
        → (takes before p ≡ true → Says image (sheet_text (before ++ (region_of p ∷ [])) ++ l) more_read)
        → (clean (b ∷ []) ≡ true → Says image (sheet_text before ++ ((p ++ (b ∷ [])) ++ l)) (read_from image before (p ++ (b ∷ [])) l))
        → Says image (sheet_text before ++ (p ++ (b ∷ l))) (cond t (at_newline image before p l more_read) (read_from image before (p ++ (b ∷ [])) l))
    go true e x y =
        let n : b ≡ newline = eqb-true b newline e in
        rw n (says_newline image before p l g c more_read (λ h. rw (← (one_more image before p l g c h).1) (x h)))
    go false e x y = rw (append_snoc p b l) at (y (rw e))

-- the reader's answer is what the text says
pub read_says : (image : Bool) (text : List ℕ) → Says image text (read_of image text)
unfolding read_of sheet_text clean
read_says image text = says_from image text [] [] none refl
