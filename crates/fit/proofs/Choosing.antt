-- The choice from the three readings, and that the part it names is the payload.
-- Assumes nothing.
use mathlib.Core.Bool.{Bool, true, false, cond}
use mathlib.Core.List.{List, [], ◌∷◌, ◌++◌, append_assoc}
use mathlib.Core.Path.{◌≡◌, refl, sym, ap, ◌∙◌}
use Prim.Native.Nat.{ℕ, ◌-◌, ◌≤◌}
use native.Mathlib.Omega.{arith}
use lib.Dec.{eqb}
use lib.ListN.{length, take, drop, length-append, length-drop}
use lib.Seq.{drop_at, take_all}
use Rattle.sheets.specs.Sheet.{Answer, sheet, bad, IsSheet, ending, sheet_text}
use Rattle.sheets.specs.Scanning.{read_of, Reads}
use Rattle.sheets.specs.declared.Reading.{Reading}
use Rattle.sheets.specs.declared.Region.{Region}
use Rattle.sheets.proofs.Answers.{read_says}
use Rattle.sheets.proofs.Lengths.{sheet_le}
use Rattle.sheets.proofs.Readings.{said_bad, said_sheet}
use Rattle.text.specs.Writing.{newline}
use Rattle.fit.specs.Fit.{fits, Outcome, first, second, neither, bad_board, bad_first, bad_second, chosen, or_bad, regions_of, rest_of, judged, outcome}
use Rattle.fit.specs.Fit.{payload_of, choice_of, part_of, verdict_of, place_of, Handed}
use Rattle.fit.specs.Fit.{line_of, Choice, chosen_at, of_image, image_number, part_in, number_in, line_in}
use Rattle.fit.specs.declared.Fitting.{Fitting}
use Rattle.fit.specs.declared.Image.{Image}
use Rattle.fit.specs.declared.Image.TheVariants.{First, Second}
use Rattle.fit.specs.declared.NoFit.{NoFit}
use Rattle.fit.specs.declared.NoFit.TheVariants.{Neither, BadBoard, BadFirst, BadSecond}
use Rattle.sheets.specs.declared.BadLine.{BadLine}
use Rattle.std.specs.Prelude.{Result, Ok, Err}

module _ {image : Bool} {text : List ℕ} where
  is_bad : {e : BadLine} → Reads image text (Err e) → read_of image text ≡ bad e.line
  is_bad {e} k = said_bad text e k.answer_is

  is_sheet : {r : Reading} → Reads image text (Ok r) → read_of image text ≡ sheet r.sheet (drop r.end text)
  is_sheet {r} k = said_sheet text r k.answer_is

  place_is : {r : Reading} → Reads image text (Ok r) → r.end ≡ length text - length (drop r.end text)
  place_is {r} k = omega (arith, length-drop r.end text, k.fits.1)

module _ (board one two : List ℕ) where
  abbrev Says-it : Result Choice NoFit → Type 0
  Says-it c = c ≡ choice_of one two (outcome board one two)

  pub bad_board_lem : {e : BadLine} → Reads false board (Err e) → Says-it (Err (BadBoard e.line))
  unfolding outcome judged or_bad regions_of rest_of choice_of
  bad_board_lem k = rw (is_bad k)

  module _ {b : Reading} (kb : Reads false board (Ok b)) where
    pub bad_first_lem : {e : BadLine} → Reads true one (Err e) → Says-it (Err (BadFirst e.line))
    unfolding outcome judged or_bad regions_of rest_of choice_of
    bad_first_lem k = rw (is_sheet kb, is_bad k)

    module _ {f : Reading} (kf : Reads true one (Ok f)) where
      pub bad_second_lem : {e : BadLine} → Reads true two (Err e) → Says-it (Err (BadSecond e.line))
      unfolding outcome judged or_bad regions_of rest_of choice_of
      bad_second_lem k = rw (is_sheet kb, is_sheet kf, is_bad k)

      module _ {s : Reading} (ks : Reads true two (Ok s)) where
        pub first_fits : fits b.sheet f.sheet ≡ true → Says-it (Ok (chosen_at First f.end))
        unfolding outcome judged or_bad regions_of rest_of choice_of chosen
        first_fits t = rw (is_sheet kb, is_sheet kf, is_sheet ks, t) (ap (λ n. Ok (chosen_at First n)) (place_is kf))

        pub second_fits : fits b.sheet f.sheet ≡ false → fits b.sheet s.sheet ≡ true → Says-it (Ok (chosen_at Second s.end))
        unfolding outcome judged or_bad regions_of rest_of choice_of chosen
        second_fits t u = rw (is_sheet kb, is_sheet kf, is_sheet ks, t, u) (ap (λ n. Ok (chosen_at Second n)) (place_is ks))

        pub neither_fits : fits b.sheet f.sheet ≡ false → fits b.sheet s.sheet ≡ false → Says-it (Err Neither)
        unfolding outcome judged or_bad regions_of rest_of choice_of chosen
        neither_fits t u = rw (is_sheet kb, is_sheet kf, is_sheet ks, t, u)

-- a payload is the end of its image
payload_end : (image : List ℕ) (rs : List Region) (p : List ℕ) → read_of true image ≡ sheet rs p → drop (length image - length p) image ≡ p
unfolding ending
payload_end image rs p e =
    let s : IsSheet true image rs p = rw e at (read_says true image) in
    let f : List ℕ = sheet_text rs ++ (newline ∷ []) in
    let t : image ≡ f ++ p = s.text_is ∙ sym (append_assoc (sheet_text rs) (newline ∷ []) p) in
    let n : length image - length p ≡ length f = omega (arith, ap length t, length-append f p) in
    rw (n, t) (drop_at f p (length f) refl)

-- and its place is soon: a sheet is at most 2,944 bytes
pub place_le : (image : List ℕ) (rs : List Region) (p : List ℕ) → read_of true image ≡ sheet rs p → length image - length p ≤ 2945
unfolding ending
place_le image rs p e =
    let s : IsSheet true image rs p = rw e at (read_says true image) in
    omega (arith, sheet_le s.regions, ap length s.text_is, length-append (sheet_text rs) (newline ∷ p))

-- the part that the choice names is the payload
pub part_payload : (board one two : List ℕ) → part_of one two (choice_of one two (outcome board one two)) ≡ payload_of (outcome board one two)
unfolding outcome judged or_bad regions_of rest_of chosen choice_of part_of payload_of
part_payload board one two = go (read_of false board) (read_of true one) refl (read_of true two) refl
  where
    pick : (t u : Bool) (p q : List ℕ) → drop (length one - length p) one ≡ p → drop (length two - length q) two ≡ q
        → part_of one two (choice_of one two (cond t (first p) (cond u (second q) neither))) ≡ payload_of (cond t (first p) (cond u (second q) neither))
    pick true u p q h k = h
    pick false true p q h k = k
    pick false false p q h k = refl

    go : (b f : Answer) → read_of true one ≡ f → (s : Answer) → read_of true two ≡ s
        → part_of one two (choice_of one two (judged b f s)) ≡ payload_of (judged b f s)
    go (bad n) f e s k = refl
    go (sheet b x) (bad n) e s k = refl
    go (sheet b x) (sheet f p) e (bad n) k = refl
    go (sheet b x) (sheet f p) e (sheet s q) k = pick (fits b f) (fits b s) p q (payload_end one f p e) (payload_end two s q k)

-- so what a choice names is handed back: a payload, and a refusal
module _ (board one two : List ℕ) where
  handed : {c : Result Choice NoFit} → Says-it board one two c → Handed board one two (part_of one two c) (verdict_of c) (line_of c)
  handed e = record { part_is = rw e (part_payload board one two); number_is = ap verdict_of e; line_is = ap line_of e }

  pub hands : {c : Choice} {part : List ℕ} → part ≡ drop c.at (of_image c.image one two) → Says-it board one two (Ok c)
      → Handed board one two part (image_number c.image) 0
  unfolding part_of verdict_of line_of
  hands p e = rw p (handed e)

  pub refuses : {r : Result Fitting NoFit} {e : NoFit} → r ≡ Err e → Says-it board one two (Err e)
      → Handed board one two (part_in r) (number_in r) (line_in r)
  unfolding part_of verdict_of line_of
  refuses p e = rw p (handed e)

-- all of a text from an index on
pub rest_all : (l : List ℕ) (a : ℕ) → take (length l - a) (drop a l) ≡ drop a l
rest_all l a = take_all (length l - a) (drop a l) (rw (length-drop a l) (omega arith))

-- so it is no longer than its image
pub part_fits : {board one two part : List ℕ} {number line : ℕ} → Handed board one two part number line
    → (number ≡ 1 → length part ≤ length one) × (number ≡ 2 → length part ≤ length two)
unfolding verdict_of choice_of part_of
part_fits {board} {one} {two} {part} h = go (outcome board one two) h.number_is (h.part_is ∙ sym (part_payload board one two))
  where
    go : (o : Outcome) → {number : ℕ} → number ≡ verdict_of (choice_of one two o) → part ≡ part_of one two (choice_of one two o)
        → (number ≡ 1 → length part ≤ length one) × (number ≡ 2 → length part ≤ length two)
    go (first p) e f = (λ k. rw f (rw (length-drop (length one - length p) one) (omega arith)), λ k. absurd (omega (arith, e)))
    go (second p) e f = (λ k. absurd (omega (arith, e)), λ k. rw f (rw (length-drop (length two - length p) two) (omega arith)))
    go neither e f = (λ k. absurd (omega (arith, e)), λ k. absurd (omega (arith, e)))
    go (bad_board n) e f = (λ k. absurd (omega (arith, e)), λ k. absurd (omega (arith, e)))
    go (bad_first n) e f = (λ k. absurd (omega (arith, e)), λ k. absurd (omega (arith, e)))
    go (bad_second n) e f = (λ k. absurd (omega (arith, e)), λ k. absurd (omega (arith, e)))

-- and where it begins is told by its length and the number
pub part_place : {board one two part : List ℕ} {number line : ℕ} → Handed board one two part number line
    → cond (eqb number 1) (length one - length part) (cond (eqb number 2) (length two - length part) 0) ≡ place_of (choice_of one two (outcome board one two))
unfolding verdict_of choice_of payload_of place_of
part_place {board} {one} {two} h = rw (h.number_is, h.part_is) (go (outcome board one two))
  where
    go : (o : Outcome) → cond (eqb (verdict_of (choice_of one two o)) 1) (length one - length (payload_of o))
        (cond (eqb (verdict_of (choice_of one two o)) 2) (length two - length (payload_of o)) 0) ≡ place_of (choice_of one two o)
    go (first p) = refl
    go (second p) = refl
    go neither = refl
    go (bad_board n) = refl
    go (bad_first n) = refl
    go (bad_second n) = refl

-- and no number is larger than 19
verdict_le : (c : Result Choice NoFit) → verdict_of c ≤ 19
unfolding verdict_of
verdict_le (Ok c) = go c.image
  where
    go : (i : Image) → image_number i ≤ 19
    go First = omega arith
    go Second = omega arith
verdict_le (Err Neither) = omega arith
verdict_le (Err (BadBoard n)) = omega arith
verdict_le (Err (BadFirst n)) = omega arith
verdict_le (Err (BadSecond n)) = omega arith

pub number_le : {board one two part : List ℕ} {number line : ℕ} → Handed board one two part number line → number ≤ 19
number_le {board} {one} {two} h = omega (arith, h.number_is, verdict_le (choice_of one two (outcome board one two)))
