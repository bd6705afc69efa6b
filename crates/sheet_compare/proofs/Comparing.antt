-- The comparison's answer, from the two readings and the text that was made of them.
-- Assumes nothing.
use mathlib.Core.Bool.{Bool, true, false, cond}
use mathlib.Core.Path.{◌≡◌, refl, sym, ap, ◌∙◌}
use mathlib.Core.List.{List}
use Prim.Native.Nat.{ℕ, ◌-◌}
use native.Mathlib.Nat.{zero-add}
use native.Mathlib.Omega.{arith}
use lib.ListN.{length, take, drop}
use Rattle.text.specs.Writing.{fits_in, Delivers, Placed, Puts}
use Rattle.text.proofs.Putting.{placed, delivers_made}
use Rattle.sheets.specs.Sheet.{Regions, IsSheet, Answer, sheet, bad}
use Rattle.sheets.specs.Scanning.{read_of, Reads}
use Rattle.sheets.specs.declared.Reading.{Reading}
use Rattle.sheets.specs.declared.BadLine.{BadLine}
use Rattle.sheets.proofs.Answers.{read_says}
use Rattle.sheets.proofs.Readings.{said_bad, said_sheet}
use Rattle.sheet_compare.specs.Compare.{list_text, compare_answer, compare_after, answer_number, answer_value, number_of, value_of, Compares}
use Rattle.sheet_compare.specs.declared.CompareError.{CompareError}
use Rattle.sheet_compare.specs.declared.CompareError.TheVariants.{BadFirst, BadSecond, NoRoom}
use Rattle.std.specs.Prelude.{Result, Ok, Err}
use Rattle.sheet_compare.proofs.Promise.{list_le}

-- the answer of the definition has the number and the value that the promise gives
told : (a b : Answer) (out : List ℕ) → (answer_number (compare_answer a b out) ≡ number_of a b out) × (answer_value (compare_answer a b out) ≡ value_of a b out)
unfolding compare_answer number_of value_of
told (bad n) b out = (refl, refl)
told (sheet a x) (bad n) out = (refl, refl)
told (sheet a x) (sheet b y) out = go (fits_in (list_text a b) out)
  where
    go : (t : Bool) → (answer_number (cond t (Ok (length (list_text a b))) (Err NoRoom)) ≡ cond t 0 10)
        × (answer_value (cond t (Ok (length (list_text a b))) (Err NoRoom)) ≡ cond t (length (list_text a b)) 0)
    go true = (refl, refl)
    go false = (refl, refl)

promised : {first second before after : List ℕ} {answer : Result ℕ CompareError} → answer ≡ compare_answer (read_of false first) (read_of false second) before
    → after ≡ compare_after (read_of false first) (read_of false second) before → Compares first second before after answer
promised {first} {second} {before} e f =
    let t = told (read_of false first) (read_of false second) before in
    record { answer_is = e; number_is = ap answer_number e ∙ t.0; value_is = ap answer_value e ∙ t.1; after_is = f }

module _ {text : List ℕ} where
  is_bad : {e : BadLine} → Reads false text (Err e) → read_of false text ≡ bad e.line
  is_bad {e} k = said_bad text e k.answer_is

  is_sheet : {r : Reading} → Reads false text (Ok r) → read_of false text ≡ sheet r.sheet (drop r.end text)
  is_sheet {r} k = said_sheet text r k.answer_is

  regions_of : {r : Reading} → Reads false text (Ok r) → Regions r.sheet
  regions_of {r} k = let s : IsSheet false text r.sheet (drop r.end text) = rw (is_sheet k) at (read_says false text) in s.regions

module _ {first second : List ℕ} where
  pub first_bad : {e : BadLine} (out : List ℕ) → Reads false first (Err e) → Compares first second out out (Err (BadFirst e.line))
  unfolding compare_answer compare_after
  first_bad out k = promised (rw (is_bad k)) (rw (is_bad k))

  module _ {a : Reading} (ka : Reads false first (Ok a)) where
    pub second_bad : {e : BadLine} (out : List ℕ) → Reads false second (Err e) → Compares first second out out (Err (BadSecond e.line))
    unfolding compare_answer compare_after
    second_bad out k = promised (rw (is_sheet ka, is_bad k)) (rw (is_sheet ka, is_bad k))

    module _ {b : Reading} (kb : Reads false second (Ok b)) where
      abbrev list : List ℕ
      list = list_text a.sheet b.sheet

      -- the list was made whole
      module _ {buffer made : List ℕ} {n : ℕ} (long : length buffer ≡ 2176) (q : Puts buffer 0 list made n) where
        whole : Placed buffer 0 list made n
        whole = placed (omega (arith, list_le a.sheet b.sheet (regions_of ka) (regions_of kb))) q

        pub lists : {out after : List ℕ} {done : Bool} → Delivers (take (n - 0) (drop 0 made)) out after done → done ≡ true
            → Compares first second out after (Ok n)
        unfolding compare_answer compare_after
        lists d t =
            let p = delivers_made whole d in
            promised (rw (is_sheet ka, is_sheet kb, sym p.done_is ∙ t, whole.ends, zero-add)) (rw (is_sheet ka, is_sheet kb) p.after_is)

        pub no_room : {out after : List ℕ} {done : Bool} → Delivers (take (n - 0) (drop 0 made)) out after done → done ≡ false
            → Compares first second out after (Err NoRoom)
        unfolding compare_answer compare_after
        no_room d t =
            let p = delivers_made whole d in
            promised (rw (is_sheet ka, is_sheet kb, sym p.done_is ∙ t)) (rw (is_sheet ka, is_sheet kb) p.after_is)
