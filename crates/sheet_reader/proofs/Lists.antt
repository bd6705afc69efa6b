-- Records one after the other, and the reader's answer.
-- Assumes nothing.
use mathlib.Core.Bool.{Bool, true, false, cond}
use mathlib.Core.Path.{◌≡◌, refl, ap, ◌∙◌}
use mathlib.Core.List.{List}
use Prim.Native.Nat.{ℕ, ◌≤◌, ◌<◌}
use native.Mathlib.Omega.{arith}
use borrow.Author.Tests.{le-leb, lt-leb}
use lib.ListN.{length}
use Rattle.text.specs.Writing.{fits_in, delivered, Puts}
use Rattle.text.proofs.Putting.{placed}
use Rattle.sheets.specs.Records.{sheet_words}
use Rattle.sheets.specs.Scanning.{read_of, Reads}
use Rattle.sheets.specs.Sheet.{Answer, sheet, bad}
use Rattle.sheets.specs.Numbers.{answer_number, answer_value}
use Rattle.sheets.specs.declared.BadLine.{BadLine}
use Rattle.sheets.specs.declared.Reading.{Reading}
use Rattle.sheets.specs.declared.SheetError.{SheetError}
use Rattle.sheets.specs.declared.SheetError.TheVariants.{Bad, NoRoom}
use Rattle.std.specs.Prelude.{Result, Ok, Err}
use Rattle.sheets.proofs.Readings.{said_bad, said_sheet}
use Rattle.sheet_reader.specs.Words.{read_answer, read_after, number_of, value_of, ReadsInto}

-- the answer of the definition has the number and the value that the promise gives
told : (a : Answer) (out : List ℕ) → (answer_number (read_answer a out) ≡ number_of a out) × (answer_value (read_answer a out) ≡ value_of a out)
unfolding read_answer number_of value_of
told (sheet rs rest) out = go (fits_in (sheet_words rs) out)
  where
    go : (t : Bool) → (answer_number (cond t (Ok (length rs)) (Err NoRoom)) ≡ cond t 0 10) × (answer_value (cond t (Ok (length rs)) (Err NoRoom))
        ≡ cond t (length rs) 0)
    go true = (refl, refl)
    go false = (refl, refl)
told (bad n) out = (refl, refl)

promised : {text before after : List ℕ} {answer : Result ℕ SheetError} → answer ≡ read_answer (read_of false text) before
    → after ≡ read_after (read_of false text) before
    → ReadsInto text before after answer
promised {text} {before} e f =
    let t = told (read_of false text) before in
    record { answer_is = e; number_is = ap answer_number e ∙ t.0; value_is = ap answer_value e ∙ t.1; after_is = f }

pub refuses : {text : List ℕ} {e : BadLine} → Reads false text (Err e) → (out : List ℕ) → ReadsInto text out out (Err (Bad e.line))
unfolding read_answer read_after
refuses {text} {e} k out = let s = said_bad text e k.answer_is in promised (rw s) (rw s)

module _ {text : List ℕ} {r : Reading} (k : Reads false text (Ok r)) where
  abbrev words : List ℕ
  words = sheet_words r.sheet

  pub fills : {out after : List ℕ} {n : ℕ} → length words ≤ length out → Puts out 0 words after n → ReadsInto text out after (Ok (length r.sheet))
  unfolding read_answer read_after delivered
  fills {out} h p =
      let t = le-leb (length words) (length out) h in
      let s = said_sheet text r k.answer_is in
      promised (rw (s, t)) (rw (s, t) (placed (omega arith) p).bytes)

  pub no_room : (out : List ℕ) → length out < length words → ReadsInto text out out (Err NoRoom)
  unfolding read_answer read_after delivered
  no_room out h =
      let t = lt-leb (length words) (length out) h in
      let s = said_sheet text r k.answer_is in
      promised (rw (s, t)) (rw (s, t))
