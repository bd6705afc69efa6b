-- Both round trips through the functions for C.
-- Assumes nothing.
use mathlib.Core.Bool.{Bool, true, false, cond}
use mathlib.Core.List.{List, []}
use mathlib.Core.Path.{◌≡◌, refl, sym, ap, ◌∙◌}
use Prim.Native.Nat.{ℕ, ◌*◌, ◌/◌, ◌≤◌}
use native.Mathlib.Omega.{arith}
use borrow.Author.Tests.{le-leb, leb-true}
use lib.Dec.{leb}
use lib.ListN.{length, take}
use Rattle.text.specs.Writing.{fits_in, delivered}
use Rattle.text.proofs.Putting.{delivered_take}
use Rattle.sheets.specs.Records.{sheet_words, AreRecords, judged}
use Rattle.sheets.specs.Scanning.{read_of}
use Rattle.sheets.specs.Sheet.{sheet_text, Answer, sheet, bad, IsSheet}
use Rattle.sheets.specs.declared.SheetError.{SheetError}
use Rattle.sheets.specs.declared.SheetError.TheVariants.{Bad}
use Rattle.std.specs.Prelude.{Result, Ok, Err}
use Rattle.sheets.proofs.Answers.{read_says}
use Rattle.sheets.proofs.Records.{judged_says, records_judged}
use Rattle.sheets.proofs.Trips.{read_writes, written_reads}
use Rattle.sheets.proofs.Words.{words_length}
use Rattle.sheet_reader.specs.Words.{read_answer, read_after}
use Rattle.sheet_writer.specs.Writing.{write_answer, write_after}
use Rattle.sheet_api.specs.Trips.{ReadThenWritten, WrittenThenRead}

absurd_of : {A : Type 0} → ◌≡◌ {A = ℕ} 0 1 → A
absurd_of e = absurd (omega arith)

-- what an answer that is no refusal tells: so much was counted, and it had room
tells : {count n : ℕ} {A : Type 0} (e : SheetError) (l buffer : List A)
    → ◌≡◌ {A = Result ℕ SheetError} (Ok count) (cond (leb (length l) (length buffer)) (Ok n) (Err e)) → (count ≡ n) × (length l ≤ length buffer)
tells {count} {n} e l buffer k = go (leb (length l) (length buffer)) refl k
  where
    go : (t : Bool) → leb (length l) (length buffer) ≡ t → ◌≡◌ {A = Result ℕ SheetError} (Ok count) (cond t (Ok n) (Err e))
        → (count ≡ n) × (length l ≤ length buffer)
    go true f h = (cc, leb-true (length l) (length buffer) f)
    go false f h = absurd_of cc

pub read_then_written : ReadThenWritten
unfolding read_answer read_after write_answer write_after
read_then_written text buffer words out after count answer r w room = go (read_of false text) refl
  where
    go : (x : Answer) → read_of false text ≡ x → (answer ≡ Ok (length text)) × (take (length text) after ≡ text)
    go (bad n) e = absurd_of (let k : ◌≡◌ {A = Result ℕ SheetError} (Ok count) (Err (Bad n)) = rw e at r.answer_is in cc)
    go (sheet rs rest) e =
        let k = tells _ (sheet_words rs) buffer (rw e at r.answer_is) in
        let s : IsSheet false text rs rest = rw e at (read_says false text) in
        let n : count * 7 ≡ length (sheet_words rs) = omega (arith, words_length rs, k.0) in
        let d : words ≡ delivered (sheet_words rs) buffer = rw e at r.after_is in
        let t : take (count * 7) words ≡ sheet_words rs = rw (n, d) (delivered_take (sheet_words rs) buffer k.1) in
        let j : judged (take (count * 7) words) ≡ sheet rs []
        = rw t (records_judged (sheet_words rs) rs (record { regions = s.regions; some = s.some; words_are = refl })) in
        let same : sheet_text rs ≡ text = read_writes text rs rest e in
        let fits : fits_in (sheet_text rs) out ≡ true = rw same (le-leb (length text) (length out) room) in
        let a : after ≡ delivered (sheet_text rs) out = rw j at w.after_is in (
          w.answer_is ∙ rw (j, fits, same),
          rw (a, same) (delivered_take text out room),
        )

pub written_then_read : WrittenThenRead
unfolding read_answer read_after write_answer write_after
written_then_read words buffer text out after count answer all w r room = go (judged words) refl
  where
    go : (x : Answer) → judged words ≡ x → (answer ≡ Ok (length words / 7)) × (take (length words) after ≡ words)
    go (bad n) e = absurd_of (let k : ◌≡◌ {A = Result ℕ SheetError} (Ok count) (Err (Bad n)) = rw e at w.answer_is in cc)
    go (sheet rs rest) e =
        let k = tells _ (sheet_text rs) buffer (rw e at w.answer_is) in
        let s : AreRecords words rs = rw e at (judged_says words all) in
        let d : text ≡ delivered (sheet_text rs) buffer = rw e at w.after_is in
        let t : take count text ≡ sheet_text rs = rw (k.0, d) (delivered_take (sheet_text rs) buffer k.1) in
        let j : read_of false (take count text) ≡ sheet rs [] = rw t (written_reads rs s.regions s.some) in
        let same : sheet_words rs ≡ words = sym s.words_are in
        let fits : fits_in (sheet_words rs) out ≡ true = rw same (le-leb (length words) (length out) room) in
        let n : length rs ≡ length words / 7 = omega (arith, words_length rs, ap length same) in
        let a : after ≡ delivered (sheet_words rs) out = rw j at r.after_is in (
          r.answer_is ∙ rw (j, fits, n),
          rw (a, same) (delivered_take words out room),
        )
