-- The writer's answer, from the records as judged and the text that was made of them.
-- Assumes nothing.
use mathlib.Core.Bool.{Bool, true, false, cond}
use mathlib.Core.Path.{◌≡◌, refl, sym, ap, ◌∙◌}
use mathlib.Core.List.{List, []}
use Prim.Native.Nat.{ℕ, ◌-◌}
use native.Mathlib.Nat.{zero-add}
use native.Mathlib.Omega.{arith}
use lib.ListN.{length, take, drop}
use Rattle.text.specs.Writing.{fits_in, Delivers, Placed, Puts}
use Rattle.text.proofs.Putting.{placed, delivers_made}
use Rattle.sheets.specs.Records.{judged}
use Rattle.sheets.specs.Sheet.{sheet_text, Answer, sheet, bad}
use Rattle.sheets.specs.Numbers.{answer_number, answer_value}
use Rattle.sheets.specs.declared.BadLine.{BadLine}
use Rattle.sheets.specs.declared.Region.{Region}
use Rattle.sheets.specs.declared.SheetError.{SheetError}
use Rattle.sheets.specs.declared.SheetError.TheVariants.{Bad, NoRoom}
use Rattle.std.specs.Prelude.{Result, Ok, Err}
use Rattle.sheets.proofs.Lengths.{judged_whole, sheet_le}
use Rattle.sheet_writer.specs.Writing.{write_answer, write_after, number_of, value_of, Writes}

-- the answer of the definition has the number and the value that the promise gives
told : (a : Answer) (out : List ℕ) → (answer_number (write_answer a out) ≡ number_of a out) × (answer_value (write_answer a out) ≡ value_of a out)
unfolding write_answer number_of value_of
told (sheet rs rest) out = go (fits_in (sheet_text rs) out)
  where
    go : (t : Bool) → (answer_number (cond t (Ok (length (sheet_text rs))) (Err NoRoom)) ≡ cond t 0 10)
        × (answer_value (cond t (Ok (length (sheet_text rs))) (Err NoRoom)) ≡ cond t (length (sheet_text rs)) 0)
    go true = (refl, refl)
    go false = (refl, refl)
told (bad n) out = (refl, refl)

promised : {ws before after : List ℕ} {answer : Result ℕ SheetError} → answer ≡ write_answer (judged ws) before → after ≡ write_after (judged ws) before
    → Writes ws before after answer
promised {ws} {before} e f =
    let t = told (judged ws) before in
    record { answer_is = e; number_is = ap answer_number e ∙ t.0; value_is = ap answer_value e ∙ t.1; after_is = f }

module _ (ws : List ℕ) where
  pub refuses : {e : BadLine} (out : List ℕ) → bad e.line ≡ judged ws → Writes ws out out (Err (Bad e.line))
  unfolding write_answer write_after
  refuses out k = promised (rw (sym k)) (rw (sym k))

  -- the text was made whole
  module _ {rs : List Region} {buffer made : List ℕ} {n : ℕ} (k : sheet rs [] ≡ judged ws) (long : length buffer ≡ 2944)
      (q : Puts buffer 0 (sheet_text rs) made n) where
    whole : Placed buffer 0 (sheet_text rs) made n
    whole = placed (omega (arith, sheet_le (judged_whole ws rs [] (sym k)).regions)) q

    pub writes : {out after : List ℕ} {done : Bool} → Delivers (take (n - 0) (drop 0 made)) out after done → done ≡ true → Writes ws out after (Ok n)
    unfolding write_answer write_after
    writes d t =
        let p = delivers_made whole d in
        promised (rw (sym k, sym p.done_is ∙ t, whole.ends, zero-add)) (rw (sym k) p.after_is)

    pub no_room : {out after : List ℕ} {done : Bool} → Delivers (take (n - 0) (drop 0 made)) out after done → done ≡ false
        → Writes ws out after (Err NoRoom)
    unfolding write_answer write_after
    no_room d t =
        let p = delivers_made whole d in
        promised (rw (sym k, sym p.done_is ∙ t)) (rw (sym k) p.after_is)
