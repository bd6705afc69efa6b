-- No line is longer than the room that is asked for.
-- Assumes nothing.
use Rattle.std.proofs.Common.{◌/◌, ◌%◌, ◌^◌, ◌<◌, ◌≤◌, Bool, true, false, cond, eqb, ◌∷◌, ◌++◌, length, arith, length-append}
use Rattle.std.specs.Prelude.{Option, Some, None, Result, Ok, Err}
use Rattle.bounds.specs.Cutting.{cut_of}
use Rattle.bounds.specs.declared.CutRegion.{CutRegion}
use Rattle.bounds.specs.declared.CutError.{CutError}
use Rattle.bounds.specs.declared.CutError.TheVariants.{PastEnd}
use Rattle.text.specs.Digits.{digits}
use Rattle.text.specs.Writing.{tab}
use Rattle.text.proofs.Numbers.{length_digits, decimal_le}
use Rattle.cut_lines.specs.Lines.{bad_text, yes_text, no_text, cut_text}
use Rattle.cut_lines.specs.Scanning.{outcome, answered}
use Rattle.cut_lines.specs.Writing.{longest}
use Rattle.cut_lines.specs.declared.Fields.{Fields}
use Rattle.cut_lines.specs.declared.Scan.{Scan}

cut_le : (a : Result CutRegion CutError) → length (cut_text a) ≤ 23
unfolding cut_text
cut_le (Ok c) = go c.exact
  where
    go : (t : Bool) → length (digits 16 8 c.region.low ++ (tab ∷ digits 16 9 c.region.high) ++ (tab ∷ cond t yes_text no_text)) ≤ 23
    go true = simp (length-append, length_digits) (omega arith)
    go false = simp (length-append, length_digits) (omega arith)
cut_le (Err PastEnd) = omega arith

outcome_le : (o : Option Fields) → length (outcome o) ≤ 23
unfolding outcome
outcome_le None = omega arith
outcome_le (Some f) = go (eqb f.place 17)
  where
    go : (t : Bool) → length (cond t (cut_text (cut_of (f.value / 2 ^ 32) (f.value % 2 ^ 32))) bad_text) ≤ 23
    go true = cut_le (cut_of (f.value / 2 ^ 32) (f.value % 2 ^ 32))
    go false = omega arith

pub answered_le : (s : Scan) → s.number < 2 ^ 64 → length (answered s) ≤ longest
unfolding answered
answered_le s h = simp length-append (omega (arith, decimal_le s.number h, outcome_le s.fields))
