-- What a reading holds: a sheet, or a bad line.
-- Assumes nothing.
use mathlib.Core.Bool.{Bool, true, false}
use mathlib.Core.Path.{◌≡◌, refl, sym}
use mathlib.Core.List.{List}
use Prim.Native.Nat.{ℕ}
use lib.ListN.{drop}
use Rattle.std.specs.Prelude.{Result, Ok, Err}
use Rattle.std.specs.Result.{MatchResult, is_ok}
use Rattle.sheets.specs.Scanning.{answer_of, Reads}
use Rattle.sheets.specs.Sheet.{Answer, sheet, bad}
use Rattle.sheets.specs.declared.BadLine.{BadLine}
use Rattle.sheets.specs.declared.Reading.{Reading}

pub said_bad : (text : List ℕ) (e : BadLine) {a : Answer} → answer_of text (Err e) ≡ a → a ≡ bad e.line
unfolding answer_of
said_bad text e k = sym k

pub said_sheet : (text : List ℕ) (r : Reading) {a : Answer} → answer_of text (Ok r) ≡ a → a ≡ sheet r.sheet (drop r.end text)
unfolding answer_of
said_sheet text r k = sym k

-- what `map_err` was given, by what it gave: a reading, or a bad line
mapped_ok : {T E : Type 0} (D : Type 0) (Q : E → Type 0) {y : T} (r : Result T E) → MatchResult r (λ x. ◌≡◌ {A = Result T D} (Ok y) (Ok x)) Q
    → true ≡ is_ok r → r ≡ Ok y
mapped_ok D Q (Ok x) h v = cc
mapped_ok D Q (Err e) h v = cc

mapped_err : {T E : Type 0} (P : T → Type 0) (Q : E → Type 0) (r : Result T E) → MatchResult r P Q → false ≡ is_ok r → (e : E) × (r ≡ Err e) × Q e
mapped_err P Q (Ok x) h v = absurd (let k : true ≡ false = sym v in cc)
mapped_err P Q (Err e) h v = (e, refl, h)

module _ {image : Bool} {text : List ℕ} {r : Result Reading BadLine} (k : Reads image text r) where
  pub read_ok : (D : Type 0) (Q : BadLine → Type 0) {y : Reading} → MatchResult r (λ x. ◌≡◌ {A = Result Reading D} (Ok y) (Ok x)) Q → true ≡ is_ok r
      → Reads image text (Ok y)
  read_ok D Q h v = rw (mapped_ok D Q r h v) at k

  pub read_err : (P : Reading → Type 0) (Q : BadLine → Type 0) → MatchResult r P Q → false ≡ is_ok r
      → (e : BadLine) × Reads image text (Err e) × Q e
  read_err P Q h v = let m = mapped_err P Q r h v in (m.0, rw m.1 at k, m.2)
