-- What a match over the rows of a table selects is what the tree of tests over them comes to, however many there are. Assumes nothing.
use mathlib.Core.List.{List, [], ◌∷◌}
use mathlib.Core.Path.{◌≡◌, refl, sym, ◌∙◌}
use Prim.Native.Nat.{ℕ, ◌≤◌, ◌<◌}
use lib.Dec.{eqb}
use borrow.Author.Tests.{ne_eqb, lt-ltb, le-ltb}
use Rattle.words.proofs.Word.{by_test}
use Rattle.instructions.specs.Decode.{combine_of, Row, rows, meant, row_of, found_in, NoneOf, Selected}
use Rattle.std.proofs.Common.{Option, Some, None}
use Rattle.instructions.specs.declared.Instruction.{Instruction}
use Rattle.instructions.specs.declared.Instruction.TheVariants.{Capability, Illegal}
use Rattle.instructions.specs.declared.CapabilityInstruction.TheVariants.{Combine}
use Rattle.instructions.specs.declared.Combination.{Combination}

-- the tree is the meaning of the row that is found
row_found : (l : List Row) (f7 rd rs1 rs2 : ℕ) (last : Instruction) → row_of l f7 rd rs1 rs2 last ≡ meant (found_in l f7) rd rs1 rs2 last
row_found [] f7 rd rs1 rs2 last = refl
row_found (row ∷ rest) f7 rd rs1 rs2 last = by_test (eqb f7 row.code) (λ t. rw t refl) (λ t. rw t (row_found rest f7 rd rs1 rs2 last))

-- of a number that is none of theirs, nothing is
none_found : (A : Type 0) (l : List Row) (f7 : ℕ) → NoneOf A l f7 → A × (found_in l f7 ≡ None)
none_found A [] f7 h = (h, refl)
none_found A (row ∷ rest) f7 h =
    let k = none_found (A × (f7 ≡ row.code → ⊥)) rest f7 h in (k.0.0, rw (ne_eqb f7 row.code k.0.1) k.1)

-- what stands in the row, where the second source is a register
pub row_is : (f7 rd rs1 rs2 : ℕ) (what : Combination) → Selected f7 (Some what) → rs2 < 16
    → Capability (Combine what rd rs1 rs2) ≡ row_of rows f7 rd rs1 rs2 Illegal
unfolding combine_of
row_is f7 rd rs1 rs2 what h b = sym (row_found rows f7 rd rs1 rs2 Illegal ∙ rw (h, lt-ltb rs2 16 b) refl)

-- no row
pub row_none : (f7 rd rs1 rs2 : ℕ) → Selected f7 None → Illegal ≡ row_of rows f7 rd rs1 rs2 Illegal
row_none f7 rd rs1 rs2 h = sym (row_found rows f7 rd rs1 rs2 Illegal ∙ rw (none_found (Unit {0}) rows f7 h).1 refl)

-- where the second source is no register, no row has a meaning
meant_illegal : (s : Option Combination) (rd rs1 rs2 : ℕ) → 16 ≤ rs2 → Illegal ≡ meant s rd rs1 rs2 Illegal
unfolding combine_of
meant_illegal (Some what) rd rs1 rs2 h = rw (le-ltb rs2 16 h) refl
meant_illegal None rd rs1 rs2 h = refl

pub row_illegal : (f7 rd rs1 rs2 : ℕ) → 16 ≤ rs2 → Illegal ≡ row_of rows f7 rd rs1 rs2 Illegal
row_illegal f7 rd rs1 rs2 h = meant_illegal (found_in rows f7) rd rs1 rs2 h ∙ sym (row_found rows f7 rd rs1 rs2 Illegal)
