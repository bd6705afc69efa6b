-- No two rows share a name: the first row that has the name of a row is that row. One test over all rows, computed.
use Rattle.std.proofs.Common.{◌≡◌, ℕ, suc, ◌<◌, Bool, true, false, cond, ◌&&◌, T, eqb, List, [], ◌∷◌, sym, ap, ◌∙◌, eqb→eq}
use Rattle.choices.proofs.Every.{every, every_at}
use Rattle.forms.specs.Rows.{names, row_count, name_of}

abbrev alike : List ℕ → List ℕ → Bool
alike [] [] = true
alike [] (y ∷ m) = false
alike (x ∷ l) [] = false
alike (x ∷ l) (y ∷ m) = eqb x y && alike l m

row_in : (name : List ℕ) → List (List ℕ) → ℕ
row_in name [] = 0
row_in name (x ∷ l) = let r = row_in name l in cond (alike name x) 0 (suc r)

first : ℕ → Bool
first k = eqb (row_in (name_of k) names) k

all_first : T (every first row_count)
unfolding first row_in name_of names
all_first = tt

pub names_apart : (j k : ℕ) → j < row_count → k < row_count → name_of j ≡ name_of k → j ≡ k
unfolding first
names_apart j k h g e =
    sym (eqb→eq (row_in (name_of j) names) j (every_at first row_count all_first j h)) ∙ ap (λ (n : List ℕ). row_in n names) e
    ∙ eqb→eq (row_in (name_of k) names) k (every_at first row_count all_first k g)
