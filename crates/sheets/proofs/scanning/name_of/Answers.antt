-- `name_of`: the letters, and the zeros that stood after them. Assumes nothing.
use Rattle.std.proofs.Common.{◌∙◌, ap, List, ◌++◌, length, drop, ℕ}
use lib.ListN.{replicate}
use Rattle.std.proofs.lemmas.List.{drop-replicate}
use Rattle.sheets.specs.Scanning.{padded}
use Rattle.sheets.proofs.scanning.name_of.Goals as goal

pub returns : goal.returns
unfolding padded
returns c =
    let z : ℕ = 0 in
    let n = length c.args.letters.now in
    ap (λ (x : List ℕ). x ++ drop n (replicate 16 0)) c.copy_from_slice.ensures.after ∙ rw (drop-replicate n 16 z)
