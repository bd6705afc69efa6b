-- The table of rights: its rule at all 64 entries by one test that antt computes.
-- Assumes nothing.
use mathlib.Core.Path.{◌≡◌, sym, ◌∙◌, ap}
use mathlib.Core.Bool.{Bool}
use mathlib.Core.List.{List, [], ◌∷◌}
use mathlib.Core.Logic.{◌⊎◌, inl, inr}
use Prim.Native.Nat.{ℕ, zero, suc, ◌+◌, ◌≤◌, ◌<◌}
use native.Mathlib.Nat.{eq-or-lt_of_le}
use native.Mathlib.Omega.{arith}
use lib.Dec.{T, eqb, ltb, eqb→eq, ltb→lt}
use lib.ListN.{get_or}
use Rattle.choices.proofs.Every.{every_at}
use Rattle.metadata.specs.Rights.{rights_of}

-- the entries of the table of rights, as MASKS has them
unfoldable pub masks : List ℕ
masks =
    0 ∷ 512 ∷ 1024 ∷ 1536 ∷ 2048 ∷ 2560 ∷ 3072 ∷ 3584 ∷ 352 ∷ 354 ∷ 360 ∷ 362 ∷ 480 ∷ 482 ∷ 488 ∷ 490
    ∷ 68 ∷ 4 ∷ 32 ∷ 36 ∷ 96 ∷ 98 ∷ 104 ∷ 106 ∷ 100 ∷ 102 ∷ 108 ∷ 110 ∷ 116 ∷ 118 ∷ 124 ∷ 126
    ∷ 1 ∷ 513 ∷ 1025 ∷ 1537 ∷ 2049 ∷ 2561 ∷ 3073 ∷ 3585 ∷ 353 ∷ 355 ∷ 361 ∷ 363 ∷ 481 ∷ 483 ∷ 489 ∷ 491
    ∷ 69 ∷ 5 ∷ 33 ∷ 37 ∷ 97 ∷ 99 ∷ 105 ∷ 107 ∷ 101 ∷ 103 ∷ 109 ∷ 111 ∷ 117 ∷ 119 ∷ 125 ∷ 127 ∷ []

right : ℕ → Bool
right k = eqb (get_or masks k 0) (rights_of k)

-- the entry of a code is the code's rights
pub masks_right : (code : ℕ) → code < 64 → get_or masks code 0 ≡ rights_of code
unfolding masks right rights_of
masks_right code h = eqb→eq (get_or masks code 0) (rights_of code) (every_at right 64 tt code h)

-- codes that are one read one entry
pub same_entry : {k code : ℕ} → code ≡ k → get_or masks k 0 ≡ get_or masks code 0
same_entry {k} {code} e = ap (λ (i : ℕ). get_or masks i 0) (sym e)
