-- The mark and time, read after what records them: each write changes its own words alone. Assumes nothing.
use Rattle.std.proofs.Common.{◌≡◌, ℕ, ◌+◌, ◌/◌, ◌%◌, ◌^◌, ◌<◌, ◌≤◌, Bool, true, false, cond, ◌&&◌, ltb, leb, List, length, get_or, set, refl, ◌∙◌}
use Rattle.std.proofs.Common.{arith, length-set, get_or-set_other, get_or-set_same, ltb-true}
use Rattle.instructions.specs.declared.Csr.TheVariants.{Mshwm, Mshwmb}
use Rattle.state.specs.Layout.{register_words, csr_index, time_index, compare_index}
use Rattle.state.specs.Registers.{csr_at}
use Rattle.state.specs.Marks.{cleared, below_mark, marked}
use Rattle.state.specs.Timer.{time_of, next_time, ticked}
use Rattle.state.specs.Effects.{Stored, nothing, bytes, whole}
use Rattle.commit.specs.Commit.{marked_by}

-- ---- time

-- a word before and after time's two
pub ticked_below : (l : List ℕ) (i : ℕ) → i < time_index → get_or (ticked l) i 0 ≡ get_or l i 0
unfolding ticked
ticked_below l i h =
    get_or-set_other (set l time_index (next_time l % 2 ^ 32)) (time_index + 1) i (next_time l / 2 ^ 32) 0 (λ e. omega arith)
    ∙ get_or-set_other l time_index i (next_time l % 2 ^ 32) 0 (λ e. omega arith)

pub ticked_above : (l : List ℕ) (i : ℕ) → compare_index ≤ i → get_or (ticked l) i 0 ≡ get_or l i 0
unfolding ticked
ticked_above l i h =
    get_or-set_other (set l time_index (next_time l % 2 ^ 32)) (time_index + 1) i (next_time l / 2 ^ 32) 0 (λ e. omega arith)
    ∙ get_or-set_other l time_index i (next_time l % 2 ^ 32) 0 (λ e. omega arith)

pub ticked_time : (l : List ℕ) → length l ≡ register_words → time_of (ticked l) ≡ next_time l
unfolding time_of ticked
ticked_time l h =
    let low : List ℕ = set l time_index (next_time l % 2 ^ 32) in
    let p : get_or (set low (time_index + 1) (next_time l / 2 ^ 32)) time_index 0 ≡ next_time l % 2 ^ 32 =
    get_or-set_other low (time_index + 1) time_index (next_time l / 2 ^ 32) 0 (λ e. omega arith) ∙ get_or-set_same l time_index (next_time l % 2 ^ 32) 0
    (omega arith) in
    let q : get_or (set low (time_index + 1) (next_time l / 2 ^ 32)) (time_index + 1) 0 ≡ next_time l / 2 ^ 32 =
    get_or-set_same low (time_index + 1) (next_time l / 2 ^ 32) 0 (simp length-set (omega arith)) in
    rw (p, q) (omega arith)

-- ---- the mark

-- a word other than the mark
moved_other : (a : ℕ) (l : List ℕ) (i : ℕ) → (i ≡ csr_index Mshwm → ⊥) → get_or (marked a l) i 0 ≡ get_or l i 0
unfolding marked
moved_other a l i h = go (below_mark l a)
  where
    go : (t : Bool) → get_or (cond t (set l (csr_index Mshwm) (cleared a)) l) i 0 ≡ get_or l i 0
    go true = get_or-set_other l (csr_index Mshwm) i (cleared a) 0 h
    go false = refl

pub marked_other : (start : ℕ) (x : Stored) (l : List ℕ) (i : ℕ) → (i ≡ csr_index Mshwm → ⊥) → get_or (marked_by start x l) i 0 ≡ get_or l i 0
marked_other start nothing l i h = refl
marked_other start (bytes n p value) l i h = moved_other ((start + p) % 2 ^ 32) l i h
marked_other start (whole p value) l i h = moved_other ((start + p) % 2 ^ 32) l i h

-- a store moves the mark down or not at all
moved_falls : (a : ℕ) (l : List ℕ) → length l ≡ register_words → csr_at (marked a l) Mshwm ≤ csr_at l Mshwm
unfolding marked below_mark cleared
moved_falls a l h = go (leb (csr_at l Mshwmb) a) (ltb a (csr_at l Mshwm)) refl
  where
    go : (t u : Bool) → ltb a (csr_at l Mshwm) ≡ u → csr_at (cond (t && u) (set l (csr_index Mshwm) (cleared a)) l) Mshwm ≤ csr_at l Mshwm
    go true true q = rw (get_or-set_same l (csr_index Mshwm) (cleared a) 0 (omega arith)) (omega (arith, ltb-true a (csr_at l Mshwm) q))
    go true false q = omega arith
    go false u q = omega arith

pub mark_falls : (start : ℕ) (x : Stored) (l : List ℕ) → length l ≡ register_words → csr_at (marked_by start x l) Mshwm ≤ csr_at l Mshwm
mark_falls start nothing l h = omega arith
mark_falls start (bytes n p value) l h = moved_falls ((start + p) % 2 ^ 32) l h
mark_falls start (whole p value) l h = moved_falls ((start + p) % 2 ^ 32) l h
