-- Bytes put one after another: at once where all have a place, else one by one. Assumes nothing.
use Rattle.std.proofs.Common.{◌≡◌, ℕ, suc, ◌+◌, ◌<◌, ◌≤◌, List, [], ◌∷◌, ◌++◌, length, get_or, set, take, drop, refl, sym, ap, ◌∙◌, arith, length-set}
use Rattle.std.proofs.lemmas.List.{take-append-drop, take_more_set, drop-set-lt}
use Rattle.std.proofs.Math.Seq.{drop-cons}
use mathlib.Core.List.{append_assoc}
use native.Mathlib.Numerals.{add-one}
use lib.ListN.{drop_of_length-le}
use Rattle.words.specs.Words.{put_list}

pub put_list_is : (bs m : List ℕ) (i : ℕ) → i + length bs ≤ length m → put_list bs m i ≡ take i m ++ (bs ++ drop (length bs) (drop i m))
unfolding put_list
put_list_is [] m i h = sym (take-append-drop i m)
put_list_is (b ∷ bs) m i h =
    let l : i < length m = omega arith in
    put_list_is bs (set m i b) (i + 1) (omega (arith, length-set m i b))
    ∙ rw (take_more_set m i b l, drop-set-lt (i + 1) m i b (omega arith), drop-cons m i 0 l, add-one)
    (append_assoc (take i m) (b ∷ []) (bs ++ drop (length bs) (drop (suc i) m)))

-- one byte more
pub put_turn : (bs m : List ℕ) (i k : ℕ) → k < length bs
    → put_list (drop k bs) m (i + k) ≡ put_list (drop (k + 1) bs) (set m (i + k) (get_or bs k 0)) (i + (k + 1))
unfolding put_list
put_turn bs m i k h =
    let e : i + (k + 1) ≡ i + k + 1 = omega arith in
    rw (e, add-one, drop-cons bs k 0 h) refl

-- and none left
pub put_end : (bs m : List ℕ) (i k : ℕ) → length bs ≤ k → put_list (drop k bs) m i ≡ m
unfolding put_list
put_end bs m i k h = rw (drop_of_length-le bs h) refl
