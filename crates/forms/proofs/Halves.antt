-- Every half, encoded again from what is listed of it, is the half that it was. All 65,536 are computed, 4,096 in each of sixteen declarations: the
-- checker takes no more steps in one.
use Rattle.std.proofs.Common.{◌≡◌, ℕ, suc, ◌+◌, ◌*◌, ◌/◌, ◌%◌, ◌^◌, ◌<◌, Bool, T, eqb, ◌⊎◌, subst, inl, inr, not-suc-le-zero, eq-or-lt_of_le, arith, eqb→eq}
use Rattle.words.specs.Words.{sign_extend}
use Rattle.choices.proofs.Every.{every, every_at}
use Rattle.short_forms.specs.Fields.{immediate_wide, offset_word, offset_double, immediate_six, immediate_sixteens, immediate_upper, offset_jump, offset_branch}
use Rattle.short_forms.specs.Fields.{offset_load_word, offset_load_double, offset_store_word, offset_store_double}
use Rattle.short_forms.specs.Forms.{addi4spn_of, quadrant0, addi16sp_of, upper_of, two_of, arithmetic_of, quadrant1, slli_of, lwsp_of, ldsp_of, moves_of}
use Rattle.short_forms.specs.Forms.{adds_of}
use Rattle.short_forms.specs.Forms.{registers_of, quadrant2, short_of}
use Rattle.forms.specs.ShortShapes.{short_shape}
use Rattle.forms.specs.Rows.{fixed_bits, formats}
use Rattle.forms.specs.Encoding.{place_of, encode_of, restored}

-- the half that is k places into the j-th part
right : (j k : ℕ) → Bool
right j k = let h = k + 4096 * j in eqb (restored h (short_shape (short_of h))) h

part0 : T (every (right 0) 4096)
unfolding right short_shape short_of quadrant0 quadrant1 quadrant2 addi4spn_of addi16sp_of upper_of two_of arithmetic_of slli_of lwsp_of ldsp_of moves_of
    adds_of registers_of immediate_wide offset_word offset_double immediate_six immediate_sixteens immediate_upper offset_jump offset_branch offset_load_word
    offset_load_double offset_store_word offset_store_double sign_extend restored encode_of place_of fixed_bits formats
part0 = tt

part1 : T (every (right 1) 4096)
unfolding right short_shape short_of quadrant0 quadrant1 quadrant2 addi4spn_of addi16sp_of upper_of two_of arithmetic_of slli_of lwsp_of ldsp_of moves_of
    adds_of registers_of immediate_wide offset_word offset_double immediate_six immediate_sixteens immediate_upper offset_jump offset_branch offset_load_word
    offset_load_double offset_store_word offset_store_double sign_extend restored encode_of place_of fixed_bits formats
part1 = tt

part2 : T (every (right 2) 4096)
unfolding right short_shape short_of quadrant0 quadrant1 quadrant2 addi4spn_of addi16sp_of upper_of two_of arithmetic_of slli_of lwsp_of ldsp_of moves_of
    adds_of registers_of immediate_wide offset_word offset_double immediate_six immediate_sixteens immediate_upper offset_jump offset_branch offset_load_word
    offset_load_double offset_store_word offset_store_double sign_extend restored encode_of place_of fixed_bits formats
part2 = tt

part3 : T (every (right 3) 4096)
unfolding right short_shape short_of quadrant0 quadrant1 quadrant2 addi4spn_of addi16sp_of upper_of two_of arithmetic_of slli_of lwsp_of ldsp_of moves_of
    adds_of registers_of immediate_wide offset_word offset_double immediate_six immediate_sixteens immediate_upper offset_jump offset_branch offset_load_word
    offset_load_double offset_store_word offset_store_double sign_extend restored encode_of place_of fixed_bits formats
part3 = tt

part4 : T (every (right 4) 4096)
unfolding right short_shape short_of quadrant0 quadrant1 quadrant2 addi4spn_of addi16sp_of upper_of two_of arithmetic_of slli_of lwsp_of ldsp_of moves_of
    adds_of registers_of immediate_wide offset_word offset_double immediate_six immediate_sixteens immediate_upper offset_jump offset_branch offset_load_word
    offset_load_double offset_store_word offset_store_double sign_extend restored encode_of place_of fixed_bits formats
part4 = tt

part5 : T (every (right 5) 4096)
unfolding right short_shape short_of quadrant0 quadrant1 quadrant2 addi4spn_of addi16sp_of upper_of two_of arithmetic_of slli_of lwsp_of ldsp_of moves_of
    adds_of registers_of immediate_wide offset_word offset_double immediate_six immediate_sixteens immediate_upper offset_jump offset_branch offset_load_word
    offset_load_double offset_store_word offset_store_double sign_extend restored encode_of place_of fixed_bits formats
part5 = tt

part6 : T (every (right 6) 4096)
unfolding right short_shape short_of quadrant0 quadrant1 quadrant2 addi4spn_of addi16sp_of upper_of two_of arithmetic_of slli_of lwsp_of ldsp_of moves_of
    adds_of registers_of immediate_wide offset_word offset_double immediate_six immediate_sixteens immediate_upper offset_jump offset_branch offset_load_word
    offset_load_double offset_store_word offset_store_double sign_extend restored encode_of place_of fixed_bits formats
part6 = tt

part7 : T (every (right 7) 4096)
unfolding right short_shape short_of quadrant0 quadrant1 quadrant2 addi4spn_of addi16sp_of upper_of two_of arithmetic_of slli_of lwsp_of ldsp_of moves_of
    adds_of registers_of immediate_wide offset_word offset_double immediate_six immediate_sixteens immediate_upper offset_jump offset_branch offset_load_word
    offset_load_double offset_store_word offset_store_double sign_extend restored encode_of place_of fixed_bits formats
part7 = tt

part8 : T (every (right 8) 4096)
unfolding right short_shape short_of quadrant0 quadrant1 quadrant2 addi4spn_of addi16sp_of upper_of two_of arithmetic_of slli_of lwsp_of ldsp_of moves_of
    adds_of registers_of immediate_wide offset_word offset_double immediate_six immediate_sixteens immediate_upper offset_jump offset_branch offset_load_word
    offset_load_double offset_store_word offset_store_double sign_extend restored encode_of place_of fixed_bits formats
part8 = tt

part9 : T (every (right 9) 4096)
unfolding right short_shape short_of quadrant0 quadrant1 quadrant2 addi4spn_of addi16sp_of upper_of two_of arithmetic_of slli_of lwsp_of ldsp_of moves_of
    adds_of registers_of immediate_wide offset_word offset_double immediate_six immediate_sixteens immediate_upper offset_jump offset_branch offset_load_word
    offset_load_double offset_store_word offset_store_double sign_extend restored encode_of place_of fixed_bits formats
part9 = tt

part10 : T (every (right 10) 4096)
unfolding right short_shape short_of quadrant0 quadrant1 quadrant2 addi4spn_of addi16sp_of upper_of two_of arithmetic_of slli_of lwsp_of ldsp_of moves_of
    adds_of registers_of immediate_wide offset_word offset_double immediate_six immediate_sixteens immediate_upper offset_jump offset_branch offset_load_word
    offset_load_double offset_store_word offset_store_double sign_extend restored encode_of place_of fixed_bits formats
part10 = tt

part11 : T (every (right 11) 4096)
unfolding right short_shape short_of quadrant0 quadrant1 quadrant2 addi4spn_of addi16sp_of upper_of two_of arithmetic_of slli_of lwsp_of ldsp_of moves_of
    adds_of registers_of immediate_wide offset_word offset_double immediate_six immediate_sixteens immediate_upper offset_jump offset_branch offset_load_word
    offset_load_double offset_store_word offset_store_double sign_extend restored encode_of place_of fixed_bits formats
part11 = tt

part12 : T (every (right 12) 4096)
unfolding right short_shape short_of quadrant0 quadrant1 quadrant2 addi4spn_of addi16sp_of upper_of two_of arithmetic_of slli_of lwsp_of ldsp_of moves_of
    adds_of registers_of immediate_wide offset_word offset_double immediate_six immediate_sixteens immediate_upper offset_jump offset_branch offset_load_word
    offset_load_double offset_store_word offset_store_double sign_extend restored encode_of place_of fixed_bits formats
part12 = tt

part13 : T (every (right 13) 4096)
unfolding right short_shape short_of quadrant0 quadrant1 quadrant2 addi4spn_of addi16sp_of upper_of two_of arithmetic_of slli_of lwsp_of ldsp_of moves_of
    adds_of registers_of immediate_wide offset_word offset_double immediate_six immediate_sixteens immediate_upper offset_jump offset_branch offset_load_word
    offset_load_double offset_store_word offset_store_double sign_extend restored encode_of place_of fixed_bits formats
part13 = tt

part14 : T (every (right 14) 4096)
unfolding right short_shape short_of quadrant0 quadrant1 quadrant2 addi4spn_of addi16sp_of upper_of two_of arithmetic_of slli_of lwsp_of ldsp_of moves_of
    adds_of registers_of immediate_wide offset_word offset_double immediate_six immediate_sixteens immediate_upper offset_jump offset_branch offset_load_word
    offset_load_double offset_store_word offset_store_double sign_extend restored encode_of place_of fixed_bits formats
part14 = tt

part15 : T (every (right 15) 4096)
unfolding right short_shape short_of quadrant0 quadrant1 quadrant2 addi4spn_of addi16sp_of upper_of two_of arithmetic_of slli_of lwsp_of ldsp_of moves_of
    adds_of registers_of immediate_wide offset_word offset_double immediate_six immediate_sixteens immediate_upper offset_jump offset_branch offset_load_word
    offset_load_double offset_store_word offset_store_double sign_extend restored encode_of place_of fixed_bits formats
part15 = tt

-- every part, and so every half
abbrev Part : ℕ → Type 0
Part j = T (every (right j) 4096)

none : (j : ℕ) → j < 0 → Part j
none j l = absurd (not-suc-le-zero l)

then : (k : ℕ) → Part k → ((j : ℕ) → j < k → Part j) → (j : ℕ) → j < suc k → Part j
then k p rest j l = go (eq-or-lt_of_le l)
  where
    go : (suc j ≡ suc k) ⊎ (suc j < suc k) → Part j
    go (inl e) = subst Part (omega arith) p
    go (inr m) = rest j (omega arith)

parts : (j : ℕ) → j < 16 → Part j
parts =
    then 15 part15 (then 14 part14 (then 13 part13 (then 12 part12 (then 11 part11 (then 10 part10 (then 9 part9 (then 8 part8
    (then 7 part7 (then 6 part6 (then 5 part5 (then 4 part4 (then 3 part3 (then 2 part2 (then 1 part1 (then 0 part0 none)))))))))))))))

pub half_again : (h : ℕ) → h < 2 ^ 16 → restored h (short_shape (short_of h)) ≡ h
unfolding right
half_again h l =
    let e : h % 4096 + 4096 * (h / 4096) ≡ h = omega arith in
    let t : T (right (h / 4096) (h % 4096)) = every_at (right (h / 4096)) 4096 (parts (h / 4096) (omega arith)) (h % 4096) (omega arith) in
    eqb→eq (restored h (short_shape (short_of h))) h (subst (λ (x : ℕ). T (eqb (restored x (short_shape (short_of x))) x)) e t)
