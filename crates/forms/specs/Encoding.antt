-- From a row and operands back to the word: the row's fixed bits, and the operands where its format has them.
use Rattle.std.specs.Prelude.{ℕ, ◌+◌, ◌*◌, ◌/◌, ◌%◌, ◌^◌, cond, ◌&&◌, ◌==◌, nat_lt, slice_index, slice_index_or}
use Rattle.words.specs.Words.{wrap}
use Rattle.instructions.specs.Fields.{opcode, funct3}
use Rattle.forms.specs.Shapes.{is_tso}
use Rattle.forms.specs.Rows.{row_count, fixed_bits, formats}
use Rattle.forms.specs.declared.Format.{Format}
use Rattle.forms.specs.declared.Format.TheVariants.{R, I, S, B, U, J, Pair, CsrImmediate, NoOperands, FenceSets}
use Rattle.forms.specs.declared.Format.TheVariants.{Ciw, ClWord, ClDouble, CsWord, CsDouble, Ci, CiSixteens, CbSix, Ca, Cj, Cb, CiWord, CiDouble}
use Rattle.forms.specs.declared.Format.TheVariants.{CssWord, CssDouble, Cr, CrOne}
use Rattle.forms.specs.declared.Shape.{Shape}

abbrev pub place_r : (a b c : ℕ) → ℕ
place_r a b c = a % 2 ^ 5 * 2 ^ 7 + b % 2 ^ 5 * 2 ^ 15 + c % 2 ^ 5 * 2 ^ 20

abbrev pub place_i : (a b c : ℕ) → ℕ
place_i a b c = a % 2 ^ 5 * 2 ^ 7 + b % 2 ^ 5 * 2 ^ 15 + c % 2 ^ 12 * 2 ^ 20

abbrev pub place_s : (a b c : ℕ) → ℕ
place_s a b c = c % 2 ^ 5 * 2 ^ 7 + a % 2 ^ 5 * 2 ^ 15 + b % 2 ^ 5 * 2 ^ 20 + c / 2 ^ 5 % 2 ^ 7 * 2 ^ 25

abbrev pub place_b : (a b c : ℕ) → ℕ
place_b a b c = c / 2 ^ 11 % 2 * 2 ^ 7 + c / 2 % 2 ^ 4 * 2 ^ 8 + a % 2 ^ 5 * 2 ^ 15 + b % 2 ^ 5 * 2 ^ 20 + c / 2 ^ 5 % 2 ^ 6 * 2 ^ 25 + c / 2 ^ 12 % 2 * 2 ^ 31

abbrev pub place_u : (b c : ℕ) → ℕ
place_u b c = b % 2 ^ 5 * 2 ^ 7 + c % 2 ^ 20 * 2 ^ 12

abbrev pub place_j : (b c : ℕ) → ℕ
place_j b c = b % 2 ^ 5 * 2 ^ 7 + c / 2 ^ 12 % 2 ^ 8 * 2 ^ 12 + c / 2 ^ 11 % 2 * 2 ^ 20 + c / 2 % 2 ^ 10 * 2 ^ 21 + c / 2 ^ 20 % 2 * 2 ^ 31

abbrev pub place_f : (b c : ℕ) → ℕ
place_f b c = c % 2 ^ 4 * 2 ^ 20 + b % 2 ^ 4 * 2 ^ 24

-- halves: C.ADDI4SPN
abbrev pub place_wide : (b c : ℕ) → ℕ
place_wide b c = b % 2 ^ 3 * 2 ^ 2 + c / 2 ^ 3 % 2 * 2 ^ 5 + c / 2 ^ 2 % 2 * 2 ^ 6 + c / 2 ^ 6 % 2 ^ 4 * 2 ^ 7 + c / 2 ^ 4 % 2 ^ 2 * 2 ^ 11

-- C.LW and C.SW, C.LD and C.SD: the register in the low field, the one in the high field, the offset
abbrev pub place_word : (low high c : ℕ) → ℕ
place_word l h c = l % 2 ^ 3 * 2 ^ 2 + c / 2 ^ 6 % 2 * 2 ^ 5 + c / 2 ^ 2 % 2 * 2 ^ 6 + h % 2 ^ 3 * 2 ^ 7 + c / 2 ^ 3 % 2 ^ 3 * 2 ^ 10

abbrev pub place_double : (low high c : ℕ) → ℕ
place_double l h c = l % 2 ^ 3 * 2 ^ 2 + c / 2 ^ 6 % 2 ^ 2 * 2 ^ 5 + h % 2 ^ 3 * 2 ^ 7 + c / 2 ^ 3 % 2 ^ 3 * 2 ^ 10

-- a full register field or one of three bits, and six bits: immediates and shift amounts
abbrev pub place_six : (b c : ℕ) → ℕ
place_six b c = c % 2 ^ 5 * 2 ^ 2 + b % 2 ^ 5 * 2 ^ 7 + c / 2 ^ 5 % 2 * 2 ^ 12

abbrev pub place_six_eight : (b c : ℕ) → ℕ
place_six_eight b c = c % 2 ^ 5 * 2 ^ 2 + b % 2 ^ 3 * 2 ^ 7 + c / 2 ^ 5 % 2 * 2 ^ 12

-- C.ADDI16SP
abbrev pub place_sixteens : (c : ℕ) → ℕ
place_sixteens c = c / 2 ^ 5 % 2 * 2 ^ 2 + c / 2 ^ 7 % 2 ^ 2 * 2 ^ 3 + c / 2 ^ 6 % 2 * 2 ^ 5 + c / 2 ^ 4 % 2 * 2 ^ 6 + c / 2 ^ 9 % 2 * 2 ^ 12

-- C.SUB, C.XOR, C.OR, C.AND
abbrev pub place_eights : (b c : ℕ) → ℕ
place_eights b c = c % 2 ^ 3 * 2 ^ 2 + b % 2 ^ 3 * 2 ^ 7

-- C.J and C.JAL
abbrev pub place_jump : (c : ℕ) → ℕ
place_jump c =
    c / 2 ^ 5 % 2 * 2 ^ 2 + c / 2 % 2 ^ 3 * 2 ^ 3 + c / 2 ^ 7 % 2 * 2 ^ 6 + c / 2 ^ 6 % 2 * 2 ^ 7
    + (c / 2 ^ 10 % 2 * 2 ^ 8 + c / 2 ^ 8 % 2 ^ 2 * 2 ^ 9 + c / 2 ^ 4 % 2 * 2 ^ 11 + c / 2 ^ 11 % 2 * 2 ^ 12)

-- C.BEQZ and C.BNEZ
abbrev pub place_branch : (b c : ℕ) → ℕ
place_branch b c =
    c / 2 ^ 5 % 2 * 2 ^ 2 + c / 2 % 2 ^ 2 * 2 ^ 3 + c / 2 ^ 6 % 2 ^ 2 * 2 ^ 5 + b % 2 ^ 3 * 2 ^ 7 + c / 2 ^ 3 % 2 ^ 2 * 2 ^ 10 + c / 2 ^ 8 % 2 * 2 ^ 12

-- C.LWSP, C.LDSP, C.SWSP, C.SDSP
abbrev pub place_load_word : (b c : ℕ) → ℕ
place_load_word b c = c / 2 ^ 6 % 2 ^ 2 * 2 ^ 2 + c / 2 ^ 2 % 2 ^ 3 * 2 ^ 4 + b % 2 ^ 5 * 2 ^ 7 + c / 2 ^ 5 % 2 * 2 ^ 12

abbrev pub place_load_double : (b c : ℕ) → ℕ
place_load_double b c = c / 2 ^ 6 % 2 ^ 3 * 2 ^ 2 + c / 2 ^ 3 % 2 ^ 2 * 2 ^ 5 + b % 2 ^ 5 * 2 ^ 7 + c / 2 ^ 5 % 2 * 2 ^ 12

abbrev pub place_store_word : (b c : ℕ) → ℕ
place_store_word b c = b % 2 ^ 5 * 2 ^ 2 + c / 2 ^ 6 % 2 ^ 2 * 2 ^ 7 + c / 2 ^ 2 % 2 ^ 4 * 2 ^ 9

abbrev pub place_store_double : (b c : ℕ) → ℕ
place_store_double b c = b % 2 ^ 5 * 2 ^ 2 + c / 2 ^ 6 % 2 ^ 3 * 2 ^ 7 + c / 2 ^ 3 % 2 ^ 3 * 2 ^ 10

-- C.MV and C.ADD; C.JR and C.JALR have the first field alone
abbrev pub place_full : (b c : ℕ) → ℕ
place_full b c = c % 2 ^ 5 * 2 ^ 2 + b % 2 ^ 5 * 2 ^ 7

-- by the format: two registers, the second field fixed; a CSR's number before the immediate; FENCE's sets. Of CL and CS the registers are a and b
unfoldable pub place_of : Format → (a b c : ℕ) → ℕ
place_of R a b c = place_r a b c
place_of I a b c = place_i a b c
place_of S a b c = place_s a b c
place_of B a b c = place_b a b c
place_of U a b c = place_u b c
place_of J a b c = place_j b c
place_of Pair a b c = place_r b c 0
place_of CsrImmediate a b c = place_i a c b
place_of NoOperands a b c = 0
place_of FenceSets a b c = place_f b c
place_of Ciw a b c = place_wide b c
place_of ClWord a b c = place_word a b c
place_of ClDouble a b c = place_double a b c
place_of CsWord a b c = place_word b a c
place_of CsDouble a b c = place_double b a c
place_of Ci a b c = place_six b c
place_of CiSixteens a b c = place_sixteens c
place_of CbSix a b c = place_six_eight b c
place_of Ca a b c = place_eights b c
place_of Cj a b c = place_jump c
place_of Cb a b c = place_branch b c
place_of CiWord a b c = place_load_word b c
place_of CiDouble a b c = place_load_double b c
place_of CssWord a b c = place_store_word b c
place_of CssDouble a b c = place_store_double b c
place_of Cr a b c = place_full b c
place_of CrOne a b c = place_full c 0

-- the word of a row and operands; 0 where there is no such row
unfoldable pub encode_of : (row a b c : ℕ) → ℕ
encode_of row a b c = cond (nat_lt row row_count) (wrap (slice_index fixed_bits row + place_of (slice_index_or formats row R) a b c)) 0

-- The word that stands for all encodings of one instruction. Only FENCE and FENCE.TSO have several: rd and rs1 do not matter, nor FENCE's fm, and what does
-- not matter is 0 in the chosen word.
abbrev pub chosen_fence : (word : ℕ) → ℕ
chosen_fence w = cond (is_tso w) 0x8330000f (0x0f + place_f (w / 2 ^ 24) (w / 2 ^ 20))

unfoldable pub chosen : (word : ℕ) → ℕ
chosen w = cond (opcode w == 0x0f && funct3 w == 0) (chosen_fence w) w

-- the word of what is listed: by its row and operands; where it has no row, the word itself
unfoldable pub restored : (word : ℕ) → Shape → ℕ
restored w s = cond (nat_lt s.row row_count) (encode_of s.row s.a s.b s.c) w
