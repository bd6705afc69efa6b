-- What is listed of a half: of its form, by a row of its own, the register fields and the immediate that the half has. A register that a form implies is
-- not named. And of any word, long or short.
use Rattle.std.specs.Prelude.{ℕ, ◌%◌, ◌^◌, ◌<◌, cond, ◌==◌, ◌≢◌, nat_lt}
use Rattle.instructions.specs.Decode.{decode_of}
use Rattle.instructions.specs.declared.Instruction.{Instruction}
use Rattle.short_forms.specs.Forms.{short_of}
use Rattle.short_forms.specs.Long.{long_form}
use Rattle.short_forms.specs.Standing.{is_long}
use Rattle.short_forms.specs.declared.ShortForm.{ShortForm}
use Rattle.short_forms.specs.declared.ShortForm.TheVariants.{Addi4spn, Lw, Ld, Sw, Sd, Addi, Jal, Li, Addi16sp, Lui, Srli, Srai, Andi, Sub, Xor, Or, And}
use Rattle.short_forms.specs.declared.ShortForm.TheVariants.{J, Beqz, Bnez, Slli, Lwsp, Ldsp, Jr, Mv, Ebreak, Jalr, Add, Swsp, Sdsp, NoForm}
use Rattle.forms.specs.Rows.{unlisted, instruction_shape}
use Rattle.forms.specs.Shapes.{three, two, one, bare, upper_of}
use Rattle.forms.specs.declared.Shape.{Shape}

-- a full register field can name what is no register: illegal
abbrev pub named : (register : ℕ) → Shape → Shape
named n s = cond (nat_lt n 16) s (bare unlisted)

-- register 0 in C.ADDI's place is C.NOP, and a hint where its immediate is not 0
abbrev pub nop_shape : (value : ℕ) → Shape
nop_shape value = cond (value == 0) (bare 90) (one 90 value)

abbrev pub addi_shape : (rd value : ℕ) → Shape
addi_shape rd value = cond (rd == 0) (nop_shape value) (two 91 rd value)

unfoldable pub short_shape : ShortForm → Shape
short_shape (Addi4spn rd value) = two 85 rd value
short_shape (Lw rd rs1 offset) = three 86 rd rs1 offset
short_shape (Ld rd rs1 offset) = three 87 rd rs1 offset
short_shape (Sw rs1 rs2 offset) = three 88 rs1 rs2 offset
short_shape (Sd rs1 rs2 offset) = three 89 rs1 rs2 offset
short_shape (Addi rd value) = named rd (addi_shape rd value)
short_shape (Jal offset) = one 92 offset
short_shape (Li rd value) = named rd (two 93 rd value)
short_shape (Addi16sp value) = one 94 value
short_shape (Lui rd value) = named rd (two 95 rd (upper_of value))
short_shape (Srli rd shamt) = two 96 rd shamt
short_shape (Srai rd shamt) = two 97 rd shamt
short_shape (Andi rd value) = two 98 rd value
short_shape (Sub rd rs2) = two 99 rd rs2
short_shape (Xor rd rs2) = two 100 rd rs2
short_shape (Or rd rs2) = two 101 rd rs2
short_shape (And rd rs2) = two 102 rd rs2
short_shape (J offset) = one 103 offset
short_shape (Beqz rs1 offset) = two 104 rs1 offset
short_shape (Bnez rs1 offset) = two 105 rs1 offset
short_shape (Slli rd shamt) = named rd (two 106 rd shamt)
short_shape (Lwsp rd offset) = named rd (two 107 rd offset)
short_shape (Ldsp rd offset) = named rd (two 108 rd offset)
short_shape (Jr rs1) = named rs1 (one 109 rs1)
short_shape (Mv rd rs2) = named rd (named rs2 (two 110 rd rs2))
short_shape Ebreak = bare 111
short_shape (Jalr rs1) = named rs1 (one 112 rs1)
short_shape (Add rd rs2) = named rd (named rs2 (two 113 rd rs2))
short_shape (Swsp rs2 offset) = named rs2 (two 114 rs2 offset)
short_shape (Sdsp rs2 offset) = named rs2 (two 115 rs2 offset)
short_shape NoForm = bare unlisted

-- a word of the code: four bytes, or two where its two low bits are not 11
pub record Word (w : ℕ) : Type 0 where
  pub fits : w < 2 ^ 32
  pub short : (w % 4 ≢ 3) → w < 2 ^ 16

-- what is listed of a word: two low bits 11 make it a long one, others a half
unfoldable pub shape_of : (word : ℕ) → Shape
shape_of w = cond (is_long w) (instruction_shape w (decode_of w)) (short_shape (short_of w))

-- what the machine takes a word for
unfoldable pub instruction_of : (word : ℕ) → Instruction
instruction_of w = decode_of (cond (is_long w) w (long_form w))
