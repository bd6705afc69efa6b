-- The fields of an instruction word, and its immediates by format (RISC-V unprivileged standard, RV32I, base formats and immediate encodings).
use Rattle.std.specs.Prelude.{ℕ, ◌+◌, ◌*◌, ◌/◌, ◌%◌, ◌^◌}
use Rattle.words.specs.Words.{sign_extend, wrap}

abbrev pub opcode : ℕ → ℕ
opcode w = w % 2 ^ 7

abbrev pub rd_of : ℕ → ℕ
rd_of w = w / 2 ^ 7 % 2 ^ 5

abbrev pub funct3 : ℕ → ℕ
funct3 w = w / 2 ^ 12 % 2 ^ 3

abbrev pub rs1_of : ℕ → ℕ
rs1_of w = w / 2 ^ 15 % 2 ^ 5

abbrev pub rs2_of : ℕ → ℕ
rs2_of w = w / 2 ^ 20 % 2 ^ 5

abbrev pub funct7 : ℕ → ℕ
funct7 w = w / 2 ^ 25 % 2 ^ 7

-- the upper twelve bits, unsigned: a CSR's number, a length
abbrev pub upper12 : ℕ → ℕ
upper12 w = w / 2 ^ 20 % 2 ^ 12

-- imm[11:0] = bits 31:20
unfoldable pub immediate_i : ℕ → ℕ
immediate_i w = sign_extend (upper12 w) 12

-- imm[11:5] = bits 31:25, imm[4:0] = bits 11:7
unfoldable pub immediate_s : ℕ → ℕ
immediate_s w = sign_extend (funct7 w * 2 ^ 5 + rd_of w) 12

-- imm[12] = bit 31, imm[11] = bit 7, imm[10:5] = bits 30:25, imm[4:1] = bits 11:8
unfoldable pub immediate_b : ℕ → ℕ
immediate_b w = sign_extend (w / 2 ^ 31 % 2 * 2 ^ 12 + w / 2 ^ 7 % 2 * 2 ^ 11 + w / 2 ^ 25 % 2 ^ 6 * 2 ^ 5 + w / 2 ^ 8 % 2 ^ 4 * 2) 13

-- imm[31:12] = bits 31:12, the twelve low bits 0
unfoldable pub immediate_u : ℕ → ℕ
immediate_u w = w / 2 ^ 12 % 2 ^ 20 * 2 ^ 12

-- imm[20] = bit 31, imm[19:12] = bits 19:12, imm[11] = bit 20, imm[10:1] = bits 30:21
unfoldable pub immediate_j : ℕ → ℕ
immediate_j w = sign_extend (w / 2 ^ 31 % 2 * 2 ^ 20 + w / 2 ^ 12 % 2 ^ 8 * 2 ^ 12 + w / 2 ^ 20 % 2 * 2 ^ 11 + w / 2 ^ 21 % 2 ^ 10 * 2) 21

-- AUIPCC and AUICGP: the twenty bits count units of 2 ^ 11 (the CHERIoT report, 7.12)
unfoldable pub offset_aui : ℕ → ℕ
offset_aui w = wrap (sign_extend (w / 2 ^ 12 % 2 ^ 20) 20 * 2 ^ 11)
