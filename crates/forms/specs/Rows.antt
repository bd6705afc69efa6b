-- The rows: of each instruction its name, the bits that all its words have, the format of its operands, and what is listed of it. All that one more long
-- instruction adds to the listing is here. A row's number is its place in the three lists; a new one goes to their end.
-- Loads, stores, jumps and address construction have the names that chapter 8 of the report gives them, capability instructions those of their pages;
-- other long words have the standard's (RV32E, M, Zicsr), halves the standard's of extension C.
-- Operands are registers in the order rd, rs1, rs2, then the others in the standard's order. Offsets and immediates are the decoder's, sign-extended;
-- shift amounts, lengths, CSR and special register numbers are unsigned.
use Rattle.std.specs.Prelude.{ℕ, cond, List, [], ◌∷◌, slice_index_or}
use Rattle.instructions.specs.declared.Alu.{Alu}
use Rattle.instructions.specs.declared.Alu.TheVariants.{Add, Sub, Sll, Slt, Sltu, Xor, Srl, Sra, Or, And}
use Rattle.instructions.specs.declared.MultiplyKind.{MultiplyKind}
use Rattle.instructions.specs.declared.MultiplyKind.TheVariants.{Mul, Mulh, Mulhsu, Mulhu}
use Rattle.instructions.specs.declared.DivideKind.{DivideKind}
use Rattle.instructions.specs.declared.DivideKind.TheVariants.{Div, Divu, Rem, Remu}
use Rattle.instructions.specs.declared.BranchKind.{BranchKind}
use Rattle.instructions.specs.declared.BranchKind.TheVariants.{Beq, Bne, Blt, Bge, Bltu, Bgeu}
use Rattle.instructions.specs.declared.LoadKind.{LoadKind}
use Rattle.instructions.specs.declared.LoadKind.TheVariants.{Lb, Lh, Lw, Lbu, Lhu}
use Rattle.instructions.specs.declared.StoreKind.{StoreKind}
use Rattle.instructions.specs.declared.StoreKind.TheVariants.{Sb, Sh, Sw}
use Rattle.instructions.specs.declared.CsrKind.{CsrKind}
use Rattle.instructions.specs.declared.CsrKind.TheVariants.{Csrrw, Csrrs, Csrrc}
use Rattle.instructions.specs.declared.Csr.{Csr}
use Rattle.instructions.specs.declared.Csr.TheVariants.{Mstatus, Mcause, Mtval, Mshwm, Mshwmb}
use Rattle.instructions.specs.declared.Scr.{Scr}
use Rattle.instructions.specs.declared.Scr.TheVariants.{Mtcc, Mtdc, Mscratchc, Mepcc}
use Rattle.instructions.specs.declared.Inspection.{Inspection}
use Rattle.instructions.specs.declared.Inspection.TheVariants.{GetPerm, GetType, GetBase, GetLen, GetTag, RoundLength, AlignmentMask, GetAddr, GetHigh, GetTop}
use Rattle.instructions.specs.declared.Combination.{Combination}
use Rattle.instructions.specs.declared.Combination.TheVariants.{SetBounds, SetBoundsExact, Seal, Unseal, AndPerm, SetAddr, IncAddr, SubAddr, SetHigh}
use Rattle.instructions.specs.declared.Combination.TheVariants.{TestSubset, SetEqualExact}
use Rattle.instructions.specs.declared.IntegerInstruction.{IntegerInstruction}
use Rattle.instructions.specs.declared.IntegerInstruction.TheVariants.{Lui, OpImm, Op, Multiply, Divide}
use Rattle.instructions.specs.declared.JumpInstruction.{JumpInstruction}
use Rattle.instructions.specs.declared.JumpInstruction.TheVariants.{Jal, Jalr, Branch, Mret}
use Rattle.instructions.specs.declared.MemoryInstruction.{MemoryInstruction}
use Rattle.instructions.specs.declared.MemoryInstruction.TheVariants.{Load, Store, LoadCapability, StoreCapability}
use Rattle.instructions.specs.declared.CapabilityInstruction.{CapabilityInstruction}
use Rattle.instructions.specs.declared.CapabilityInstruction.TheVariants.{AuiPcc, AuiCgp, IncAddrImm, SetBoundsImm, Move, ClearTag, Inspect, Combine}
use Rattle.instructions.specs.declared.SystemInstruction.{SystemInstruction}
use Rattle.instructions.specs.declared.SystemInstruction.TheVariants.{Fence, Wfi, Ecall, Ebreak, CsrRegister, CsrImmediate, SpecialRw}
use Rattle.instructions.specs.declared.Instruction.{Instruction}
use Rattle.instructions.specs.declared.Instruction.TheVariants.{Integer, Jump, Memory, Capability, System, Illegal}
use Rattle.forms.specs.Shapes.{three, two, bare, upper_of, pred_of, succ_of, is_tso}
use Rattle.forms.specs.declared.Format.{Format}
use Rattle.forms.specs.declared.Format.TheVariants.{R, I, S, B, U, J, Pair, CsrImmediate, NoOperands, FenceSets}
use Rattle.forms.specs.declared.Format.TheVariants.{Ciw, ClWord, ClDouble, CsWord, CsDouble, Ci, CiSixteens, CbSix, Ca, Cj, Cb, CiWord, CiDouble}
use Rattle.forms.specs.declared.Format.TheVariants.{CssWord, CssDouble, Cr, CrOne}
use Rattle.forms.specs.declared.Shape.{Shape}

-- the names as ASCII text: the published ones in lower case
unfoldable pub names : List (List ℕ)
names =
    (108 ∷ 117 ∷ 105 ∷ []) ∷  -- 0 lui
    (97 ∷ 117 ∷ 105 ∷ 112 ∷ 99 ∷ 99 ∷ []) ∷  -- 1 auipcc
    (97 ∷ 117 ∷ 105 ∷ 99 ∷ 103 ∷ 112 ∷ []) ∷  -- 2 auicgp
    (99 ∷ 106 ∷ 97 ∷ 108 ∷ []) ∷  -- 3 cjal
    (99 ∷ 106 ∷ 97 ∷ 108 ∷ 114 ∷ []) ∷  -- 4 cjalr
    (98 ∷ 101 ∷ 113 ∷ []) ∷  -- 5 beq
    (98 ∷ 110 ∷ 101 ∷ []) ∷  -- 6 bne
    (98 ∷ 108 ∷ 116 ∷ []) ∷  -- 7 blt
    (98 ∷ 103 ∷ 101 ∷ []) ∷  -- 8 bge
    (98 ∷ 108 ∷ 116 ∷ 117 ∷ []) ∷  -- 9 bltu
    (98 ∷ 103 ∷ 101 ∷ 117 ∷ []) ∷  -- 10 bgeu
    (109 ∷ 114 ∷ 101 ∷ 116 ∷ []) ∷  -- 11 mret
    (99 ∷ 108 ∷ 98 ∷ []) ∷  -- 12 clb
    (99 ∷ 108 ∷ 104 ∷ []) ∷  -- 13 clh
    (99 ∷ 108 ∷ 119 ∷ []) ∷  -- 14 clw
    (99 ∷ 108 ∷ 98 ∷ 117 ∷ []) ∷  -- 15 clbu
    (99 ∷ 108 ∷ 104 ∷ 117 ∷ []) ∷  -- 16 clhu
    (99 ∷ 108 ∷ 99 ∷ []) ∷  -- 17 clc
    (99 ∷ 115 ∷ 98 ∷ []) ∷  -- 18 csb
    (99 ∷ 115 ∷ 104 ∷ []) ∷  -- 19 csh
    (99 ∷ 115 ∷ 119 ∷ []) ∷  -- 20 csw
    (99 ∷ 115 ∷ 99 ∷ []) ∷  -- 21 csc
    (97 ∷ 100 ∷ 100 ∷ 105 ∷ []) ∷  -- 22 addi
    (115 ∷ 108 ∷ 108 ∷ 105 ∷ []) ∷  -- 23 slli
    (115 ∷ 108 ∷ 116 ∷ 105 ∷ []) ∷  -- 24 slti
    (115 ∷ 108 ∷ 116 ∷ 105 ∷ 117 ∷ []) ∷  -- 25 sltiu
    (120 ∷ 111 ∷ 114 ∷ 105 ∷ []) ∷  -- 26 xori
    (115 ∷ 114 ∷ 108 ∷ 105 ∷ []) ∷  -- 27 srli
    (115 ∷ 114 ∷ 97 ∷ 105 ∷ []) ∷  -- 28 srai
    (111 ∷ 114 ∷ 105 ∷ []) ∷  -- 29 ori
    (97 ∷ 110 ∷ 100 ∷ 105 ∷ []) ∷  -- 30 andi
    (97 ∷ 100 ∷ 100 ∷ []) ∷  -- 31 add
    (115 ∷ 117 ∷ 98 ∷ []) ∷  -- 32 sub
    (115 ∷ 108 ∷ 108 ∷ []) ∷  -- 33 sll
    (115 ∷ 108 ∷ 116 ∷ []) ∷  -- 34 slt
    (115 ∷ 108 ∷ 116 ∷ 117 ∷ []) ∷  -- 35 sltu
    (120 ∷ 111 ∷ 114 ∷ []) ∷  -- 36 xor
    (115 ∷ 114 ∷ 108 ∷ []) ∷  -- 37 srl
    (115 ∷ 114 ∷ 97 ∷ []) ∷  -- 38 sra
    (111 ∷ 114 ∷ []) ∷  -- 39 or
    (97 ∷ 110 ∷ 100 ∷ []) ∷  -- 40 and
    (102 ∷ 101 ∷ 110 ∷ 99 ∷ 101 ∷ []) ∷  -- 41 fence
    (119 ∷ 102 ∷ 105 ∷ []) ∷  -- 42 wfi
    (101 ∷ 99 ∷ 97 ∷ 108 ∷ 108 ∷ []) ∷  -- 43 ecall
    (101 ∷ 98 ∷ 114 ∷ 101 ∷ 97 ∷ 107 ∷ []) ∷  -- 44 ebreak
    (99 ∷ 115 ∷ 114 ∷ 114 ∷ 119 ∷ []) ∷  -- 45 csrrw
    (99 ∷ 115 ∷ 114 ∷ 114 ∷ 115 ∷ []) ∷  -- 46 csrrs
    (99 ∷ 115 ∷ 114 ∷ 114 ∷ 99 ∷ []) ∷  -- 47 csrrc
    (99 ∷ 115 ∷ 114 ∷ 114 ∷ 119 ∷ 105 ∷ []) ∷  -- 48 csrrwi
    (99 ∷ 115 ∷ 114 ∷ 114 ∷ 115 ∷ 105 ∷ []) ∷  -- 49 csrrsi
    (99 ∷ 115 ∷ 114 ∷ 114 ∷ 99 ∷ 105 ∷ []) ∷  -- 50 csrrci
    (99 ∷ 115 ∷ 112 ∷ 101 ∷ 99 ∷ 105 ∷ 97 ∷ 108 ∷ 114 ∷ 119 ∷ []) ∷  -- 51 cspecialrw
    (99 ∷ 105 ∷ 110 ∷ 99 ∷ 97 ∷ 100 ∷ 100 ∷ 114 ∷ 105 ∷ 109 ∷ 109 ∷ []) ∷  -- 52 cincaddrimm
    (99 ∷ 115 ∷ 101 ∷ 116 ∷ 98 ∷ 111 ∷ 117 ∷ 110 ∷ 100 ∷ 115 ∷ 105 ∷ 109 ∷ 109 ∷ []) ∷  -- 53 csetboundsimm
    (99 ∷ 109 ∷ 111 ∷ 118 ∷ 101 ∷ []) ∷  -- 54 cmove
    (99 ∷ 99 ∷ 108 ∷ 101 ∷ 97 ∷ 114 ∷ 116 ∷ 97 ∷ 103 ∷ []) ∷  -- 55 ccleartag
    (99 ∷ 103 ∷ 101 ∷ 116 ∷ 112 ∷ 101 ∷ 114 ∷ 109 ∷ []) ∷  -- 56 cgetperm
    (99 ∷ 103 ∷ 101 ∷ 116 ∷ 116 ∷ 121 ∷ 112 ∷ 101 ∷ []) ∷  -- 57 cgettype
    (99 ∷ 103 ∷ 101 ∷ 116 ∷ 98 ∷ 97 ∷ 115 ∷ 101 ∷ []) ∷  -- 58 cgetbase
    (99 ∷ 103 ∷ 101 ∷ 116 ∷ 108 ∷ 101 ∷ 110 ∷ []) ∷  -- 59 cgetlen
    (99 ∷ 103 ∷ 101 ∷ 116 ∷ 116 ∷ 97 ∷ 103 ∷ []) ∷  -- 60 cgettag
    (99 ∷ 114 ∷ 111 ∷ 117 ∷ 110 ∷ 100 ∷ 114 ∷ 101 ∷ 112 ∷ 114 ∷ 101 ∷ 115 ∷ 101 ∷
    110 ∷ 116 ∷ 97 ∷ 98 ∷ 108 ∷ 101 ∷ 108 ∷ 101 ∷ 110 ∷ 103 ∷ 116 ∷ 104 ∷ []) ∷  -- 61 croundrepresentablelength
    (99 ∷ 114 ∷ 101 ∷ 112 ∷ 114 ∷ 101 ∷ 115 ∷ 101 ∷ 110 ∷ 116 ∷ 97 ∷ 98 ∷ 108 ∷ 101 ∷
    97 ∷ 108 ∷ 105 ∷ 103 ∷ 110 ∷ 109 ∷ 101 ∷ 110 ∷ 116 ∷ 109 ∷ 97 ∷ 115 ∷ 107 ∷ []) ∷  -- 62 crepresentablealignmentmask
    (99 ∷ 103 ∷ 101 ∷ 116 ∷ 97 ∷ 100 ∷ 100 ∷ 114 ∷ []) ∷  -- 63 cgetaddr
    (99 ∷ 103 ∷ 101 ∷ 116 ∷ 104 ∷ 105 ∷ 103 ∷ 104 ∷ []) ∷  -- 64 cgethigh
    (99 ∷ 103 ∷ 101 ∷ 116 ∷ 116 ∷ 111 ∷ 112 ∷ []) ∷  -- 65 cgettop
    (99 ∷ 115 ∷ 101 ∷ 116 ∷ 98 ∷ 111 ∷ 117 ∷ 110 ∷ 100 ∷ 115 ∷ []) ∷  -- 66 csetbounds
    (99 ∷ 115 ∷ 101 ∷ 116 ∷ 98 ∷ 111 ∷ 117 ∷ 110 ∷ 100 ∷ 115 ∷ 101 ∷ 120 ∷ 97 ∷ 99 ∷ 116 ∷ []) ∷  -- 67 csetboundsexact
    (99 ∷ 115 ∷ 101 ∷ 97 ∷ 108 ∷ []) ∷  -- 68 cseal
    (99 ∷ 117 ∷ 110 ∷ 115 ∷ 101 ∷ 97 ∷ 108 ∷ []) ∷  -- 69 cunseal
    (99 ∷ 97 ∷ 110 ∷ 100 ∷ 112 ∷ 101 ∷ 114 ∷ 109 ∷ []) ∷  -- 70 candperm
    (99 ∷ 115 ∷ 101 ∷ 116 ∷ 97 ∷ 100 ∷ 100 ∷ 114 ∷ []) ∷  -- 71 csetaddr
    (99 ∷ 105 ∷ 110 ∷ 99 ∷ 97 ∷ 100 ∷ 100 ∷ 114 ∷ []) ∷  -- 72 cincaddr
    (99 ∷ 115 ∷ 117 ∷ 98 ∷ []) ∷  -- 73 csub
    (99 ∷ 115 ∷ 101 ∷ 116 ∷ 104 ∷ 105 ∷ 103 ∷ 104 ∷ []) ∷  -- 74 csethigh
    (99 ∷ 116 ∷ 101 ∷ 115 ∷ 116 ∷ 115 ∷ 117 ∷ 98 ∷ 115 ∷ 101 ∷ 116 ∷ []) ∷  -- 75 ctestsubset
    (99 ∷ 115 ∷ 101 ∷ 116 ∷ 101 ∷ 113 ∷ 117 ∷ 97 ∷ 108 ∷ 101 ∷ 120 ∷ 97 ∷ 99 ∷ 116 ∷ []) ∷  -- 76 csetequalexact
    (109 ∷ 117 ∷ 108 ∷ []) ∷  -- 77 mul
    (109 ∷ 117 ∷ 108 ∷ 104 ∷ []) ∷  -- 78 mulh
    (109 ∷ 117 ∷ 108 ∷ 104 ∷ 115 ∷ 117 ∷ []) ∷  -- 79 mulhsu
    (109 ∷ 117 ∷ 108 ∷ 104 ∷ 117 ∷ []) ∷  -- 80 mulhu
    (100 ∷ 105 ∷ 118 ∷ []) ∷  -- 81 div
    (100 ∷ 105 ∷ 118 ∷ 117 ∷ []) ∷  -- 82 divu
    (114 ∷ 101 ∷ 109 ∷ []) ∷  -- 83 rem
    (114 ∷ 101 ∷ 109 ∷ 117 ∷ []) ∷  -- 84 remu
    (99 ∷ 46 ∷ 97 ∷ 100 ∷ 100 ∷ 105 ∷ 52 ∷ 115 ∷ 112 ∷ 110 ∷ []) ∷  -- 85 c.addi4spn
    (99 ∷ 46 ∷ 108 ∷ 119 ∷ []) ∷  -- 86 c.lw
    (99 ∷ 46 ∷ 108 ∷ 100 ∷ []) ∷  -- 87 c.ld
    (99 ∷ 46 ∷ 115 ∷ 119 ∷ []) ∷  -- 88 c.sw
    (99 ∷ 46 ∷ 115 ∷ 100 ∷ []) ∷  -- 89 c.sd
    (99 ∷ 46 ∷ 110 ∷ 111 ∷ 112 ∷ []) ∷  -- 90 c.nop
    (99 ∷ 46 ∷ 97 ∷ 100 ∷ 100 ∷ 105 ∷ []) ∷  -- 91 c.addi
    (99 ∷ 46 ∷ 106 ∷ 97 ∷ 108 ∷ []) ∷  -- 92 c.jal
    (99 ∷ 46 ∷ 108 ∷ 105 ∷ []) ∷  -- 93 c.li
    (99 ∷ 46 ∷ 97 ∷ 100 ∷ 100 ∷ 105 ∷ 49 ∷ 54 ∷ 115 ∷ 112 ∷ []) ∷  -- 94 c.addi16sp
    (99 ∷ 46 ∷ 108 ∷ 117 ∷ 105 ∷ []) ∷  -- 95 c.lui
    (99 ∷ 46 ∷ 115 ∷ 114 ∷ 108 ∷ 105 ∷ []) ∷  -- 96 c.srli
    (99 ∷ 46 ∷ 115 ∷ 114 ∷ 97 ∷ 105 ∷ []) ∷  -- 97 c.srai
    (99 ∷ 46 ∷ 97 ∷ 110 ∷ 100 ∷ 105 ∷ []) ∷  -- 98 c.andi
    (99 ∷ 46 ∷ 115 ∷ 117 ∷ 98 ∷ []) ∷  -- 99 c.sub
    (99 ∷ 46 ∷ 120 ∷ 111 ∷ 114 ∷ []) ∷  -- 100 c.xor
    (99 ∷ 46 ∷ 111 ∷ 114 ∷ []) ∷  -- 101 c.or
    (99 ∷ 46 ∷ 97 ∷ 110 ∷ 100 ∷ []) ∷  -- 102 c.and
    (99 ∷ 46 ∷ 106 ∷ []) ∷  -- 103 c.j
    (99 ∷ 46 ∷ 98 ∷ 101 ∷ 113 ∷ 122 ∷ []) ∷  -- 104 c.beqz
    (99 ∷ 46 ∷ 98 ∷ 110 ∷ 101 ∷ 122 ∷ []) ∷  -- 105 c.bnez
    (99 ∷ 46 ∷ 115 ∷ 108 ∷ 108 ∷ 105 ∷ []) ∷  -- 106 c.slli
    (99 ∷ 46 ∷ 108 ∷ 119 ∷ 115 ∷ 112 ∷ []) ∷  -- 107 c.lwsp
    (99 ∷ 46 ∷ 108 ∷ 100 ∷ 115 ∷ 112 ∷ []) ∷  -- 108 c.ldsp
    (99 ∷ 46 ∷ 106 ∷ 114 ∷ []) ∷  -- 109 c.jr
    (99 ∷ 46 ∷ 109 ∷ 118 ∷ []) ∷  -- 110 c.mv
    (99 ∷ 46 ∷ 101 ∷ 98 ∷ 114 ∷ 101 ∷ 97 ∷ 107 ∷ []) ∷  -- 111 c.ebreak
    (99 ∷ 46 ∷ 106 ∷ 97 ∷ 108 ∷ 114 ∷ []) ∷  -- 112 c.jalr
    (99 ∷ 46 ∷ 97 ∷ 100 ∷ 100 ∷ []) ∷  -- 113 c.add
    (99 ∷ 46 ∷ 115 ∷ 119 ∷ 115 ∷ 112 ∷ []) ∷  -- 114 c.swsp
    (99 ∷ 46 ∷ 115 ∷ 100 ∷ 115 ∷ 112 ∷ []) ∷  -- 115 c.sdsp
    (102 ∷ 101 ∷ 110 ∷ 99 ∷ 101 ∷ 46 ∷ 116 ∷ 115 ∷ 111 ∷ []) ∷  -- 116 fence.tso
    []

-- how many there are
abbrev pub row_count : ℕ
row_count = 117

-- no row: an illegal word has no name
abbrev pub unlisted : ℕ
unlisted = 255

unfoldable pub name_of : (row : ℕ) → List ℕ
name_of row = slice_index_or names row []

-- the bits that all words of a row have
unfoldable pub fixed_bits : List ℕ
fixed_bits =
    0x37 ∷ 0x17 ∷ 0x7b ∷ 0x6f ∷ 0x67 ∷ 0x63 ∷ 0x1063 ∷ 0x4063 ∷ 0x5063 ∷ 0x6063 ∷
    0x7063 ∷ 0x30200073 ∷ 0x3 ∷ 0x1003 ∷ 0x2003 ∷ 0x4003 ∷ 0x5003 ∷ 0x3003 ∷ 0x23 ∷ 0x1023 ∷
    0x2023 ∷ 0x3023 ∷ 0x13 ∷ 0x1013 ∷ 0x2013 ∷ 0x3013 ∷ 0x4013 ∷ 0x5013 ∷ 0x40005013 ∷ 0x6013 ∷
    0x7013 ∷ 0x33 ∷ 0x40000033 ∷ 0x1033 ∷ 0x2033 ∷ 0x3033 ∷ 0x4033 ∷ 0x5033 ∷ 0x40005033 ∷ 0x6033 ∷
    0x7033 ∷ 0xf ∷ 0x10500073 ∷ 0x73 ∷ 0x100073 ∷ 0x1073 ∷ 0x2073 ∷ 0x3073 ∷ 0x5073 ∷ 0x6073 ∷
    0x7073 ∷ 0x200005b ∷ 0x105b ∷ 0x205b ∷ 0xfea0005b ∷ 0xfeb0005b ∷ 0xfe00005b ∷ 0xfe10005b ∷ 0xfe20005b ∷ 0xfe30005b ∷
    0xfe40005b ∷ 0xfe80005b ∷ 0xfe90005b ∷ 0xfef0005b ∷ 0xff70005b ∷ 0xff80005b ∷ 0x1000005b ∷ 0x1200005b ∷ 0x1600005b ∷ 0x1800005b ∷
    0x1a00005b ∷ 0x2000005b ∷ 0x2200005b ∷ 0x2800005b ∷ 0x2c00005b ∷ 0x4000005b ∷ 0x4200005b ∷ 0x2000033 ∷ 0x2001033 ∷ 0x2002033 ∷
    0x2003033 ∷ 0x2004033 ∷ 0x2005033 ∷ 0x2006033 ∷ 0x2007033 ∷ 0x0 ∷ 0x4000 ∷ 0x6000 ∷ 0xc000 ∷ 0xe000 ∷
    0x1 ∷ 0x1 ∷ 0x2001 ∷ 0x4001 ∷ 0x6101 ∷ 0x6001 ∷ 0x8001 ∷ 0x8401 ∷ 0x8801 ∷ 0x8c01 ∷
    0x8c21 ∷ 0x8c41 ∷ 0x8c61 ∷ 0xa001 ∷ 0xc001 ∷ 0xe001 ∷ 0x2 ∷ 0x4002 ∷ 0x6002 ∷ 0x8002 ∷
    0x8002 ∷ 0x9002 ∷ 0x9002 ∷ 0x9002 ∷ 0xc002 ∷ 0xe002 ∷ 0x8330000f ∷ []

-- the format of each row's operands
unfoldable pub formats : List Format
formats =
    U ∷ U ∷ U ∷ J ∷ I ∷ B ∷ B ∷ B ∷ B ∷ B ∷ B ∷ NoOperands ∷ I ∷ I ∷ I ∷ I ∷ I ∷ I ∷ S ∷ S ∷ S ∷ S ∷ I ∷ R ∷ I ∷ I ∷ I ∷ R ∷ R ∷ I ∷ I ∷ R ∷ R ∷ R ∷
    R ∷ R ∷ R ∷ R ∷ R ∷ R ∷ R ∷ FenceSets ∷ NoOperands ∷ NoOperands ∷ NoOperands ∷ I ∷ I ∷ I ∷ CsrImmediate ∷ CsrImmediate ∷ CsrImmediate ∷ R ∷ I ∷
    I ∷ Pair ∷ Pair ∷ Pair ∷ Pair ∷ Pair ∷ Pair ∷ Pair ∷ Pair ∷ Pair ∷
    Pair ∷ Pair ∷ Pair ∷ R ∷ R ∷ R ∷ R ∷ R ∷ R ∷ R ∷ R ∷ R ∷ R ∷ R ∷ R ∷ R ∷ R ∷ R ∷ R ∷ R ∷ R ∷ R ∷ Ciw ∷ ClWord ∷ ClDouble ∷
    CsWord ∷ CsDouble ∷ Ci ∷ Ci ∷ Cj ∷ Ci ∷ CiSixteens ∷ Ci ∷ CbSix ∷ CbSix ∷ CbSix ∷ Ca ∷ Ca ∷ Ca ∷ Ca ∷ Cj ∷ Cb ∷ Cb ∷ Ci ∷ CiWord ∷ CiDouble ∷
    CrOne ∷ Cr ∷ NoOperands ∷ CrOne ∷ Cr ∷ CssWord ∷ CssDouble ∷ NoOperands ∷ []

-- the row of each kind
abbrev pub alu_row : Alu → ℕ
alu_row Add = 31
alu_row Sub = 32
alu_row Sll = 33
alu_row Slt = 34
alu_row Sltu = 35
alu_row Xor = 36
alu_row Srl = 37
alu_row Sra = 38
alu_row Or = 39
alu_row And = 40

-- SUBI is no instruction: the decoder never gives it
abbrev pub alu_immediate_row : Alu → ℕ
alu_immediate_row Add = 22
alu_immediate_row Sub = 32
alu_immediate_row Sll = 23
alu_immediate_row Slt = 24
alu_immediate_row Sltu = 25
alu_immediate_row Xor = 26
alu_immediate_row Srl = 27
alu_immediate_row Sra = 28
alu_immediate_row Or = 29
alu_immediate_row And = 30

abbrev pub multiply_row : MultiplyKind → ℕ
multiply_row Mul = 77
multiply_row Mulh = 78
multiply_row Mulhsu = 79
multiply_row Mulhu = 80

abbrev pub divide_row : DivideKind → ℕ
divide_row Div = 81
divide_row Divu = 82
divide_row Rem = 83
divide_row Remu = 84

abbrev pub branch_row : BranchKind → ℕ
branch_row Beq = 5
branch_row Bne = 6
branch_row Blt = 7
branch_row Bge = 8
branch_row Bltu = 9
branch_row Bgeu = 10

abbrev pub load_row : LoadKind → ℕ
load_row Lb = 12
load_row Lh = 13
load_row Lw = 14
load_row Lbu = 15
load_row Lhu = 16

abbrev pub store_row : StoreKind → ℕ
store_row Sb = 18
store_row Sh = 19
store_row Sw = 20

abbrev pub csr_row : CsrKind → ℕ
csr_row Csrrw = 45
csr_row Csrrs = 46
csr_row Csrrc = 47

abbrev pub csr_immediate_row : CsrKind → ℕ
csr_immediate_row Csrrw = 48
csr_immediate_row Csrrs = 49
csr_immediate_row Csrrc = 50

abbrev pub csr_number : Csr → ℕ
csr_number Mstatus = 0x300
csr_number Mcause = 0x342
csr_number Mtval = 0x343
csr_number Mshwm = 0xBC1
csr_number Mshwmb = 0xBC2

abbrev pub scr_number : Scr → ℕ
scr_number Mtcc = 28
scr_number Mtdc = 29
scr_number Mscratchc = 30
scr_number Mepcc = 31

abbrev pub inspection_row : Inspection → ℕ
inspection_row GetPerm = 56
inspection_row GetType = 57
inspection_row GetBase = 58
inspection_row GetLen = 59
inspection_row GetTag = 60
inspection_row RoundLength = 61
inspection_row AlignmentMask = 62
inspection_row GetAddr = 63
inspection_row GetHigh = 64
inspection_row GetTop = 65

abbrev pub combination_row : Combination → ℕ
combination_row SetBounds = 66
combination_row SetBoundsExact = 67
combination_row Seal = 68
combination_row Unseal = 69
combination_row AndPerm = 70
combination_row SetAddr = 71
combination_row IncAddr = 72
combination_row SubAddr = 73
combination_row SetHigh = 74
combination_row TestSubset = 75
combination_row SetEqualExact = 76

unfoldable pub integer_shape : (word : ℕ) → IntegerInstruction → Shape
integer_shape w (Lui rd v) = two 0 rd (upper_of w)
integer_shape w (OpImm op rd rs1 v) = three (alu_immediate_row op) rd rs1 v
integer_shape w (Op op rd rs1 rs2) = three (alu_row op) rd rs1 rs2
integer_shape w (Multiply kind rd rs1 rs2) = three (multiply_row kind) rd rs1 rs2
integer_shape w (Divide kind rd rs1 rs2) = three (divide_row kind) rd rs1 rs2

unfoldable pub jump_shape : (word : ℕ) → JumpInstruction → Shape
jump_shape w (Jal rd offset) = two 3 rd offset
jump_shape w (Jalr rd rs1 offset) = three 4 rd rs1 offset
jump_shape w (Branch kind rs1 rs2 offset) = three (branch_row kind) rs1 rs2 offset
jump_shape w Mret = bare 11

unfoldable pub memory_shape : (word : ℕ) → MemoryInstruction → Shape
memory_shape w (Load kind rd rs1 offset) = three (load_row kind) rd rs1 offset
memory_shape w (Store kind rs1 rs2 offset) = three (store_row kind) rs1 rs2 offset
memory_shape w (LoadCapability rd rs1 offset) = three 17 rd rs1 offset
memory_shape w (StoreCapability rs1 rs2 offset) = three 21 rs1 rs2 offset

unfoldable pub capability_shape : (word : ℕ) → CapabilityInstruction → Shape
capability_shape w (AuiPcc rd offset) = two 1 rd (upper_of w)
capability_shape w (AuiCgp rd offset) = two 2 rd (upper_of w)
capability_shape w (IncAddrImm rd rs1 offset) = three 52 rd rs1 offset
capability_shape w (SetBoundsImm rd rs1 length) = three 53 rd rs1 length
capability_shape w (Move rd rs1) = two 54 rd rs1
capability_shape w (ClearTag rd rs1) = two 55 rd rs1
capability_shape w (Inspect what rd rs1) = two (inspection_row what) rd rs1
capability_shape w (Combine what rd rs1 rs2) = three (combination_row what) rd rs1 rs2

-- the decoder has FENCE and FENCE.TSO as one, the listing by two names
abbrev pub fence_shape : (word : ℕ) → Shape
fence_shape w = cond (is_tso w) (bare 116) (two 41 (pred_of w) (succ_of w))

unfoldable pub system_shape : (word : ℕ) → SystemInstruction → Shape
system_shape w Fence = fence_shape w
system_shape w Wfi = bare 42
system_shape w Ecall = bare 43
system_shape w Ebreak = bare 44
system_shape w (CsrRegister kind csr rd rs1) = three (csr_row kind) rd rs1 (csr_number csr)
system_shape w (CsrImmediate kind csr rd value) = three (csr_immediate_row kind) rd (csr_number csr) value
system_shape w (SpecialRw scr rd rs1) = three 51 rd rs1 (scr_number scr)

unfoldable pub instruction_shape : (word : ℕ) → Instruction → Shape
instruction_shape w (Integer i) = integer_shape w i
instruction_shape w (Jump i) = jump_shape w i
instruction_shape w (Memory i) = memory_shape w i
instruction_shape w (Capability i) = capability_shape w i
instruction_shape w (System i) = system_shape w i
instruction_shape w Illegal = bare unlisted
