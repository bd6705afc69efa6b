-- Words and what they mean, in one table with one statement: every row of the tables in chapter 8 of the CHERIoT report, each RV32E,
-- M and system instruction of the standard, and words that are none. The words were assembled field by field; registers are c10 to c15, or c0 and c1.
use Prim.Native.Nat.{ℕ}
use mathlib.Core.Path.{◌≡◌, refl}
use mathlib.Core.List.{List, [], ◌∷◌, map}
use Rattle.words.specs.Words.{sign_extend}
use Rattle.instructions.specs.Fields.{immediate_i, immediate_s, immediate_b, immediate_u, immediate_j, offset_aui}
use Rattle.instructions.specs.Decode.{load_of, store_of, fence_of, alu_of, multiply_of, shift_left_of, shift_right_of, op_imm_of, op32_of, op_by_of, op_of}
use Rattle.instructions.specs.Decode.{lui_of}
use Rattle.instructions.specs.Decode.{auipcc_of, auicgp_of, jal_of, branch_of, jalr_of, csr_register_of, csr_immediate_of, csr_of, whole_of, system_of}
use Rattle.instructions.specs.Decode.{special_of}
use Rattle.instructions.specs.Decode.{source_dest_of, combine_of, two_source_of, capability_of, decode_of}
use Rattle.instructions.specs.declared.Alu.TheVariants.{Add, Sub, Sll, Slt, Sltu, Xor, Srl, Sra, Or, And}
use Rattle.instructions.specs.declared.MultiplyKind.TheVariants.{Mul, Mulh, Mulhsu, Mulhu}
use Rattle.instructions.specs.declared.DivideKind.TheVariants.{Div, Divu, Rem, Remu}
use Rattle.instructions.specs.declared.BranchKind.TheVariants.{Beq, Bne, Blt, Bge, Bltu, Bgeu}
use Rattle.instructions.specs.declared.LoadKind.TheVariants.{Lb, Lh, Lw, Lbu, Lhu}
use Rattle.instructions.specs.declared.StoreKind.TheVariants.{Sb, Sh, Sw}
use Rattle.instructions.specs.declared.CsrKind.TheVariants.{Csrrw, Csrrs, Csrrc}
use Rattle.instructions.specs.declared.Csr.TheVariants.{Mstatus, Mcause, Mtval, Mshwm, Mshwmb}
use Rattle.instructions.specs.declared.Scr.TheVariants.{Mtcc, Mtdc, Mscratchc, Mepcc}
use Rattle.instructions.specs.declared.Inspection.TheVariants.{GetPerm, GetType, GetBase, GetLen, GetTag, RoundLength, AlignmentMask, GetAddr, GetHigh}
use Rattle.instructions.specs.declared.Inspection.TheVariants.{GetTop}
use Rattle.instructions.specs.declared.Combination.TheVariants.{SetBounds, SetBoundsExact, Seal, Unseal, AndPerm, SetAddr, IncAddr, SubAddr, SetHigh}
use Rattle.instructions.specs.declared.Combination.TheVariants.{TestSubset, SetEqualExact}
use Rattle.instructions.specs.declared.IntegerInstruction.TheVariants.{Lui, OpImm, Op, Multiply, Divide}
use Rattle.instructions.specs.declared.JumpInstruction.TheVariants.{Jal, Jalr, Branch, Mret}
use Rattle.instructions.specs.declared.MemoryInstruction.TheVariants.{Load, Store, LoadCapability, StoreCapability}
use Rattle.instructions.specs.declared.CapabilityInstruction.TheVariants.{AuiPcc, AuiCgp, IncAddrImm, SetBoundsImm, Move, ClearTag, Inspect, Combine}
use Rattle.instructions.specs.declared.SystemInstruction.TheVariants.{Fence, Wfi, Ecall, Ebreak, CsrRegister, CsrImmediate, SpecialRw}
use Rattle.instructions.specs.declared.Instruction.{Instruction}
use Rattle.instructions.specs.declared.Instruction.TheVariants.{Integer, Jump, Memory, Capability, System, Illegal}

pub record Row : Type 0 where
  pub word : ℕ
  pub means : Instruction

infix 6 ◌is◌
abbrev ◌is◌ : ℕ → Instruction → Row
w is i = record { word = w; means = i }

abbrev pub table : List Row
table =
    -- capability inspection: report, 8.1.1
    (0xfe05855b is Capability (Inspect GetPerm 10 11)) ∷
    (0xfe15855b is Capability (Inspect GetType 10 11)) ∷
    (0xfe25855b is Capability (Inspect GetBase 10 11)) ∷
    (0xfe35855b is Capability (Inspect GetLen 10 11)) ∷
    (0xfe45855b is Capability (Inspect GetTag 10 11)) ∷
    (0xfef5855b is Capability (Inspect GetAddr 10 11)) ∷
    (0xff75855b is Capability (Inspect GetHigh 10 11)) ∷
    (0xff85855b is Capability (Inspect GetTop 10 11)) ∷
    -- capability modification: report, 8.1.2
    (0x16c5855b is Capability (Combine Seal 10 11 12)) ∷
    (0x18c5855b is Capability (Combine Unseal 10 11 12)) ∷
    (0x1ac5855b is Capability (Combine AndPerm 10 11 12)) ∷
    (0x20c5855b is Capability (Combine SetAddr 10 11 12)) ∷
    (0x22c5855b is Capability (Combine IncAddr 10 11 12)) ∷
    (0xff05955b is Capability (IncAddrImm 10 11 0xfffffff0)) ∷
    (0x10c5855b is Capability (Combine SetBounds 10 11 12)) ∷
    (0x12c5855b is Capability (Combine SetBoundsExact 10 11 12)) ∷
    (0xfff5a55b is Capability (SetBoundsImm 10 11 4095)) ∷
    (0x2cc5855b is Capability (Combine SetHigh 10 11 12)) ∷
    (0xfeb5855b is Capability (ClearTag 10 11)) ∷
    -- pointer arithmetic and comparison: report, 8.1.3 and 8.1.4
    (0x28c5855b is Capability (Combine SubAddr 10 11 12)) ∷
    (0xfea5855b is Capability (Move 10 11)) ∷
    (0x40c5855b is Capability (Combine TestSubset 10 11 12)) ∷
    (0x42c5855b is Capability (Combine SetEqualExact 10 11 12)) ∷
    -- special registers: report, 8.1.5
    (0x03c5855b is System (SpecialRw Mtcc 10 11)) ∷
    (0x03d5855b is System (SpecialRw Mtdc 10 11)) ∷
    (0x03e5855b is System (SpecialRw Mscratchc 10 11)) ∷
    (0x03f5855b is System (SpecialRw Mepcc 10 11)) ∷
    -- compressed precision: report, 8.1.6
    (0xfe85855b is Capability (Inspect RoundLength 10 11)) ∷
    (0xfe95855b is Capability (Inspect AlignmentMask 10 11)) ∷
    -- loads and stores, CLC and CSC: report, 8.2.2
    (0xffc58503 is Memory (Load Lb 10 11 0xfffffffc)) ∷
    (0xffd59503 is Memory (Load Lh 10 11 0xfffffffd)) ∷
    (0xffe5a503 is Memory (Load Lw 10 11 0xfffffffe)) ∷
    (0x0005c503 is Memory (Load Lbu 10 11 0)) ∷
    (0x0015d503 is Memory (Load Lhu 10 11 1)) ∷
    (0x0085b503 is Memory (LoadCapability 10 11 8)) ∷
    (0xf8c58e23 is Memory (Store Sb 11 12 0xffffff9c)) ∷
    (0xf8c59ea3 is Memory (Store Sh 11 12 0xffffff9d)) ∷
    (0xf8c5af23 is Memory (Store Sw 11 12 0xffffff9e)) ∷
    (0x7ec5bc23 is Memory (StoreCapability 11 12 0x7f8)) ∷
    -- AUIPCC and AUICGP count units of 2 ^ 11: report, 7.12 and 8.2.3
    (0x00001517 is Capability (AuiPcc 10 0x800)) ∷
    (0xfffff517 is Capability (AuiPcc 10 0xfffff800)) ∷
    (0x8000057b is Capability (AuiCgp 10 0xc0000000)) ∷
    -- jumps and branches: standard; report, 8.2.1
    (0xff1ff0ef is Jump (Jal 1 0xfffffff0)) ∷
    (0x7ffff0ef is Jump (Jal 1 0xffffe)) ∷
    (0x4571206f is Jump (Jal 0 0x12c56)) ∷
    (0x800580e7 is Jump (Jalr 1 11 0xfffff800)) ∷
    (0x80c58063 is Jump (Branch Beq 11 12 0xfffff000)) ∷
    (0x7ec59fe3 is Jump (Branch Bne 11 12 0xffe)) ∷
    (0xfec5cfe3 is Jump (Branch Blt 11 12 0xfffffffe)) ∷
    (0x00c5d0e3 is Jump (Branch Bge 11 12 0x800)) ∷
    (0x7ec5e063 is Jump (Branch Bltu 11 12 0x7e0)) ∷
    (0x00c5ff63 is Jump (Branch Bgeu 11 12 0x1e)) ∷
    -- integer instructions: standard
    (0xdeadb537 is Integer (Lui 10 0xdeadb000)) ∷
    (0xfff58513 is Integer (OpImm Add 10 11 0xffffffff)) ∷
    (0x8005a513 is Integer (OpImm Slt 10 11 0xfffff800)) ∷
    (0x7ff5b513 is Integer (OpImm Sltu 10 11 0x7ff)) ∷
    (0x5555c513 is Integer (OpImm Xor 10 11 0x555)) ∷
    (0x0015e513 is Integer (OpImm Or 10 11 1)) ∷
    (0xffe5f513 is Integer (OpImm And 10 11 0xfffffffe)) ∷
    (0x01f59513 is Integer (OpImm Sll 10 11 0x1f)) ∷
    (0x0075d513 is Integer (OpImm Srl 10 11 7)) ∷
    (0x4075d513 is Integer (OpImm Sra 10 11 7)) ∷
    (0x00d707b3 is Integer (Op Add 15 14 13)) ∷
    (0x40d707b3 is Integer (Op Sub 15 14 13)) ∷
    (0x00d717b3 is Integer (Op Sll 15 14 13)) ∷
    (0x00d727b3 is Integer (Op Slt 15 14 13)) ∷
    (0x00d737b3 is Integer (Op Sltu 15 14 13)) ∷
    (0x00d747b3 is Integer (Op Xor 15 14 13)) ∷
    (0x00d757b3 is Integer (Op Srl 15 14 13)) ∷
    (0x40d757b3 is Integer (Op Sra 15 14 13)) ∷
    (0x00d767b3 is Integer (Op Or 15 14 13)) ∷
    (0x00d777b3 is Integer (Op And 15 14 13)) ∷
    -- multiply and divide: standard, M
    (0x02d707b3 is Integer (Multiply Mul 15 14 13)) ∷
    (0x02d717b3 is Integer (Multiply Mulh 15 14 13)) ∷
    (0x02d727b3 is Integer (Multiply Mulhsu 15 14 13)) ∷
    (0x02d737b3 is Integer (Multiply Mulhu 15 14 13)) ∷
    (0x02d747b3 is Integer (Divide Div 15 14 13)) ∷
    (0x02d757b3 is Integer (Divide Divu 15 14 13)) ∷
    (0x02d767b3 is Integer (Divide Rem 15 14 13)) ∷
    (0x02d777b3 is Integer (Divide Remu 15 14 13)) ∷
    -- system instructions: standard, privileged standard; FENCE with every field set
    (0x0ff0000f is System Fence) ∷
    (0xffff8f8f is System Fence) ∷
    (0x00000073 is System Ecall) ∷
    (0x00100073 is System Ebreak) ∷
    (0x10500073 is System Wfi) ∷
    (0x30200073 is Jump Mret) ∷
    (0x30059573 is System (CsrRegister Csrrw Mstatus 10 11)) ∷
    (0x300fd573 is System (CsrImmediate Csrrw Mstatus 10 31)) ∷
    (0x3425a573 is System (CsrRegister Csrrs Mcause 10 11)) ∷
    (0x342fe573 is System (CsrImmediate Csrrs Mcause 10 31)) ∷
    (0x3435b573 is System (CsrRegister Csrrc Mtval 10 11)) ∷
    (0x343ff573 is System (CsrImmediate Csrrc Mtval 10 31)) ∷
    (0xbc1025f3 is System (CsrRegister Csrrs Mshwm 11 0)) ∷
    (0xbc261073 is System (CsrRegister Csrrw Mshwmb 0 12)) ∷
    (0xbc3025f3 is Illegal) ∷
    -- illegal: a register above 15 in each place that is one
    (0x00000813 is Illegal) ∷
    (0x00080013 is Illegal) ∷
    (0x010100b3 is Illegal) ∷
    (0x00082503 is Illegal) ∷
    (0x0100a023 is Illegal) ∷
    (0x00080063 is Illegal) ∷
    (0x00001837 is Illegal) ∷
    (0x00001f97 is Illegal) ∷
    (0x0000086f is Illegal) ∷
    (0x000f8067 is Illegal) ∷
    (0x1105855b is Illegal) ∷
    (0xfe05885b is Illegal) ∷
    (0x03c8055b is Illegal) ∷
    (0x0005985b is Illegal) ∷
    (0x30081573 is Illegal) ∷
    (0x30005873 is Illegal) ∷
    -- illegal: all zeros, all ones, a multiplication that names register 16, OP with funct7 2, SRLI and SLLI with another funct7, FENCE.I, LWU,
    -- SD with funct3 4, a branch with funct3 2, JALR with funct3 1
    (0x00000000 is Illegal) ∷
    (0xffffffff is Illegal) ∷
    (0x030100b3 is Illegal) ∷
    (0x043100b3 is Illegal) ∷
    (0x20315093 is Illegal) ∷
    (0x40311093 is Illegal) ∷
    (0x403110b3 is Illegal) ∷
    (0x0000100f is Illegal) ∷
    (0x0005e503 is Illegal) ∷
    (0x0020c023 is Illegal) ∷
    (0x0020a063 is Illegal) ∷
    (0x000110e7 is Illegal) ∷
    -- illegal: another CSR (mepc, mcycle), SYSTEM funct3 4, URET, ECALL with rd, MRET with rs1; a special register 27; free places of 0x5b
    (0x34159573 is Illegal) ∷
    (0xb0002573 is Illegal) ∷
    (0x3005c573 is Illegal) ∷
    (0x00200073 is Illegal) ∷
    (0x000000f3 is Illegal) ∷
    (0x30208073 is Illegal) ∷
    (0x03b5855b is Illegal) ∷
    (0xfe55855b is Illegal) ∷
    (0xfff5855b is Illegal) ∷
    (0xfc05855b is Illegal) ∷
    (0x00c5855b is Illegal) ∷
    (0x14c5855b is Illegal) ∷
    (0x0005b55b is Illegal) ∷
    []

pub table_decodes : map (λ (r : Row). decode_of r.word) table ≡ map (λ (r : Row). r.means) table
unfolding sign_extend immediate_i immediate_s immediate_b immediate_u immediate_j offset_aui load_of store_of fence_of alu_of multiply_of shift_left_of
    shift_right_of
    op_imm_of op32_of op_by_of op_of lui_of auipcc_of auicgp_of jal_of branch_of jalr_of csr_register_of csr_immediate_of csr_of whole_of system_of special_of
    source_dest_of
    combine_of two_source_of capability_of decode_of
table_decodes = refl
