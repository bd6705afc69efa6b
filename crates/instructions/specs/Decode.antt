-- What a word means: trees of tests in the order of the tables. The report is CHERIoT's, the standard RISC-V's unprivileged one (RV32E, M, Zicsr).
use Rattle.std.specs.Prelude.{ℕ, cond, List, [], ◌∷◌, ◌≡◌, Option, Some, None, ltb, eqb}
use Rattle.instructions.specs.Fields.{opcode, rd_of, funct3, rs1_of, rs2_of, funct7, upper12, immediate_i, immediate_s, immediate_b, immediate_u, immediate_j}
use Rattle.instructions.specs.Fields.{offset_aui}
use Rattle.instructions.specs.declared.Alu.{Alu}
use Rattle.instructions.specs.declared.Alu.TheVariants.{Add, Sub, Sll, Slt, Sltu, Xor, Srl, Sra, Or, And}
use Rattle.instructions.specs.declared.MultiplyKind.TheVariants.{Mul, Mulh, Mulhsu, Mulhu}
use Rattle.instructions.specs.declared.DivideKind.TheVariants.{Div, Divu, Rem, Remu}
use Rattle.instructions.specs.declared.BranchKind.TheVariants.{Beq, Bne, Blt, Bge, Bltu, Bgeu}
use Rattle.instructions.specs.declared.LoadKind.TheVariants.{Lb, Lh, Lw, Lbu, Lhu}
use Rattle.instructions.specs.declared.StoreKind.TheVariants.{Sb, Sh, Sw}
use Rattle.instructions.specs.declared.CsrKind.{CsrKind}
use Rattle.instructions.specs.declared.CsrKind.TheVariants.{Csrrw, Csrrs, Csrrc}
use Rattle.instructions.specs.declared.Csr.{Csr}
use Rattle.instructions.specs.declared.Csr.TheVariants.{Mstatus, Mcause, Mtval, Mshwm, Mshwmb}
use Rattle.instructions.specs.declared.Scr.TheVariants.{Mtcc, Mtdc, Mscratchc, Mepcc}
use Rattle.instructions.specs.declared.Inspection.TheVariants.{GetPerm, GetType, GetBase, GetLen, GetTag, RoundLength, AlignmentMask, GetAddr, GetHigh}
use Rattle.instructions.specs.declared.Inspection.TheVariants.{GetTop}
use Rattle.instructions.specs.declared.Combination.{Combination}
use Rattle.instructions.specs.declared.Combination.TheVariants.{SetBounds, SetBoundsExact, Seal, Unseal, AndPerm, SetAddr, IncAddr, SubAddr, SetHigh}
use Rattle.instructions.specs.declared.Combination.TheVariants.{TestSubset, SetEqualExact}
use Rattle.instructions.specs.declared.IntegerInstruction.TheVariants.{Lui, OpImm, Op, Multiply, Divide}
use Rattle.instructions.specs.declared.JumpInstruction.TheVariants.{Jal, Jalr, Branch, Mret}
use Rattle.instructions.specs.declared.MemoryInstruction.TheVariants.{Load, Store, LoadCapability, StoreCapability}
use Rattle.instructions.specs.declared.CapabilityInstruction.TheVariants.{AuiPcc, AuiCgp, IncAddrImm, SetBoundsImm, Move, ClearTag, Inspect, Combine}
use Rattle.instructions.specs.declared.SystemInstruction.TheVariants.{Fence, Wfi, Ecall, Ebreak, CsrRegister, CsrImmediate, SpecialRw}
use Rattle.instructions.specs.declared.Instruction.{Instruction}
use Rattle.instructions.specs.declared.Instruction.TheVariants.{Integer, Jump, Memory, Capability, System, Illegal}

-- an instruction that names register n: there are sixteen (document 01, Traps)
abbrev pub naming_of : ℕ → Instruction → Instruction
naming_of n i = cond (ltb n 16) i Illegal

-- loads: standard, LOAD; CLC: report, 8.2.2
unfoldable pub load_of : ℕ → ℕ → ℕ → ℕ → Instruction
load_of f3 rd rs1 offset =
    naming_of rd (naming_of rs1
    (cond (eqb f3 0) (Memory (Load Lb rd rs1 offset))
    (cond (eqb f3 1) (Memory (Load Lh rd rs1 offset))
    (cond (eqb f3 2) (Memory (Load Lw rd rs1 offset))
    (cond (eqb f3 3) (Memory (LoadCapability rd rs1 offset))
    (cond (eqb f3 4) (Memory (Load Lbu rd rs1 offset))
    (cond (eqb f3 5) (Memory (Load Lhu rd rs1 offset))
    Illegal)))))))

-- stores: standard, STORE; CSC: report, 8.2.2
unfoldable pub store_of : ℕ → ℕ → ℕ → ℕ → Instruction
store_of f3 rs1 rs2 offset =
    naming_of rs1 (naming_of rs2
    (cond (eqb f3 0) (Memory (Store Sb rs1 rs2 offset))
    (cond (eqb f3 1) (Memory (Store Sh rs1 rs2 offset))
    (cond (eqb f3 2) (Memory (Store Sw rs1 rs2 offset))
    (cond (eqb f3 3) (Memory (StoreCapability rs1 rs2 offset))
    Illegal)))))

-- FENCE: standard, MISC-MEM; every other bit is ignored. FENCE.I (funct3 1) belongs to Zifencei, which is not here
unfoldable pub fence_of : ℕ → Instruction
fence_of f3 = cond (eqb f3 0) (System Fence) Illegal

-- standard, OP and OP-IMM: what the three bits of funct3 select in both
unfoldable pub alu_of : ℕ → Alu
alu_of f3 =
    cond (eqb f3 0) Add
    (cond (eqb f3 1) Sll
    (cond (eqb f3 2) Slt
    (cond (eqb f3 3) Sltu
    (cond (eqb f3 4) Xor
    (cond (eqb f3 5) Srl
    (cond (eqb f3 6) Or
    And))))))

-- standard, OP-IMM: SLLI, SRLI and SRAI have their amount in the rs2 field, and funct7 above it
unfoldable pub shift_left_of : ℕ → ℕ → ℕ → ℕ → Instruction
shift_left_of f7 rd rs1 shamt = cond (eqb f7 0) (Integer (OpImm Sll rd rs1 shamt)) Illegal

unfoldable pub shift_right_of : ℕ → ℕ → ℕ → ℕ → Instruction
shift_right_of f7 rd rs1 shamt =
    cond (eqb f7 0) (Integer (OpImm Srl rd rs1 shamt))
    (cond (eqb f7 0x20) (Integer (OpImm Sra rd rs1 shamt))
    Illegal)

unfoldable pub op_imm_of : ℕ → ℕ → ℕ → ℕ → ℕ → ℕ → Instruction
op_imm_of f3 f7 rd rs1 shamt value =
    naming_of rd (naming_of rs1
    (cond (eqb f3 1) (shift_left_of f7 rd rs1 shamt)
    (cond (eqb f3 5) (shift_right_of f7 rd rs1 shamt)
    (Integer (OpImm (alu_of f3) rd rs1 value)))))

-- standard, OP: funct7 0, 1 for multiply and divide (M), 0x20 for SUB and SRA
unfoldable pub op32_of : ℕ → ℕ → ℕ → ℕ → Instruction
op32_of f3 rd rs1 rs2 =
    cond (eqb f3 0) (Integer (Op Sub rd rs1 rs2))
    (cond (eqb f3 5) (Integer (Op Sra rd rs1 rs2))
    Illegal)

-- standard, M
unfoldable pub multiply_of : ℕ → ℕ → ℕ → ℕ → Instruction
multiply_of f3 rd rs1 rs2 =
    cond (eqb f3 0) (Integer (Multiply Mul rd rs1 rs2))
    (cond (eqb f3 1) (Integer (Multiply Mulh rd rs1 rs2))
    (cond (eqb f3 2) (Integer (Multiply Mulhsu rd rs1 rs2))
    (cond (eqb f3 3) (Integer (Multiply Mulhu rd rs1 rs2))
    (cond (eqb f3 4) (Integer (Divide Div rd rs1 rs2))
    (cond (eqb f3 5) (Integer (Divide Divu rd rs1 rs2))
    (cond (eqb f3 6) (Integer (Divide Rem rd rs1 rs2))
    (Integer (Divide Remu rd rs1 rs2))))))))

unfoldable pub op_by_of : ℕ → ℕ → ℕ → ℕ → ℕ → Instruction
op_by_of f3 f7 rd rs1 rs2 =
    cond (eqb f7 0) (Integer (Op (alu_of f3) rd rs1 rs2))
    (cond (eqb f7 1) (multiply_of f3 rd rs1 rs2)
    (cond (eqb f7 0x20) (op32_of f3 rd rs1 rs2)
    Illegal))

unfoldable pub op_of : ℕ → ℕ → ℕ → ℕ → ℕ → Instruction
op_of f3 f7 rd rs1 rs2 = naming_of rd (naming_of rs1 (naming_of rs2 (op_by_of f3 f7 rd rs1 rs2)))

-- standard, LUI
unfoldable pub lui_of : ℕ → ℕ → Instruction
lui_of rd value = naming_of rd (Integer (Lui rd value))

-- AUIPCC and AUICGP: report, 8.2.3
unfoldable pub auipcc_of : ℕ → ℕ → Instruction
auipcc_of rd offset = naming_of rd (Capability (AuiPcc rd offset))

unfoldable pub auicgp_of : ℕ → ℕ → Instruction
auicgp_of rd offset = naming_of rd (Capability (AuiCgp rd offset))

-- CJAL: standard, JAL; report, 8.2.1
unfoldable pub jal_of : ℕ → ℕ → Instruction
jal_of rd offset = naming_of rd (Jump (Jal rd offset))

-- standard, BRANCH
unfoldable pub branch_of : ℕ → ℕ → ℕ → ℕ → Instruction
branch_of f3 rs1 rs2 offset =
    naming_of rs1 (naming_of rs2
    (cond (eqb f3 0) (Jump (Branch Beq rs1 rs2 offset))
    (cond (eqb f3 1) (Jump (Branch Bne rs1 rs2 offset))
    (cond (eqb f3 4) (Jump (Branch Blt rs1 rs2 offset))
    (cond (eqb f3 5) (Jump (Branch Bge rs1 rs2 offset))
    (cond (eqb f3 6) (Jump (Branch Bltu rs1 rs2 offset))
    (cond (eqb f3 7) (Jump (Branch Bgeu rs1 rs2 offset))
    Illegal)))))))

-- CJALR: standard, JALR; report, 8.2.1
unfoldable pub jalr_of : ℕ → ℕ → ℕ → ℕ → Instruction
jalr_of f3 rd rs1 offset = naming_of rd (naming_of rs1 (cond (eqb f3 0) (Jump (Jalr rd rs1 offset)) Illegal))

-- standard, Zicsr: rs1 is a register, or the five bits of an immediate
unfoldable pub csr_register_of : CsrKind → Csr → ℕ → ℕ → Instruction
csr_register_of kind csr rd rs1 = naming_of rd (naming_of rs1 (System (CsrRegister kind csr rd rs1)))

unfoldable pub csr_immediate_of : CsrKind → Csr → ℕ → ℕ → Instruction
csr_immediate_of kind csr rd value = naming_of rd (System (CsrImmediate kind csr rd value))

unfoldable pub csr_of : ℕ → Csr → ℕ → ℕ → Instruction
csr_of f3 csr rd rs1 =
    cond (eqb f3 1) (csr_register_of Csrrw csr rd rs1)
    (cond (eqb f3 2) (csr_register_of Csrrs csr rd rs1)
    (cond (eqb f3 3) (csr_register_of Csrrc csr rd rs1)
    (cond (eqb f3 5) (csr_immediate_of Csrrw csr rd rs1)
    (cond (eqb f3 6) (csr_immediate_of Csrrs csr rd rs1)
    (cond (eqb f3 7) (csr_immediate_of Csrrc csr rd rs1)
    Illegal)))))

-- standard, ECALL and EBREAK; privileged standard, MRET and WFI: whole words
unfoldable pub whole_of : ℕ → Instruction
whole_of w =
    cond (eqb w 0x00000073) (System Ecall)
    (cond (eqb w 0x00100073) (System Ebreak)
    (cond (eqb w 0x10500073) (System Wfi)
    (cond (eqb w 0x30200073) (Jump Mret)
    Illegal)))

-- standard, SYSTEM; the CSRs that there are: document 01, In and out; document 02, 6
unfoldable pub system_of : ℕ → ℕ → ℕ → ℕ → ℕ → Instruction
system_of w f3 number rd rs1 =
    cond (eqb f3 0) (whole_of w)
    (cond (eqb number 0x300) (csr_of f3 Mstatus rd rs1)
    (cond (eqb number 0x342) (csr_of f3 Mcause rd rs1)
    (cond (eqb number 0x343) (csr_of f3 Mtval rd rs1)
    (cond (eqb number 0xBC1) (csr_of f3 Mshwm rd rs1)
    (cond (eqb number 0xBC2) (csr_of f3 Mshwmb rd rs1)
    Illegal)))))

-- CSpecialRW: report, 8.1.5 and chapter 9
unfoldable pub special_of : ℕ → ℕ → ℕ → Instruction
special_of scr rd rs1 =
    cond (eqb scr 28) (System (SpecialRw Mtcc rd rs1))
    (cond (eqb scr 29) (System (SpecialRw Mtdc rd rs1))
    (cond (eqb scr 30) (System (SpecialRw Mscratchc rd rs1))
    (cond (eqb scr 31) (System (SpecialRw Mepcc rd rs1))
    Illegal)))

-- two registers, by the rs2 field: report, 8.1.1 to 8.1.3, 8.1.6 and 8.3
unfoldable pub source_dest_of : ℕ → ℕ → ℕ → Instruction
source_dest_of func rd rs1 =
    cond (eqb func 0x00) (Capability (Inspect GetPerm rd rs1))
    (cond (eqb func 0x01) (Capability (Inspect GetType rd rs1))
    (cond (eqb func 0x02) (Capability (Inspect GetBase rd rs1))
    (cond (eqb func 0x03) (Capability (Inspect GetLen rd rs1))
    (cond (eqb func 0x04) (Capability (Inspect GetTag rd rs1))
    (cond (eqb func 0x08) (Capability (Inspect RoundLength rd rs1))
    (cond (eqb func 0x09) (Capability (Inspect AlignmentMask rd rs1))
    (cond (eqb func 0x0a) (Capability (Move rd rs1))
    (cond (eqb func 0x0b) (Capability (ClearTag rd rs1))
    (cond (eqb func 0x0f) (Capability (Inspect GetAddr rd rs1))
    (cond (eqb func 0x17) (Capability (Inspect GetHigh rd rs1))
    (cond (eqb func 0x18) (Capability (Inspect GetTop rd rs1))
    Illegal)))))))))))

unfoldable pub combine_of : Combination → ℕ → ℕ → ℕ → Instruction
combine_of what rd rs1 rs2 = naming_of rs2 (Capability (Combine what rd rs1 rs2))

-- two sources, by funct7: report, 8.1.2 to 8.1.4 and 8.3
pub record Row : Type 0 where
  pub code : ℕ
  pub selects : Option Combination

infix 6 ◌is◌
abbrev ◌is◌ : ℕ → Combination → Row
n is what = record { code = n; selects = Some what }

abbrev pub rows : List Row
rows =
    (0x08 is SetBounds) ∷
    (0x09 is SetBoundsExact) ∷
    (0x0b is Seal) ∷
    (0x0c is Unseal) ∷
    (0x0d is AndPerm) ∷
    (0x10 is SetAddr) ∷
    (0x11 is IncAddr) ∷
    (0x14 is SubAddr) ∷
    (0x16 is SetHigh) ∷
    (0x20 is TestSubset) ∷
    (0x21 is SetEqualExact) ∷
    []

-- the row of the number, or else what comes last
abbrev pub meant : Option Combination → ℕ → ℕ → ℕ → Instruction → Instruction
meant (Some what) rd rs1 rs2 last = combine_of what rd rs1 rs2
meant None rd rs1 rs2 last = last

abbrev pub row_of : List Row → ℕ → ℕ → ℕ → ℕ → Instruction → Instruction
row_of [] f7 rd rs1 rs2 last = last
row_of (row ∷ rest) f7 rd rs1 rs2 last = cond (eqb f7 row.code) (meant row.selects rd rs1 rs2 last) (row_of rest f7 rd rs1 rs2 last)

-- funct3 0, by funct7: CSpecialRW (report, 8.1.5), the rows, and one source by 0x7f (8.3)
unfoldable pub two_source_of : ℕ → ℕ → ℕ → ℕ → Instruction
two_source_of f7 rd rs1 rs2 =
    cond (eqb f7 0x01) (special_of rs2 rd rs1)
    (row_of rows f7 rd rs1 rs2
    (cond (eqb f7 0x7f) (source_dest_of rs2 rd rs1)
    Illegal))

-- what a match over the rows tells of its answer: the row of the number, or that it is none of theirs
abbrev pub found_in : List Row → ℕ → Option Combination
found_in [] f7 = None
found_in (row ∷ rest) f7 = cond (eqb f7 row.code) row.selects (found_in rest f7)

abbrev pub NoneOf : Type 0 → List Row → ℕ → Type 0
NoneOf A [] f7 = A
NoneOf A (row ∷ rest) f7 = NoneOf (A × (f7 ≡ row.code → ⊥)) rest f7

abbrev pub Selected : ℕ → Option Combination → Type 0
Selected f7 (Some what) = found_in rows f7 ≡ Some what
Selected f7 None = NoneOf (Unit {0}) rows f7

-- opcode 0x5b, by funct3: report, 8.3
unfoldable pub capability_of : ℕ → ℕ → ℕ → ℕ → ℕ → ℕ → ℕ → Instruction
capability_of f3 f7 rd rs1 rs2 offset length =
    naming_of rd (naming_of rs1
    (cond (eqb f3 0) (two_source_of f7 rd rs1 rs2)
    (cond (eqb f3 1) (Capability (IncAddrImm rd rs1 offset))
    (cond (eqb f3 2) (Capability (SetBoundsImm rd rs1 length))
    Illegal))))

-- the instruction that a word is: by opcode (standard, the listings of RV32G; report, chapter 8)
unfoldable pub decode_of : ℕ → Instruction
decode_of w =
    let rd = rd_of w in
    let rs1 = rs1_of w in
    let rs2 = rs2_of w in
    let f3 = funct3 w in
    let f7 = funct7 w in
    cond (eqb (opcode w) 0x03) (load_of f3 rd rs1 (immediate_i w))
    (cond (eqb (opcode w) 0x0f) (fence_of f3)
    (cond (eqb (opcode w) 0x13) (op_imm_of f3 f7 rd rs1 rs2 (immediate_i w))
    (cond (eqb (opcode w) 0x17) (auipcc_of rd (offset_aui w))
    (cond (eqb (opcode w) 0x23) (store_of f3 rs1 rs2 (immediate_s w))
    (cond (eqb (opcode w) 0x33) (op_of f3 f7 rd rs1 rs2)
    (cond (eqb (opcode w) 0x37) (lui_of rd (immediate_u w))
    (cond (eqb (opcode w) 0x5b) (capability_of f3 f7 rd rs1 rs2 (immediate_i w) (upper12 w))
    (cond (eqb (opcode w) 0x63) (branch_of f3 rs1 rs2 (immediate_b w))
    (cond (eqb (opcode w) 0x67) (jalr_of f3 rd rs1 (immediate_i w))
    (cond (eqb (opcode w) 0x6f) (jal_of rd (immediate_j w))
    (cond (eqb (opcode w) 0x73) (system_of w f3 (upper12 w) rd rs1)
    (cond (eqb (opcode w) 0x7b) (auicgp_of rd (offset_aui w))
    Illegal))))))))))))
