-- What an operation of the second engine stands for: the instruction, and where its registers are. Document 02, 14. Assumes nothing.
use Rattle.std.specs.Prelude.{◌≡◌, ℕ, ◌*◌, ◌%◌, ◌≤◌}
use Rattle.instructions.specs.declared.Alu.TheVariants.{Add}
use Rattle.instructions.specs.declared.LoadKind.{LoadKind}
use Rattle.instructions.specs.declared.LoadKind.TheVariants.{Lb, Lh, Lw, Lbu, Lhu}
use Rattle.instructions.specs.declared.StoreKind.TheVariants.{Sw}
use Rattle.instructions.specs.declared.IntegerInstruction.TheVariants.{Lui, OpImm, Op, Multiply, Divide}
use Rattle.instructions.specs.declared.JumpInstruction.TheVariants.{Jal, Jalr, Branch}
use Rattle.instructions.specs.declared.MemoryInstruction.TheVariants.{Load, Store, LoadCapability, StoreCapability}
use Rattle.instructions.specs.declared.CapabilityInstruction.TheVariants.{AuiPcc, AuiCgp, IncAddrImm, SetBoundsImm, Move, Inspect, Combine}
use Rattle.instructions.specs.declared.Inspection.TheVariants.{GetAddr}
use Rattle.instructions.specs.declared.Combination.TheVariants.{SetAddr, IncAddr}
use Rattle.instructions.specs.declared.Instruction.{Instruction}
use Rattle.instructions.specs.declared.Instruction.TheVariants.{Integer, Jump, Memory, Capability, System, Illegal}
use Rattle.operations.specs.declared.Operation.{Operation}

-- the place of a register's first word
abbrev pub place_of : (r : ℕ) → ℕ
place_of r = r % 16 * 3

-- an instruction that stores nothing: it is of no load or store
abbrev pub Quiet : Instruction → Type 0
Quiet (Integer i) = Unit {0}
Quiet (Jump i) = Unit {0}
Quiet (Memory i) = ⊥
Quiet (Capability i) = Unit {0}
Quiet (System i) = Unit {0}
Quiet Illegal = Unit {0}

-- an instruction that adds a number to an address: CIncAddrImm to a register's, AUIPCC to PCC's, AUICGP to c3's
abbrev pub pcc_place : ℕ
pcc_place = 48

abbrev pub global_place : ℕ
global_place = 9

pub data AddsTo (x : Instruction) (rd from offset : ℕ) : Type 0 where
  to_register : (rs1 : ℕ) → x ≡ Capability (IncAddrImm rd rs1 offset) → from ≡ place_of rs1 → AddsTo x rd from offset
  to_pcc : x ≡ Capability (AuiPcc rd offset) → from ≡ pcc_place → AddsTo x rd from offset
  to_global : x ≡ Capability (AuiCgp rd offset) → from ≡ global_place → AddsTo x rd from offset

-- the instruction that an operation stands for; a plain one stands for any that stores nothing
abbrev pub Means : Operation → Instruction → Type 0
Means Operation.Plain x = Quiet x
Means (Operation.Put at value) x = (rd : ℕ) × (x ≡ Integer (Lui rd value)) × (at ≡ place_of rd)
Means (Operation.AddImmediate at from value) x =
    (rd : ℕ) × (rs1 : ℕ) × (x ≡ Integer (OpImm Add rd rs1 value)) × (at ≡ place_of rd) × (from ≡ place_of rs1)
Means (Operation.Immediate op at from value) x =
    (rd : ℕ) × (rs1 : ℕ) × (x ≡ Integer (OpImm op rd rs1 value)) × (at ≡ place_of rd) × (from ≡ place_of rs1)
Means (Operation.Two op at from other) x =
    (rd : ℕ) × (rs1 : ℕ) × (rs2 : ℕ) × (x ≡ Integer (Op op rd rs1 rs2)) × (at ≡ place_of rd) × (from ≡ place_of rs1) × (other ≡ place_of rs2)
Means (Operation.Multiply kind at from other) x =
    (rd : ℕ) × (rs1 : ℕ) × (rs2 : ℕ) × (x ≡ Integer (Multiply kind rd rs1 rs2)) × (at ≡ place_of rd) × (from ≡ place_of rs1) × (other ≡ place_of rs2)
Means (Operation.Divide kind at from other) x =
    (rd : ℕ) × (rs1 : ℕ) × (rs2 : ℕ) × (x ≡ Integer (Divide kind rd rs1 rs2)) × (at ≡ place_of rd) × (from ≡ place_of rs1) × (other ≡ place_of rs2)
Means (Operation.Go offset) x = (rd : ℕ) × (x ≡ Jump (Jal rd offset)) × (place_of rd ≡ 0)
Means (Operation.JumpLink rd offset) x = x ≡ Jump (Jal rd offset)
Means (Operation.JumpRegister rd rs1 offset) x = x ≡ Jump (Jalr rd rs1 offset)
Means (Operation.Branch kind from other offset) x =
    (rs1 : ℕ) × (rs2 : ℕ) × (x ≡ Jump (Branch kind rs1 rs2 offset)) × (from ≡ place_of rs1) × (other ≡ place_of rs2)
Means (Operation.LoadWord at from offset) x =
    (rd : ℕ) × (rs1 : ℕ) × (x ≡ Memory (Load Lw rd rs1 offset)) × (at ≡ place_of rd) × (from ≡ place_of rs1)
Means (Operation.LoadSmall kind at from offset) x =
    (rd : ℕ) × (rs1 : ℕ) × (x ≡ Memory (Load kind rd rs1 offset)) × (at ≡ place_of rd) × (from ≡ place_of rs1)
Means (Operation.StoreWord from other offset) x =
    (rs1 : ℕ) × (rs2 : ℕ) × (x ≡ Memory (Store Sw rs1 rs2 offset)) × (from ≡ place_of rs1) × (other ≡ place_of rs2)
Means (Operation.StoreSmall kind from other offset) x =
    (rs1 : ℕ) × (rs2 : ℕ) × (x ≡ Memory (Store kind rs1 rs2 offset)) × (from ≡ place_of rs1) × (other ≡ place_of rs2)
Means (Operation.LoadCapability at from offset) x =
    (rd : ℕ) × (rs1 : ℕ) × (x ≡ Memory (LoadCapability rd rs1 offset)) × (at ≡ place_of rd) × (from ≡ place_of rs1)
Means (Operation.StoreCapability from other offset) x =
    (rs1 : ℕ) × (rs2 : ℕ) × (x ≡ Memory (StoreCapability rs1 rs2 offset)) × (from ≡ place_of rs1) × (other ≡ place_of rs2)
Means (Operation.Increment at from offset) x = (rd : ℕ) × (at ≡ place_of rd) × AddsTo x rd from offset
Means (Operation.Cut at from length) x =
    (rd : ℕ) × (rs1 : ℕ) × (x ≡ Capability (SetBoundsImm rd rs1 length)) × (at ≡ place_of rd) × (from ≡ place_of rs1)
Means (Operation.Copy at from) x = (rd : ℕ) × (rs1 : ℕ) × (x ≡ Capability (Move rd rs1)) × (at ≡ place_of rd) × (from ≡ place_of rs1)
Means (Operation.SetAddress at from other) x =
    (rd : ℕ) × (rs1 : ℕ) × (rs2 : ℕ) × (x ≡ Capability (Combine SetAddr rd rs1 rs2)) × (at ≡ place_of rd) × (from ≡ place_of rs1) × (other ≡ place_of rs2)
Means (Operation.IncrementBy at from other) x =
    (rd : ℕ) × (rs1 : ℕ) × (rs2 : ℕ) × (x ≡ Capability (Combine IncAddr rd rs1 rs2)) × (at ≡ place_of rd) × (from ≡ place_of rs1) × (other ≡ place_of rs2)
Means (Operation.Address at from) x =
    (rd : ℕ) × (rs1 : ℕ) × (x ≡ Capability (Inspect GetAddr rd rs1)) × (at ≡ place_of rd) × (from ≡ place_of rs1)
Means (Operation.LoadByte kind at from offset) x =
    (rd : ℕ) × (rs1 : ℕ) × (x ≡ Memory (Load kind rd rs1 offset)) × (at ≡ place_of rd) × (from ≡ place_of rs1)

-- the places are those of registers
abbrev pub Place : ℕ → Type 0
Place p = (p ≤ 45) × (p % 3 ≡ 0)

-- that of a register which is written is not c0's
abbrev pub Written : ℕ → Type 0
Written p = (p ≤ 45) × (p % 3 ≡ 0) × (p ≡ 0 → ⊥)

-- a load of one byte
abbrev pub OneByte : LoadKind → Type 0
OneByte Lb = Unit {0}
OneByte Lbu = Unit {0}
OneByte Lh = ⊥
OneByte Lhu = ⊥
OneByte Lw = ⊥

-- and offsets from PCC are even
abbrev pub Placed : Operation → Type 0
Placed Operation.Plain = Unit {0}
Placed (Operation.Put at value) = Written at
Placed (Operation.AddImmediate at from value) = Place at × Place from
Placed (Operation.Immediate op at from value) = Written at × Place from
Placed (Operation.Two op at from other) = Written at × Place from × Place other
Placed (Operation.Multiply kind at from other) = Written at × Place from × Place other
Placed (Operation.Divide kind at from other) = Written at × Place from × Place other
Placed (Operation.Go offset) = offset % 2 ≡ 0
Placed (Operation.JumpLink rd offset) = Unit {0}
Placed (Operation.JumpRegister rd rs1 offset) = Unit {0}
Placed (Operation.Branch kind from other offset) = Place from × Place other × (offset % 2 ≡ 0)
Placed (Operation.LoadWord at from offset) = Place at × Place from
Placed (Operation.LoadSmall kind at from offset) = Place at × Place from
Placed (Operation.StoreWord from other offset) = Place from × Place other
Placed (Operation.StoreSmall kind from other offset) = Place from × Place other
Placed (Operation.LoadCapability at from offset) = Place at × Place from
Placed (Operation.StoreCapability from other offset) = Place from × Place other
Placed (Operation.Increment at from offset) = Place at × (from ≤ pcc_place)
Placed (Operation.Cut at from length) = Place at × Place from
Placed (Operation.Copy at from) = Place at × Place from
Placed (Operation.SetAddress at from other) = Place at × Place from × Place other
Placed (Operation.IncrementBy at from other) = Place at × Place from × Place other
Placed (Operation.Address at from) = Place at × Place from
Placed (Operation.LoadByte kind at from offset) = Place at × Place from × OneByte kind
