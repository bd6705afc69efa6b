-- What every decoded instruction keeps to: register numbers below 16, immediates that are words, offsets of jumps that are even.
use Rattle.std.specs.Prelude.{ℕ, ◌%◌, ◌^◌, ◌<◌, ◌≡◌}
use Rattle.instructions.specs.declared.IntegerInstruction.{IntegerInstruction}
use Rattle.instructions.specs.declared.IntegerInstruction.TheVariants.{Lui, OpImm, Op, Multiply, Divide}
use Rattle.instructions.specs.declared.JumpInstruction.{JumpInstruction}
use Rattle.instructions.specs.declared.JumpInstruction.TheVariants.{Jal, Jalr, Branch, Mret}
use Rattle.instructions.specs.declared.MemoryInstruction.{MemoryInstruction}
use Rattle.instructions.specs.declared.MemoryInstruction.TheVariants.{Load, Store, LoadCapability, StoreCapability}
use Rattle.instructions.specs.declared.CapabilityInstruction.{CapabilityInstruction}
use Rattle.instructions.specs.declared.CapabilityInstruction.TheVariants.{AuiPcc, AuiCgp, IncAddrImm, SetBoundsImm, Move, ClearTag, Inspect, Combine}
use Rattle.instructions.specs.declared.SystemInstruction.{SystemInstruction}
use Rattle.instructions.specs.declared.SystemInstruction.TheVariants.{Fence, Wfi, Ecall, Ebreak, CsrRegister, CsrImmediate, SpecialRw}
use Rattle.instructions.specs.declared.Instruction.{Instruction}
use Rattle.instructions.specs.declared.Instruction.TheVariants.{Integer, Jump, Memory, Capability, System, Illegal}

abbrev pub Register : ℕ → Type 0
Register n = n < 16

abbrev pub Word : ℕ → Type 0
Word n = n < 2 ^ 32

abbrev pub Even : ℕ → Type 0
Even n = n % 2 ≡ 0

abbrev pub IntegerInRange : IntegerInstruction → Type 0
IntegerInRange (Lui rd value) = Register rd × Word value
IntegerInRange (OpImm op rd rs1 value) = Register rd × Register rs1 × Word value
IntegerInRange (Op op rd rs1 rs2) = Register rd × Register rs1 × Register rs2
IntegerInRange (Multiply kind rd rs1 rs2) = Register rd × Register rs1 × Register rs2
IntegerInRange (Divide kind rd rs1 rs2) = Register rd × Register rs1 × Register rs2

abbrev pub JumpInRange : JumpInstruction → Type 0
JumpInRange (Jal rd offset) = Register rd × Word offset × Even offset
JumpInRange (Jalr rd rs1 offset) = Register rd × Register rs1 × Word offset
JumpInRange (Branch kind rs1 rs2 offset) = Register rs1 × Register rs2 × Word offset × Even offset
JumpInRange Mret = Unit {0}

abbrev pub MemoryInRange : MemoryInstruction → Type 0
MemoryInRange (Load kind rd rs1 offset) = Register rd × Register rs1 × Word offset
MemoryInRange (Store kind rs1 rs2 offset) = Register rs1 × Register rs2 × Word offset
MemoryInRange (LoadCapability rd rs1 offset) = Register rd × Register rs1 × Word offset
MemoryInRange (StoreCapability rs1 rs2 offset) = Register rs1 × Register rs2 × Word offset

abbrev pub CapabilityInRange : CapabilityInstruction → Type 0
CapabilityInRange (AuiPcc rd offset) = Register rd × Word offset
CapabilityInRange (AuiCgp rd offset) = Register rd × Word offset
CapabilityInRange (IncAddrImm rd rs1 offset) = Register rd × Register rs1 × Word offset
CapabilityInRange (SetBoundsImm rd rs1 length) = Register rd × Register rs1 × (length < 2 ^ 12)
CapabilityInRange (Move rd rs1) = Register rd × Register rs1
CapabilityInRange (ClearTag rd rs1) = Register rd × Register rs1
CapabilityInRange (Inspect what rd rs1) = Register rd × Register rs1
CapabilityInRange (Combine what rd rs1 rs2) = Register rd × Register rs1 × Register rs2

abbrev pub SystemInRange : SystemInstruction → Type 0
SystemInRange Fence = Unit {0}
SystemInRange Wfi = Unit {0}
SystemInRange Ecall = Unit {0}
SystemInRange Ebreak = Unit {0}
SystemInRange (CsrRegister kind csr rd rs1) = Register rd × Register rs1
SystemInRange (CsrImmediate kind csr rd value) = Register rd × (value < 2 ^ 5)
SystemInRange (SpecialRw scr rd rs1) = Register rd × Register rs1

abbrev pub InRange : Instruction → Type 0
InRange (Integer i) = IntegerInRange i
InRange (Jump i) = JumpInRange i
InRange (Memory i) = MemoryInRange i
InRange (Capability i) = CapabilityInRange i
InRange (System i) = SystemInRange i
InRange Illegal = Unit {0}
