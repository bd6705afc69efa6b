-- Time, its compare and the interrupt. Document 02, 6; RISC-V privileged standard, the machine timer interrupt. Assumes nothing.
use Rattle.std.specs.Prelude.{ℕ, ◌+◌, ◌*◌, ◌/◌, ◌%◌, ◌^◌, Bool, ◌&&◌, List, ◌==◌, nat_le, slice_index, slice_set}
use Rattle.metadata.specs.Rights.{bit}
use Rattle.state.specs.Layout.{time_index, compare_index}
use Rattle.state.specs.Registers.{mstatus_of}
use Rattle.state.specs.Status.{MIE}

-- the 64-bit number of two words, the low one first
abbrev pub long_of : (low high : ℕ) → ℕ
long_of low high = high * 2 ^ 32 + low

unfoldable pub time_of : (regs : List ℕ) → ℕ
time_of regs = long_of (slice_index regs time_index) (slice_index regs (time_index + 1))

unfoldable pub compare_of : (regs : List ℕ) → ℕ
compare_of regs = long_of (slice_index regs compare_index) (slice_index regs (compare_index + 1))

-- mcause of the machine timer interrupt: its top bit says that it is an interrupt
abbrev pub timer_interrupt : ℕ
timer_interrupt = 0x80000007

-- it is due where MIE is 1 and compare is not above time
unfoldable pub interrupted : (regs : List ℕ) → Bool
interrupted regs = bit (mstatus_of regs) MIE == 1 && nat_le (compare_of regs) (time_of regs)

-- time one on, wrapping at 2^64, and the register file with it
abbrev pub next_time : (regs : List ℕ) → ℕ
next_time regs = (time_of regs + 1) % 2 ^ 64

unfoldable pub ticked : (regs : List ℕ) → List ℕ
ticked regs = slice_set (slice_set regs time_index (next_time regs % 2 ^ 32)) (time_index + 1) (next_time regs / 2 ^ 32)
