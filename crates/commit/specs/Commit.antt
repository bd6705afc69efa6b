-- What an effect leaves in the lent buffers. Document 01, "What is lent" and "Traps"; document 02, 6; CHERIoT report, 7.7 and 7.11. Assumes nothing.
use Rattle.std.specs.Prelude.{ℕ, ◌+◌, ◌/◌, ◌%◌, ◌^◌, Bool, true, false, cond, List, length, nat_le, slice_set}
use Rattle.words.specs.Words.{set_bytes, put_bit}
use Rattle.capability.specs.Capability.{integer, move_of}
use Rattle.capability.specs.declared.Capability.{Capability}
use Rattle.instructions.specs.declared.Csr.{Csr}
use Rattle.instructions.specs.declared.Csr.TheVariants.{Mstatus, Mcause, Mtval}
use Rattle.instructions.specs.declared.Scr.{Scr}
use Rattle.state.specs.Layout.{pcc_index, mtcc_index, mepcc_index, csr_index, scr_index}
use Rattle.state.specs.Registers.{capability_at, set_capability, write_register, pcc_of, mstatus_of}
use Rattle.state.specs.Addresses.{next_address, vector_alignment, return_alignment, legalized}
use Rattle.state.specs.Status.{trap_status}
use Rattle.state.specs.Marks.{marked}
use Rattle.state.specs.Timer.{ticked}
use Rattle.state.specs.Lent.{State, state}
use Rattle.state.specs.Memory.{granule_bytes}
use Rattle.state.specs.Effects.{Stored, nothing, bytes, whole, stored_by}
use Rattle.state.specs.declared.Effect.{Effect}
use Rattle.state.specs.declared.Effect.TheVariants.{Advance, Write, Store, StoreCapability, Jump, WriteScr, WriteCsr, Trap}

-- ---- the register file

-- PCC after an instruction of some bytes, by the address-move rule
unfoldable pub advanced : (bytes : ℕ) → (regs : List ℕ) → List ℕ
advanced n regs = set_capability regs pcc_index (move_of (pcc_of regs) (next_address n regs))

-- Trap entry: MEPCC := PCC and PCC := MTCC, each legalized; MPIE := MIE, MIE := 0; mcause and mtval. No trap is vectored.
unfoldable pub trapped : (regs : List ℕ) → (cause value : ℕ) → List ℕ
trapped regs cause value =
    slice_set
    (slice_set
    (slice_set
    (set_capability (set_capability regs mepcc_index (legalized return_alignment (pcc_of regs))) pcc_index
    (legalized vector_alignment (capability_at regs mtcc_index)))
    (csr_index Mstatus) (trap_status (mstatus_of regs)))
    (csr_index Mcause) cause)
    (csr_index Mtval) value

-- a jump: the link, PCC and mstatus
unfoldable pub jumped : (regs : List ℕ) → (rd : ℕ) → (link target : Capability) → (mstatus : ℕ) → List ℕ
jumped regs rd link target mstatus = slice_set (set_capability (write_register regs rd link) pcc_index target) (csr_index Mstatus) mstatus

-- a special register, or a CSR, written, and the register that receives its old value
unfoldable pub with_scr : (bytes : ℕ) → (regs : List ℕ) → (rd : ℕ) → (old : Capability) → Scr → (value : Capability) → List ℕ
with_scr n regs rd old scr value = advanced n (set_capability (write_register regs rd old) (scr_index scr) value)

unfoldable pub with_csr : (bytes : ℕ) → (regs : List ℕ) → (rd old : ℕ) → Csr → (value : ℕ) → List ℕ
with_csr n regs rd old csr value = advanced n (slice_set (write_register regs rd (integer old)) (csr_index csr) value)

-- the register file after the effect of an instruction of some bytes
abbrev pub registers_after : (bytes : ℕ) → Effect → (regs : List ℕ) → List ℕ
registers_after n Advance regs = advanced n regs
registers_after n (Write rd value) regs = advanced n (write_register regs rd value)
registers_after n (Store kind i value) regs = advanced n regs
registers_after n (StoreCapability i value) regs = advanced n regs
registers_after n (Jump rd link target mstatus) regs = jumped regs rd link target mstatus
registers_after n (WriteScr rd old scr value) regs = with_scr n regs rd old scr value
registers_after n (WriteCsr rd old csr value) regs = with_csr n regs rd old csr value
registers_after n (Trap cause value) regs = trapped regs cause value

-- ---- memory and its tags

-- n bytes at a place of memory; an effect of an instruction has no place outside
unfoldable pub stored : (mem : List ℕ) → (n i value : ℕ) → List ℕ
stored mem n i value = cond (nat_le (i + n) (length mem)) (set_bytes n mem i value) mem

-- a capability at a place: address, then metadata, little-endian
unfoldable pub stored_capability : (mem : List ℕ) → (i : ℕ) → Capability → List ℕ
stored_capability mem i c = cond (nat_le (i + granule_bytes) (length mem)) (set_bytes 4 (set_bytes 4 mem i c.address) (i + 4) c.metadata) mem

-- the tag of the granule that n bytes touch
unfoldable pub retagged : (mem tags : List ℕ) → (n i tag : ℕ) → List ℕ
retagged mem tags n i tag = cond (nat_le (i + n) (length mem)) (put_bit tags (i / granule_bytes) tag) tags

abbrev pub memory_after : Stored → (mem : List ℕ) → List ℕ
memory_after nothing mem = mem
memory_after (bytes n i value) mem = stored mem n i value
memory_after (whole i value) mem = stored_capability mem i value

-- a store of bytes clears the tag, a store of a capability sets it to the capability's
abbrev pub tags_after : Stored → (mem tags : List ℕ) → List ℕ
tags_after nothing mem tags = tags
tags_after (bytes n i value) mem tags = retagged mem tags n i 0
tags_after (whole i value) mem tags = retagged mem tags granule_bytes i value.tag

-- ---- all of it

-- the mark, which a store moves by its lowest address; what has trapped has stored nothing (document 02, 6)
abbrev pub marked_by : (start : ℕ) → Stored → (regs : List ℕ) → List ℕ
marked_by start nothing regs = regs
marked_by start (bytes n i value) regs = marked ((start + i) % 2 ^ 32) regs
marked_by start (whole i value) regs = marked ((start + i) % 2 ^ 32) regs

-- what the effect of an instruction of some bytes writes, in a memory from a start on
abbrev pub written_by : (start bytes : ℕ) → Effect → State → State
written_by start n e s =
    state (marked_by start (stored_by e) (registers_after n e s.regs)) (memory_after (stored_by e) s.mem) (tags_after (stored_by e) s.mem s.tags)

-- and what it leaves: time goes on in every step, in one that traps too
unfoldable pub apply_effect : (start bytes : ℕ) → Effect → State → State
apply_effect start n e s = state (ticked (written_by start n e s).regs) (written_by start n e s).mem (written_by start n e s).tags

-- an instruction retires, or it trapped
unfoldable pub retires : Effect → Bool
retires Advance = true
retires (Write rd value) = true
retires (Store kind i value) = true
retires (StoreCapability i value) = true
retires (Jump rd link target mstatus) = true
retires (WriteScr rd old scr value) = true
retires (WriteCsr rd old csr value) = true
retires (Trap cause value) = false
