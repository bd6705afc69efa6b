-- Single steps, with the answer, the registers and the tag byte that they leave: a table for each page that asks for them, and one statement of all. Document
-- 01, "Cases" and "Tempting mistakes"; document 02, 3, 4 and 6. Memory is 64 bytes, one tag byte.
-- Assumes nothing.
use Rattle.std.specs.Prelude.{Bool, true, ◌&&◌, List, [], ◌∷◌, ℕ, ◌+◌, ◌-◌, ◌*◌, T, eqb, get_or, set, replicate}
use Rattle.words.specs.Words.{set32}
use Rattle.capability.specs.Capability.{capability, integer}
use Rattle.capability.specs.declared.Capability.{Capability}
use Rattle.state.specs.Layout.{capability_words, register_words, pcc_index, mtcc_index, mepcc_index, csr_index, time_index, compare_index}
use Rattle.instructions.specs.declared.Csr.TheVariants.{Mstatus, Mcause, Mtval, Mshwm, Mshwmb}
use Rattle.state.specs.declared.Board.{Board}
use Rattle.state.specs.Registers.{set_capability}
use Rattle.state.specs.Lent.{State, state, report_edition}
use Rattle.machine.specs.Run.{step_answer, step_after, step_number, step_retired, step_trapped}

-- word `place` of the register file has a value
pub record Word : Type 0 where
  pub place : ℕ
  pub value : ℕ

infix 6 ◌is◌
abbrev pub ◌is◌ : ℕ → ℕ → Word
p is v = record { place = p; value = v }

-- the three words of capability i
abbrev pub register : (i : ℕ) → Capability → List Word → List Word
register i c ws = (i * capability_words is c.address) ∷ (i * capability_words + 1 is c.metadata) ∷ (i * capability_words + 2 is c.tag) ∷ ws

-- a machine before a step, MTCC at the handler, its other words and bytes 0 but for those given, and what the step leaves
pub record Case : Type 0 where
  pub start : ℕ
  pub pcc : Capability
  pub c1 : Capability
  pub mstatus : ℕ
  -- further words of the register file at the start
  pub given : List Word
  -- the bytes at place 8
  pub held : Capability
  pub tags : ℕ
  pub revoked : ℕ
  -- the instruction at PCC
  pub instruction : ℕ
  -- it retires, 1, or traps, 0
  pub retired : ℕ
  pub after : List Word
  pub tags_after : ℕ

-- the whole space to execute, and to load and store (document 01, "Cases")
abbrev pub execute : (address : ℕ) → Capability
execute a = capability a 0x5E3E0000 1

abbrev pub data_at : (address : ℕ) → Capability
data_at a = capability a 0x7E3E0000 1

-- where a trap enters
abbrev pub handler : Capability
handler = execute 0x20000020

-- the window is all of memory
abbrev pub board_in : Case → Board
board_in c = record { start = c.start; window = record { start = 0; size = 64 }; edition = report_edition }

-- a register file with further words
unfoldable pub put : List Word → (regs : List ℕ) → List ℕ
put [] regs = regs
put (w ∷ ws) regs = put ws (set regs w.place w.value)

unfoldable pub before : Case → State
before c =
    state
    (set_capability
    (set_capability (set_capability (put c.given (set (replicate register_words 0) (csr_index Mstatus) c.mstatus)) 1 c.c1) pcc_index c.pcc)
    mtcc_index handler)
    (set32 (set32 (set32 (replicate 64 0) 8 c.held.address) 12 c.held.metadata) (c.pcc.address - c.start) c.instruction)
    (c.tags ∷ [])

unfoldable pub found : List Word → (regs : List ℕ) → Bool
found [] regs = true
found (w ∷ ws) regs = eqb (get_or regs w.place 0) w.value && found ws regs

unfoldable pub holds : Case → Bool
holds c =
    eqb (step_number (step_answer (board_in c) (c.revoked ∷ []) (before c))) 0
    && (eqb (step_retired (step_answer (board_in c) (c.revoked ∷ []) (before c))) c.retired
    && (eqb (step_trapped (step_answer (board_in c) (c.revoked ∷ []) (before c))) (1 - c.retired)
    && (found c.after (step_after (board_in c) (c.revoked ∷ []) (before c)).regs
    && eqb (get_or (step_after (board_in c) (c.revoked ∷ []) (before c)).tags 0 0) c.tags_after)))

-- each row of a table holds: a part for each, so that the check names the row that does not
infixr 5 ◌&◌
pub data Hold : List Case → Type 0 where
  end : Hold []
  ◌&◌ : {c : Case} {cs : List Case} → T (holds c) → Hold cs → Hold (c ∷ cs)

-- compare out of time's reach
abbrev later : List Word
later = (compare_index + 1 is 1) ∷ []

-- an instruction in a memory at 0x20000000, interrupts enabled; and at its start
abbrev standing : (pcc c1 held : Capability) → (tags revoked instruction retired : ℕ) → List Word → (tags_after : ℕ) → Case
standing pcc c1 held tags revoked instruction retired after tags_after =
    record {
      start = 0x20000000;
      pcc = pcc;
      c1 = c1;
      mstatus = 8;
      given = later;
      held = held;
      tags = tags;
      revoked = revoked;
      instruction = instruction;
      retired = retired;
      after = after;
      tags_after = tags_after;
    }

abbrev plain : (c1 held : Capability) → (tags revoked instruction retired : ℕ) → List Word → (tags_after : ℕ) → Case
plain = standing (execute 0x20000000)

-- an instruction in a memory at 0x20000000, with other words given
abbrev timed : (pcc c1 : Capability) → (mstatus : ℕ) → (given : List Word) → (instruction retired : ℕ) → List Word → Case
timed pcc c1 mstatus given instruction retired after =
    record {
      start = 0x20000000;
      pcc = pcc;
      c1 = c1;
      mstatus = mstatus;
      given = given;
      held = integer 0;
      tags = 0;
      revoked = 0;
      instruction = instruction;
      retired = retired;
      after = after;
      tags_after = 0;
    }

-- time and compare, and the mark pair
abbrev time_at : (low high : ℕ) → List Word → List Word
time_at low high ws = (time_index is low) ∷ (time_index + 1 is high) ∷ ws

abbrev compare_at : (low high : ℕ) → List Word → List Word
compare_at low high ws = (compare_index is low) ∷ (compare_index + 1 is high) ∷ ws

abbrev pair_at : (mark base : ℕ) → List Word → List Word
pair_at mark base ws = (csr_index Mshwm is mark) ∷ (csr_index Mshwmb is base) ∷ ws

-- the words of a trap: MEPCC, PCC at the handler, MPIE := MIE and MIE := 0, mcause and mtval
abbrev trap : (mepcc : Capability) → (cause value : ℕ) → List Word
trap mepcc cause value =
    register mepcc_index mepcc (register pcc_index handler ((csr_index Mstatus is 0x80) ∷ (csr_index Mcause is cause) ∷ (csr_index Mtval is value) ∷ []))

-- a no-op in the last word of the address space, PCC's bounds ending there: the next PCC is untagged, at 0
unfoldable pub top_of_memory : Case
top_of_memory =
    record {
      start = 0xFFFFFFC0;
      pcc = capability 0xFFFFFFFC 0x5E100100 1;
      c1 = integer 0;
      mstatus = 0;
      given = [];
      held = integer 0;
      tags = 0;
      revoked = 0;
      instruction = 0x00000013;
      retired = 1;
      after = register pcc_index (capability 0 0x5E100100 0) [];
      tags_after = 0;
    }

-- [0x20000010, 0x20000020), at an address in its second granule
abbrev small : (tag : ℕ) → Capability
small t = capability 0x20000018 0x7E004010 t

-- [0x20000010, 0x20000011), a token of one byte: GL and U0, or GL alone
abbrev pub token : (metadata tag : ℕ) → Capability
token m t = capability 0x20000010 m t

-- LW c2, 0(c1) through an untagged c1: cause 2 of register 1
unfoldable pub untagged_load : Case
untagged_load = plain (integer 0x20000000) (integer 0) 0 0 0x0000A103 0 (trap (execute 0x20000000) 28 (1 * 32 + 2)) 0

-- ECALL
unfoldable pub environment_call : Case
environment_call = plain (integer 0) (integer 0) 0 0 0x00000073 0 (trap (execute 0x20000000) 11 0) 0

-- document 01
unfoldable pub cases : List Case
cases =
    top_of_memory
    -- ADDI c1, c1, 1 on a capability: the result has neither metadata nor tag
    ∷ plain (data_at 0x20000000) (integer 0) 0 0 0x00108093 1 (register 1 (integer 0x20000001) (register pcc_index (execute 0x20000004) [])) 0
    -- CJAL c1, 8: the link is the sentry that enables interrupts
    ∷ plain (integer 0) (integer 0) 0 0 0x008000EF 1 (register 1 (capability 0x20000004 0x5EFE0000 1) (register pcc_index (execute 0x20000008) [])) 0
    -- SB c0, 8(c1): the granule's tag is cleared
    ∷ plain (data_at 0x20000000) (small 1) 2 0 0x00008423 1 (register pcc_index (execute 0x20000004) []) 0
    -- CSC c1, 16(c1): granule 2 takes the register's tag
    ∷ plain (data_at 0x20000000) (integer 0) 0 0 0x0010B823 1 (register pcc_index (execute 0x20000004) []) 4
    -- CLC c2, 8(c1): the revocation bit of the low bound's granule clears the tag, that of the address's does not; memory keeps its own
    ∷ plain (data_at 0x20000000) (small 1) 2 4 0x0080B103 1 (register 2 (small 0) []) 2
    ∷ plain (data_at 0x20000000) (small 1) 2 8 0x0080B103 1 (register 2 (small 1) []) 2
    ∷ untagged_load
    -- LW c2, 2(c1): misaligned; LW c2, 64(c1): outside memory
    ∷ plain (data_at 0x20000000) (integer 0) 0 0 0x0020A103 0 (trap (execute 0x20000000) 4 0x20000002) 0
    ∷ plain (data_at 0x20000000) (integer 0) 0 0 0x0400A103 0 (trap (execute 0x20000000) 5 0x20000040) 0
    ∷ environment_call
    -- a word that is no instruction
    ∷ plain (integer 0) (integer 0) 0 0 0xFFFFFFFF 0 (trap (execute 0x20000000) 2 0xFFFFFFFF) 0
    ∷ []

-- document 02, 3
unfoldable pub short_cases : List Case
short_cases =
    -- C.LI c10, 1: PCC goes on by two bytes, and what follows the half does not count
    plain (integer 0) (integer 0) 0 0 0xFFFF4505 1 (register 10 (integer 1) (register pcc_index (execute 0x20000002) [])) 0
    -- C.JAL 8: the link is two bytes on
    ∷ plain (integer 0) (integer 0) 0 0 0x2021 1 (register 1 (capability 0x20000002 0x5EFE0000 1) (register pcc_index (execute 0x20000008) [])) 0
    -- C.MV c2, c1 is ADD and loses the tag; the hint C.ADDI c1, 0 keeps it
    ∷ plain (data_at 0x20000000) (integer 0) 0 0 0x8106 1 (register 2 (integer 0x20000000) (register pcc_index (execute 0x20000002) [])) 0
    ∷ plain (data_at 0x20000000) (integer 0) 0 0 0x0081 1 (register 1 (data_at 0x20000000) (register pcc_index (execute 0x20000002) [])) 0
    -- C.JR c1 to a target with two bytes in bounds
    ∷ plain (capability 0x20000000 0x5E000400 1) (integer 0) 0 0 0x8082 1 (register pcc_index (capability 0x20000000 0x5E000400 1) []) 0
    -- halves that are no instruction, one of zeros: mtval is the half, whatever follows it
    ∷ plain (integer 0) (integer 0) 0 0 0xFFFF9C41 0 (trap (execute 0x20000000) 2 0x9C41) 0
    ∷ plain (integer 0) (integer 0) 0 0 0xFFFF0000 0 (trap (execute 0x20000000) 2 0) 0
    -- a long word off the grid of four bytes: ECALL saves its own address
    ∷ standing (execute 0x20000002) (integer 0) (integer 0) 0 0 0x00000073 0 (trap (execute 0x20000002) 11 0) 0
    -- a long word whose second half is past PCC's top; past memory's end; and PCC at an odd address
    ∷ standing (capability 0x20000000 0x5E000400 1) (integer 0) (integer 0) 0 0 0x00000013 0 (trap (capability 0x20000000 0x5E000400 1) 28 (32 * 32 + 1)) 0
    ∷ standing (execute 0x2000003E) (integer 0) (integer 0) 0 0 0x00000013 0 (trap (execute 0x2000003E) 1 0x20000040) 0
    ∷ standing (execute 0x20000001) (integer 0) (integer 0) 0 0 0x00000001 0 (trap (execute 0x20000000) 0 0x20000001) 0
    ∷ []

-- document 02, 4
unfoldable pub token_cases : List Case
token_cases =
    -- CLC c2, 8(c1) of a token in a revoked granule: U0 spares it, and one without is revoked
    plain (data_at 0x20000000) (token 0x48002210 1) 2 4 0x0080B103 1 (register 2 (token 0x48002210 1) []) 2
    ∷ plain (data_at 0x20000000) (token 0x40002210 1) 2 4 0x0080B103 1 (register 2 (token 0x40002210 0) []) 2
    ∷ []

-- document 02, 6
unfoldable pub timer_cases : List Case
timer_cases =
    -- the timer's interrupt, before a fetch that would fail: time at compare; one below it; and with MIE clear
    timed (integer 0x20000000) (integer 0) 8 (time_at 7 1 (compare_at 7 1 [])) 0x00000013 0
    (time_at 8 1 (trap (integer 0x20000000) 0x80000007 0))
    ∷ timed (execute 0x20000000) (integer 0) 8 (time_at 0xFFFFFFFF 0 (compare_at 0 1 [])) 0x00000013 1
    (time_at 0 1 (register pcc_index (execute 0x20000004) []))
    ∷ timed (execute 0x20000000) (integer 0) 0 (time_at 7 1 (compare_at 7 1 [])) 0x00000013 1 (time_at 8 1 (register pcc_index (execute 0x20000004) []))
    -- time wraps, in a step that traps too
    ∷ timed (execute 0x20000000) (integer 0) 0 (time_at 0xFFFFFFFF 0xFFFFFFFF []) 0x00000073 0 (time_at 0 0 [])
    -- SW c0, 52(c1): below the mark by its low bits alone; at the mark; at the base; and below the base
    ∷ timed (execute 0x20000000) (data_at 0x20000000) 0 (pair_at 0x20000035 0x20000000 []) 0x0200AA23 1 (pair_at 0x20000030 0x20000000 [])
    ∷ timed (execute 0x20000000) (data_at 0x20000000) 0 (pair_at 0x20000034 0x20000000 []) 0x0200AA23 1 (pair_at 0x20000034 0x20000000 [])
    ∷ timed (execute 0x20000000) (data_at 0x20000000) 0 (pair_at 0x20000040 0x20000034 []) 0x0200AA23 1 (pair_at 0x20000030 0x20000034 [])
    ∷ timed (execute 0x20000000) (data_at 0x20000000) 0 (pair_at 0x20000040 0x20000035 []) 0x0200AA23 1 (pair_at 0x20000040 0x20000035 [])
    -- the same store through an untagged c1 traps and moves nothing
    ∷ timed (execute 0x20000000) (integer 0x20000000) 0 (pair_at 0x20000040 0x20000000 []) 0x0200AA23 0 (pair_at 0x20000040 0x20000000 [])
    -- CSRRS c2, mshwm, c0 writes nothing; CSRRS c2, mshwm, c3 with 0 in c3, and CSRRW c2, mshwmb, c1, write without the low four bits
    ∷ timed (execute 0x20000000) (integer 0) 0 (pair_at 0x2000003F 0x20000007 []) 0xBC102173 1
    (register 2 (integer 0x2000003F) (pair_at 0x2000003F 0x20000007 []))
    ∷ timed (execute 0x20000000) (integer 0) 0 (pair_at 0x2000003F 0x20000007 []) 0xBC11A173 1
    (register 2 (integer 0x2000003F) (pair_at 0x20000030 0x20000007 []))
    ∷ timed (execute 0x20000000) (integer 0x1234567F) 0 (pair_at 0x2000003F 0x20000007 []) 0xBC209173 1
    (register 2 (integer 0x20000007) (pair_at 0x2000003F 0x12345670 []))
    ∷ []
