-- One step: interrupt or fetch, decode, effect, commit; nothing is refused. Document 01, "Traps"; document 02, 3 and 6; CHERIoT report, 7.5. Assumes nothing.
use Rattle.std.specs.Prelude.{Ok, Err, cond, List, ℕ}
use Rattle.instructions.specs.Decode.{decode_of}
use Rattle.instructions.specs.declared.Instruction.{Instruction}
use Rattle.instructions.specs.declared.Instruction.TheVariants.{Integer, Jump, Memory, Capability, System, Illegal}
use Rattle.short_forms.specs.Long.{long_form}
use Rattle.short_forms.specs.Standing.{half_bytes, long_bytes}
use Rattle.state.specs.Registers.{pcc_of}
use Rattle.state.specs.Lent.{Lent, lent, State}
use Rattle.state.specs.Timer.{timer_interrupt, interrupted}
use Rattle.state.specs.Checks.{illegal_instruction}
use Rattle.state.specs.declared.Board.{Board}
use Rattle.state.specs.declared.Effect.{Effect}
use Rattle.state.specs.declared.Effect.TheVariants.{Trap}
use Rattle.fetch.specs.Fetch.{Met, fault, fetch_of}
use Rattle.fetch.specs.declared.Fetched.TheVariants.{Long, Half}
use Rattle.integer_instructions.specs.Integer.{integer_effect}
use Rattle.memory_instructions.specs.Access.{memory_effect}
use Rattle.jump_instructions.specs.Jumps.{jump_effect}
use Rattle.capability_instructions.specs.Derivation.{capability_effect}
use Rattle.system_instructions.specs.System.{system_effect}
use Rattle.commit.specs.Commit.{apply_effect}
use Rattle.execution.specs.declared.Turn.{Turn}

-- what an instruction of some bytes does; a word that is none traps with the word
unfoldable pub effect_of : (bytes : ℕ) → Instruction → (word : ℕ) → (regs : List ℕ) → Lent → Effect
effect_of bytes (Integer i) word regs m = integer_effect i regs
effect_of bytes (Jump i) word regs m = jump_effect bytes m.board.edition i regs
effect_of bytes (Memory i) word regs m = memory_effect i regs m
effect_of bytes (Capability i) word regs m = capability_effect i regs
effect_of bytes (System i) word regs m = system_effect i regs
effect_of bytes Illegal word regs m = Trap illegal_instruction word

-- What was fetched, as an instruction: a half is decoded as its long form.
unfoldable pub instruction_in : Met → Instruction
instruction_in (Err trap) = Illegal
instruction_in (Ok (Long w)) = decode_of w
instruction_in (Ok (Half h)) = decode_of (long_form h)

-- what stands in mtval where that is illegal
unfoldable pub word_in : Met → ℕ
word_in (Err trap) = 0
word_in (Ok (Long w)) = w
word_in (Ok (Half h)) = h

-- how far PCC moves where the instruction moves on
unfoldable pub length_in : Met → ℕ
length_in (Err trap) = 0
length_in (Ok (Long w)) = long_bytes
length_in (Ok (Half h)) = half_bytes

-- the trap of a fetch that failed, else the effect
unfoldable pub trap_or : Met → Effect → Effect
trap_or (Err trap) e = Trap trap.cause trap.value
trap_or (Ok (Long w)) e = e
trap_or (Ok (Half h)) e = e

-- what a fetch leads to
unfoldable pub effect_in : Met → (regs : List ℕ) → Lent → Effect
effect_in f regs m = trap_or f (effect_of (length_in f) (instruction_in f) (word_in f) regs m)

-- the memory, its tags and what is only read, as an effect sees them
abbrev pub seen : Board → (revoked : List ℕ) → State → Lent
seen board revoked s = lent board s.mem s.tags revoked

-- what the next step meets: the timer's interrupt before anything of a fetch, else what it fetches; and what it does
unfoldable pub met_of : Board → (regs mem : List ℕ) → Met
met_of board regs mem = cond (interrupted regs) (fault timer_interrupt 0) (fetch_of (pcc_of regs) board.start mem)

abbrev pub fetched_in : Board → State → Met
fetched_in board s = met_of board s.regs s.mem

abbrev pub effect_at : Board → (revoked : List ℕ) → State → Effect
effect_at board revoked s = effect_in (fetched_in board s) s.regs (seen board revoked s)

-- what the next step does, by value: how far PCC moves where it moves on, and the effect
abbrev pub turn_of : Board → (revoked : List ℕ) → State → Turn
turn_of board revoked s = record { bytes = length_in (fetched_in board s); effect = effect_at board revoked s }

-- what it leaves
unfoldable pub step_of : Board → (revoked : List ℕ) → State → State
step_of board revoked s = apply_effect board.start (turn_of board revoked s).bytes (turn_of board revoked s).effect s
