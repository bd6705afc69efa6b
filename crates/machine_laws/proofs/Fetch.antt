-- The next step's effect is a trap or that of the instruction that stands at PCC. Assumes nothing.
use mathlib.Core.Path.{◌≡◌}
use mathlib.Core.List.{List}
use Prim.Native.Nat.{ℕ, ◌%◌}
use lib.ListN.{length}
use Rattle.instructions.specs.Decode.{decode_of}
use Rattle.instructions.specs.declared.Instruction.{Instruction}
use Rattle.instructions.specs.declared.Instruction.TheVariants.{Integer, Jump, Memory, Capability, System, Illegal}
use Rattle.state.specs.Registers.{pcc_of}
use Rattle.state.specs.Lent.{Lent, State}
use Rattle.state.specs.Memory.{granule_bytes}
use Rattle.state.specs.declared.Board.{Board}
use Rattle.state.specs.Effects.{StoresWithin, GoodTags, GoodEffect}
use Rattle.state.specs.declared.Effect.{Effect}
use Rattle.state.specs.declared.Effect.TheVariants.{Trap}
use Rattle.state.specs.Timer.{timer_interrupt, interrupted}
use Rattle.state.proofs.Laws.{cond_holds, storeless_within}
use Rattle.integer_instructions.specs.Integer.{integer_effect}
use Rattle.jump_instructions.specs.Jumps.{jump_effect}
use Rattle.capability_instructions.specs.Derivation.{capability_effect}
use Rattle.system_instructions.specs.System.{system_effect}
use Rattle.integer_instructions.proofs.Laws.{integer_storeless, integer_good}
use Rattle.memory_instructions.proofs.Laws.{memory_within, memory_good}
use Rattle.jump_instructions.proofs.Laws.{jump_storeless, jump_good}
use Rattle.capability_instructions.proofs.Laws.{capability_storeless, capability_good}
use Rattle.system_instructions.proofs.Laws.{system_storeless, system_good}
use Rattle.fetch.specs.Fetch.{fetch_of}
use Rattle.fetch.proofs.Laws.{fetch_holds}
use Rattle.execution.specs.Step.{effect_of, instruction_in, word_in, length_in, trap_or, effect_in, seen, met_of, effect_at}
use Rattle.machine_laws.specs.Steps.{length_at, standing_at, word_at}
use Rattle.fetch.specs.Fetch.{Met, fault}

-- what the instruction at PCC does, once it is fetched
abbrev pub fetched_effect : Board → (revoked : List ℕ) → State → Effect
fetched_effect board revoked s = effect_of (length_at board s) (decode_of (word_at board s)) (standing_at board s) s.regs (seen board revoked s)

-- what holds of that and of every trap holds of the next step's effect
pub fetched_holds : (P : Effect → Type 0) (board : Board) (revoked : List ℕ) (s : State) → ((n v : ℕ) → P (Trap n v)) → P (fetched_effect board revoked s)
    → P (effect_at board revoked s)
unfolding met_of effect_in trap_or length_in instruction_in word_in
fetched_holds P board revoked s t h =
    let Q : Met → Type 0 = λ f. P (effect_in f s.regs (seen board revoked s)) in
    cond_holds Q (interrupted s.regs) (fault timer_interrupt 0) (fetch_of (pcc_of s.regs) board.start s.mem) (t timer_interrupt 0)
    (fetch_holds (pcc_of s.regs) board.start s.mem Q (λ n v a b. t n v) (λ r l. rw l at h) (λ r l. rw l at h))

-- every store of an instruction lies in one granule of memory
effect_within : (n : ℕ) (i : Instruction) (word : ℕ) (regs : List ℕ) (m : Lent) → m.board.start % granule_bytes ≡ 0
    → StoresWithin (length m.mem) (effect_of n i word regs m)
unfolding effect_of
effect_within n (Integer i) word regs m h = storeless_within _ (integer_effect i regs) (integer_storeless i regs)
effect_within n (Jump i) word regs m h = storeless_within _ (jump_effect n m.board.edition i regs) (jump_storeless n m.board.edition i regs)
effect_within n (Memory i) word regs m h = memory_within i regs m h
effect_within n (Capability i) word regs m h = storeless_within _ (capability_effect i regs) (capability_storeless i regs)
effect_within n (System i) word regs m h = storeless_within _ (system_effect i regs) (system_storeless i regs)
effect_within n Illegal word regs m h = tt

pub next_within : (board : Board) (revoked : List ℕ) (s : State) → board.start % granule_bytes ≡ 0 → StoresWithin (length s.mem) (effect_at board revoked s)
next_within board revoked s h =
    fetched_holds (StoresWithin (length s.mem)) board revoked s (λ n v. tt)
    (effect_within (length_at board s) (decode_of (word_at board s)) _ s.regs (seen board revoked s) h)

-- every tag that an instruction writes is 0 or 1
effect_good : (n : ℕ) (i : Instruction) (word : ℕ) (regs : List ℕ) (m : Lent) → GoodTags regs → GoodEffect (effect_of n i word regs m)
unfolding effect_of
effect_good n (Integer i) word regs m h = integer_good i regs
effect_good n (Jump i) word regs m h = jump_good n m.board.edition i regs h
effect_good n (Memory i) word regs m h = memory_good i regs m h
effect_good n (Capability i) word regs m h = capability_good i regs h
effect_good n (System i) word regs m h = system_good i regs h
effect_good n Illegal word regs m h = tt

pub next_good : (board : Board) (revoked : List ℕ) (s : State) → GoodTags s.regs → GoodEffect (effect_at board revoked s)
next_good board revoked s h =
    fetched_holds GoodEffect board revoked s (λ n v. tt) (effect_good (length_at board s) (decode_of (word_at board s)) _ s.regs (seen board revoked s) h)
