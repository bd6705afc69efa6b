-- Single steps one after another, each with its own refusals, and what they answer. Document 01, "Answers"; document 02, 13. Assumes nothing.
use Rattle.std.specs.Prelude.{cond, List, ℕ, zero, suc, ◌+◌, ◌-◌, ◌<◌}
use Rattle.words.specs.Words.{le_bytes}
use Rattle.state.specs.Registers.{pc_of}
use Rattle.short_forms.specs.Standing.{is_long, half_bytes, long_bytes}
use Rattle.short_forms.specs.Long.{long_form}
use Rattle.state.specs.Lent.{State}
use Rattle.state.specs.declared.Board.{Board}
use Rattle.machine.specs.Run.{step_answer, step_after, step_retired, step_trapped, ran_from}
use Rattle.machine_laws.specs.Lent.{SoundRegisters}

-- what n single steps leave
unfoldable pub steps_after : (n : ℕ) → Board → (revoked : List ℕ) → State → State
steps_after zero board revoked s = s
steps_after (suc n) board revoked s = steps_after n board revoked (step_after board revoked s)

-- how many of n single steps answer that they retired, and that they trapped
unfoldable pub retired_in : (n : ℕ) → Board → (revoked : List ℕ) → State → ℕ
retired_in zero board revoked s = 0
retired_in (suc n) board revoked s = step_retired (step_answer board revoked s) + retired_in n board revoked (step_after board revoked s)

unfoldable pub trapped_in : (n : ℕ) → Board → (revoked : List ℕ) → State → ℕ
trapped_in zero board revoked s = 0
trapped_in (suc n) board revoked s = step_trapped (step_answer board revoked s) + trapped_in n board revoked (step_after board revoked s)

-- between the steps of a run of n, after the first and before the last, no register is unsound; what the last leaves may be
abbrev pub SoundBetween : (n : ℕ) → Board → (revoked : List ℕ) → State → Type 0
SoundBetween n board revoked s = (k : ℕ) → 0 < k → k < n → SoundRegisters (ran_from k board revoked s).at.regs

-- the half at PCC's address tells how long the instruction there is
abbrev pub half_at : Board → State → ℕ
half_at board s = le_bytes half_bytes s.mem (pc_of s.regs - board.start)

abbrev pub length_at : Board → State → ℕ
length_at board s = cond (is_long (half_at board s)) long_bytes half_bytes

-- the instruction as it stands there
abbrev pub standing_at : Board → State → ℕ
standing_at board s = cond (is_long (half_at board s)) (le_bytes long_bytes s.mem (pc_of s.regs - board.start)) (half_at board s)

-- the long word that it is or stands for
abbrev pub word_at : Board → State → ℕ
word_at board s = cond (is_long (half_at board s)) (le_bytes long_bytes s.mem (pc_of s.regs - board.start)) (long_form (half_at board s))
