-- What a hint's step changes: PCC and time. RISC-V unprivileged standard, HINT instructions; document 02, 3 and 6. Assumes nothing.
use Rattle.std.specs.Prelude.{true, List, ◌≡◌, ℕ, ◌+◌, ◌/◌, get_or, length}
use Rattle.instructions.specs.Decode.{decode_of}
use Rattle.short_forms.specs.Hints.{Hint, HintHalf}
use Rattle.state.specs.Layout.{capability_words, pcc_index, time_index}
use Rattle.state.specs.Lent.{State}
use Rattle.state.specs.declared.Board.{Board}
use Rattle.fetch.specs.declared.Fetched.TheVariants.{Long, Half}
use Rattle.commit.specs.Commit.{retires}
use Rattle.commit.specs.Touched.{SameMemory}
use Rattle.execution.specs.Step.{effect_at, step_of}
use Rattle.fetch.specs.Fetch.{Met}
use Rattle.std.specs.Prelude.{Ok, Err}

-- what was fetched is a hint
abbrev pub HintFetched : Met → Type 0
HintFetched (Err trap) = ⊥
HintFetched (Ok (Long w)) = Hint (decode_of w)
HintFetched (Ok (Half h)) = HintHalf h

-- every word but those of PCC and of time, every byte and every tag is the same
pub record OnlyPccAndTime (before after : State) : Type 0 where
  pub same_memory : SameMemory before after
  pub same_length : length after.regs ≡ length before.regs
  pub same_words : (i : ℕ) → (i / capability_words ≡ pcc_index → ⊥) → (i ≡ time_index → ⊥) → (i ≡ time_index + 1 → ⊥)
      → get_or after.regs i 0 ≡ get_or before.regs i 0

pub record HintStep (board : Board) (revoked : List ℕ) (s : State) : Type 0 where
  pub retired : retires (effect_at board revoked s) ≡ true
  pub changed : OnlyPccAndTime s (step_of board revoked s)
