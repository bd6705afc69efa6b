-- What fits the registers: words of 32 bits, and tags of 0 or 1. Document 01, "What is lent". Assumes nothing.
use Rattle.std.specs.Prelude.{ℕ, List, slice_index}
use Rattle.capability.specs.Capability.{Good}
use Rattle.instructions.specs.Range.{Word}
use Rattle.state.specs.Effects.{EachCapability, EachWord, GoodTags}
use Rattle.state.specs.declared.Effect.{Effect}

-- each element is a word
abbrev pub Words : List ℕ → Type 0
Words regs = (i : ℕ) → Word (slice_index regs i)

-- a register file of words whose tags are good
pub record FitsRegisters (regs : List ℕ) : Type 0 where
  pub words : Words regs
  pub tags : GoodTags regs

-- each capability of an effect is good, and each number that it writes is a word
abbrev pub FitsEffect : Effect → Type 0
FitsEffect e = EachCapability Good e × EachWord Word e
