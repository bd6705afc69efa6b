-- What is said of a jump beside its effect: that its length decides the link alone, and that no target of a decoded jump is misaligned. Document 02, 3;
-- CHERIoT report, 9.4 (CJAL). Assumes nothing.
use Rattle.std.specs.Prelude.{◌≡◌, ℕ}
use Rattle.capability.specs.declared.Capability.{Capability}
use Rattle.state.specs.Checks.{fetch_misaligned}
use Rattle.state.specs.Effects.{Next, onward, jumps, enters, writes_of}
use Rattle.state.specs.declared.Effect.{Effect}
use Rattle.state.specs.declared.Effect.TheVariants.{Jump}
use Rattle.jump_instructions.specs.Jumps.{link_of}

-- the effects of one instruction as n bytes and as k bytes: the same, or jumps that differ in their links
pub data LengthOnly (n k edition : ℕ) (pcc : Capability) (mstatus : ℕ) : Effect → Effect → Type 0 where
  alike : {e : Effect} → LengthOnly n k edition pcc mstatus e e
  links : {rd status : ℕ} {target : Capability}
      → LengthOnly n k edition pcc mstatus (Jump rd (link_of n edition pcc mstatus) target status) (Jump rd (link_of k edition pcc mstatus) target status)

-- no trap of a misaligned target
abbrev pub Aligned : Next → Type 0
Aligned onward = Unit {0}
Aligned (jumps target mstatus) = Unit {0}
Aligned (enters cause value) = cause ≡ fetch_misaligned → ⊥

abbrev pub NoMisaligned : Effect → Type 0
NoMisaligned e = Aligned (writes_of e).next
