-- What is not refused has sound registers: of the theorem's hypothesis memory is left, and then no register between the steps of a run is unsound.
-- Document 02, 9 and 13. Assumes nothing.
use mathlib.Core.Path.{◌≡◌, refl}
use mathlib.Core.List.{List}
use Prim.Native.Nat.{ℕ}
use native.Mathlib.Omega.{arith}
use Rattle.capability.specs.declared.Capability.{Capability}
use Rattle.state.specs.Lent.{State}
use Rattle.state.specs.Registers.{capability_at}
use Rattle.state.specs.declared.Board.{Board}
use Rattle.machine.specs.Refusals.{refusal_of}
use Rattle.machine.specs.Run.{step_refusal, ran_from, run_after}
use Rattle.machine.proofs.Laws.{few_steps}
use Rattle.machine_laws.specs.Fits.{InType}
use Rattle.machine_laws.specs.Lent.{Sound}
use Rattle.machine_laws.specs.Steps.{steps_after, SoundBetween}
use Rattle.machine_laws.proofs.Refusals.{good_for, sound_for, of_good}
use Rattle.machine_laws.proofs.Runs.{run_after_lem}
use Rattle.authority_laws.specs.Gain.{Stands, in_register, in_granule, SoundMemory, Start, AuthorityClaim}
use Rattle.authority_laws.proofs.Runs.{authority_claim}

module _ (n : ℕ) (board : Board) (revoked : List ℕ) (s : State) (good : refusal_of n board revoked s ≡ 0) (t : InType s) (m : SoundMemory s) where
  -- the hypothesis of the theorem
  pub accepted_starts : Start s
  accepted_starts = record { in_type = t; sound = λ c k. at c k.stands k.is_tagged }
    where
      at : (c : Capability) → Stands s c → c.tag ≡ 1 → Sound c
      at c (in_register i l q) h = rw q (sound_for board revoked s n good i l (rw q at h))
      at c (in_granule g l q) h = rw q (m g l (rw q at h))

  -- so no run gains authority
  pub accepted_claim : AuthorityClaim s
  accepted_claim = authority_claim s accepted_starts

  step_accepted : step_refusal board revoked s ≡ 0
  step_accepted = of_good board revoked s (good_for board revoked s n good) (sound_for board revoked s n good) 1 (omega arith)

  -- no register becomes unsound
  pub stays_sound : (k : ℕ) → SoundBetween k board revoked s
  stays_sound k j a b i l h =
      (accepted_claim.after_steps j board revoked step_accepted).sound (capability_at (ran_from j board revoked s).at.regs i)
      (record { stands = in_register i l refl; is_tagged = h })

  -- and the run leaves what its single steps leave
  pub accepted_run : run_after n board revoked s ≡ steps_after n board revoked s
  accepted_run = run_after_lem board revoked n s step_accepted (stays_sound n) (few_steps n board revoked s good)
