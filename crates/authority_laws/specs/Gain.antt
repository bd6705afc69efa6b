-- What a state holds, what is derived from it, and that steps, runs and sweeps gain no authority. Document 02, 9 and 10. Assumes nothing.
use Rattle.std.specs.Prelude.{Option, Result, List, ◌≡◌, ℕ, ◌*◌, ◌/◌, ◌<◌, length}
use Rattle.capability.specs.declared.Capability.{Capability}
use Rattle.capability_laws.specs.Authority.{Inside}
use Rattle.state.specs.Layout.{capability_count}
use Rattle.state.specs.Registers.{capability_at}
use Rattle.state.specs.Lent.{State}
use Rattle.state.specs.Memory.{capability_in, granule_bytes}
use Rattle.state.specs.declared.Board.{Board}
use Rattle.machine.specs.Run.{step_refusal, ran_from, StepPromise, RunPromise}
use Rattle.machine.specs.declared.answers.Refusal.{Refusal}
use Rattle.machine.specs.declared.answers.Step.{Step}
use Rattle.machine.specs.declared.answers.Counts.{Counts}
use Rattle.sweep.specs.Visits.{VisitPromise}
use Rattle.machine_laws.specs.Fits.{InType}
use Rattle.machine_laws.specs.Lent.{Sound}
use Rattle.bench_api.specs.Packing.{StepPacked, RunPacked, VisitPacked}

-- ---- what a state holds

-- where a capability stands: one of the twenty-one of the register file, or the bytes of a granule with their tag
pub data Stands (s : State) (c : Capability) : Type 0 where
  in_register : (i : ℕ) → i < capability_count → c ≡ capability_at s.regs i → Stands s c
  in_granule : (g : ℕ) → g < length s.mem / granule_bytes → c ≡ capability_in s.mem s.tags (g * granule_bytes) → Stands s c

-- it stands there with its tag set; sealed ones count as all others
pub record Held (s : State) (c : Capability) : Type 0 where
  pub stands : Stands s c
  pub is_tagged : c.tag ≡ 1

-- ---- where the theorem starts

abbrev pub SoundState : State → Type 0
SoundState s = (c : Capability) → Held s c → Sound c

-- of memory alone: each granule that is tagged holds a sound capability
abbrev pub SoundMemory : State → Type 0
SoundMemory s =
    (g : ℕ) → g < length s.mem / granule_bytes → (capability_in s.mem s.tags (g * granule_bytes)).tag ≡ 1
    → Sound (capability_in s.mem s.tags (g * granule_bytes))

-- the elements are of the lent types, as they are in every lent slice, and what is held is sound
pub record Start (s : State) : Type 0 where
  pub in_type : InType s
  pub sound : SoundState s

-- ---- what it says

-- something held in s has bounds around those of c, and every right of c; each with the bounds and rights of its own, sealed or not
pub record Derived (s : State) (c : Capability) : Type 0 where
  pub origin : Capability
  pub is_held : Held s origin
  pub is_inside : Inside origin c

-- all that is held after is derived from what was held before; and sound, so that the theorem can start again there
pub record NoGain (before after : State) : Type 0 where
  pub derived : (c : Capability) → Held after c → Derived before c
  pub sound : SoundState after

-- registers, which the sweeper is not lent, and memory, which it may only read
pub record Unwritten (before after : State) : Type 0 where
  pub same_registers : after.regs ≡ before.regs
  pub same_memory : after.mem ≡ before.mem

-- What calls leave, one after another and whatever they answer: a constructor for each function that changes what is lent, with its promise; a run with a
-- watch record has a run's (laws `by_watched`, `by_c_watched`). Board and revocation bits may differ from call to call.
-- A caller's own write to registers, memory or tags is none of them: it begins a new start.
pub data Reached (s : State) : State → Type 0 where
  at_start : Reached s s
  by_step : {b a : State} (board : Board) (revoked : List ℕ) (answer : Result Step Refusal)
      → Reached s b → StepPromise board revoked b a answer → Reached s a
  by_run : {b a : State} (n : ℕ) (board : Board) (revoked : List ℕ) (answer : Result Counts Refusal)
      → Reached s b → RunPromise n board revoked b a answer → Reached s a
  by_c_step : {b a : State} (board : Board) (revoked : List ℕ) (answer : ℕ) → Reached s b → StepPacked board revoked b a answer → Reached s a
  by_c_run : {b a : State} (n : ℕ) (board : Board) (revoked : List ℕ) (answer : ℕ) → Reached s b → RunPacked n board revoked b a answer → Reached s a
  by_visit : {b a : State} (g : ℕ) (board : Board) (revoked : List ℕ) (answer : Result (Option ℕ) Refusal) → Reached s b → Unwritten b a
      → VisitPromise board revoked b.mem g b.tags a.tags answer → Reached s a
  by_c_visit : {b a : State} (g : ℕ) (board : Board) (revoked : List ℕ) (answer : ℕ) → Reached s b → Unwritten b a
      → VisitPacked board revoked b.mem g b.tags a.tags answer → Reached s a

-- No run gains authority, of every Start (law `authority_claim`): after any number of steps of good buffers, by the definition; and after any
-- calls of code that keeps its promises.
pub record AuthorityClaim (s : State) : Type 0 where
  pub after_steps : (n : ℕ) (board : Board) (revoked : List ℕ) → step_refusal board revoked s ≡ 0 → NoGain s (ran_from n board revoked s).at
  pub after_calls : (a : State) → Reached s a → NoGain s a
