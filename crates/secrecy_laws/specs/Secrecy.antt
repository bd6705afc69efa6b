-- What nothing held outside hidden granules may read makes no difference outside them: two states that differ in them alone stay so, over steps, runs and
-- sweeps, and answer alike. Assumes nothing.
use Rattle.std.specs.Prelude.{Bool, List, ◌∷◌, ◌++◌, ◌≡◌, ℕ, suc, ◌+◌, ◌/◌, ◌≤◌, ◌<◌}
use Rattle.watch.specs.declared.Watch.{Watch}
use Rattle.state.specs.Lent.{State}
use Rattle.state.specs.Memory.{granule_bytes}
use Rattle.state.specs.Effects.{Stored, nothing, bytes, whole, stored_by}
use Rattle.state.specs.declared.Board.{Board}
use Rattle.execution.specs.Step.{effect_at}
use Rattle.machine.specs.Run.{step_refusal, Ran, ran_from}
use Rattle.machine.specs.Watching.{watch_left}
use Rattle.authority_laws.specs.Gain.{Reached}
use Rattle.secrecy_laws.specs.Outside.{SameByte, TagAlike, SameGranule, Settled, Alike, WhereDiffered, NoGainOutside}
use Rattle.secrecy_laws.specs.Calls.{Call, Stores, answers, left, EachStart, calls_of, told_by}

-- As many retired and trapped; what is left is alike; and the next effect is the same, so that both retire or both trap and store the same. What differs lies
-- where the starts a and b differed; of tags too, granule by granule, whatever the bytes.
pub record AlikeRuns (hidden : ℕ → Bool) (board : Board) (revoked : List ℕ) (a b : State) (r q : Ran) : Type 0 where
  pub same_retired : r.retired ≡ q.retired
  pub same_trapped : r.trapped ≡ q.trapped
  pub alike : Alike hidden r.at q.at
  pub same_next : effect_at board revoked r.at ≡ effect_at board revoked q.at
  pub where_differed : WhereDiffered a b r.at q.at
  pub tags_where_differed : (g : ℕ) → TagAlike g a b → TagAlike g r.at q.at

-- the same answers; what is left is alike, and differs where the starts did
pub record AlikeCalls (hidden : ℕ → Bool) (a b : State) (calls : List Call) : Type 0 where
  pub same_answers : answers calls a ≡ answers calls b
  pub alike : Alike hidden (left calls a) (left calls b)
  pub where_differed : WhereDiffered a b (left calls a) (left calls b)

-- what was stored is the same in both: its bytes, and the tag of their granule, which bytes clear; with a capability the whole granule
abbrev pub SameStored : Stored → (a b : State) → Type 0
SameStored nothing a b = Unit {0}
SameStored (bytes width j value) a b = ((i : ℕ) → j ≤ i → i < j + width → SameByte i a b) × Settled (j / granule_bytes) a b
SameStored (whole j value) a b = SameGranule (j / granule_bytes) a b

-- Secrecy of two states that are alike, where the start of memory has a property with each step and run: that nothing held outside may read what is hidden
-- (law `secrecy_claim`), or that it is the one of which `reach_outside` answered none (laws `outside_secrecy_claim`, `c_secrecy_claim`). Neither steps nor
-- calls tell one from the other, by the definitions and by code that keeps its promises; and what is stored is the same in both from then on.
pub record SecrecyClaim (hidden : ℕ → Bool) (Secret : ℕ → Type 0) (a b : State) : Type 0 where
  pub after_steps : (n : ℕ) (board : Board) (revoked : List ℕ) → step_refusal board revoked a ≡ 0 → Secret board.start
      → AlikeRuns hidden board revoked a b (ran_from n board revoked a) (ran_from n board revoked b)
  pub stored_over : (n m : ℕ) (board : Board) (revoked : List ℕ) → step_refusal board revoked a ≡ 0 → Secret board.start
      → SameStored (stored_by (effect_at board revoked (ran_from n board revoked a).at))
      (ran_from (n + suc m) board revoked a).at (ran_from (n + suc m) board revoked b).at
  pub after_calls : (calls : List Call) → EachStart Secret calls → AlikeCalls hidden a b calls
  pub stored_over_in_calls : (before : List Call) (c : Call) (after : List Call) → EachStart Secret (before ++ (c ∷ after))
      → (x : Stored) → Stores c (left before a) x → SameStored x (left (before ++ (c ∷ after)) a) (left (before ++ (c ∷ after)) b)
  pub after_promises : (x y : State) (r : Reached a x) (q : Reached b y) → calls_of r ≡ calls_of q → EachStart Secret (calls_of r)
      → (told_by r ≡ told_by q) × Alike hidden x y × WhereDiffered a b x y
  -- a run with a watch record leaves the same record of what was reached
  pub watches_told : (x y : State) (r : Reached a x) (q : Reached b y) → calls_of r ≡ calls_of q → EachStart Secret (calls_of r)
      → (n : ℕ) (board : Board) (revoked : List ℕ) → Secret board.start → (w : Watch) → watch_left n board revoked x w ≡ watch_left n board revoked y w

-- And nothing comes out of hidden granules: what is held outside later is derived from what was held outside (law `no_gain_claim`).
pub record NoGainClaim (hidden : ℕ → Bool) (Secret : ℕ → Type 0) (a : State) : Type 0 where
  pub after_steps : (n : ℕ) (board : Board) (revoked : List ℕ) → step_refusal board revoked a ≡ 0 → Secret board.start
      → NoGainOutside hidden a (ran_from n board revoked a).at
  pub after_calls : (calls : List Call) → EachStart Secret calls → NoGainOutside hidden a (left calls a)
