-- What nothing held outside hidden granules may write stays, where it may not read them either, and makes no difference outside. What stands in them is not
-- counted: a compartment that nothing outside can enter may hold authority over itself. Assumes nothing.
use Rattle.std.specs.Prelude.{Bool, List, ◌≡◌, ℕ, ◌+◌, ◌*◌, ◌<◌}
use Rattle.capability.specs.declared.Capability.{Capability}
use Rattle.state.specs.Lent.{State}
use Rattle.state.specs.Memory.{granule_bytes}
use Rattle.state.specs.declared.Board.{Board}
use Rattle.machine.specs.Run.{step_refusal, ran_from}
use Rattle.authority_laws.specs.Gain.{Reached}
use Rattle.integrity_laws.specs.Integrity.{Writes, Stays, SameTag}
use Rattle.secrecy_laws.specs.Outside.{HeldOutside, Unread, Alike}
use Rattle.secrecy_laws.specs.Calls.{Call, left, EachStart, calls_of}
use Rattle.secrecy_laws.specs.Secrecy.{SecrecyClaim}

-- nothing held outside may write byte i of a memory from start on
abbrev pub ShutOutside : (hidden : ℕ → Bool) → State → (i start : ℕ) → Type 0
ShutOutside hidden s i start = (c : Capability) → HeldOutside hidden s c → Writes c (start + i) → ⊥

-- nor may it read what is hidden
abbrev pub Untouched : (hidden : ℕ → Bool) → State → (i start : ℕ) → Type 0
Untouched hidden s i start = Unread hidden s start × ShutOutside hidden s i start

-- Some bytes stay, where each and the start of memory have a property with each step and run: that they are `Untouched`, of all bytes, or that the start is
-- the one with which `reach_outside` answered none for loads and for stores, of the bytes of the range. Where nothing is hidden it is integrity: all that is
-- held counts, and nothing need be unread.
pub record IsolationClaim (Some : ℕ → Type 0) (Shut : (i start : ℕ) → Type 0) (s : State) : Type 0 where
  pub after_steps : (n : ℕ) (board : Board) (revoked : List ℕ) → step_refusal board revoked s ≡ 0 → (i : ℕ) → Some i → Shut i board.start
      → Stays i s (ran_from n board revoked s).at
  pub tags_after_steps : (n : ℕ) (board : Board) (revoked : List ℕ) → step_refusal board revoked s ≡ 0
      → (g : ℕ) → ((k : ℕ) → k < granule_bytes → Some (g * granule_bytes + k) × Shut (g * granule_bytes + k) board.start)
      → SameTag g s (ran_from n board revoked s).at
  pub after_calls : (calls : List Call) (i : ℕ) → Some i → EachStart (Shut i) calls → Stays i s (left calls s)
  pub after_promises : (a : State) (r : Reached s a) (i : ℕ) → Some i → EachStart (Shut i) (calls_of r) → Stays i s a

-- Isolation: they stay, and they make no difference outside (laws `isolation_claim`; by the answers of the search, `outside_isolation_claim`,
-- `c_isolation_claim`).
pub record Isolated (hidden : ℕ → Bool) (Some : ℕ → Type 0) (Shut : (i start : ℕ) → Type 0) (Secret : ℕ → Type 0) (s : State) : Type 0 where
  pub stays : IsolationClaim Some Shut s
  pub unknown : (b : State) → Alike hidden s b → SecrecyClaim hidden Secret s b
