-- What `reach` says by an answer of none: nothing held may do what was asked in the range; and where the right to store was asked, that the range stays as it
-- is. Assumes nothing.
use Rattle.std.specs.Prelude.{None}
use Rattle.std.specs.Prelude.{List, ◌≡◌, ℕ, ◌+◌, ◌*◌, ◌≤◌, ◌<◌}
use Rattle.metadata.specs.Rights.{Has}
use Rattle.capability.specs.Capability.{low, high, rights}
use Rattle.capability.specs.declared.Capability.{Capability}
use Rattle.state.specs.Lent.{State}
use Rattle.state.specs.Memory.{granule_bytes}
use Rattle.state.specs.declared.Board.{Board}
use Rattle.machine.specs.Run.{step_refusal, ran_from}
use Rattle.reach.specs.Reach.{end, first_reach}
use Rattle.reach.specs.declared.Query.{Query}
use Rattle.machine_laws.specs.Lent.{Sound}
use Rattle.authority_laws.specs.Gain.{Reached}
use Rattle.integrity_laws.specs.Integrity.{Stays, SameTag, EachStart}

-- a tagged capability that does not count: sound, and without one of the rights or without an address of the range. Of a range that is not empty the answer
-- is none exactly where all that is held is so (law `nowhere_is`).
pub record Apart (q : Query) (c : Capability) : Type 0 where
  pub is_sound : Sound c
  pub no_address : ((k : ℕ) → Has q.rights k → Has (rights c) k) → (x : ℕ) → low c ≤ x → x < high c → q.low ≤ x → x < end q → ⊥

-- byte i of a memory from start on is in the range
pub record InRange (q : Query) (start i : ℕ) : Type 0 where
  pub from : q.low ≤ start + i
  pub to : start + i < end q

-- What an answer of none for the right to store says of the range, with nothing asked of what is held (laws `reach_claim`, `c_reach_claim`): each of its bytes
-- stays, over any number of steps and over any calls with memory at that start; the tag of a granule that lies in it stays over steps; and the answer stays.
pub record ReachClaim (start : ℕ) (q : Query) (s : State) : Type 0 where
  pub after_steps : (n : ℕ) (board : Board) (revoked : List ℕ) → board.start ≡ start → step_refusal board revoked s ≡ 0
      → (i : ℕ) → InRange q start i → Stays i s (ran_from n board revoked s).at
  pub tags_after_steps : (n : ℕ) (board : Board) (revoked : List ℕ) → board.start ≡ start → step_refusal board revoked s ≡ 0
      → (g : ℕ) → ((k : ℕ) → k < granule_bytes → InRange q start (g * granule_bytes + k)) → SameTag g s (ran_from n board revoked s).at
  pub after_calls : (a : State) (r : Reached s a) → EachStart (λ k. k ≡ start) r → (i : ℕ) → InRange q start i → Stays i s a
  pub none_after_calls : (a : State) → Reached s a → first_reach q a 0 ≡ None
