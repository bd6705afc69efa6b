-- A pass of the sweeper: visits from granule 0 to the last, with nothing else writing what is lent. Document 02, 10. Assumes nothing.
use Rattle.std.specs.Prelude.{Some, None, Ok, false, cond, List, ◌≡◌, ℕ, suc, ◌<◌, length}
use Rattle.words.specs.Words.{bit_at}
use Rattle.state.specs.declared.Board.{Board}
use Rattle.memory_instructions.specs.Access.{revoked_value}
use Rattle.sweep.specs.Visits.{granules_in, stored_in, visit_refusal, VisitPromise}

-- Visits one after another, by any code that keeps its promise, with one board, one memory and the same revocation bits: some number of them from a granule on.
-- Each is given the number that the one before gave back, and the tags as that one left them; the last is told that it was.
pub data Visits (board : Board) (revoked mem : List ℕ) : (calls granule : ℕ) → (before after : List ℕ) → Type 0 where
  ends : (granule : ℕ) (before after : List ℕ) → VisitPromise board revoked mem granule before after (Ok None) → Visits board revoked mem 1 granule before after
  goes_on : (calls granule next : ℕ) (before between after : List ℕ) → VisitPromise board revoked mem granule before between (Ok (Some next))
      → Visits board revoked mem calls next between after → Visits board revoked mem (suc calls) granule before after

-- a full pass
abbrev pub Pass : (board : Board) (revoked mem : List ℕ) (calls : ℕ) (before after : List ℕ) → Type 0
Pass board revoked mem calls before after = Visits board revoked mem calls 0 before after

-- what a full pass leaves; memory is one list before and after, so no byte changes
pub record Swept (board : Board) (revoked mem before after : List ℕ) : Type 0 where
  -- no tagged capability is left that the test would clear
  pub none_left : (g : ℕ) → g < granules_in (length mem) → revoked_value board revoked (stored_in mem after g) ≡ false
  -- the tags that went are those of the capabilities that the test clears, and no other tag changed
  pub tag_is : (g : ℕ) → g < granules_in (length mem) → bit_at after g ≡ cond (revoked_value board revoked (stored_in mem before g)) 0 (bit_at before g)
  -- nor the buffer's size
  pub same_size : length after ≡ length before

-- The theorem of the pass, of every board, memory, tags and revocation bits (law `pass_claim`).
pub record PassClaim (board : Board) (revoked mem before : List ℕ) : Type 0 where
  -- where the first visit is not refused, none is, and they come to the end, after as many calls as there are granules
  pub comes_to_end : visit_refusal board revoked mem before 0 ≡ 0 → ((after : List ℕ) × Pass board revoked mem (granules_in (length mem)) before after)
  -- what any full pass leaves, and how many calls it was
  pub sweeps : (calls : ℕ) (after : List ℕ) → Pass board revoked mem calls before after → Swept board revoked mem before after
  pub one_each : (calls : ℕ) (after : List ℕ) → Pass board revoked mem calls before after → calls ≡ granules_in (length mem)
