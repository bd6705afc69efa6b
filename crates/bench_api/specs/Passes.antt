-- A pass of the sweeper through the function for C, in the numbers that it answers. Document 02, 10. Assumes nothing.
use Rattle.std.specs.Prelude.{List, ◌≡◌, ℕ, suc, ◌^◌, ◌<◌, length}
use Rattle.state.specs.declared.Board.{Board}
use Rattle.sweep.specs.Visits.{granules_in, visit_refusal}
use Rattle.sweep.specs.Passes.{Swept}
use Rattle.bench_api.specs.Packing.{VisitPacked}

-- Calls one after another: an answer below 2^32 is the number to give next, one of 2^32 says that the granule was the last.
pub data PackedVisits (board : Board) (revoked mem : List ℕ) : (calls granule : ℕ) → (before after : List ℕ) → Type 0 where
  ends : (granule : ℕ) (before after : List ℕ) → VisitPacked board revoked mem granule before after (2 ^ 32)
      → PackedVisits board revoked mem 1 granule before after
  goes_on : (calls granule next : ℕ) (before between after : List ℕ) → next < 2 ^ 32 → VisitPacked board revoked mem granule before between next
      → PackedVisits board revoked mem calls next between after → PackedVisits board revoked mem (suc calls) granule before after

-- The theorem of the pass, of calls from C (law `packed_claim`).
pub record PackedClaim (board : Board) (revoked mem before : List ℕ) : Type 0 where
  -- where the first call is not refused, none is, and they come to the end, after as many calls as there are granules
  pub comes_to_end : visit_refusal board revoked mem before 0 ≡ 0
      → ((after : List ℕ) × PackedVisits board revoked mem (granules_in (length mem)) 0 before after)
  -- what any full pass leaves, and how many calls it was
  pub sweeps : (calls : ℕ) (after : List ℕ) → PackedVisits board revoked mem calls 0 before after → Swept board revoked mem before after
  pub one_each : (calls : ℕ) (after : List ℕ) → PackedVisits board revoked mem calls 0 before after → calls ≡ granules_in (length mem)
