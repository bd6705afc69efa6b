-- The search of what stands outside a range of whole granules: as Reach, but the granules that lie in the range are passed over. What stands there counts for
-- nothing: what may not be loaded gives nobody authority. Assumes nothing.
use Rattle.std.specs.Prelude.{Option, Some, None, Result, Ok, Err, Bool, false, cond, not, ◌&&◌, ◌≡◌, ℕ, ◌+◌, ◌-◌, ◌*◌, ◌/◌, ◌%◌, eqb, leb, ltb, length}
use Rattle.state.specs.Layout.{capability_count}
use Rattle.state.specs.Lent.{State}
use Rattle.state.specs.Memory.{granule_bytes}
use Rattle.state.specs.Checks.{fail_if}
use Rattle.machine.specs.Refusals.{refusal_named}
use Rattle.machine.specs.declared.answers.Refusal.{Refusal}
use Rattle.reach.specs.Reach.{end, places_in, passes_in, first_of, reach_refusal, reach_number, found_place, reach_place}
use Rattle.reach.specs.declared.Query.{Query}

-- ---- the granules of the range

-- granule g of a memory from start on lies in the range
abbrev pub in_range : (start : ℕ) → Query → (g : ℕ) → Bool
in_range start q g = leb q.low (start + g * granule_bytes) && ltb (start + g * granule_bytes) (end q)

-- the place is such a granule
abbrev pub is_hidden : (start : ℕ) → Query → (p : ℕ) → Bool
is_hidden start q p = leb capability_count p && in_range start q (p - capability_count)

-- ---- all other places

unfoldable pub passes_outside : (start : ℕ) → Query → State → (p : ℕ) → Bool
passes_outside start q s p = not (is_hidden start q p) && passes_in q s p

unfoldable pub first_outside : (start : ℕ) → Query → State → (from : ℕ) → Option ℕ
first_outside start q s from = first_of (places_in (length s.mem) - from) (passes_outside start q s) from

-- ---- the answer

-- the range begins and ends at the edge of a granule, so that each granule lies in it or shares no byte with it: memory's start is at such an edge
abbrev pub at_edges : Query → Bool
at_edges q = eqb (q.low % granule_bytes) 0 && eqb (end q % granule_bytes) 0

-- the refusals of `reach`, then a range that cuts a granule; 0 where nothing is refused
unfoldable pub outside_refusal : (start : ℕ) → Query → (from : ℕ) → State → ℕ
outside_refusal start q from s =
    fail_if (not (eqb (reach_refusal start q from s) 0)) (reach_refusal start q from s)
    (fail_if (not (at_edges q)) 22 0)

unfoldable pub outside_answer : (start : ℕ) → Query → (from : ℕ) → State → Result (Option ℕ) Refusal
outside_answer start q from s =
    cond (eqb (outside_refusal start q from s) 0) (Ok (first_outside start q s from)) (Err (refusal_named (outside_refusal start q from s)))

-- what a search promises; nothing is lent to it for writing
pub record OutsidePromise (start : ℕ) (q : Query) (from : ℕ) (s : State) (answer : Result (Option ℕ) Refusal) : Type 0 where
  pub answer_is : answer ≡ outside_answer start q from s
  pub number_is : reach_number answer ≡ outside_refusal start q from s
  pub place_is : reach_place answer ≡ cond (eqb (outside_refusal start q from s) 0) (found_place (first_outside start q s from)) 0

-- ---- what the search goes by

-- the place behind the granules of the range, where there are any
abbrev pub place_behind : (start : ℕ) → Query → ℕ
place_behind start q = capability_count + (end q - start) / granule_bytes

-- what was found is a granule of the range
abbrev pub found_hidden : (start : ℕ) → Query → Option ℕ → Bool
found_hidden start q (Some p) = is_hidden start q p
found_hidden start q None = false
