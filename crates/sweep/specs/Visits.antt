-- A visit of the sweeper: one granule of memory, by its number. Document 02, 10. Assumes nothing.
use Rattle.std.specs.Prelude.{Option, Some, None, Result, Ok, Err, cond, not, List, [], ◌≡◌, ℕ, ◌+◌, ◌*◌, ◌/◌, eqb, ltb, length}
use Rattle.words.specs.Words.{put_bit}
use Rattle.capability.specs.declared.Capability.{Capability}
use Rattle.state.specs.Lent.{state}
use Rattle.state.specs.Memory.{capability_in, granule_bytes}
use Rattle.state.specs.Checks.{fail_if}
use Rattle.state.specs.declared.Board.{Board}
use Rattle.memory_instructions.specs.Access.{revoked_value}
use Rattle.machine.specs.Refusals.{good_memory, good_window, good_bits, number_in, refusal_named}
use Rattle.machine.specs.declared.answers.Refusal.{Refusal}

-- how many granules a memory of some bytes has; their numbers start at 0
abbrev pub granules_in : (size : ℕ) → ℕ
granules_in size = size / granule_bytes

-- the capability that a granule holds: its bytes, with its tag
abbrev pub stored_in : (mem tags : List ℕ) → (granule : ℕ) → Capability
stored_in mem tags granule = capability_in mem tags (granule * granule_bytes)

-- the refusals of memory, window and bits, by a step's own tests, for which no registers are lent; then 9, a number with no granule
unfoldable pub visit_refusal : Board → (revoked mem tags : List ℕ) → (granule : ℕ) → ℕ
visit_refusal board revoked mem tags granule =
    fail_if (not (good_memory board (length mem))) 2
    (fail_if (not (good_window board (length mem))) 2
    (fail_if (not (good_bits board revoked (state [] mem tags))) 3
    (fail_if (not (ltb granule (granules_in (length mem)))) 9
    0)))

-- the granule's tag goes where the load filter's revocation test takes that of the value as it is stored; no authority is asked, and so none of its losses
unfoldable pub swept_tags : Board → (revoked mem tags : List ℕ) → (granule : ℕ) → List ℕ
swept_tags board revoked mem tags granule = cond (revoked_value board revoked (stored_in mem tags granule)) (put_bit tags granule 0) tags

-- the number to visit next; none where this granule was the last
unfoldable pub next_after : (size granule : ℕ) → Option ℕ
next_after size granule = cond (eqb (granule + 1) (granules_in size)) None (Some (granule + 1))

unfoldable pub visit_answer : Board → (revoked mem tags : List ℕ) → (granule : ℕ) → Result (Option ℕ) Refusal
visit_answer board revoked mem tags granule =
    cond (eqb (visit_refusal board revoked mem tags granule) 0) (Ok (next_after (length mem) granule))
    (Err (refusal_named (visit_refusal board revoked mem tags granule)))

-- the tags after a visit; memory's bytes and the registers are not lent to it for writing
unfoldable pub tags_after : Board → (revoked mem tags : List ℕ) → (granule : ℕ) → List ℕ
tags_after board revoked mem tags granule =
    cond (eqb (visit_refusal board revoked mem tags granule) 0) (swept_tags board revoked mem tags granule) tags

-- ---- the paper's number and values of each answer: the next granule is 0 after the last one and where the visit is refused

abbrev pub visit_number : Result (Option ℕ) Refusal → ℕ
visit_number a = number_in a

abbrev pub visit_last : Result (Option ℕ) Refusal → ℕ
visit_last (Ok (Some n)) = 0
visit_last (Ok None) = 1
visit_last (Err refusal) = 0

abbrev pub visit_next : Result (Option ℕ) Refusal → ℕ
visit_next (Ok (Some n)) = n
visit_next (Ok None) = 0
visit_next (Err refusal) = 0

-- the values that a visit tells: 1 where the granule was the last, and the number of the one to visit next; 0 and 0 where the visit is refused
abbrev pub last_told : Board → (revoked mem tags : List ℕ) → (granule : ℕ) → ℕ
last_told board revoked mem tags granule =
    cond (eqb (visit_refusal board revoked mem tags granule) 0) (cond (eqb (granule + 1) (granules_in (length mem))) 1 0) 0

abbrev pub next_told : Board → (revoked mem tags : List ℕ) → (granule : ℕ) → ℕ
next_told board revoked mem tags granule =
    cond (eqb (visit_refusal board revoked mem tags granule) 0) (cond (eqb (granule + 1) (granules_in (length mem))) 0 (granule + 1)) 0

-- what a visit promises: its answer, with its number and values, and the tags as it leaves them
pub record VisitPromise (board : Board) (revoked mem : List ℕ) (granule : ℕ) (before after : List ℕ) (answer : Result (Option ℕ) Refusal) : Type 0 where
  pub answer_is : answer ≡ visit_answer board revoked mem before granule
  pub number_is : visit_number answer ≡ visit_refusal board revoked mem before granule
  pub last_is : visit_last answer ≡ last_told board revoked mem before granule
  pub next_is : visit_next answer ≡ next_told board revoked mem before granule
  pub tags_are : after ≡ tags_after board revoked mem before granule
