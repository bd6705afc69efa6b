-- The worked visits are the definition's, and so no program keeps the promise that refuses them or that leaves the tag. Assumes nothing.
use mathlib.Core.Path.{◌≡◌, ap}
use mathlib.Core.List.{List, [], ◌∷◌}
use Prim.Native.Nat.{ℕ}
use native.Mathlib.Omega.{arith}
use lib.Dec.{T}
use lib.ListN.{get_or}
use Rattle.words.specs.Words.{le_bytes, set_bytes, bit_at, with_bit, put_bit}
use Rattle.metadata.specs.Word.{permissions_of, scale_of, top_of, base_of}
use Rattle.metadata.specs.Rights.{rights_of}
use Rattle.bounds.specs.Bounds.{exponent_of, low_of, low_at}
use Rattle.capability.specs.Capability.{low, rights, tagged}
use Rattle.capability.specs.Loading.{revocable}
use Rattle.state.specs.Memory.{capability_in, revocation_at}
use Rattle.memory_instructions.specs.Access.{revoked_value}
use Rattle.machine.specs.Refusals.{good_memory, good_window, good_bits, refusal_named}
use Rattle.sweep.specs.Visits.{visit_refusal, swept_tags, next_after, visit_answer, tags_after, VisitPromise, visit_next}
use Rattle.sweep.specs.Worked.{board, object, holding, told, visits}
use Rattle.std.specs.Prelude.{Option, Result, Err}
use Rattle.machine.specs.declared.answers.Refusal.{Refusal}

pub visits_hold : T (told visits)
unfolding told visits refusal_named visit_refusal visit_answer tags_after swept_tags next_after good_memory good_window good_bits revoked_value
    revocation_at capability_in
    revocable tagged low rights low_at low_of exponent_of rights_of permissions_of scale_of top_of base_of le_bytes set_bytes bit_at with_bit put_bit
visits_hold = tt

-- ---- wrong sweepers, at the first of these visits

module _ (after : List ℕ) (answer : Result (Option ℕ) Refusal) (p : VisitPromise board (4 ∷ []) (holding object) 1 (2 ∷ []) after answer) where
  -- one that leaves the tag
  pub idle_shut_out : after ≡ 2 ∷ [] → ⊥
  unfolding visit_refusal tags_after swept_tags good_memory good_window good_bits revoked_value revocation_at capability_in revocable tagged low rights low_at
      low_of
      exponent_of rights_of permissions_of scale_of top_of base_of le_bytes set_bytes bit_at with_bit put_bit
  idle_shut_out e = omega (arith, ap (λ (t : List ℕ). get_or t 0 0) e, ap (λ (t : List ℕ). get_or t 0 0) p.tags_are)

  -- one that refuses
  pub refusing_shut_out : (r : Refusal) → answer ≡ Err r → ⊥
  unfolding visit_refusal visit_answer next_after good_memory good_window good_bits set_bytes
  refusing_shut_out r e = omega (arith, ap visit_next e, ap visit_next p.answer_is)
