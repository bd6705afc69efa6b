-- A pass through the function for C is a pass, and a pass is one through it: each number unpacks to one answer, and each answer packs to one number. So the
-- theorem of the pass holds of calls from C. Assumes nothing.
use mathlib.Core.List.{List}
use mathlib.Core.Path.{◌≡◌, refl, sym, ap, ◌∙◌}
use Prim.Native.Nat.{ℕ, ◌^◌, ◌<◌}
use native.Mathlib.Omega.{arith}
use lib.ListN.{length}
use Rattle.state.specs.declared.Board.{Board}
use Rattle.sweep.specs.Visits.{granules_in, visit_answer}
use Rattle.sweep.specs.Passes.{Visits, ends, goes_on, Swept}
use Rattle.std.specs.Prelude.{Option, Some, None, Result, Ok, Err}
use Rattle.machine.specs.declared.answers.Refusal.{Refusal}
use Rattle.machine.proofs.Laws.{number_positive}
use Rattle.sweep.proofs.Laws.{next_small, visit_promised}
use Rattle.sweep.proofs.Pass.{pass_claim}
use Rattle.bench_api.specs.Packing.{packed_visit}
use Rattle.bench_api.specs.Passes.{PackedVisits, PackedClaim}
use Rattle.bench_api.specs.Passes as Packed

-- an answer that is no large next granule
module _ (a : Result (Option ℕ) Refusal) (small : (n : ℕ) → a ≡ Ok (Some n) → n < 2 ^ 32) where
  unpack_next : (x : ℕ) → x < 2 ^ 32 → x ≡ packed_visit a → Ok (Some x) ≡ a
  unpack_next x l e = go a refl
    where
      go : (b : Result (Option ℕ) Refusal) → a ≡ b → Ok (Some x) ≡ a
      go (Ok (Some n)) q = let z : x ≡ n = omega (arith, e, ap packed_visit q) in ap (λ y. Ok (Some y)) z ∙ sym q
      go (Ok None) q = absurd (omega (arith, l, e, ap packed_visit q))
      go (Err r) q = absurd (number_positive r (omega (arith, l, e, ap packed_visit q)))

  unpack_last : 2 ^ 32 ≡ packed_visit a → Ok None ≡ a
  unpack_last e = go a refl
    where
      go : (b : Result (Option ℕ) Refusal) → a ≡ b → Ok None ≡ a
      go (Ok (Some n)) q = absurd (omega (arith, small n q, e, ap packed_visit q))
      go (Ok None) q = sym q
      go (Err r) q = absurd (number_positive r (omega (arith, e, ap packed_visit q)))

module _ (board : Board) (revoked mem : List ℕ) where
  pub packed_visits : (calls granule : ℕ) (before after : List ℕ) → PackedVisits board revoked mem calls granule before after
      → Visits board revoked mem calls granule before after
  packed_visits calls granule before after (Packed.ends _ _ _ p) =
      ends granule before after
      (visit_promised board revoked mem before granule after (Ok None)
      (unpack_last (visit_answer board revoked mem before granule)
      (next_small board revoked mem before granule) p.answer_is) p.tags_are)
  packed_visits calls granule before after (Packed.goes_on more _ next _ between _ l p rest) =
      goes_on more granule next before between after
      (visit_promised board revoked mem before granule between (Ok (Some next))
      (unpack_next (visit_answer board revoked mem before granule)
      (next_small board revoked mem before granule) next l p.answer_is) p.tags_are)
      (packed_visits more next between after rest)

  -- and a pass is one through the function for C: each answer packs to one number
  pub visits_packed : (calls granule : ℕ) (before after : List ℕ) → Visits board revoked mem calls granule before after
      → PackedVisits board revoked mem calls granule before after
  visits_packed calls granule before after (ends _ _ _ p) =
      Packed.ends granule before after (record { answer_is = ap packed_visit p.answer_is; tags_are = p.tags_are })
  visits_packed calls granule before after (goes_on more _ next _ between _ p rest) =
      Packed.goes_on more granule next before between after (next_small board revoked mem before granule next (sym p.answer_is))
      (record { answer_is = omega (arith, ap packed_visit p.answer_is); tags_are = p.tags_are }) (visits_packed more next between after rest)

  -- what a full pass of C calls leaves
  pub packed_pass : (calls : ℕ) (before after : List ℕ) → PackedVisits board revoked mem calls 0 before after → Swept board revoked mem before after
  packed_pass calls before after v = (pass_claim board revoked mem before).sweeps calls after (packed_visits calls 0 before after v)

  -- the theorem of the pass, of calls from C
  pub packed_claim : (before : List ℕ) → PackedClaim board revoked mem before
  packed_claim before =
      let claim = pass_claim board revoked mem before in
      record {
        comes_to_end = λ z. let pass = claim.comes_to_end z in (pass.0, visits_packed (granules_in (length mem)) 0 before pass.0 pass.1);
        sweeps = λ calls after v. packed_pass calls before after v;
        one_each = λ calls after v. claim.one_each calls after (packed_visits calls 0 before after v);
      }
