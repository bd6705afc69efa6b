-- What is fetched: what holds of every fault, of the long word there and of the half there holds of the fetch. Assumes nothing.
use Rattle.std.proofs.Common.{◌≡◌, ℕ, ◌+◌, ◌-◌, ◌%◌, ◌^◌, ◌<◌, Bool, true, false, cond, not, ◌&&◌, eqb, leb, List, length, refl, subst, arith, eqb-true}
use Rattle.std.proofs.Common.{leb-true}
use Rattle.words.specs.Words.{le_bytes, wrap}
use Rattle.words.proofs.Word.{by_test}
use Rattle.metadata.specs.Rights.{EX}
use Rattle.capability.specs.Capability.{grants, sealed, tagged}
use Rattle.capability.specs.declared.Capability.{Capability}
use Rattle.short_forms.specs.Standing.{is_long, half_bytes, long_bytes}
use Rattle.state.specs.Memory.{place_of}
use Rattle.state.specs.Checks.{in_bounds, access_cause, execute_cause, fetch_fault, fetch_misaligned, capability_fault}
use Rattle.fetch.specs.Fetch.{shut_out, second_of, stands_of, fetched_at, fetch_of, Reached, Whole}
use Rattle.fetch.specs.declared.Fetched.TheVariants.{Long, Half}
use Rattle.fetch.specs.Fetch.{Met, fault}
use Rattle.std.specs.Prelude.{Ok}

-- no cause: every check passed, and so that of the bounds
last_passed : (t s g i : Bool) → ◌≡◌ {A = ℕ} (cond (not t) 2 (cond s 3 (cond (not g) 17 (cond (not i) 1 0)))) 0 → i ≡ true
last_passed t s g true h = refl
last_passed true true g false h = absurd (omega arith)
last_passed true false true false h = absurd (omega arith)
last_passed true false false false h = absurd (omega arith)
last_passed false s g false h = absurd (omega arith)

access_reached : (c : Capability) (a n : ℕ) → access_cause c EX execute_cause a n ≡ 0 → in_bounds c a n ≡ true
unfolding access_cause
access_reached c a n h = last_passed (tagged c) (sealed c) (grants c EX) (in_bounds c a n) h

both : (a b : Bool) → (a && b) ≡ true → (a ≡ true) × (b ≡ true)
both true b h = (refl, h)
both false b h = (h, absurd (subst (λ (x : Bool). cond x ⊥ (Unit {0})) h tt))

module _ (pcc : Capability) (start : ℕ) (mem : List ℕ) where
  -- the half and the four bytes at PCC's address
  abbrev pub half_there : ℕ
  half_there = le_bytes half_bytes mem (pcc.address - start)

  abbrev pub long_there : ℕ
  long_there = le_bytes long_bytes mem (pcc.address - start)

  module _ (P : Met → Type 0) (traps : (n v : ℕ) → n < 2 ^ 32 → (pcc.address < 2 ^ 32 → v < 2 ^ 32) → P (fault n v))
      (long : Reached pcc start mem long_bytes → is_long half_there ≡ true → P (Ok (Long long_there)))
      (half : Reached pcc start mem half_bytes → is_long half_there ≡ false → P (Ok (Half half_there))) where
    second_holds : Reached pcc start mem half_bytes → is_long half_there ≡ true
        → P (second_of pcc long_there (leb (pcc.address - start + long_bytes) (length mem)))
    unfolding second_of shut_out
    second_holds r t =
        by_test (in_bounds pcc pcc.address long_bytes)
        (λ b. rw b (by_test (leb (pcc.address - start + long_bytes) (length mem))
        (λ s. rw s (long
        (record {
          in_bounds = b;
          even = r.even;
          above = r.above;
          inside = omega (arith, r.above, leb-true (pcc.address - start + long_bytes) (length mem) s);
        })
        t))
        (λ s. rw s (traps fetch_fault (wrap (pcc.address + half_bytes)) (omega arith) (λ h. omega arith)))))
        (λ b. rw b (traps capability_fault _ (omega arith) (λ h. omega arith)))

    stands_holds : Reached pcc start mem half_bytes → P (stands_of pcc half_there long_there (leb (pcc.address - start + long_bytes) (length mem)))
    unfolding stands_of
    stands_holds r = by_test (is_long half_there) (λ t. rw t (second_holds r t)) (λ t. rw t (half r t))

    pub fetch_holds : P (fetch_of pcc start mem)
    unfolding fetch_of place_of fetched_at shut_out
    fetch_holds =
        by_test (eqb (access_cause pcc EX execute_cause pcc.address half_bytes) 0)
        (λ t. rw t (by_test (eqb (pcc.address % half_bytes) 0)
        (λ v. rw v (by_test (leb start pcc.address && leb (pcc.address + half_bytes) (start + length mem))
        (λ k. let q = both (leb start pcc.address) (leb (pcc.address + half_bytes) (start + length mem)) k in
        rw k (stands_holds
        (record {
          in_bounds = access_reached pcc pcc.address half_bytes (eqb-true (access_cause pcc EX execute_cause pcc.address half_bytes) 0 t);
          even = eqb-true (pcc.address % half_bytes) 0 v;
          above = leb-true start pcc.address q.0;
          inside = leb-true (pcc.address + half_bytes) (start + length mem) q.1;
        })))
        (λ k. rw k (traps fetch_fault pcc.address (omega arith) (λ h. h)))))
        (λ v. rw v (traps fetch_misaligned pcc.address (omega arith) (λ h. h)))))
        (λ t. rw t (traps capability_fault _ (omega arith) (λ h. omega arith)))

  -- what is fetched is whole
  pub fetch_whole : Whole pcc start mem (fetch_of pcc start mem)
  fetch_whole = fetch_holds (Whole pcc start mem) (λ n v h k. tt) (λ r t. (r, refl, t)) (λ r t. (r, refl, t))
