-- Where PCC passes the checks for four bytes and they are in memory, the fetch finds what stands there, whichever its length. Assumes nothing.
use Rattle.std.proofs.Common.{◌≡◌, ℕ, ◌+◌, ◌-◌, ◌%◌, ◌≤◌, Bool, true, false, cond, not, ◌&&◌, leb, List, length, sym, refl, true≢false, arith, le-leb}
use Rattle.std.proofs.Common.{leb-true}
use Rattle.words.specs.Words.{le_bytes}
use Rattle.metadata.specs.Rights.{EX}
use Rattle.capability.specs.Capability.{low, high, covers, grants, sealed, tagged}
use Rattle.capability.specs.declared.Capability.{Capability}
use Rattle.short_forms.specs.Standing.{is_long, half_bytes, long_bytes}
use Rattle.state.specs.Memory.{place_of}
use Rattle.state.specs.Checks.{in_bounds, access_cause, execute_cause}
use Rattle.state.specs.declared.Place.TheVariants.{At}
use Rattle.state.proofs.Laws.{place_from}
use Rattle.fetch.specs.Fetch.{second_of, stands_of, fetched_at, fetch_of}
use Rattle.fetch.specs.declared.Fetched.TheVariants.{Long, Half}
use Rattle.std.specs.Prelude.{Ok}

both : (a b : Bool) → (a && b) ≡ true → (a ≡ true) × (b ≡ true)
both true b h = (refl, h)
both false b h = (h, absurd (true≢false (sym h)))

-- four bytes in bounds: two are, as they start
shorter : (c : Capability) (a : ℕ) → in_bounds c a long_bytes ≡ true → in_bounds c a half_bytes ≡ true
unfolding covers
shorter c a h =
    let b = both (leb (low c) a) (leb (a + 4) (high c)) h in
    rw b.0 (le-leb (a + 2) (high c) (omega (arith, leb-true (a + 4) (high c) b.1)))

-- no cause: every check passed; then none fails for fewer bytes
passed : (t s g i j : Bool) → (i ≡ true → j ≡ true) → ◌≡◌ {A = ℕ} (cond (not t) 2 (cond s 3 (cond (not g) 17 (cond (not i) 1 0)))) 0
    → (i ≡ true) × (◌≡◌ {A = ℕ} (cond (not t) 2 (cond s 3 (cond (not g) 17 (cond (not j) 1 0)))) 0)
passed true false true true j f h = (refl, rw (f refl) refl)
passed true false true false j f h = absurd (omega (arith, h))
passed true false false i j f h = absurd (omega (arith, h))
passed true true g i j f h = absurd (omega (arith, h))
passed false s g i j f h = absurd (omega (arith, h))

allowed_shorter : (c : Capability) (a : ℕ) → access_cause c EX execute_cause a long_bytes ≡ 0
    → (in_bounds c a long_bytes ≡ true) × (access_cause c EX execute_cause a half_bytes ≡ 0)
unfolding access_cause
allowed_shorter c a h = passed (tagged c) (sealed c) (grants c EX) (in_bounds c a long_bytes) (in_bounds c a half_bytes) (shorter c a) h

module _ (pcc : Capability) (start : ℕ) (mem : List ℕ) (allowed : access_cause pcc EX execute_cause pcc.address long_bytes ≡ 0)
    (even : pcc.address % 2 ≡ 0) (above : start ≤ pcc.address) (inside : pcc.address + 4 ≤ start + length mem) where
  -- the place of PCC's address
  at_place : place_of start (length mem) pcc.address half_bytes ≡ At (pcc.address - start)
  at_place =
      let t : leb (pcc.address - start + 2) (length mem) ≡ true = le-leb (pcc.address - start + 2) (length mem) (omega (arith, above, inside)) in
      rw (place_from start (length mem) pcc.address half_bytes even above, t) refl

  pub fetched_there : fetch_of pcc start mem
      ≡ cond (is_long (le_bytes half_bytes mem (pcc.address - start))) (Ok (Long (le_bytes long_bytes mem (pcc.address - start))))
      (Ok (Half (le_bytes half_bytes mem (pcc.address - start))))
  unfolding fetch_of fetched_at stands_of second_of
  fetched_there =
      let p = allowed_shorter pcc pcc.address allowed in
      let t : leb (pcc.address - start + 4) (length mem) ≡ true = le-leb (pcc.address - start + 4) (length mem) (omega (arith, above, inside)) in
      rw (p.1, at_place, p.0, t) refl
