-- Plain steps at once, of which nothing is known: what the loop keeps stays, with no entry left. Assumes nothing.
use Rattle.std.proofs.Common.{◌≡◌, ℕ, zero, suc, ◌+◌, ◌-◌, ◌%◌, ◌^◌, ◌<◌, ◌≤◌, cond, List}
use Rattle.std.proofs.Common.{length, get_or, sym, refl, ap, ◌∙◌, inl, inr, arith, Bool, true, false}
use Rattle.watch.specs.declared.Watch.{Watch}
use Rattle.quick.specs.declared.Found.{Found}
use Rattle.state.specs.Memory.{granule_bytes}
use Rattle.state.specs.Lent.{State}
use Rattle.state.specs.declared.Board.{Board}
use Rattle.commit.specs.Commit.{retires}
use Rattle.execution.specs.Step.{effect_at, step_of}
use Rattle.machine.specs.Run.{Ran, ran, iterate, one_more}
use Rattle.machine.specs.Watching.{watch_step, watched_by}
use Rattle.machine_laws.proofs.Runs.{run_split, run_counts}
use Rattle.quick.specs.Entries.{entries, ClearedUnless, Calm}
use Rattle.quick.specs.Running.{Running}
use Rattle.quick.proofs.Forget.{entries_none}
use Rattle.quick.proofs.Turning.{way_plain}

module _ (board : Board) (revoked : List ℕ) where
  -- what was counted before is added to
  counts_add : (m : ℕ) (s : State) (x y p q : ℕ)
      → iterate m board revoked (ran s (x + p) (y + q))
      ≡ ran (iterate m board revoked (ran s p q)).at (x + (iterate m board revoked (ran s p q)).retired) (y + (iterate m board revoked (ran s p q)).trapped)
  unfolding iterate one_more
  counts_add zero s x y p q = refl
  counts_add (suc m) s x y p q =
      let a : ℕ = cond (retires (effect_at board revoked s)) 1 0 in
      let b : ℕ = cond (retires (effect_at board revoked s)) 0 1 in
      let e : x + p + a ≡ x + (p + a) = omega arith in
      let f : y + q + b ≡ y + (q + b) = omega arith in
      rw (e, f) (counts_add m (step_of board revoked s) x y (p + a) (q + b))

  -- the record of m + j steps is that of j from where m end, whatever was counted
  watch_split : (m j : ℕ) (s : State) (p q : ℕ) (w : Watch)
      → watched_by (m + j) board revoked s w ≡ watched_by j board revoked (iterate m board revoked (ran s p q)).at (watched_by m board revoked s w)
  unfolding iterate one_more watched_by
  watch_split zero j s p q w = let e : zero + j ≡ j = omega arith in rw e refl
  watch_split (suc m) j s p q w =
      let e : suc m + j ≡ suc (m + j) = omega arith in rw e (watch_split m j (step_of board revoked s) _ _ (watch_step board revoked s w))

  -- of m steps at most m trap
  pub at_most : (m : ℕ) (s last : State) (a b : ℕ) → ran last a b ≡ iterate m board revoked (ran s 0 0) → b ≤ m
  at_most m s last a b h =
      let two = run_counts board revoked m (ran s 0 0) in
      let t : b ≡ (iterate m board revoked (ran s 0 0)).trapped = ap (λ (x : Ran). x.trapped) h in
      omega (arith, two, t)

  module _ (n : ℕ) (s₀ : State) (w₀ : Watch) (s : State) (code : List Found) (keys rows : List ℕ)
      (low high base limit : ℕ) (watch : Watch) (trapped k : ℕ) (r : Running board revoked n s₀ w₀ s code keys rows low high base limit watch trapped k)
      (m : ℕ) (some : 0 < m) (room : m ≤ n - k) (last : State) (a b : ℕ) (watch' : Watch) (ran_on : ran last a b ≡ iterate m board revoked (ran s 0 0))
      (watched : watch' ≡ watched_by m board revoked s watch) (same-file : length last.regs ≡ length s.regs)
      (same_memory : length last.mem ≡ length s.mem) where
    counts : a + b ≡ m
    counts =
        let two = run_counts board revoked m (ran s 0 0) in
        let x : a ≡ (iterate m board revoked (ran s 0 0)).retired = ap (λ (y : Ran). y.retired) ran_on in
        let z : b ≡ (iterate m board revoked (ran s 0 0)).trapped = ap (λ (y : Ran). y.trapped) ran_on in
        omega (arith, two, x, z)

    on : iterate m board revoked (ran s (k - trapped) trapped) ≡ ran last (k + m - (trapped + b)) (trapped + b)
    on =
        let e : k - trapped + 0 ≡ k - trapped = omega arith in
        let f : trapped + 0 ≡ trapped = omega arith in
        let g : k - trapped + a ≡ k + m - (trapped + b) = omega (arith, counts, r.few_trapped) in
        let add = rw (e, f, ← ran_on) at (counts_add m s (k - trapped) trapped 0 0) in
        add ∙ ap (λ (x : ℕ). ran last x (trapped + b)) g

    -- all entries are dropped
    pub way_rest : (keys' : List ℕ) (base' limit' : ℕ) → ((j : ℕ) → j < entries → get_or keys' j 0 ≡ 0) → Calm base' (k + m) limit' last.regs
        → Running board revoked n s₀ w₀ last code keys' rows low high base' limit' watch' (trapped + b) (k + m)
    way_rest keys' base' limit' none c =
        let split : m + (n - (k + m)) ≡ n - k = omega (arith, room) in
        let at : (iterate m board revoked (ran s 0 0)).at ≡ last = sym (ap (λ (x : Ran). x.at) ran_on) in
        record {
          in_run = omega (arith, room, some);
          few_trapped = omega (arith, r.few_trapped, counts);
          whole_file = same-file ∙ r.whole_file;
          code_long = r.code_long;
          entries_hold = entries_none board.start last.mem low high keys' code none;
          reach_holds = rw same_memory r.reach_holds;
          calm_holds = c;
          runs =
              ap (λ (x : Ran). iterate (n - (k + m)) board revoked x) (sym on)
              ∙ sym (run_split board revoked m (n - (k + m)) (ran s (k - trapped) trapped)) ∙ rw split r.runs;
          watches =
              ap (λ (w : Watch). watched_by (n - (k + m)) board revoked last w) watched
              ∙ sym (rw (at, split) at (watch_split m (n - (k + m)) s 0 0 watch)) ∙ r.watches;
        }

    -- one that trapped leaves them
    pub way_plainly : n < 2 ^ 32 → board.start % granule_bytes ≡ 0 → (alone : Bool) → (alone ≡ true → (m ≡ 1) × (b ≡ 0 → ⊥))
        → (keys' : List ℕ) (base' limit' : ℕ) → ClearedUnless alone keys keys' → Calm base' (k + m) limit' last.regs
        → Running board revoked n s₀ w₀ last code keys' rows low high base' limit' watch' (trapped + b) (k + m)
    way_plainly fits aligned false told keys' base' limit' none c = way_rest keys' base' limit' none c
    way_plainly fits aligned true told keys' base' limit' same c =
        let (one, some-trapped) = told refl in
        let ran-one : ran last a b ≡ iterate 1 board revoked (ran s 0 0) = rw one at ran_on in
        let watched-one : watch' ≡ watched_by 1 board revoked s watch = rw one at watched in
        let calm-one : Calm base' (k + 1) limit' last.regs = rw one at c in
        let there =
        way_plain board revoked n s₀ w₀ s code keys rows low high base limit watch trapped k r (omega (arith, room, some)) fits aligned last a b watch'
        true keys' base' limit' ran-one watched-one (λ e. some-trapped) same calm-one in
        rw one there
