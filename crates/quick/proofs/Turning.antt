-- One way round the loop: a step of the machine, made by a turn or plainly, keeps what the loop keeps. Assumes nothing.
use Rattle.std.proofs.Common.{◌≡◌, ℕ, zero, suc, ◌+◌, ◌-◌, ◌*◌, ◌%◌, ◌^◌, ◌<◌, ◌≤◌, Bool, true, false, cond, List, length, get_or, set, replicate, sym}
use Rattle.std.proofs.Common.{Option, None, Ok}
use Rattle.std.proofs.Common.{refl, ap, ◌∙◌, subst, arith, length-set, ne_eqb}
use Rattle.watch.specs.declared.Watch.{Watch}
use Rattle.capability.specs.declared.Capability.{Capability}
use Rattle.operations.specs.declared.Operation.{Operation}
use Rattle.state.specs.Layout.{register_words, compare_index}
use Rattle.state.specs.Registers.{pcc_of}
use Rattle.state.specs.Memory.{granule_bytes}
use Rattle.state.specs.Timer.{compare_of, interrupted}
use Rattle.state.specs.Lent.{State}
use Rattle.state.specs.Effects.{Stored, nothing, bytes, whole, stored_by, Within}
use Rattle.state.specs.declared.Board.{Board}
use Rattle.state.specs.declared.Effect.{Effect}
use Rattle.commit.specs.Commit.{memory_after, apply_effect, retires}
use Rattle.commit.specs.Kept.{watch_after, kept_after}
use Rattle.commit.specs.declared.Kept.{Kept}
use Rattle.commit.proofs.Views.{trap_alone}
use Rattle.commit.proofs.Lengths.{applied_long}
use Rattle.execution.specs.Step.{word_in, effect_at, step_of}
use Rattle.machine.specs.Run.{Ran, ran, iterate, one_more}
use Rattle.machine.specs.Watching.{watch_step, watched_by}
use Rattle.machine.proofs.Watching as machine
use Rattle.machine_laws.proofs.Fetch.{next_within}
use Rattle.quick.specs.Rows.{Good}
use Rattle.quick.specs.Turns.{pcc_at, Stands, StoredAt, MayStore, Done}
use Rattle.quick.specs.Steady.{Steady, SteadyIf, TurnedBy}
use Rattle.quick.specs.Entries.{entries, absent, slot_of, slot_at, there_of, key_of, Entry, Entries, FoundAt, forgotten, ClearedUnless}
use Rattle.quick.specs.Entries.{Quiet, Calm, noted_at}
use Rattle.quick.specs.Running.{Running}
use Rattle.quick.specs.Turns.{Took, is_done, said}
use Rattle.quick.specs.declared.Store.{Store}
use Rattle.quick.specs.declared.Found.{Found}
use Rattle.quick.proofs.Standing.{not_due, calm_after, effect_there, step_there, key_splits, pcc_of_words}
use Rattle.quick.proofs.Forget.{entries_after, entries_cleared, entries_put}

abbrev pub kept : (trapped : ℕ) → Watch → Kept
kept trapped w = record { trapped = trapped; watch = w }

-- ---- the step

module _ (board : Board) (revoked : List ℕ) (n : ℕ) (s₀ : State) (w₀ : Watch) (s after : State) (code : List Found) (keys rows : List ℕ)
    (low high base limit : ℕ) (watch : Watch) (trapped k : ℕ) (r : Running board revoked n s₀ w₀ s code keys rows low high base limit watch trapped k)
    (more : k < n) (fits : n < 2 ^ 32) (stepped : after ≡ step_of board revoked s) where
  pub memory_long : length after.mem ≡ length s.mem
  unfolding step_of
  memory_long = rw stepped (applied_long _ _ _ s).same_memory

  file_long : length after.regs ≡ length s.regs
  unfolding step_of
  file_long = rw stepped (applied_long _ _ _ s).same_registers

  pub running_on : (trapped' : ℕ) (watch' : Watch) (keys' rows' : List ℕ) (base' limit' : ℕ)
      → kept trapped' watch' ≡ kept_after board.start (effect_at board revoked s) (kept trapped watch)
      → Entries board.start after.mem low high keys' code → Good board.start (length s.mem) rows' → Calm base' (k + 1) limit' after.regs
      → Running board revoked n s₀ w₀ after code keys' rows' low high base' limit' watch' trapped' (k + 1)
  running_on trapped' watch' keys' rows' base' limit' counted e g c = record {
    in_run = omega (arith, more);
    few_trapped = machine.turn_few board n k revoked s after (kept trapped watch) (kept trapped' watch') more r.few_trapped fits stepped counted;
    whole_file = file_long ∙ r.whole_file;
    code_long = r.code_long;
    entries_hold = e;
    reach_holds = rw memory_long g;
    calm_holds = c;
    runs = machine.turn_counts board n k revoked s after (kept trapped watch) (kept trapped' watch') more r.few_trapped fits stepped counted ∙ r.runs;
    watches =
        machine.turn_watches board n k revoked s after (kept trapped watch) (kept trapped' watch') more r.few_trapped fits stepped counted ∙ r.watches;
  }

-- ---- what a turn that is done counts and records

noted_is : (x : Stored) (size start : ℕ) (o : Option Store) (w : Watch) → Within size x → StoredAt x o → noted_at w start o ≡ watch_after start x w
noted_is nothing size start o w h e = rw e refl
noted_is (bytes n i v) size start o w h e = rw e refl
noted_is (whole i v) size start o w h e = rw e refl

pub done_counts : (start : ℕ) (o : Option Store) (trapped size : ℕ) (w : Watch) (e : Effect) → retires e ≡ true → Within size (stored_by e)
    → StoredAt (stored_by e) o
    → kept trapped (noted_at w start o) ≡ kept_after start e (kept trapped w)
unfolding kept_after
done_counts start o trapped size w e r h a = rw (r, noted_is (stored_by e) size start o w h a) refl

may_store : (x : Stored) (o : Option Store) → StoredAt x o → MayStore x o
may_store nothing o h = tt
may_store (bytes n i v) o h = h
may_store (whole i v) o h = h

-- ---- a turn at an entry

module _ (board : Board) (revoked : List ℕ) (s after : State) (low high j key n : ℕ) (op : Operation) (t : Took)
    (entry : Entry board.start s.mem low high j key n op) (long : length s.regs ≡ register_words)
    (pcc : pcc_of s.regs ≡ pcc_at entry.word entry.address) (due : interrupted s.regs ≡ false)
    (turned : TurnedBy board revoked op n s after t) where
  stands : Stands s.regs entry.word entry.address n
  stands = record { long = long; pcc_is = pcc; even = entry.decoded.is_open.is_even; goes_on = entry.decoded.goes_on }

  abbrev e : Effect
  e = effect_at board revoked s

  told : Done (is_done t) board.start n e s after (said t) × SteadyIf (is_done t) s.regs after.regs
  told =
      rw (effect_there board revoked s entry.word entry.address n entry.instruction pcc due entry.decoded)
      (turned entry.instruction (word_in (there_of board.start s.mem entry.address)) entry.word entry.address entry.means stands)

  stepped_as : after ≡ apply_effect board.start n e s → after ≡ step_of board revoked s
  stepped_as h = h ∙ sym (step_there board revoked s entry.word entry.address n entry.instruction pcc due entry.decoded)

  pub turn_done : is_done t ≡ true
      → (after ≡ step_of board revoked s) × (retires e ≡ true) × StoredAt (stored_by e) (said t) × Steady s.regs after.regs
  turn_done h =
      let d = subst (λ b. Done b board.start n e s after (said t) × SteadyIf b s.regs after.regs) h told in
      (stepped_as d.0.0, d.0.1, d.0.2, d.1)

  pub turn_left : is_done t ≡ false → (after ≡ s) × MayStore (stored_by e) (said t)
  turn_left h = (subst (λ b. Done b board.start n e s after (said t) × SteadyIf b s.regs after.regs) h told).0

  pub turn_may : is_done t ≡ true → MayStore (stored_by e) (said t)
  turn_may h = may_store (stored_by e) (said t) (turn_done h).2

-- ---- a plain step

pub plain_step : (board : Board) (revoked : List ℕ) (s after : State) (r t : ℕ) → ran after r t ≡ iterate 1 board revoked (ran s 0 0)
    → (after ≡ step_of board revoked s) × (t ≡ cond (retires (effect_at board revoked s)) 0 1)
unfolding iterate one_more
plain_step board revoked s after r t h =
    let z : ◌≡◌ {A = ℕ} (0 + cond (retires (effect_at board revoked s)) 0 1) (cond (retires (effect_at board revoked s)) 0 1) = omega arith in
    (ap (λ (x : Ran). x.at) h, ap (λ (x : Ran). x.trapped) h ∙ z)

pub plain_counts : (board : Board) (revoked : List ℕ) (s : State) (trapped t : ℕ) (w left : Watch) → trapped < 4294967295
    → t ≡ cond (retires (effect_at board revoked s)) 0 1 → left ≡ watched_by 1 board revoked s w
    → kept (trapped + t) left ≡ kept_after board.start (effect_at board revoked s) (kept trapped w)
unfolding kept_after watched_by
plain_counts board revoked s trapped t w left small e f = go (retires (effect_at board revoked s)) refl
  where
    go : (b : Bool) → retires (effect_at board revoked s) ≡ b
        → kept (trapped + t) left
        ≡ record { trapped = cond (retires (effect_at board revoked s)) trapped ((trapped + 1) % 2 ^ 32); watch = watch_step board revoked s w }
    go true h = let z : trapped + t ≡ trapped = omega (arith, rw h at e) in rw (h, z, f) refl
    go false h = let z : trapped + t ≡ (trapped + 1) % 2 ^ 32 = omega (arith, small, rw h at e) in rw (h, z, f) refl

-- ---- the ways round

-- what does not retire stores nothing
trap_stores : (f : Effect) (mem : List ℕ) → (retires f ≡ true → ⊥) → memory_after (stored_by f) mem ≡ mem
trap_stores f mem h = rw (trap_alone f h).1 refl

module _ (board : Board) (revoked : List ℕ) (n : ℕ) (s₀ : State) (w₀ : Watch) (s : State) (code : List Found) (keys rows : List ℕ)
    (low high base limit : ℕ) (watch : Watch) (trapped k : ℕ) (r : Running board revoked n s₀ w₀ s code keys rows low high base limit watch trapped k)
    (more : k < n) (fits : n < 2 ^ 32) (aligned : board.start % granule_bytes ≡ 0) where
  -- what memory is after a step, and that its store is small
  abbrev does : Effect
  does = effect_at board revoked s

  within : Within (length s.mem) (stored_by does)
  within = next_within board revoked s aligned

  memory_is : (after : State) → after ≡ step_of board revoked s → after.mem ≡ memory_after (stored_by does) s.mem
  unfolding step_of apply_effect
  memory_is after h = ap (λ (x : State). x.mem) h

  kept_entries : (after : State) (o : Option Store) → after ≡ step_of board revoked s → MayStore (stored_by does) o
      → Entries board.start after.mem low high (forgotten low high board.start o keys) code
  kept_entries after o h m =
      rw (memory_is after h) (entries_after board.start s.mem low high keys code (stored_by does) o aligned within m r.entries_hold)

  -- at an entry
  module _ (i pc : ℕ) (slot : i < entries) (pc-is : pc ≡ get_or s.regs 48 0) (pc-fits : pc < 2 ^ 32)
      (ready : (k < limit) × (get_or keys i 0 ≡ base + pc)) where
    abbrev quiet : (get_or s.regs 50 0 ≡ 1) × (get_or s.regs 49 0 ≡ 0 → ⊥) × Quiet (limit - k) s.regs
    quiet = r.calm_holds.1 ready.0

    -- a key that is 0 is of the word 0
    pub here : Entry board.start s.mem low high i (get_or keys i 0) (get_or code i absent).bytes (get_or code i absent).op
    here = r.entries_hold i slot (λ z. quiet.1 (omega (arith, z, ready.1, r.calm_holds.0)))

    pcc_here : pcc_of s.regs ≡ pcc_at here.word here.address
    pcc_here =
        let key : key_of here.word here.address ≡ get_or s.regs 49 0 * 2 ^ 32 + pc =
        sym here.key_is ∙ ready.1 ∙ ap (λ (b : ℕ). b + pc) r.calm_holds.0 in
        let two = key_splits here.word here.address (get_or s.regs 49 0) pc here.decoded.address_fits pc-fits key in
        pcc_of_words s.regs here.word here.address (sym pc-is ∙ sym two.1) (sym two.0) quiet.0

    due_here : interrupted s.regs ≡ false
    due_here = not_due s.regs (limit - k) (omega (arith, ready.0)) quiet.2

    module _ (after : State) (t : Took) (turned : TurnedBy board revoked (get_or code i absent).op (get_or code i absent).bytes s after t) (rows' : List ℕ)
        (good : Good board.start (length s.mem) rows') where
      pub way_done : is_done t ≡ true → compare_of s.regs < 2 ^ 64 → (watch' : Watch) → watch' ≡ noted_at watch board.start (said t)
          → (keys' : List ℕ) → keys' ≡ forgotten low high board.start (said t) keys
          → Running board revoked n s₀ w₀ after code keys' rows' low high base limit watch' trapped (k + 1)
      way_done h far watch' w keys' f =
          let d =
          turn_done board revoked s after low high i (get_or keys i 0) (get_or code i absent).bytes (get_or code i absent).op t here r.whole_file
          pcc_here due_here turned h in
          rw f (running_on board revoked n s₀ w₀ s after code keys rows low high base limit watch trapped k r more fits d.0 trapped watch'
          (forgotten low high board.start (said t) keys) rows' base limit
          (ap (λ (x : Watch). kept trapped x) w ∙ done_counts board.start (said t) trapped (length s.mem) watch does d.1 within d.2)
          (kept_entries after (said t) d.0
          (turn_may board revoked s after low high i (get_or keys i 0) (get_or code i absent).bytes (get_or code i absent).op t here r.whole_file
          pcc_here due_here turned h))
          good (calm_after base k limit s.regs after.regs far d.3 r.calm_holds ready.0))

      -- a turn that is done and stored nothing: the entries and the record stay
      pub way_silent : t ≡ Ok None → compare_of s.regs < 2 ^ 64
          → Running board revoked n s₀ w₀ after code keys rows' low high base limit watch trapped (k + 1)
      way_silent e far = way_done (ap is_done e) far watch (rw e refl) keys (rw e refl)

      pub way_left : is_done t ≡ false → (last : State) (a b : ℕ) (watch' : Watch) (base' limit' : ℕ) → ran last a b ≡ iterate 1 board revoked (ran after 0 0)
          → watch' ≡ watched_by 1 board revoked after watch → Calm base' (k + 1) limit' last.regs
          → (keys' : List ℕ) → keys' ≡ forgotten low high board.start (said t) keys
          → Running board revoked n s₀ w₀ last code keys' rows' low high base' limit' watch' (trapped + b) (k + 1)
      way_left h last a b watch' base' limit' g w c keys' f =
          let d =
          turn_left board revoked s after low high i (get_or keys i 0) (get_or code i absent).bytes (get_or code i absent).op t here r.whole_file
          pcc_here due_here turned h in
          let p = plain_step board revoked s last a b (g ∙ ap (λ (x : State). iterate 1 board revoked (ran x 0 0)) d.0) in
          rw f (running_on board revoked n s₀ w₀ s last code keys rows low high base limit watch trapped k r more fits p.0 (trapped + b) watch'
          (forgotten low high board.start (said t) keys) rows' base' limit'
          (plain_counts board revoked s trapped b watch watch' (omega (arith, r.few_trapped, more, fits)) p.1
          (w ∙ ap (λ (x : State). watched_by 1 board revoked x watch) d.0))
          (kept_entries last (said t) p.0 d.1) good c)

  -- with no entry: a plain step of which nothing is known
  pub way_plain : (last : State) (a b : ℕ) (watch' : Watch) (alone : Bool) (keys' : List ℕ) (base' limit' : ℕ)
      → ran last a b ≡ iterate 1 board revoked (ran s 0 0)
      → watch' ≡ watched_by 1 board revoked s watch → (alone ≡ true → b ≡ 0 → ⊥) → ClearedUnless alone keys keys' → Calm base' (k + 1) limit' last.regs
      → Running board revoked n s₀ w₀ last code keys' rows low high base' limit' watch' (trapped + b) (k + 1)
  way_plain last a b watch' alone keys' base' limit' g w told-alone cleared c =
      let p = plain_step board revoked s last a b g in
      running_on board revoked n s₀ w₀ s last code keys rows low high base limit watch trapped k r more fits p.0 (trapped + b) watch'
      keys' rows base' limit' (plain_counts board revoked s trapped b watch watch' (omega (arith, r.few_trapped, more, fits)) p.1 w)
      (entries_cleared board.start s.mem low high keys code alone last.mem keys' cleared
      (λ z. memory_is last p.0 ∙ trap_stores does s.mem (λ t. told-alone z (rw t at p.1))) r.entries_hold)
      r.reach_holds c

-- a new entry, and no step
pub way_found : (board : Board) (revoked : List ℕ) (n : ℕ) (s₀ : State) (w₀ : Watch) (s : State) (code : List Found) (keys rows : List ℕ)
    (low high base limit : ℕ) (watch : Watch) (trapped k : ℕ) → Running board revoked n s₀ w₀ s code keys rows low high base limit watch trapped k
    → (i key : ℕ) (pcc : Capability) → i < entries → slot_of pcc.address ≡ slot_at i → key ≡ key_of pcc.metadata pcc.address → (f : Found)
    → FoundAt board.start s.mem pcc f → (low' high' base' : ℕ)
    → low' ≤ low → high ≤ high' → low' ≤ pcc.address - board.start → pcc.address - board.start + 4 ≤ high' → base' ≡ get_or s.regs 49 0 * 2 ^ 32
    → Running board revoked n s₀ w₀ s (set code i f) (set keys i key) rows low' high' base' limit watch trapped k
way_found board revoked n s₀ w₀ s code keys rows low high base limit watch trapped k r i key pcc slot is key_eq f found
    low' high' base' l h p q b = record {
      in_run = r.in_run;
      few_trapped = r.few_trapped;
      whole_file = r.whole_file;
      code_long = length-set code i f ∙ r.code_long;
      entries_hold =
          entries_put board.start s.mem low high low' high' keys code i key f slot r.code_long
          (record {
            word = pcc.metadata;
            address = pcc.address;
            instruction = found.stands_there;
            key_is = key_eq;
            slot_is = is;
            in_hull = (p, q);
            decoded = found.is_decoded;
            means = found.op_means;
            placed = found.op_placed;
          }) l h r.entries_hold;
      reach_holds = r.reach_holds;
      calm_holds = (b, r.calm_holds.1);
      runs = r.runs;
      watches = r.watches;
    }

pub compare_fits : (regs : List ℕ) → get_or regs compare_index 0 < 2 ^ 32 → get_or regs (compare_index + 1) 0 < 2 ^ 32 → compare_of regs < 2 ^ 64
unfolding compare_of
compare_fits regs a b = omega (arith, a, b)

-- a single step traps at most once
pub at_most_one : (board : Board) (revoked : List ℕ) (s after : State) (r t : ℕ) → ran after r t ≡ iterate 1 board revoked (ran s 0 0) → t ≤ 1
at_most_one board revoked s after r t h = go (retires (effect_at board revoked s)) (plain_step board revoked s after r t h).1
  where
    go : (b : Bool) → t ≡ cond b 0 1 → t ≤ 1
    go true e = omega (arith, e)
    go false e = omega (arith, e)

pub zeros : (n i : ℕ) → ◌≡◌ {A = ℕ} (get_or (replicate n 0) i 0) 0
zeros zero i = refl
zeros (suc n) zero = refl
zeros (suc n) (suc i) = zeros n i
