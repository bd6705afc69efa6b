-- A step keeps every closed property of all that stands in a state. Being sound and derived from the start is one: so no step gains authority, and, one after
-- another, no run and no calls do. Document 02, 9. Assumes nothing.
use mathlib.Core.Path.{◌≡◌, refl, ap, ◌∙◌}
use mathlib.Core.Logic.{◌⊎◌, inl, inr}
use mathlib.Core.Bool.{Bool, true, false, cond}
use mathlib.Core.List.{List}
use Prim.Native.Nat.{ℕ, zero, suc, ◌*◌, ◌/◌, ◌<◌}
use native.Mathlib.Omega.{arith}
use lib.Dec.{eqb}
use lib.ListN.{length}
use borrow.Author.Tests.{eqb-true}
use Rattle.words.specs.Words.{bit_at}
use Rattle.capability.specs.Capability.{Good}
use Rattle.capability.specs.declared.Capability.{Capability}
use Rattle.capability_laws.proofs.Derived.{inside_refl, inside_trans}
use Rattle.instructions.specs.Decode.{decode_of}
use Rattle.state.specs.Registers.{capability_at}
use Rattle.state.specs.Lent.{State, state}
use Rattle.state.specs.Memory.{capability_in, granule_bytes}
use Rattle.state.specs.Effects.{stored_by, OneGranule, EachCapability}
use Rattle.state.specs.Fits.{FitsRegisters}
use Rattle.state.specs.declared.Board.{Board}
use Rattle.commit.specs.Commit.{apply_effect}
use Rattle.commit.proofs.Views.{each_stored}
use Rattle.execution.specs.Step.{seen, effect_at, step_of, length_in, fetched_in}
use Rattle.std.specs.Prelude.{Result}
use Rattle.machine.specs.Refusals.{refusal_of}
use Rattle.machine.specs.Run.{step_refusal, step_after, Ran, ran, one_more, iterate, run_after}
use Rattle.machine.specs.Watching.{WatchPromise}
use Rattle.machine.specs.declared.answers.Refusal.{Refusal}
use Rattle.machine.specs.declared.answers.Counts.{Counts}
use Rattle.watch.specs.declared.Watch.{Watch}
use Rattle.bench_api.specs.Watches.{WatchPacked}
use Rattle.sweep.specs.Visits.{tags_after}
use Rattle.sweep.proofs.Laws.{stored_tag, stored_alike, tag_falls, bytes_stay}
use Rattle.machine_laws.specs.Fits.{InType}
use Rattle.machine_laws.specs.Lent.{Sound, GoodState}
use Rattle.machine_laws.specs.Steps.{length_at, standing_at, word_at}
use Rattle.machine_laws.proofs.Refusals.{good_for, good_of}
use Rattle.machine_laws.proofs.Fetch.{fetched_holds, next_within}
use Rattle.machine_laws.proofs.Kept.{good_after, lengths_stay}
use Rattle.machine_laws.proofs.Stores.{store_changes_only}
use Rattle.machine_laws.proofs.Fits.{next_fits, in_type_stays, step_in_type, run_in_type}
use Rattle.authority_laws.specs.Gain.{Stands, in_register, in_granule, Held, SoundState, Start, Derived, NoGain}
use Rattle.authority_laws.specs.Gain.{Reached, at_start, by_step, by_run, by_c_step, by_c_run, by_visit, by_c_visit, Unwritten, AuthorityClaim}
use Rattle.authority_laws.proofs.Closed.{Closed, Carried, carried_of, Everywhere}
use Rattle.authority_laws.proofs.Effects.{effect_carried}
use Rattle.authority_laws.proofs.Registers.{files_left}
use Rattle.authority_laws.proofs.Memory.{granules_after}

-- ---- a closed property

-- a step keeps it where the effect's capabilities have it
pub carried_keeps : (P : Capability → Type 0) → Carried P → (board : Board) (revoked : List ℕ) (s : State) → GoodState board revoked s → InType s
    → EachCapability P (effect_at board revoked s) → Everywhere P s → Everywhere P (step_of board revoked s)
unfolding step_of apply_effect
carried_keeps P closed board revoked s good t carried h =
    let start = good.memory.start_aligned in
    let fits : FitsRegisters s.regs = record { words = t.registers_in; tags = good.words.tag_words } in
    let e = effect_at board revoked s in
    record {
      registers = files_left P closed board.start (length_in (fetched_in board s)) e s.regs carried h.registers;
      memory =
          granules_after s (step_of board revoked s) P closed (lengths_stay board revoked s).same_memory h.memory (stored_by e)
          (store_changes_only board revoked s good) (next_within board revoked s start)
          (each_stored Good e (next_fits board revoked s fits t.memory_in).0) (each_stored P e carried);
    }

pub step_keeps : (P : Capability → Type 0) → Closed P → (board : Board) (revoked : List ℕ) (s : State) → GoodState board revoked s → InType s
    → Everywhere P s → Everywhere P (step_of board revoked s)
step_keeps P closed board revoked s good t h =
    let start = good.memory.start_aligned in
    let fits : FitsRegisters s.regs = record { words = t.registers_in; tags = good.words.tag_words } in
    let carries = carried_of P closed in
    carried_keeps P carries board revoked s good t
    (fetched_holds (EachCapability P) board revoked s (λ n v. tt)
    (effect_carried P carries s.regs fits h.registers (seen board revoked s) start h.memory (λ c r f p. closed.derived f p)
    (length_at board s) (decode_of (word_at board s)) (standing_at board s)))
    h

-- ---- authority as a closed property

-- where it is tagged, it is sound and derived from what s holds
abbrev Grounded : State → Capability → Type 0
Grounded s c = c.tag ≡ 1 → Sound c × Derived s c

grounded_closed : (s : State) → Closed (Grounded s)
grounded_closed s =
    record {
      untagged = λ c h t. absurd (omega arith);
      derived = λ {c} {r} f h t.
          let x = h (f.of_tagged t) in
          let y = f.of_sound t x.0 in
          (y.0, record { origin = x.1.origin; is_held = x.1.is_held; is_inside = inside_trans x.1.origin c r x.1.is_inside y.1 });
    }

-- each capability of a sound state is derived from itself
itself : (s : State) → SoundState s → (c : Capability) → Stands s c → Grounded s c
itself s h c p t =
    let k : Held s c = record { stands = p; is_tagged = t } in
    (h c k, record { origin = c; is_held = k; is_inside = inside_refl c })

-- a granule by its number and by its place
pub at_granule : (size g : ℕ) → g < size / granule_bytes → OneGranule (g * granule_bytes) granule_bytes size
at_granule size g l = record { some = omega arith; inside = omega arith; together = omega arith }

pub in_place : (s : State) (i : ℕ) → OneGranule i granule_bytes (length s.mem) → Stands s (capability_in s.mem s.tags i)
in_place s i w =
    let e : i / granule_bytes * granule_bytes ≡ i = omega (arith, w.together) in
    in_granule (i / granule_bytes) (omega (arith, w.inside)) (rw e)

started : (board : Board) (revoked : List ℕ) (s : State) → GoodState board revoked s → SoundState s → Everywhere (Grounded s) s
started board revoked s good h =
    record {
      registers = record { long = omega (arith, good.registers); file = λ i l. itself s h (capability_at s.regs i) (in_register i l refl) };
      memory = λ i w. itself s h (capability_in s.mem s.tags i) (in_place s i w);
    }

ended : (s a : State) → Everywhere (Grounded s) a → NoGain s a
ended s a e = record { derived = λ c k. (at c k.stands k.is_tagged).1; sound = λ c k. (at c k.stands k.is_tagged).0 }
  where
    at : (c : Capability) → Stands a c → Grounded s c
    at c (in_register i l q) = rw q (e.registers.file i l)
    at c (in_granule g l q) = rw q (e.memory (g * granule_bytes) (at_granule (length a.mem) g l))

-- ---- one after another

-- what changes nothing gains nothing
pub gain_none : {s : State} → SoundState s → NoGain s s
gain_none {s} h = record { derived = λ c k. (itself s h c k.stands k.is_tagged).1; sound = h }

-- what is gained neither from a to b nor from b to c is not gained from a to c
pub gain_both : {a b c : State} → NoGain a b → NoGain b c → NoGain a c
gain_both p q =
    record {
      derived = λ x k.
          let y = q.derived x k in
          let z = p.derived y.origin y.is_held in
          record { origin = z.origin; is_held = z.is_held; is_inside = inside_trans z.origin y.origin x z.is_inside y.is_inside };
      sound = q.sound;
    }

module _ (board : Board) (revoked : List ℕ) where
  -- n steps of good buffers
  pub steps_gain_none : (n : ℕ) (r : Ran) → GoodState board revoked r.at → Start r.at → NoGain r.at (iterate n board revoked r).at
  unfolding iterate one_more
  steps_gain_none zero r good h = gain_none h.sound
  steps_gain_none (suc n) r good h =
      let s = r.at in
      let a = step_of board revoked s in
      let g : NoGain s a =
      ended s a (step_keeps (Grounded s) (grounded_closed s) board revoked s good h.in_type (started board revoked s good h.sound)) in
      gain_both g (steps_gain_none n (one_more board revoked r) (good_after board revoked s good)
      (record { in_type = in_type_stays board revoked s good.words.tag_words h.in_type; sound = g.sound }))

  -- a call that is refused changes nothing
  called : {s a : State} (refusal : ℕ) → SoundState s → (refusal ≡ 0 → NoGain s a) → NoGain s (cond (eqb refusal 0) a s)
  called {s} {a} refusal h f = go (eqb refusal 0) refl
    where
      go : (b : Bool) → eqb refusal 0 ≡ b → NoGain s (cond b a s)
      go true q = f (eqb-true refusal 0 q)
      go false q = gain_none h

  -- the public step and the public run, whatever they answer
  pub step_gains_none : (s : State) → Start s → NoGain s (step_after board revoked s)
  unfolding step_after iterate one_more
  step_gains_none s h =
      called (step_refusal board revoked s) h.sound (λ q. steps_gain_none 1 (ran s 0 0) (good_of board revoked s q) h)

  pub run_gains_none : (n : ℕ) (s : State) → Start s → NoGain s (run_after n board revoked s)
  unfolding run_after
  run_gains_none n s h = called (refusal_of n board revoked s) h.sound (λ q. steps_gain_none n (ran s 0 0) (good_for board revoked s n q) h)

-- two states are the same where their buffers are
pub same_state : (a b : State) → a.regs ≡ b.regs → a.mem ≡ b.mem → a.tags ≡ b.tags → a ≡ b
same_state a b p q r =
    ap (λ (x : List ℕ). state x a.mem a.tags) p
    ∙ (ap (λ (x : List ℕ). state b.regs x a.tags) q ∙ ap (λ (x : List ℕ). state b.regs b.mem x) r)

-- what calls have left so far, from a start s
abbrev Kept : (s a : State) → Type 0
Kept s a = NoGain s a × Start a

module _ {s b : State} (k : Kept s b) (board : Board) (revoked : List ℕ) (a : State) where
  kept_by_step : a ≡ step_after board revoked b → Kept s a
  kept_by_step e =
      let g = gain_both k.0 (step_gains_none board revoked b k.1) in
      rw e (g, record { in_type = step_in_type board revoked b k.1.in_type; sound = g.sound })

  kept_by_run : (n : ℕ) → a ≡ run_after n board revoked b → Kept s a
  kept_by_run n e =
      let g = gain_both k.0 (run_gains_none board revoked n b k.1) in
      rw e (g, record { in_type = run_in_type board revoked b k.1.in_type n; sound = g.sound })

-- ---- a visit of the sweeper

-- where registers and memory stay and tags stay or go, what is held was held
module _ (b a : State) (same : Unwritten b a) (falls : (g : ℕ) → (bit_at a.tags g ≡ bit_at b.tags g) ⊎ (bit_at a.tags g ≡ 0)) where
  was_held : (c : Capability) → Held a c → Held b c
  was_held c k = record { stands = at k.stands; is_tagged = k.is_tagged }
    where
      stayed : (g : ℕ) → c ≡ capability_in a.mem a.tags (g * granule_bytes) → (bit_at a.tags g ≡ bit_at b.tags g) ⊎ (bit_at a.tags g ≡ 0)
          → c ≡ capability_in b.mem b.tags (g * granule_bytes)
      stayed g q (inl e) = rw same.same_memory at (q ∙ stored_alike a.mem g a.tags b.tags e)
      stayed g q (inr e) =
          absurd (omega (arith, k.is_tagged, ap (λ (x : Capability). x.tag) q, stored_tag a.mem g a.tags, e))

      at : Stands a c → Stands b c
      at (in_register i l q) = in_register i l (q ∙ ap (λ (r : List ℕ). capability_at r i) same.same_registers)
      at (in_granule g l q) = in_granule g (rw same.same_memory at l) (stayed g q (falls g))

  pub falls_gain_none : SoundState b → NoGain b a
  falls_gain_none h =
      record { derived = λ c k. (itself b h c (was_held c k).stands k.is_tagged).1; sound = λ c k. h c (was_held c k) }

kept_by_visit : {s b : State} → Kept s b → (board : Board) (revoked : List ℕ) (a : State) (g : ℕ) → Unwritten b a
    → a.tags ≡ tags_after board revoked b.mem b.tags g → Kept s a
kept_by_visit {s} {b} k board revoked a g same left =
    let fallen = falls_gain_none b a same (tag_falls board revoked b.mem b.tags g a.tags left) k.1.sound in
    let in_type = k.1.in_type in (
      gain_both k.0 fallen,
      record {
        in_type = record {
          registers_in = rw same.same_registers in_type.registers_in;
          memory_in = rw same.same_memory in_type.memory_in;
          tags_in = bytes_stay board revoked b.mem b.tags g a.tags left in_type.tags_in;
        };
        sound = fallen.sound;
      },
    )

-- all calls together; what they leave can start again
pub reached_gains_none : (s a : State) → Start s → Reached s a → NoGain s a × Start a
reached_gains_none s a h at_start = (gain_none h.sound, h)
reached_gains_none s a h (by_step {b} board revoked answer r p) =
    kept_by_step (reached_gains_none s b h r) board revoked a (same_state a _ p.registers_are p.memory_is p.tags_are)
reached_gains_none s a h (by_run {b} n board revoked answer r p) =
    kept_by_run (reached_gains_none s b h r) board revoked a n (same_state a _ p.registers_are p.memory_is p.tags_are)
reached_gains_none s a h (by_c_step {b} board revoked answer r p) =
    kept_by_step (reached_gains_none s b h r) board revoked a (same_state a _ p.registers_are p.memory_is p.tags_are)
reached_gains_none s a h (by_c_run {b} n board revoked answer r p) =
    kept_by_run (reached_gains_none s b h r) board revoked a n (same_state a _ p.registers_are p.memory_is p.tags_are)
reached_gains_none s a h (by_visit {b} g board revoked answer r same p) =
    kept_by_visit (reached_gains_none s b h r) board revoked a g same p.tags_are
reached_gains_none s a h (by_c_visit {b} g board revoked answer r same p) =
    kept_by_visit (reached_gains_none s b h r) board revoked a g same p.tags_are

-- A run with a watch record, of the machine or for C, is one of these calls: its promise has a run's.
module _ (s b a : State) (n : ℕ) (board : Board) (revoked : List ℕ) (reached : Reached s b) where
  pub by_watched : (w left : Watch) (answer : Result Counts Refusal) → WatchPromise n board revoked b a w left answer → Reached s a
  by_watched w left answer p = by_run n board revoked answer reached p.run_is

  pub by_c_watched : (w : Watch) (count1 count2 answer : ℕ) → WatchPacked n board revoked b a w count1 count2 answer → Reached s a
  by_c_watched w count1 count2 answer p = by_c_run n board revoked answer reached p.run_is

-- no run gains authority
pub authority_claim : (s : State) → Start s → AuthorityClaim s
authority_claim s h =
    record {
      after_steps = λ n board revoked good. steps_gain_none board revoked n (ran s 0 0) (good_of board revoked s good) h;
      after_calls = λ a r. (reached_gains_none s a h r).0;
    }
