-- Two states that are alike step alike for any number of steps: registers come from what the blanked state holds, which gains no authority. Assumes nothing.
use mathlib.Core.Path.{◌≡◌, refl, sym, ◌∙◌}
use mathlib.Core.Bool.{Bool, true, false, true≢false}
use mathlib.Core.List.{List}
use Prim.Native.Nat.{ℕ, zero, suc, ◌+◌, ◌/◌, ◌%◌}
use native.Mathlib.Omega.{arith}
use Rattle.metadata.specs.Rights.{LD}
use Rattle.capability.specs.declared.Capability.{Capability}
use Rattle.capability_laws.specs.Authority.{Inside}
use Rattle.state.specs.Registers.{capability_at}
use Rattle.state.specs.Lent.{State}
use Rattle.state.specs.Memory.{granule_bytes}
use Rattle.state.specs.Effects.{Stored, nothing, bytes, whole, stored_by}
use Rattle.state.specs.declared.Board.{Board}
use Rattle.watch.specs.declared.Watch.{Watch}
use Rattle.execution.specs.Step.{effect_at, step_of}
use Rattle.machine.specs.Run.{Ran, ran, one_more, iterate, ran_from}
use Rattle.machine.specs.Watching.{watch_step, watched_by}
use Rattle.machine_laws.specs.Lent.{GoodState}
use Rattle.machine_laws.proofs.Kept.{good_after}
use Rattle.machine_laws.proofs.Fetch.{next_within}
use Rattle.machine_laws.proofs.Runs.{run_split, good_through}
use Rattle.machine_laws.proofs.Fits.{in_type_stays}
use Rattle.authority_laws.specs.Gain as Whole
use Rattle.authority_laws.specs.Gain.{Held, Start, NoGain}
use Rattle.authority_laws.proofs.Runs.{steps_gain_none}
use Rattle.secrecy_laws.specs.Outside.{Reads, StandsOutside, in_register, in_granule, HeldOutside, StartOutside, Unread, NoGainOutside}
use Rattle.secrecy_laws.specs.Outside.{TagAlike, Alike, WhereDiffered}
use Rattle.secrecy_laws.specs.Secrecy.{AlikeRuns, SameStored}
use Rattle.secrecy_laws.proofs.Steps.{RegistersUnread, next_alike, step_tag, step_where_differed, step_alike, step_stored}
use Rattle.secrecy_laws.proofs.Blank.{alike_itself, alike_turned, alike_both, held_alike, good_alike}
use Rattle.secrecy_laws.proofs.Blank.{blanked, blanked_alike, blanked_held, blanked_starts}

-- ---- where what differs lies

pub where_itself : (a b : State) → WhereDiffered a b a b
where_itself a b = record { byte = λ i h. h; granule = λ g h. h; settled = λ g h. h }

pub where_both : (a b x y u v : State) → WhereDiffered a b x y → WhereDiffered x y u v → WhereDiffered a b u v
where_both a b x y u v p q =
    record {
      byte = λ i h. q.byte i (p.byte i h);
      granule = λ g h. q.granule g (p.granule g h);
      settled = λ g h. q.settled g (p.settled g h);
    }

-- what was stored stays the same
pub stored_stays : (a b x y : State) → WhereDiffered a b x y → (v : Stored) → SameStored v a b → SameStored v x y
stored_stays a b x y w nothing h = tt
stored_stays a b x y w (bytes width j value) h = (λ i l u. w.byte i (h.0 i l u), w.settled (j / granule_bytes) h.1)
stored_stays a b x y w (whole j value) h = w.granule (j / granule_bytes) h

-- ---- a state of which nothing held at all may read what is hidden

-- what is derived from a capability reads no more
pub reads_origin : (o c : Capability) (address : ℕ) → Inside o c → Reads c address → Reads o address
reads_origin o c address inside r =
    record {
      loads = inside.no_right LD r.loads;
      from = omega (arith, inside.region.from, r.from);
      to = omega (arith, inside.region.to, r.to);
    }

abbrev pub AllUnread : (hidden : ℕ → Bool) → State → (start : ℕ) → Type 0
AllUnread hidden t start = (c : Capability) → Held t c → (i : ℕ) → hidden (i / granule_bytes) ≡ true → Reads c (start + i) → ⊥

all_stays : (hidden : ℕ → Bool) (b a : State) (start : ℕ) → NoGain b a → AllUnread hidden b start → AllUnread hidden a start
all_stays hidden b a start g unread c held i h r =
    let d = g.derived c held in
    unread d.origin d.is_held i h (reads_origin d.origin c (start + i) d.is_inside r)

module _ (hidden : ℕ → Bool) (board : Board) (revoked : List ℕ) where
  -- good, sound, and nothing held may read what is hidden
  pub record Shut (t : State) : Type 0 where
    pub good : GoodState board revoked t
    pub starts : Start t
    pub unread : AllUnread hidden t board.start

  shut_after : (t : State) → Shut t → Shut (step_of board revoked t)
  unfolding iterate one_more
  shut_after t h =
      let g = steps_gain_none board revoked 1 (ran t 0 0) h.good h.starts in
      record {
        good = good_after board revoked t h.good;
        starts = record { in_type = in_type_stays board revoked t h.good.words.tag_words h.starts.in_type; sound = g.sound };
        unread = all_stays hidden t (step_of board revoked t) board.start g h.unread;
      }

  shut_registers : (t : State) → Shut t → RegistersUnread hidden t board.start
  shut_registers t h k l tagged i x r =
      h.unread (capability_at t.regs k) (record { stands = Whole.in_register k l refl; is_tagged = tagged }) i x r

  -- ---- a state whose registers, from here on, may read nothing hidden

  -- nothing is hidden at all; or the state is alike one that is shut. Memory starts at a granule either way
  pub data Clear (s : State) : Type 0 where
    none_hidden : board.start % granule_bytes ≡ 0 → ((g : ℕ) → hidden g ≡ false) → Clear s
    beside : (t : State) → Shut t → Alike hidden s t → Clear s

  clear_aligned : (s : State) → Clear s → board.start % granule_bytes ≡ 0
  clear_aligned s (none_hidden aligned f) = aligned
  clear_aligned s (beside t h alike) = h.good.memory.start_aligned

  clear_registers : (s : State) → Clear s → RegistersUnread hidden s board.start
  clear_registers s (none_hidden aligned f) = λ k l t i h r. true≢false (sym h ∙ f (i / granule_bytes))
  clear_registers s (beside t h alike) = rw alike.same_registers (shut_registers t h)

  clear_after : (s : State) → Clear s → Clear (step_of board revoked s)
  clear_after s (none_hidden aligned f) = none_hidden aligned f
  clear_after s (beside t h alike) =
      beside (step_of board revoked t) (shut_after t h) (step_alike hidden board revoked s t alike (shut_registers t h))

  pub clear_alike : (a b : State) → Alike hidden a b → Clear a → Clear b
  clear_alike a b alike (none_hidden aligned f) = none_hidden aligned f
  clear_alike a b alike (beside t h k) = beside t h (alike_both hidden (alike_turned hidden alike) k)

  clear_through : (n : ℕ) (r : Ran) → Clear r.at → Clear (iterate n board revoked r).at
  unfolding iterate one_more
  clear_through zero r h = h
  clear_through (suc n) r h = clear_through n (one_more board revoked r) (clear_after r.at h)

  -- ---- two that are alike, one of them clear

  module _ (a b : State) (alike : Alike hidden a b) (clear : Clear b) where
    pub next_clear : effect_at board revoked a ≡ effect_at board revoked b
    next_clear = next_alike hidden board revoked a b alike (clear_registers b clear)

    step_clear : Alike hidden (step_of board revoked a) (step_of board revoked b)
    step_clear = step_alike hidden board revoked a b alike (clear_registers b clear)

    where_clear : WhereDiffered a b (step_of board revoked a) (step_of board revoked b)
    where_clear =
        step_where_differed hidden board revoked a b alike (clear_registers b clear)
        (rw next_clear at (next_within board revoked a (clear_aligned b clear)))

    tag_clear : (g : ℕ) → TagAlike g a b → TagAlike g (step_of board revoked a) (step_of board revoked b)
    tag_clear = step_tag hidden board revoked a b alike (clear_registers b clear)

    stored_clear : GoodState board revoked a → SameStored (stored_by (effect_at board revoked a)) (step_of board revoked a) (step_of board revoked b)
    stored_clear good =
        let w = next_within board revoked a good.memory.start_aligned in
        rw next_clear
        (step_stored hidden board revoked a b alike (clear_registers b clear) (omega (arith, good.bits.tag_bytes, good.memory.blocks)) (rw next_clear at w))

  runs_clear : (n : ℕ) (r q : Ran) → Clear q.at → r.retired ≡ q.retired → r.trapped ≡ q.trapped → Alike hidden r.at q.at
      → AlikeRuns hidden board revoked r.at q.at (iterate n board revoked r) (iterate n board revoked q)
  unfolding iterate one_more
  runs_clear zero r q h x y alike =
      record {
        same_retired = x;
        same_trapped = y;
        alike = alike;
        same_next = next_clear r.at q.at alike h;
        where_differed = where_itself r.at q.at;
        tags_where_differed = λ g e. e;
      }
  runs_clear (suc n) r q h x y alike =
      let e = next_clear r.at q.at alike h in
      let k =
      runs_clear n (one_more board revoked r) (one_more board revoked q) (clear_after q.at h) (rw (x, e)) (rw (y, e)) (step_clear r.at q.at alike h) in
      record {
        same_retired = k.same_retired;
        same_trapped = k.same_trapped;
        alike = k.alike;
        same_next = k.same_next;
        where_differed = where_both r.at q.at _ _ _ _ (where_clear r.at q.at alike h) k.where_differed;
        tags_where_differed = λ g t. k.tags_where_differed g (tag_clear r.at q.at alike h g t);
      }

  -- their watch records
  pub watched_clear : (n : ℕ) (a b : State) → Alike hidden a b → Clear b → (w : Watch) → watched_by n board revoked a w ≡ watched_by n board revoked b w
  unfolding watched_by
  watched_clear zero a b alike h w = refl
  watched_clear (suc n) a b alike h w =
      rw (next_clear a b alike h)
      (watched_clear n (step_of board revoked a) (step_of board revoked b) (step_clear a b alike h) (clear_after b h) (watch_step board revoked b w))

  module _ (a b : State) (alike : Alike hidden a b) (clear : Clear b) where
    pub steps_clear : (n : ℕ) → AlikeRuns hidden board revoked a b (ran_from n board revoked a) (ran_from n board revoked b)
    steps_clear n = runs_clear n (ran a 0 0) (ran b 0 0) clear refl refl alike

    -- what a step stored is the same in both after it, and from then on
    pub stored_clear_on : GoodState board revoked a → (n m : ℕ)
        → SameStored (stored_by (effect_at board revoked (ran_from n board revoked a).at))
        (ran_from (n + suc m) board revoked a).at (ran_from (n + suc m) board revoked b).at
    unfolding iterate one_more
    stored_clear_on good n m =
        let r = ran_from n board revoked a in
        let q = ran_from n board revoked b in
        let k = steps_clear n in
        let h = clear_through n (ran b 0 0) clear in
        let e = next_clear r.at q.at k.alike h in
        let rest =
        runs_clear m (one_more board revoked r) (one_more board revoked q) (clear_after q.at h) (rw (k.same_retired, e)) (rw (k.same_trapped, e))
        (step_clear r.at q.at k.alike h) in
        rw (run_split board revoked n (suc m) (ran a 0 0), run_split board revoked n (suc m) (ran b 0 0))
        (stored_stays _ _ _ _ rest.where_differed (stored_by (effect_at board revoked r.at))
        (stored_clear r.at q.at k.alike h (good_through board revoked n (ran a 0 0) good)))

-- ---- beside its own blanked state

module _ (hidden : ℕ → Bool) where
  -- what a state alike holds outside, the blanked state holds
  held_whole : (a t : State) → Alike hidden a t → (c : Capability) → HeldOutside hidden a c → Held t c
  held_whole a t alike c k = let m = held_alike hidden a t alike c k in record { stands = at m.stands; is_tagged = m.is_tagged }
    where
      at : StandsOutside hidden t c → Whole.Stands t c
      at (in_register i l q) = Whole.in_register i l q
      at (in_granule g l h q) = Whole.in_granule g l q

  module _ (board : Board) (revoked : List ℕ) (a : State) (good : GoodState board revoked a) (h : StartOutside hidden a)
      (unread : Unread hidden a board.start) where
    abbrev t : State
    t = blanked hidden a

    shut : Shut hidden board revoked t
    shut =
        record {
          good = good_alike hidden a t (blanked_alike hidden a) board revoked good;
          starts = blanked_starts hidden a board revoked good h;
          unread = λ c k i x r. unread c (blanked_held hidden a board revoked good c k) i x r;
        }

    -- so the state is clear
    pub unread_clear : Clear hidden board revoked a
    unread_clear = beside t shut (blanked_alike hidden a)

    pub steps_gain_none_outside : (n : ℕ) → NoGainOutside hidden a (ran_from n board revoked a).at
    steps_gain_none_outside n =
        let p = steps_clear hidden board revoked a t (blanked_alike hidden a) (beside t shut (alike_itself hidden t)) n in
        let g = steps_gain_none board revoked n (ran t 0 0) shut.good shut.starts in
        let held = held_whole (ran_from n board revoked a).at (ran_from n board revoked t).at p.alike in
        record {
          derived = λ c k.
              let d = g.derived c (held c k) in
              record { origin = d.origin; is_held = blanked_held hidden a board revoked good d.origin d.is_held; is_inside = d.is_inside };
          sound = λ c k. g.sound c (held c k);
        }
