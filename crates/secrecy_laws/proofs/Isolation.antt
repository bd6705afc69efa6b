-- A step writes only through registers, which come from what is held outside: so what nothing held outside may write stays. Assumes nothing.
use mathlib.Core.Path.{◌≡◌, refl, ◌∙◌}
use mathlib.Core.Bool.{Bool, true, false, cond}
use mathlib.Core.List.{List, [], ◌∷◌}
use Prim.Native.Nat.{ℕ, zero, suc, ◌+◌, ◌*◌, ◌/◌, ◌<◌}
use native.Mathlib.Omega.{arith}
use lib.Dec.{eqb}
use borrow.Author.Tests.{eqb-true}
use Rattle.state.specs.Registers.{capability_at}
use Rattle.state.specs.Lent.{State}
use Rattle.state.specs.Memory.{granule_bytes}
use Rattle.state.specs.declared.Board.{Board}
use Rattle.execution.specs.Step.{step_of}
use Rattle.machine.specs.Refusals.{refusal_of}
use Rattle.machine.specs.Run.{step_refusal, step_after, Ran, ran, one_more, iterate, run_after}
use Rattle.sweep.proofs.Laws.{tag_falls}
use Rattle.machine_laws.specs.Lent.{GoodState}
use Rattle.machine_laws.proofs.Refusals.{good_of, good_for}
use Rattle.machine_laws.proofs.Kept.{good_after}
use Rattle.machine_laws.proofs.Fits.{in_type_stays}
use Rattle.integrity_laws.specs.Integrity.{Stays, SameTag}
use Rattle.integrity_laws.proofs.Steps.{RegistersShut, byte_stays, tag_stays}
use Rattle.integrity_laws.proofs.Runs.{writes_origin, stays_itself, stays_both}
use Rattle.secrecy_laws.specs.Outside.{in_register, StartOutside, Unread, NoGainOutside}
use Rattle.secrecy_laws.specs.Calls.{Call, step, run, watched, visit, left_by, left, AtStart, EachStart, calls_of}
use Rattle.secrecy_laws.specs.Isolation.{ShutOutside, Untouched, IsolationClaim, Isolated}
use Rattle.secrecy_laws.proofs.Runs.{steps_gain_none_outside}
use Rattle.secrecy_laws.proofs.Calls.{unread_stays, at_start, each_start, call_gains_none, call_starts}
use Rattle.secrecy_laws.proofs.Promises.{reached_kept, secrecy_claim}

module _ (hidden : ℕ → Bool) where
  -- ---- steps

  registers_shut : (s : State) (i start : ℕ) → ShutOutside hidden s i start → RegistersShut s start i
  registers_shut s i start shut k l tagged w = shut (capability_at s.regs k) (record { stands = in_register k l refl; is_tagged = tagged }) w

  -- what nothing outside could write nothing outside can
  shut_stays : (i : ℕ) (b a : State) (start : ℕ) → NoGainOutside hidden b a → ShutOutside hidden b i start → ShutOutside hidden a i start
  shut_stays i b a start g shut c held w =
      let d = g.derived c held in
      shut d.origin d.is_held (writes_origin d.origin c (start + i) d.is_inside w)

  module _ (board : Board) (revoked : List ℕ) where
    -- the next step of a good state that starts, and where nothing outside may read what is hidden
    record Goes (s : State) : Type 0 where
      good : GoodState board revoked s
      starts : StartOutside hidden s
      unread : Unread hidden s board.start

    goes_gain : (s : State) → Goes s → NoGainOutside hidden s (step_of board revoked s)
    unfolding iterate one_more
    goes_gain s h = steps_gain_none_outside hidden board revoked s h.good h.starts h.unread 1

    goes_on : (s : State) → Goes s → Goes (step_of board revoked s)
    goes_on s h =
        let g = goes_gain s h in
        record {
          good = good_after board revoked s h.good;
          starts = record { in_type = in_type_stays board revoked s h.good.words.tag_words h.starts.in_type; sound = g.sound };
          unread = unread_stays hidden s (step_of board revoked s) board.start g h.unread;
        }

    steps_stay : (i n : ℕ) (r : Ran) → Goes r.at → ShutOutside hidden r.at i board.start → Stays i r.at (iterate n board revoked r).at
    unfolding iterate one_more
    steps_stay i zero r h shut = stays_itself i r.at
    steps_stay i (suc n) r h shut =
        let s = r.at in
        stays_both i (byte_stays board revoked s h.good i (registers_shut s i board.start shut))
        (steps_stay i n (one_more board revoked r) (goes_on s h) (shut_stays i s (step_of board revoked s) board.start (goes_gain s h) shut))

    tags_stay : (g n : ℕ) (r : Ran) → Goes r.at → ((k : ℕ) → k < granule_bytes → ShutOutside hidden r.at (g * granule_bytes + k) board.start)
        → SameTag g r.at (iterate n board revoked r).at
    unfolding iterate one_more
    tags_stay g zero r h shut = refl
    tags_stay g (suc n) r h shut =
        let s = r.at in
        tags_stay g n (one_more board revoked r) (goes_on s h)
        (λ k l. shut_stays (g * granule_bytes + k) s (step_of board revoked s) board.start (goes_gain s h) (shut k l))
        ∙ tag_stays board revoked s h.good g (λ k l. registers_shut s (g * granule_bytes + k) board.start (shut k l))

  -- ---- calls

  module _ (i : ℕ) where
    called : (s x : State) (r : ℕ) → (r ≡ 0 → Stays i s x) → Stays i s (cond (eqb r 0) x s)
    called s x r f = go (eqb r 0) refl
      where
        go : (t : Bool) → eqb r 0 ≡ t → Stays i s (cond t x s)
        go true q = f (eqb-true r 0 q)
        go false q = stays_itself i s

    module _ (s : State) (h : StartOutside hidden s) where
      run_stays : (n : ℕ) (board : Board) (revoked : List ℕ) → Untouched hidden s i board.start → Stays i s (run_after n board revoked s)
      unfolding run_after
      run_stays n board revoked p =
          called s _ (refusal_of n board revoked s)
          (λ z. steps_stay board revoked i n (ran s 0 0) (record { good = good_for board revoked s n z; starts = h; unread = p.0 }) p.1)

      call_stays : (c : Call) → AtStart (Untouched hidden s i) c → Stays i s (left_by c s)
      unfolding left_by step_after
      call_stays (step board revoked) p =
          called s _ (step_refusal board revoked s)
          (λ z. byte_stays board revoked s (good_of board revoked s z) i (registers_shut s i board.start p.1))
      call_stays (run n board revoked) p = run_stays n board revoked p
      call_stays (watched n board revoked w) p = run_stays n board revoked p
      call_stays (visit g board revoked) p =
          record { same_byte = refl; falls = tag_falls board revoked s.mem s.tags g _ refl (i / granule_bytes) }

    calls_stay : (calls : List Call) (s : State) → StartOutside hidden s → EachStart (Untouched hidden s i) calls → Stays i s (left calls s)
    unfolding left EachStart
    calls_stay [] s h e = stays_itself i s
    calls_stay (c ∷ cs) s h e =
        let x = left_by c s in
        let u = at_start hidden (Untouched hidden s i) (Unread hidden s) (λ k p. p.0) c e.0 in
        let g = call_gains_none hidden s h c u in
        stays_both i (call_stays s h c e.0)
        (calls_stay cs x (call_starts hidden s h c u)
        (each_start hidden (Untouched hidden s i) (Untouched hidden x i)
        (λ start p. (unread_stays hidden s x start g p.0, shut_stays i s x start g p.1)) cs e.1))

-- what nothing held outside may write stays, where it may not read what is hidden
pub stays_claim : (hidden : ℕ → Bool) (s : State) → StartOutside hidden s → IsolationClaim (λ i. Unit {0}) (Untouched hidden s) s
stays_claim hidden s h =
    record {
      after_steps = λ n board revoked z i here p.
          steps_stay hidden board revoked i n (ran s 0 0) (record { good = good_of board revoked s z; starts = h; unread = p.0 }) p.1;
      tags_after_steps = λ n board revoked z g p.
          tags_stay hidden board revoked g n (ran s 0 0) (record { good = good_of board revoked s z; starts = h; unread = (p 0 (omega arith)).1.0 })
          (λ k l. (p k l).1.1);
      after_calls = λ calls i here e. calls_stay hidden i calls s h e;
      after_promises = λ a r i here e. rw (reached_kept r).is_left (calls_stay hidden i (calls_of r) s h e);
    }

-- and makes no difference outside
pub isolation_claim : (hidden : ℕ → Bool) (s : State) → StartOutside hidden s
    → Isolated hidden (λ i. Unit {0}) (Untouched hidden s) (Unread hidden s) s
isolation_claim hidden s h = record { stays = stays_claim hidden s h; unknown = λ b alike. secrecy_claim hidden s b h alike }
