-- Calls one after another answer alike and leave alike what was, and nothing held outside is gained. Assumes nothing.
use mathlib.Core.Path.{◌≡◌, refl, sym, ap, ap₂, ◌∙◌}
use mathlib.Core.Logic.{◌⊎◌, inl, inr}
use mathlib.Core.Bool.{Bool, true, false, cond}
use mathlib.Core.List.{List, [], ◌∷◌, ◌++◌}
use Prim.Native.Nat.{ℕ, suc, ◌+◌, ◌-◌, ◌*◌}
use native.Mathlib.Omega.{arith}
use lib.Dec.{eqb}
use lib.ListN.{length}
use borrow.Author.Tests.{eqb-true, eqb-false, eq-eqb}
use Rattle.words.specs.Words.{bit_at, put_bit}
use Rattle.capability.specs.declared.Capability.{Capability}
use Rattle.capability_laws.proofs.Derived.{inside_refl, inside_trans}
use Rattle.state.specs.Lent.{State, state}
use Rattle.state.specs.Memory.{capability_in, granule_bytes}
use Rattle.state.specs.Effects.{Stored}
use Rattle.state.specs.declared.Board.{Board}
use Rattle.memory_instructions.specs.Access.{revoked_value}
use Rattle.watch.specs.declared.Watch.{Watch}
use Rattle.commit.specs.Commit.{retires}
use Rattle.machine.specs.Refusals.{refusal_named, refusal_of}
use Rattle.machine.specs.Run.{counts, step_refusal, step_answer, step_after, run_answer, run_after, ran_from, one_more, iterate}
use Rattle.machine.specs.declared.answers.Step.TheVariants.{Retired, Trapped}
use Rattle.std.specs.Prelude.{Ok, Err}
use Rattle.machine.specs.Watching.{watch_left}
use Rattle.machine.proofs.Laws.{bits_alike}
use Rattle.sweep.specs.Visits.{stored_in, visit_refusal, swept_tags, visit_answer, tags_after}
use Rattle.sweep.proofs.Laws.{stored_tag, stored_alike, tag_falls, bytes_stay, swept_size, swept_other}
use Rattle.machine_laws.specs.Fits.{InType}
use Rattle.machine_laws.specs.Lent.{GoodState}
use Rattle.machine_laws.proofs.Refusals.{good_for}
use Rattle.machine_laws.proofs.Fits.{step_in_type, run_in_type}
use Rattle.secrecy_laws.specs.Outside.{StandsOutside, in_register, in_granule, HeldOutside, SoundOutside, StartOutside, Unread, NoGainOutside}
use Rattle.secrecy_laws.specs.Outside.{SameGranule, Settled, both_clear, all_same, Alike, WhereDiffered}
use Rattle.secrecy_laws.specs.Calls.{Call, step, run, watched, visit, answer_of, left_by, answers, left, Answer, to_step, to_run, to_watched, to_visit}
use Rattle.secrecy_laws.specs.Calls.{AtStart, EachStart, StoredIn, Stores}
use Rattle.secrecy_laws.specs.Secrecy.{AlikeRuns, AlikeCalls, SameStored}
use Rattle.secrecy_laws.proofs.Steps.{put_bit_same}
use Rattle.secrecy_laws.proofs.Blank.{granule_same, granule_shown, refusal_alike}
use Rattle.secrecy_laws.proofs.Runs.{reads_origin, where_itself, where_both, stored_stays, Clear, none_hidden, clear_alike}
use Rattle.secrecy_laws.proofs.Runs.{unread_clear, steps_clear, watched_clear, stored_clear_on, steps_gain_none_outside}

module _ (hidden : ℕ → Bool) where
  -- ---- gains, one after another

  pub gain_none_outside : (s : State) → SoundOutside hidden s → NoGainOutside hidden s s
  gain_none_outside s h = record { derived = λ c k. record { origin = c; is_held = k; is_inside = inside_refl c }; sound = h }

  pub gain_both_outside : (a b c : State) → NoGainOutside hidden a b → NoGainOutside hidden b c → NoGainOutside hidden a c
  gain_both_outside a b c p q =
      record {
        derived = λ x k.
            let y = q.derived x k in
            let z = p.derived y.origin y.is_held in
            record { origin = z.origin; is_held = z.is_held; is_inside = inside_trans z.origin y.origin x z.is_inside y.is_inside };
        sound = q.sound;
      }

  -- what nothing outside could read nothing outside can
  pub unread_stays : (b a : State) (start : ℕ) → NoGainOutside hidden b a → Unread hidden b start → Unread hidden a start
  unread_stays b a start g unread c held i h r =
      let d = g.derived c held in
      unread d.origin d.is_held i h (reads_origin d.origin c (start + i) d.is_inside r)

  -- ---- one call that leaves a state

  module _ (a : State) (h : StartOutside hidden a) where
    -- a call that is refused changes nothing
    gained : (r : ℕ) (x : State) → (r ≡ 0 → NoGainOutside hidden a x) → NoGainOutside hidden a (cond (eqb r 0) x a)
    gained r x f = go (eqb r 0) refl
      where
        go : (t : Bool) → eqb r 0 ≡ t → NoGainOutside hidden a (cond t x a)
        go true t = f (eqb-true r 0 t)
        go false t = gain_none_outside a h.sound

    step_gains : (board : Board) (revoked : List ℕ) → Unread hidden a board.start → NoGainOutside hidden a (step_after board revoked a)
    unfolding step_after iterate one_more
    step_gains board revoked unread =
        gained (step_refusal board revoked a) _ (λ z. steps_gain_none_outside hidden board revoked a (good_for board revoked a 1 z) h unread 1)

    run_gains : (n : ℕ) (board : Board) (revoked : List ℕ) → Unread hidden a board.start → NoGainOutside hidden a (run_after n board revoked a)
    unfolding run_after
    run_gains n board revoked unread =
        gained (refusal_of n board revoked a) _ (λ z. steps_gain_none_outside hidden board revoked a (good_for board revoked a n z) h unread n)

    -- a visit of the sweeper: tags stay or go, so what is held after was held before
    module _ (board : Board) (revoked : List ℕ) (g : ℕ) where
      abbrev after : List ℕ
      after = tags_after board revoked a.mem a.tags g

      visit_held : (c : Capability) → HeldOutside hidden (state a.regs a.mem after) c → HeldOutside hidden a c
      visit_held c k = record { stands = at k.stands; is_tagged = k.is_tagged }
        where
          stayed : (i : ℕ) → c ≡ capability_in a.mem after (i * granule_bytes) → (bit_at after i ≡ bit_at a.tags i) ⊎ (bit_at after i ≡ 0)
              → c ≡ capability_in a.mem a.tags (i * granule_bytes)
          stayed i q (inl e) = q ∙ stored_alike a.mem i after a.tags e
          stayed i q (inr e) = absurd (omega (arith, k.is_tagged, ap (λ (x : Capability). x.tag) q, stored_tag a.mem i after, e))

          at : StandsOutside hidden (state a.regs a.mem after) c → StandsOutside hidden a c
          at (in_register i l q) = in_register i l q
          at (in_granule i l shown q) = in_granule i l shown (stayed i q (tag_falls board revoked a.mem a.tags g after refl i))

      visit_gains : NoGainOutside hidden a (state a.regs a.mem after)
      visit_gains =
          record {
            derived = λ c k. record { origin = c; is_held = visit_held c k; is_inside = inside_refl c };
            sound = λ c k. h.sound c (visit_held c k);
          }

    pub call_gains_none : (c : Call) → AtStart (Unread hidden a) c → NoGainOutside hidden a (left_by c a)
    unfolding left_by
    call_gains_none (step board revoked) u = step_gains board revoked u
    call_gains_none (run n board revoked) u = run_gains n board revoked u
    call_gains_none (watched n board revoked w) u = run_gains n board revoked u
    call_gains_none (visit g board revoked) u = visit_gains board revoked g

    call_in_type : (c : Call) → InType (left_by c a)
    unfolding left_by
    call_in_type (step board revoked) = step_in_type board revoked a h.in_type
    call_in_type (run n board revoked) = run_in_type board revoked a h.in_type n
    call_in_type (watched n board revoked w) = run_in_type board revoked a h.in_type n
    call_in_type (visit g board revoked) =
        record {
          registers_in = h.in_type.registers_in;
          memory_in = h.in_type.memory_in;
          tags_in = bytes_stay board revoked a.mem a.tags g _ refl h.in_type.tags_in;
        }

    -- so a call may start again
    pub call_starts : (c : Call) → AtStart (Unread hidden a) c → StartOutside hidden (left_by c a)
    call_starts c u = record { in_type = call_in_type c; sound = (call_gains_none c u).sound }

  -- ---- what a pair of calls needs of the first state, with memory at a start: nothing is hidden, or nothing held outside may read it

  pub data Secret (a : State) (start : ℕ) : Type 0 where
    none : ((g : ℕ) → hidden g ≡ false) → Secret a start
    unread : StartOutside hidden a → Unread hidden a start → Secret a start

  pub secret_clear : (board : Board) (revoked : List ℕ) (a : State) → GoodState board revoked a → Secret a board.start → Clear hidden board revoked a
  secret_clear board revoked a good (none f) = none_hidden good.memory.start_aligned f
  secret_clear board revoked a good (unread h u) = unread_clear hidden board revoked a good h u

  -- it stays
  secret_stays : (a : State) (c : Call) → AtStart (Secret a) c → (start : ℕ) → Secret a start → Secret (left_by c a) start
  secret_stays a c k start (none f) = none f
  secret_stays a c k start (unread h u) = at c k
    where
      stays : (c : Call) → AtStart (Unread hidden a) c → Secret (left_by c a) start
      stays c p = unread (call_starts a h c p) (unread_stays a (left_by c a) start (call_gains_none a h c p) u)

      asked : (c : Call) (k : ℕ) → Secret a k → (Unread hidden a k → Secret (left_by c a) start) → Secret (left_by c a) start
      asked c k (none f) g = none f
      asked c k (unread h u) g = g u

      at : (c : Call) → AtStart (Secret a) c → Secret (left_by c a) start
      at (step board revoked) k = asked (step board revoked) board.start k (λ p. stays (step board revoked) p)
      at (run n board revoked) k = asked (run n board revoked) board.start k (λ p. stays (run n board revoked) p)
      at (watched n board revoked w) k = asked (watched n board revoked w) board.start k (λ p. stays (watched n board revoked w) p)
      at (visit g board revoked) k = stays (visit g board revoked) tt

  -- ---- a call of each of two states

  -- what it leaves of a and b is alike, and differs where they did
  record Left (a b x y : State) : Type 0 where
    alike : Alike hidden x y
    where_differed : WhereDiffered a b x y

  -- both are refused or none is
  answered : {A : Type 0} (r q : ℕ) → r ≡ q → (refuse : ℕ → A) (x y : A) → (r ≡ 0 → x ≡ y) → cond (eqb r 0) x (refuse r) ≡ cond (eqb q 0) y (refuse q)
  answered {A} r q e refuse x y f = rw (← e) (go (eqb r 0) refl)
    where
      go : (b : Bool) → eqb r 0 ≡ b → cond b x (refuse r) ≡ cond b y (refuse r)
      go true t = f (eqb-true r 0 t)
      go false t = refl

  module _ (a b : State) (alike : Alike hidden a b) where
    called : (r q : ℕ) → r ≡ q → (x y : State) → (r ≡ 0 → Left a b x y) → Left a b (cond (eqb r 0) x a) (cond (eqb q 0) y b)
    called r q e x y f = rw (← e) (go (eqb r 0) refl)
      where
        go : (t : Bool) → eqb r 0 ≡ t → Left a b (cond t x a) (cond t y b)
        go true t = f (eqb-true r 0 t)
        go false t = record { alike = alike; where_differed = where_itself a b }

    module _ (board : Board) (revoked : List ℕ) (secret : Secret a board.start) where
      clear_of : (n : ℕ) → refusal_of n board revoked a ≡ 0 → Clear hidden board revoked b
      clear_of n z = clear_alike hidden board revoked a b alike (secret_clear board revoked a (good_for board revoked a n z) secret)

      runs_of : (m n : ℕ) → refusal_of m board revoked a ≡ 0
          → AlikeRuns hidden board revoked a b (ran_from n board revoked a) (ran_from n board revoked b)
      runs_of m n z = steps_clear hidden board revoked a b alike (clear_of m z) n

      step_answered : step_answer board revoked a ≡ step_answer board revoked b
      unfolding step_answer iterate
      step_answered =
          answered (step_refusal board revoked a) (step_refusal board revoked b) (refusal_alike hidden a b alike 1 board revoked) (λ n. Err (refusal_named n)) _
          _
          (λ z. ap (λ e. Ok (cond (retires e) Retired Trapped)) (runs_of 1 0 z).same_next)

      step_left : Left a b (step_after board revoked a) (step_after board revoked b)
      unfolding step_after iterate one_more
      step_left =
          called (step_refusal board revoked a) (step_refusal board revoked b) (refusal_alike hidden a b alike 1 board revoked) _ _
          (λ z. let k = runs_of 1 1 z in record { alike = k.alike; where_differed = k.where_differed })

      run_answered : (n : ℕ) → run_answer n board revoked a ≡ run_answer n board revoked b
      unfolding run_answer
      run_answered n =
          answered (refusal_of n board revoked a) (refusal_of n board revoked b) (refusal_alike hidden a b alike n board revoked) (λ k. Err
          (refusal_named k)) _ _
          (λ z. let k = runs_of n n z in ap₂ (λ x y. Ok (counts x y)) k.same_retired k.same_trapped)

      pub watch_answered : (n : ℕ) (w : Watch) → watch_left n board revoked a w ≡ watch_left n board revoked b w
      unfolding watch_left
      watch_answered n w =
          answered (refusal_of n board revoked a) (refusal_of n board revoked b) (refusal_alike hidden a b alike n board revoked) (λ k. w) _ _
          (λ z. watched_clear hidden board revoked n a b alike (clear_of n z) w)

      run_left : (n : ℕ) → Left a b (run_after n board revoked a) (run_after n board revoked b)
      unfolding run_after
      run_left n =
          called (refusal_of n board revoked a) (refusal_of n board revoked b) (refusal_alike hidden a b alike n board revoked) _ _
          (λ z. let k = runs_of n n z in record { alike = k.alike; where_differed = k.where_differed })

      -- what is stored in it is the same in both when it ends
      run_stored : (n : ℕ) (x : Stored) → StoredIn n board revoked a x → SameStored x (run_after n board revoked a) (run_after n board revoked b)
      unfolding run_after
      run_stored n x k =
          let z = k.made in
          let p = eq-eqb (refusal_of n board revoked a) 0 z in
          let q = eq-eqb (refusal_of n board revoked b) 0 (sym (refusal_alike hidden a b alike n board revoked) ∙ z) in
          let e : k.before + suc (n - suc k.before) ≡ n = omega (arith, k.is_one) in
          rw (p, q, ← k.is_next)
          (rw e at (stored_clear_on hidden board revoked a b alike (clear_of n z) (good_for board revoked a n z) k.before (n - suc k.before)))

    -- a visit of the sweeper
    module _ (board : Board) (revoked : List ℕ) (g : ℕ) where
      visit_refused_alike : visit_refusal board revoked a.mem a.tags g ≡ visit_refusal board revoked b.mem b.tags g
      unfolding visit_refusal
      visit_refused_alike =
          rw (
            bits_alike board revoked (state [] a.mem a.tags) (state [] b.mem b.tags) alike.same_size alike.same_tag_size,
            alike.same_size,
          )

      visit_answered : visit_answer board revoked a.mem a.tags g ≡ visit_answer board revoked b.mem b.tags g
      unfolding visit_answer
      visit_answered = rw (visit_refused_alike, alike.same_size)

      -- the tag of a granule goes by that granule
      swept_same : (k : ℕ) → SameGranule k a b
          → bit_at (swept_tags board revoked a.mem a.tags g) k ≡ bit_at (swept_tags board revoked b.mem b.tags g) k
      unfolding swept_tags
      swept_same k same = at (eqb k g) refl
        where
          put : (t : Bool) → bit_at (cond t (put_bit a.tags g 0) a.tags) k ≡ bit_at (cond t (put_bit b.tags g 0) b.tags) k
          put true = put_bit_same a.tags b.tags g 0 k alike.same_tag_size same.tag
          put false = same.tag

          at : (t : Bool) → eqb k g ≡ t → bit_at (swept_tags board revoked a.mem a.tags g) k ≡ bit_at (swept_tags board revoked b.mem b.tags g) k
          at true q = rw (granule_same a b g (rw (eqb-true k g q) at same)) (put (revoked_value board revoked (stored_in b.mem b.tags g)))
          at false q =
              let d = eqb-false k g q in
              swept_other board revoked a.mem a.tags g k d ∙ same.tag ∙ sym (swept_other board revoked b.mem b.tags g k d)

      abbrev swept : State → State
      swept s = state s.regs s.mem (tags_after board revoked s.mem s.tags g)

      tag_same : (k : ℕ) → SameGranule k a b → bit_at (swept a).tags k ≡ bit_at (swept b).tags k
      unfolding tags_after
      tag_same k same = rw visit_refused_alike (at (eqb (visit_refusal board revoked b.mem b.tags g) 0))
        where
          at : (t : Bool)
              → bit_at (cond t (swept_tags board revoked a.mem a.tags g) a.tags) k
              ≡ bit_at (cond t (swept_tags board revoked b.mem b.tags g) b.tags) k
          at true = swept_same k same
          at false = same.tag

      -- what is clear stays so
      fallen : (s : State) (k : ℕ) → bit_at s.tags k ≡ 0 → bit_at (swept s).tags k ≡ 0
      fallen s k z = at (tag_falls board revoked s.mem s.tags g _ refl k)
        where
          at : (bit_at (swept s).tags k ≡ bit_at s.tags k) ⊎ (bit_at (swept s).tags k ≡ 0) → bit_at (swept s).tags k ≡ 0
          at (inl e) = e ∙ z
          at (inr e) = e

      settled_swept : (k : ℕ) → Settled k a b → Settled k (swept a) (swept b)
      settled_swept k (both_clear x y) = both_clear (fallen a k x) (fallen b k y)
      settled_swept k (all_same s) = all_same (record { bytes = s.bytes; tag = tag_same k s })

      tags_long : length (swept a).tags ≡ length (swept b).tags
      unfolding tags_after
      tags_long = rw visit_refused_alike (at (eqb (visit_refusal board revoked b.mem b.tags g) 0))
        where
          at : (t : Bool)
              → length (cond t (swept_tags board revoked a.mem a.tags g) a.tags)
              ≡ length (cond t (swept_tags board revoked b.mem b.tags g) b.tags)
          at true = swept_size board revoked a.mem a.tags g ∙ alike.same_tag_size ∙ sym (swept_size board revoked b.mem b.tags g)
          at false = alike.same_tag_size

      visit_left : Left a b (swept a) (swept b)
      visit_left =
          record {
            alike = record {
              same_registers = alike.same_registers;
              same_size = alike.same_size;
              same_tag_size = tags_long;
              same_byte = λ i k. alike.same_byte i k;
              same_tag = λ k shown. tag_same k (granule_shown hidden a b alike k shown);
            };
            where_differed = record {
              byte = λ i e. e;
              granule = λ k same. record { bytes = same.bytes; tag = tag_same k same };
              settled = settled_swept;
            };
          }

    call_answered : (c : Call) → AtStart (Secret a) c → answer_of c a ≡ answer_of c b
    unfolding answer_of
    call_answered (step board revoked) u = ap (λ x. to_step x) (step_answered board revoked u)
    call_answered (run n board revoked) u = ap (λ x. to_run x) (run_answered board revoked u n)
    call_answered (watched n board revoked w) u = ap₂ (λ x y. to_watched x y) (run_answered board revoked u n) (watch_answered board revoked u n w)
    call_answered (visit g board revoked) u = ap (λ x. to_visit x) (visit_answered board revoked g)

    call_left : (c : Call) → AtStart (Secret a) c → Left a b (left_by c a) (left_by c b)
    unfolding left_by
    call_left (step board revoked) u = step_left board revoked u
    call_left (run n board revoked) u = run_left board revoked u n
    call_left (watched n board revoked w) u = run_left board revoked u n
    call_left (visit g board revoked) u = visit_left board revoked g

    call_stored : (c : Call) → AtStart (Secret a) c → (x : Stored) → Stores c a x → SameStored x (left_by c a) (left_by c b)
    unfolding left_by step_after run_after iterate one_more
    call_stored (step board revoked) u x k = run_stored board revoked u 1 x k
    call_stored (run n board revoked) u x k = run_stored board revoked u n x k
    call_stored (watched n board revoked w) u x k = run_stored board revoked u n x k
    call_stored (visit g board revoked) u x k = absurd k

  -- ---- calls, one after another

  pub at_start : (P Q : ℕ → Type 0) → ((k : ℕ) → P k → Q k) → (c : Call) → AtStart P c → AtStart Q c
  at_start P Q f (step board revoked) p = f board.start p
  at_start P Q f (run n board revoked) p = f board.start p
  at_start P Q f (watched n board revoked w) p = f board.start p
  at_start P Q f (visit g board revoked) p = tt

  pub each_start : (P Q : ℕ → Type 0) → ((k : ℕ) → P k → Q k) → (calls : List Call) → EachStart P calls → EachStart Q calls
  unfolding EachStart
  each_start P Q f [] e = tt
  each_start P Q f (c ∷ cs) e = (at_start P Q f c e.0, each_start P Q f cs e.1)

  secrets_stay : (a : State) (c : Call) → AtStart (Secret a) c → (cs : List Call) → EachStart (Secret a) cs → EachStart (Secret (left_by c a)) cs
  secrets_stay a c k cs e = each_start (Secret a) (Secret (left_by c a)) (secret_stays a c k) cs e

  pub calls_alike : (calls : List Call) (a b : State) → Alike hidden a b → EachStart (Secret a) calls → AlikeCalls hidden a b calls
  unfolding answers left EachStart
  calls_alike [] a b alike e = record { same_answers = refl; alike = alike; where_differed = where_itself a b }
  calls_alike (c ∷ cs) a b alike e =
      let k = call_left a b alike c e.0 in
      let rest = calls_alike cs (left_by c a) (left_by c b) k.alike (secrets_stay a c e.0 cs e.1) in
      record {
        same_answers = ap₂ (λ (p : Answer) (q : List Answer). p ∷ q) (call_answered a b alike c e.0) rest.same_answers;
        alike = rest.alike;
        where_differed = where_both a b (left_by c a) (left_by c b) _ _ k.where_differed rest.where_differed;
      }

  -- what they leave is secret still
  pub secrets_after : (calls : List Call) (a : State) → EachStart (Secret a) calls → (start : ℕ) → Secret a start → Secret (left calls a) start
  unfolding left EachStart
  secrets_after [] a e start k = k
  secrets_after (c ∷ cs) a e start k = secrets_after cs (left_by c a) (secrets_stay a c e.0 cs e.1) start (secret_stays a c e.0 start k)

  -- what one of them stores is the same in both from then on
  pub calls_stored : (before : List Call) (c : Call) (after : List Call) (a b : State) → Alike hidden a b → EachStart (Secret a) (before ++ (c ∷ after))
      → (x : Stored) → Stores c (left before a) x → SameStored x (left (before ++ (c ∷ after)) a) (left (before ++ (c ∷ after)) b)
  unfolding left EachStart
  calls_stored [] c after a b alike e x k =
      let l = call_left a b alike c e.0 in
      let rest = calls_alike after (left_by c a) (left_by c b) l.alike (secrets_stay a c e.0 after e.1) in
      stored_stays (left_by c a) (left_by c b) _ _ rest.where_differed x (call_stored a b alike c e.0 x k)
  calls_stored (d ∷ ds) c after a b alike e x k =
      calls_stored ds c after (left_by d a) (left_by d b) (call_left a b alike d e.0).alike (secrets_stay a d e.0 (ds ++ (c ∷ after)) e.1) x k

  -- nothing held outside is gained
  pub calls_gain_none : (calls : List Call) (a : State) → StartOutside hidden a → EachStart (Unread hidden a) calls → NoGainOutside hidden a (left calls a)
  unfolding left EachStart
  calls_gain_none [] a h e = gain_none_outside a h.sound
  calls_gain_none (c ∷ cs) a h e =
      let x = left_by c a in
      let g = call_gains_none a h c e.0 in
      gain_both_outside a x (left cs x) g
      (calls_gain_none cs x (call_starts a h c e.0)
      (each_start (Unread hidden a) (Unread hidden x) (λ start u. unread_stays a x start g u) cs e.1))
