-- Code that keeps its promises answers and leaves what the definitions of its calls say; so two such derivations from states that are alike agree. The claims.
-- Assumes nothing.
use mathlib.Core.Path.{◌≡◌, refl, sym, ap, ap₂, ◌∙◌}
use mathlib.Core.Bool.{Bool, true, false, cond}
use mathlib.Core.List.{List, [], ◌∷◌, ◌++◌, map, map-append}
use Prim.Native.Nat.{ℕ}
use lib.Dec.{eqb}
use borrow.Author.Tests.{eqb-true, eqb-false}
use Rattle.state.specs.Lent.{State}
use Rattle.state.specs.declared.Board.{Board}
use Rattle.commit.specs.Commit.{retires}
use Rattle.execution.specs.Step.{effect_at}
use Rattle.watch.specs.declared.Watch.{Watch}
use Rattle.machine.specs.Refusals.{refusal_named, refusal_of}
use Rattle.machine.specs.Watching.{watch_left}
use Rattle.machine.specs.Run.{counts, step_refusal, step_answer, step_number, step_retired, step_trapped}
use Rattle.machine.specs.Run.{run_answer, run_number, run_retired, run_trapped, ran_from}
use Rattle.machine.specs.declared.answers.Step.TheVariants.{Retired, Trapped}
use Rattle.machine.proofs.Laws.{IsNumber, refusal_number}
use Rattle.std.specs.Prelude.{Ok, Err}
use Rattle.bench_api.specs.Packing.{packed, packed_step, packed_run, packed_visit}
use Rattle.machine_laws.proofs.Refusals.{good_of}
use Rattle.authority_laws.specs.Gain.{Reached, at_start, by_step, by_run, by_c_step, by_c_run, by_visit, by_c_visit}
use Rattle.authority_laws.proofs.Runs.{same_state}
use Rattle.secrecy_laws.specs.Outside.{StartOutside, Unread, Alike, WhereDiffered}
use Rattle.secrecy_laws.specs.Calls.{Call, step, run, visit, Answer, to_step, to_run, to_watched, to_visit, answer_of, left_by, answers, left}
use Rattle.secrecy_laws.specs.Calls.{EachStart, calls_of, told_by}
use Rattle.secrecy_laws.specs.Secrecy.{SecrecyClaim, NoGainClaim}
use Rattle.secrecy_laws.proofs.Runs.{Clear, clear_alike, steps_clear, stored_clear_on, steps_gain_none_outside}
use Rattle.secrecy_laws.proofs.Calls.{Secret, unread, secret_clear, watch_answered, each_start, calls_alike, secrets_after}
use Rattle.secrecy_laws.proofs.Calls.{calls_stored, calls_gain_none}

-- ---- one more call

left_more : (cs : List Call) (c : Call) (s : State) → left (cs ++ (c ∷ [])) s ≡ left_by c (left cs s)
unfolding left
left_more [] c s = refl
left_more (d ∷ ds) c s = left_more ds c (left_by d s)

answers_more : (cs : List Call) (c : Call) (s : State) → answers (cs ++ (c ∷ [])) s ≡ answers cs s ++ (answer_of c (left cs s) ∷ [])
unfolding left answers
answers_more [] c s = refl
answers_more (d ∷ ds) c s = ap (λ (x : List Answer). answer_of d s ∷ x) (answers_more ds c (left_by d s))

-- an answer as the number that C gets
abbrev number : Answer → ℕ
number (to_step a) = packed (step_number a) (step_trapped a) (step_retired a)
number (to_run a) = packed (run_number a) (run_trapped a) (run_retired a)
number (to_watched a w) = packed (run_number a) (run_trapped a) (run_retired a)
number (to_visit a) = packed_visit a

-- ---- answers packed for C

module _ (board : Board) (revoked : List ℕ) (s : State) where
  step_number_lem : packed_step board revoked s ≡ number (to_step (step_answer board revoked s))
  unfolding step_answer
  step_number_lem = go (step_refusal board revoked s) (refusal_number 1 board revoked s) (eqb (step_refusal board revoked s) 0) refl (retires
      (effect_at board revoked s))
    where
      go : (r : ℕ) → IsNumber r → (t : Bool) → eqb r 0 ≡ t → (u : Bool)
          → packed r (cond t (cond u 0 1) 0) (cond t (cond u 1 0) 0)
          ≡ number (to_step (cond t (Ok (cond u Retired Trapped)) (Err (refusal_named r))))
      go r n true q true = rw (eqb-true r 0 q)
      go r n true q false = rw (eqb-true r 0 q)
      go r n false q u = rw (n (eqb-false r 0 q))

  run_number_lem : (n : ℕ) → packed_run n board revoked s ≡ number (to_run (run_answer n board revoked s))
  unfolding run_answer
  run_number_lem n =
      go (refusal_of n board revoked s) (refusal_number n board revoked s) (eqb (refusal_of n board revoked s) 0) refl (ran_from n board revoked s).retired
      (ran_from n board revoked s).trapped
    where
      go : (r : ℕ) → IsNumber r → (t : Bool) → eqb r 0 ≡ t → (x y : ℕ)
          → packed r (cond t y 0) (cond t x 0) ≡ number (to_run (cond t (Ok (counts x y)) (Err (refusal_named r))))
      go r n true q x y = rw (eqb-true r 0 q)
      go r n false q x y = rw (n (eqb-false r 0 q))

-- ---- what was reached

-- it is what its calls leave, and it was told what they answer
pub record Kept (s a : State) (calls : List Call) (told : List ℕ) : Type 0 where
  pub is_left : a ≡ left calls s
  pub is_told : told ≡ map number (answers calls s)

more : {s b : State} (a : State) (calls : List Call) (told : List ℕ) (c : Call) (answer : ℕ) → Kept s b calls told → a ≡ left_by c b
    → answer ≡ number (answer_of c b) → Kept s a (calls ++ (c ∷ [])) (told ++ (answer ∷ []))
more {s} {b} a calls told c answer k l e =
    let m = k.is_left in
    record {
      is_left = l ∙ (ap (left_by c) m ∙ sym (left_more calls c s));
      is_told =
          rw (answers_more calls c s, map-append number (answers calls s) (answer_of c (left calls s) ∷ []), ← m)
          (ap₂ (λ (x : List ℕ) (y : ℕ). x ++ (y ∷ [])) k.is_told e);
    }

pub reached_kept : {s a : State} (r : Reached s a) → Kept s a (calls_of r) (told_by r)
unfolding calls_of told_by left answers left_by answer_of
reached_kept at_start = record { is_left = refl; is_told = refl }
reached_kept {s} {a} (by_step {b} board revoked answer r p) =
    more a (calls_of r) (told_by r) (step board revoked) _ (reached_kept r) (same_state a _ p.registers_are p.memory_is p.tags_are) (rw p.answer_is)
reached_kept {s} {a} (by_run {b} n board revoked answer r p) =
    more a (calls_of r) (told_by r) (run n board revoked) _ (reached_kept r) (same_state a _ p.registers_are p.memory_is p.tags_are) (rw p.answer_is)
reached_kept {s} {a} (by_c_step {b} board revoked answer r p) =
    more a (calls_of r) (told_by r) (step board revoked) _ (reached_kept r) (same_state a _ p.registers_are p.memory_is p.tags_are)
    (p.answer_is ∙ step_number_lem board revoked b)
reached_kept {s} {a} (by_c_run {b} n board revoked answer r p) =
    more a (calls_of r) (told_by r) (run n board revoked) _ (reached_kept r) (same_state a _ p.registers_are p.memory_is p.tags_are)
    (p.answer_is ∙ run_number_lem board revoked b n)
reached_kept {s} {a} (by_visit {b} g board revoked answer r same p) =
    more a (calls_of r) (told_by r) (visit g board revoked) _ (reached_kept r) (same_state a _ same.same_registers same.same_memory p.tags_are)
    (rw p.answer_is)
reached_kept {s} {a} (by_c_visit {b} g board revoked answer r same p) =
    more a (calls_of r) (told_by r) (visit g board revoked) _ (reached_kept r) (same_state a _ same.same_registers same.same_memory p.tags_are)
    p.answer_is

-- what is reached from two states that are alike, by the same calls
pub promises_alike : (hidden : ℕ → Bool) (a b : State) → Alike hidden a b → (x y : State) (r : Reached a x) (q : Reached b y)
    → calls_of r ≡ calls_of q → EachStart (Secret hidden a) (calls_of r) → (told_by r ≡ told_by q) × Alike hidden x y × WhereDiffered a b x y
promises_alike hidden a b alike x y r q same e =
    let k = reached_kept r in
    let l = reached_kept q in
    let c = calls_alike hidden (calls_of r) a b alike e in (
      k.is_told ∙ (ap (map number) c.same_answers ∙ (rw same (sym l.is_told))),
      rw (k.is_left, l.is_left, ← same) c.alike,
      rw (k.is_left, l.is_left, ← same) c.where_differed,
    )

-- and the record of a run with a watch that is made next
promises_watched : (hidden : ℕ → Bool) (a b : State) → Alike hidden a b → (x y : State) (r : Reached a x) (q : Reached b y) → calls_of r ≡ calls_of q
    → EachStart (Secret hidden a) (calls_of r) → (n : ℕ) (board : Board) (revoked : List ℕ) → Secret hidden a board.start → (w : Watch)
    → watch_left n board revoked x w ≡ watch_left n board revoked y w
promises_watched hidden a b alike x y r q same e n board revoked k w =
    watch_answered hidden x y (promises_alike hidden a b alike x y r q same e).1 board revoked
    (rw (reached_kept r).is_left (secrets_after hidden (calls_of r) a e board.start k)) n w

-- ---- the claims

-- of what is secret with each start that is asked
pub secret_claim : (hidden : ℕ → Bool) (P : ℕ → Type 0) (a b : State) → Alike hidden a b → ((start : ℕ) → P start → Secret hidden a start)
    → SecrecyClaim hidden P a b
secret_claim hidden P a b alike f =
    record {
      after_steps = λ n board revoked good p. steps_clear hidden board revoked a b alike (clear board revoked good p) n;
      stored_over = λ n m board revoked good p.
          stored_clear_on hidden board revoked a b alike (clear board revoked good p) (good_of board revoked a good) n m;
      after_calls = λ calls e. calls_alike hidden calls a b alike (each calls e);
      stored_over_in_calls = λ before c after e x k. calls_stored hidden before c after a b alike (each (before ++ (c ∷ after)) e) x k;
      after_promises = λ x y r q same e. promises_alike hidden a b alike x y r q same (each (calls_of r) e);
      watches_told = λ x y r q same e n board revoked p w.
          promises_watched hidden a b alike x y r q same (each (calls_of r) e) n board revoked (f board.start p) w;
    }
  where
    clear : (board : Board) (revoked : List ℕ) → step_refusal board revoked a ≡ 0 → P board.start → Clear hidden board revoked b
    clear board revoked good p =
        clear_alike hidden board revoked a b alike (secret_clear hidden board revoked a (good_of board revoked a good) (f board.start p))

    each : (calls : List Call) → EachStart P calls → EachStart (Secret hidden a) calls
    each calls e = each_start hidden P (Secret hidden a) f calls e

-- what nothing held outside may read makes no difference outside
pub secrecy_claim : (hidden : ℕ → Bool) (a b : State) → StartOutside hidden a → Alike hidden a b → SecrecyClaim hidden (Unread hidden a) a b
secrecy_claim hidden a b h alike = secret_claim hidden (Unread hidden a) a b alike (λ start u. unread h u)

-- and nothing comes out
pub no_gain_claim : (hidden : ℕ → Bool) (a : State) → StartOutside hidden a → NoGainClaim hidden (Unread hidden a) a
no_gain_claim hidden a h =
    record {
      after_steps = λ n board revoked good u. steps_gain_none_outside hidden board revoked a (good_of board revoked a good) h u n;
      after_calls = λ calls e. calls_gain_none hidden calls a h e;
    }
