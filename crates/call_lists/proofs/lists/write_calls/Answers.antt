-- `write_calls`: the loop keeps `Turn`: the words of the calls made stand in front, and the calls left lead on to the whole. Assumes nothing.
use mathlib.Core.Path.{◌≡◌, ap, ◌∙◌}
use mathlib.Core.Bool.{true, cond}
use mathlib.Core.List.{List}
use Prim.Native.Nat.{ℕ, ◌≤◌, ◌<◌, ◌+◌, ◌*◌}
use native.Mathlib.Omega.{arith}
use borrow.Author.Rules.{rules}
use lib.ListN.{length, get_or}
use Rattle.std.specs.Prelude.{Result, Ok, Err}
use Rattle.call_lists.specs.declared.Call.{Call}
use Rattle.call_lists.specs.declared.ListError.{ListError}
use Rattle.call_lists.specs.declared.ListError.TheVariants.{UnknownKind}
use Rattle.call_lists.specs.Calls.{make_call}
use Rattle.call_lists.specs.Lists.{all_known, call_of, is_known}
use Rattle.call_lists.proofs.Turns.{next_turn, last_turn, known_at}
use Rattle.call_lists.proofs.lists.write_calls.Goals as goal

-- a kind read at any place is known; that the place is the turn's is asked apart, by `turn_at`
read_at : (ks : List ℕ) (i v : ℕ) (r : Result Call ListError) → all_known ks ≡ true → i < length ks
    → r ≡ cond (is_known (get_or ks i 0)) (Ok (call_of (get_or ks i 0) v)) (Err UnknownKind) → r ≡ Ok (call_of (get_or ks i 0) v)
read_at ks i v r a h e = rw (known_at ks i a h) at e

-- the kind and the value were read at the turn's number
turn_at : (ks vs : List ℕ) (n i j : ℕ) (r : Result Call ListError) → i ≡ n → j ≡ n → r ≡ Ok (call_of (get_or ks i 0) (get_or vs j 0))
    → r ≡ Ok (call_of (get_or ks n 0) (get_or vs n 0))
turn_at ks vs n i j r p q e = rw (p, q) at e

pub unwrap-call-requires : goal.unwrap-call-requires
unwrap-call-requires c =
    rw (read_at c.args.kinds.now _ _ _ c.requires.known (omega arith) c.try_from.ensures) (search rules)

pub loop-n-preserved : goal.loop-n-preserved
loop-n-preserved c =
    let a = c.args in
    let l = c.loop-n in
    let read = read_at a.kinds.now _ _ _ c.requires.known (omega arith) c.try_from.ensures in
    let made = turn_at a.kinds.now a.values.now l.n _ _ _ (omega arith) (omega arith) read in
    let call : c.unwrap-call.result ≡ call_of (get_or a.kinds.now l.n 0) (get_or a.values.now l.n 0) = cc in
    let w : 3 * l.n + 3 ≤ length l.out = omega arith in (
      search rules,
      next_turn a.kinds.now a.values.now a.c l.n l.s c.make_call-s.result l.out _
          (search rules) (search rules) w (c.make_call-s.ensures ∙ ap (λ x. make_call x l.s) call) c.put_words.ensures l.invariant.1,
    )

pub returns : goal.returns
returns c =
    let a = c.args in
    let l = c.loop-n in
    last_turn a.kinds.now a.values.now a.c l.n l.s l.out (omega arith) (omega arith) l.invariant.1
