-- The plain machine: each call that keeps the tag of an authority gives an authority inside it, and one that clears it leaves it cleared for good; so by
-- induction the last tag of a list is set exactly where every call kept it, and then the last capability lies inside the first. Assumes nothing.
use mathlib.Core.Path.{◌≡◌, refl, sym, ◌∙◌}
use mathlib.Core.Logic.{inl, inr}
use mathlib.Core.Bool.{Bool, true, cond, ◌&&◌}
use mathlib.Core.List.{List, [], ◌∷◌}
use Prim.Native.Nat.{ℕ, ◌+◌, ◌^◌, ◌<◌}
use native.Mathlib.Omega.{arith}
use borrow.Author.Tests.{eqb-true}
use Rattle.metadata.specs.Word.{reserved_of, type_of}
use Rattle.bounds.specs.Cutting.{unrounded}
use Rattle.capability.specs.Capability.{tagged, unsealed, covers, same_bounds}
use Rattle.capability.specs.declared.Capability.{Capability}
use Rattle.capability.proofs.Laws as laws
use Rattle.capability_laws.specs.Authority.{Authority, Inside}
use Rattle.capability_laws.proofs.Tests.{both_true, kept}
use Rattle.capability_laws.proofs.Changes.{cut_tag, exact_tag, move_tag, cut_changes, exact_metadata, move_changes, narrow_changes}
use Rattle.capability_laws.proofs.Derived.{inside_refl, inside_trans, covers_contains, same_stays, unrounded_bounds, covered_sane}
use Rattle.capability_laws.proofs.Derived.{derive_cut, derive_exact, derive_move, derive_narrow}
use Rattle.call_lists.specs.declared.Call.{Call}
use Rattle.call_lists.specs.declared.Call.TheVariants.{Cut, ExactCut, Move, Narrow}
use Rattle.call_lists.specs.Calls.{make_call, run, trace, last_of, Kept, AllKept, AllCleared, StaysCleared, ListClaim}

-- lengths, addresses and masks are words
abbrev pub argument : Call → ℕ
argument (Cut n) = n
argument (ExactCut n) = n
argument (Move a) = a
argument (Narrow m) = m

abbrev pub Words : List Call → Type 0
Words [] = Unit {0}
Words (c ∷ cs) = (argument c < 2 ^ 32) × Words cs

-- ---- one call

-- the tag is the old one, or cleared
pub step_tag : (c : Call) (s : Capability) → laws.Kept s.tag (make_call c s).tag
unfolding make_call
step_tag (Cut n) s = laws.set_bounds_kept s n
step_tag (ExactCut n) s = laws.set_bounds_exact_kept s n
step_tag (Move a) s = laws.move_kept s a
step_tag (Narrow m) s = laws.narrow_kept s m

-- so a cleared one stays cleared
step_cleared : (c : Call) (s : Capability) → s.tag ≡ 0 → (make_call c s).tag ≡ 0
step_cleared c s h = still (step_tag c s)
  where
    still : laws.Kept s.tag (make_call c s).tag → (make_call c s).tag ≡ 0
    still (inl e) = e ∙ h
    still (inr e) = e

-- type and reserved bit stay
step_type : (c : Call) (s : Capability) → type_of (make_call c s).metadata ≡ type_of s.metadata
unfolding make_call
step_type (Cut n) s = (cut_changes s n).same_type
step_type (ExactCut n) s = rw (exact_metadata s n) (cut_changes s n).same_type
step_type (Move a) s = rw (move_changes s a).1
step_type (Narrow m) s = (narrow_changes s m).same_type

step_reserved : (c : Call) (s : Capability) → reserved_of (make_call c s).metadata ≡ reserved_of s.metadata
unfolding make_call
step_reserved (Cut n) s = (cut_changes s n).same_reserved
step_reserved (ExactCut n) s = rw (exact_metadata s n) (cut_changes s n).same_reserved
step_reserved (Move a) s = rw (move_changes s a).1
step_reserved (Narrow m) s = (narrow_changes s m).same_reserved

-- a call that keeps the tag of an authority gives an authority inside it
pub step_authority : (c : Call) (s : Capability) → argument c < 2 ^ 32 → Authority s → Kept c s → Authority (make_call c s) × Inside s (make_call c s)
unfolding make_call
step_authority (Cut n) s w h k = derive_cut s h n k
step_authority (ExactCut n) s w h k = derive_exact s h n k.0 k.1
step_authority (Move a) s w h k = derive_move s h a w k
step_authority (Narrow m) s w h k = derive_narrow s h m

-- the tests of a tag that was kept
passed : (u t : Bool) (n : ℕ) → cond (u && t) n 0 ≡ 1 → t ≡ true
passed u t n h = ((both_true u t).0 (kept (u && t) n h).0).1

pub step_kept : (c : Call) (s : Capability) → Authority s → (make_call c s).tag ≡ 1 → Kept c s
unfolding make_call
step_kept (Cut n) s h g = (covers_contains s s.address (s.address + n)).0 (passed (unsealed s) _ s.tag (sym (cut_tag s n) ∙ g))
step_kept (ExactCut n) s h g =
    let b : ℕ = s.address in
    let t = (both_true (covers s b (b + n)) (unrounded b (b + n))).0 (passed (unsealed s) _ s.tag (sym (exact_tag s n) ∙ g)) in
    let k = (covers_contains s b (b + n)).0 t.0 in
    (k, (unrounded_bounds s n h.address_fits (covered_sane s h n k)).0 t.1)
step_kept (Move a) s h g = (same_stays s a).0 (passed (unsealed s) (same_bounds s a) s.tag (sym (move_tag s a) ∙ g))
step_kept (Narrow m) s h g = tt

-- ---- a list

-- a cleared tag stays cleared
pub cleared_stays : (cs : List Call) (s : Capability) → s.tag ≡ 0 → (run cs s).tag ≡ 0
unfolding run
cleared_stays [] s h = h
cleared_stays (c ∷ cs) s h = cleared_stays cs (make_call c s) (step_cleared c s h)

all_cleared : (cs : List Call) (s : Capability) → s.tag ≡ 0 → AllCleared (trace cs s)
unfolding trace
all_cleared [] s h = tt
all_cleared (c ∷ cs) s h = let k = step_cleared c s h in (k, all_cleared cs (make_call c s) k)

-- wherever in the list it was cleared
pub trace_cleared : (cs : List Call) (s : Capability) → StaysCleared (trace cs s)
unfolding trace
trace_cleared [] s = tt
trace_cleared (c ∷ cs) s = (all_cleared cs (make_call c s), trace_cleared cs (make_call c s))

pub run_type : (cs : List Call) (s : Capability) → type_of (run cs s).metadata ≡ type_of s.metadata
unfolding run
run_type [] s = refl
run_type (c ∷ cs) s = run_type cs (make_call c s) ∙ step_type c s

pub run_reserved : (cs : List Call) (s : Capability) → reserved_of (run cs s).metadata ≡ reserved_of s.metadata
unfolding run
run_reserved [] s = refl
run_reserved (c ∷ cs) s = run_reserved cs (make_call c s) ∙ step_reserved c s

authority_tag : (s : Capability) → Authority s → s.tag ≡ 1
unfolding tagged
authority_tag s h = eqb-true s.tag 1 h.is_tagged

pub set_kept : (cs : List Call) (s : Capability) → Words cs → Authority s → (run cs s).tag ≡ 1 → AllKept cs s
unfolding run
set_kept [] s w h g = tt
set_kept (c ∷ cs) s w h g =
    let k = step_kept c s h (set (step_tag c s)) in
    (k, set_kept cs (make_call c s) w.1 (step_authority c s w.0 h k).0 g)
  where
    set : laws.Kept s.tag (make_call c s).tag → (make_call c s).tag ≡ 1
    set (inl e) = e ∙ authority_tag s h
    set (inr e) = absurd (omega (arith, g, cleared_stays cs (make_call c s) e))

pub kept_set : (cs : List Call) (s : Capability) → Words cs → Authority s → AllKept cs s → ((run cs s).tag ≡ 1) × Inside s (run cs s)
unfolding run
kept_set [] s w h k = (authority_tag s h, inside_refl s)
kept_set (c ∷ cs) s w h k =
    let (a, i) = step_authority c s w.0 h k.0 in
    let (t, j) = kept_set cs (make_call c s) w.1 a k.1 in
    (t, inside_trans s (make_call c s) (run cs (make_call c s)) i j)

-- demand 3
pub list_claim : (cs : List Call) (s : Capability) → Words cs → Authority s → ListClaim cs s (run cs s)
list_claim cs s w h =
    record {
      tag_set = (set_kept cs s w h, λ k. (kept_set cs s w h k).0);
      inside = λ g. (kept_set cs s w h (set_kept cs s w h g)).1;
      same_type = run_type cs s;
      same_reserved = run_reserved cs s;
      stays_cleared = trace_cleared cs s;
    }

-- the machine after a list is the last of what its calls returned
pub run_last : (cs : List Call) (s : Capability) → last_of s (trace cs s) ≡ run cs s
unfolding run trace
run_last [] s = refl
run_last (c ∷ cs) s = run_last cs (make_call c s)
