-- The worked cases one by one: what a case of the table says of its step. Assumes nothing.
use mathlib.Core.Path.{◌≡◌}
use mathlib.Core.List.{List, [], ◌∷◌}
use Prim.Native.Nat.{ℕ, zero, suc}
use lib.Dec.{T, eqb, eqb→eq}
use lib.ListN.{get_or}
use Rattle.choices.proofs.Every.{and_left, and_right}
use Rattle.state.specs.Lent.{State}
use Rattle.machine.specs.declared.answers.Step.{Step}
use Rattle.machine.specs.declared.answers.Refusal.{Refusal}
use Rattle.std.specs.Prelude.{Result}
use Rattle.machine.specs.Run.{step_answer, step_after, step_number, step_retired}
use Rattle.machine_laws.proofs.Cases.{cases_hold}
use Rattle.machine_laws.specs.Cases.{Word, Case, board_in, before, found, holds, Hold, ◌&◌, cases, top_of_memory, untagged_load}
use Rattle.machine_laws.specs.Cases.{environment_call}

-- ---- what a case answers and leaves

abbrev pub answer_in : Case → Result Step Refusal
answer_in c = step_answer (board_in c) (c.revoked ∷ []) (before c)

abbrev pub after_in : Case → State
after_in c = step_after (board_in c) (c.revoked ∷ []) (before c)

pub record Worked (c : Case) : Type 0 where
  pub number_is : step_number (answer_in c) ≡ 0
  pub retired_is : step_retired (answer_in c) ≡ c.retired
  pub words_are : T (found c.after (after_in c).regs)

worked : (c : Case) → T (holds c) → Worked c
unfolding holds
worked c h =
    record {
      number_is = eqb→eq (step_number (answer_in c)) 0 (search and_left);
      retired_is = eqb→eq (step_retired (answer_in c)) c.retired (search (and_left, and_right));
      words_are = search (and_left, and_right);
    }

-- ---- word i of a list that is found

abbrev FoundAt : List Word → (i : ℕ) → (regs : List ℕ) → Type 0
FoundAt [] i regs = Unit {0}
FoundAt (w ∷ ws) zero regs = get_or regs w.place 0 ≡ w.value
FoundAt (w ∷ ws) (suc i) regs = FoundAt ws i regs

pub word_at_lem : (ws : List Word) (i : ℕ) (regs : List ℕ) → T (found ws regs) → FoundAt ws i regs
unfolding found
word_at_lem [] i regs h = tt
word_at_lem (w ∷ ws) zero regs h = eqb→eq (get_or regs w.place 0) w.value (and_left (eqb (get_or regs w.place 0) w.value) (found ws regs) h)
word_at_lem (w ∷ ws) (suc i) regs h = word_at_lem ws i regs (and_right (eqb (get_or regs w.place 0) w.value) (found ws regs) h)

-- ---- case i of the table

abbrev HoldsAt : List Case → (i : ℕ) → Type 0
HoldsAt [] i = Unit {0}
HoldsAt (c ∷ cs) zero = Worked c
HoldsAt (c ∷ cs) (suc i) = HoldsAt cs i

case_at : (cs : List Case) (i : ℕ) → Hold cs → HoldsAt cs i
case_at [] i h = tt
case_at (c ∷ cs) zero (h & hs) = worked c h
case_at (c ∷ cs) (suc i) (h & hs) = case_at cs i hs

pub top_worked : Worked top_of_memory
unfolding cases
top_worked = case_at cases 0 cases_hold.0

pub load_worked : Worked untagged_load
unfolding cases
load_worked = case_at cases 7 cases_hold.0

pub call_worked : Worked environment_call
unfolding cases
call_worked = case_at cases 10 cases_hold.0
