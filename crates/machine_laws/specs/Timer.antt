-- A machine that has no interrupt, beside the one that has; and what moves the stack's mark. Document 02, 6. Assumes nothing.
use Rattle.std.specs.Prelude.{List, ℕ, zero, suc, ◌+◌, cond}
use Rattle.instructions.specs.declared.Csr.{Csr}
use Rattle.instructions.specs.declared.Csr.TheVariants.{Mstatus, Mcause, Mtval, Mshwm, Mshwmb}
use Rattle.state.specs.Registers.{pcc_of}
use Rattle.state.specs.Lent.{State}
use Rattle.state.specs.Effects.{Beside, neither, special, control, writes_of}
use Rattle.state.specs.declared.Board.{Board}
use Rattle.state.specs.declared.Effect.{Effect}
use Rattle.fetch.specs.Fetch.{fetch_of}
use Rattle.commit.specs.Commit.{apply_effect, retires}
use Rattle.execution.specs.Step.{length_in, effect_in, seen}
use Rattle.machine.specs.Run.{Ran, ran}
use Rattle.fetch.specs.Fetch.{Met}

-- a step that fetches whatever the time is
abbrev pub fetched_untimed : Board → State → Met
fetched_untimed board s = fetch_of (pcc_of s.regs) board.start s.mem

abbrev pub effect_untimed : Board → (revoked : List ℕ) → State → Effect
effect_untimed board revoked s = effect_in (fetched_untimed board s) s.regs (seen board revoked s)

unfoldable pub step_untimed : Board → (revoked : List ℕ) → State → State
step_untimed board revoked s = apply_effect board.start (length_in (fetched_untimed board s)) (effect_untimed board revoked s) s

-- n of them, counted as a run counts
unfoldable pub iterate_untimed : (n : ℕ) → Board → (revoked : List ℕ) → Ran → Ran
iterate_untimed zero board revoked r = r
iterate_untimed (suc n) board revoked r =
    iterate_untimed n board revoked
    (ran (step_untimed board revoked r.at) (r.retired + cond (retires (effect_untimed board revoked r.at)) 1 0)
    (r.trapped + cond (retires (effect_untimed board revoked r.at)) 0 1))

-- an effect that is a CSR instruction's write of the mark
abbrev pub IsMark : Csr → Type 0
IsMark Mstatus = ⊥
IsMark Mcause = ⊥
IsMark Mtval = ⊥
IsMark Mshwm = Unit {0}
IsMark Mshwmb = ⊥

abbrev pub ToMark : Beside → Type 0
ToMark neither = ⊥
ToMark (special scr value) = ⊥
ToMark (control csr value) = IsMark csr

abbrev pub WritesMark : Effect → Type 0
WritesMark e = ToMark (writes_of e).beside
