-- Interrupts off, no step at all, or steps that do not pass compare: each way out is one case of Quiet.
use Rattle.std.proofs.Common.{◌≡◌, ℕ, ◌+◌, ◌*◌, ◌^◌, ◌≤◌, List, get_or, sym, refl, ◌∙◌, inl, inr, arith}
use Rattle.state.specs.Layout.{time_index, compare_index}
use Rattle.state.specs.Timer.{time_of, compare_of}
use Rattle.quick.proofs.pace.quiet_steps.Goals as goal

-- steps that end before compare, by the two numbers
before-compare : (regs : List ℕ) (time compare left : ℕ) → time ≡ get_or regs (time_index + 1) 0 * 2 ^ 32 + get_or regs time_index 0
    → compare ≡ get_or regs (compare_index + 1) 0 * 2 ^ 32 + get_or regs compare_index 0
    → time + left ≤ compare → time_of regs + left ≤ compare_of regs
unfolding time_of compare_of
before-compare regs time compare left t c h = rw (t, c) at h

pub returns-then-mie_of-eq0 : goal.returns-then-mie_of-eq0
returns-then-mie_of-eq0 c = (omega arith, inr (inl (sym c.mie_of.ensures ∙ c.if-mie_of-eq0.true)))

pub returns-then-compare-time : goal.returns-then-compare-time
returns-then-compare-time c = (omega arith, inl refl)

pub returns : goal.returns
returns c = (
  omega (arith, c.min.ensures),
  inr (inr (before-compare c.args.regs.now c.long_of-time.result
      c.long_of-compare.result _ c.long_of-time.ensures c.long_of-compare.ensures (omega (arith, c.if-compare-time.false, c.min.ensures)))),
)
