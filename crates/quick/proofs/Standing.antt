-- One step of the loop at an entry: PCC stands there, no interrupt is due, so the plain step does what the entry's instruction does. Assumes nothing.
use Rattle.std.proofs.Common.{Ok, ◌≡◌, ℕ, ◌+◌, ◌-◌, ◌*◌, ◌^◌, ◌<◌, ◌≤◌, Bool, true, false, cond, ◌&&◌, eqb, leb, List, get_or, sym, refl, ap}
use Rattle.std.proofs.Common.{◌∙◌, ap₂, inl, inr, arith}
use borrow.Author.Tests.{lt-leb}
use Rattle.words.specs.Words.{le_bytes}
use Rattle.metadata.specs.Rights.{bit}
use Rattle.instructions.specs.declared.Instruction.{Instruction}
use Rattle.short_forms.specs.Standing.{is_long, half_bytes, long_bytes}
use Rattle.state.specs.Registers.{capability_at, pcc_of, mstatus_of}
use Rattle.state.specs.Status.{MIE}
use Rattle.state.specs.Timer.{time_of, compare_of, interrupted}
use Rattle.state.specs.Lent.{State}
use Rattle.state.specs.declared.Board.{Board}
use Rattle.fetch.specs.Fetch.{Met}
use Rattle.fetch.specs.declared.Fetched.TheVariants.{Long, Half}
use Rattle.fetch.proofs.Known.{fetched_there}
use Rattle.commit.specs.Commit.{apply_effect}
use Rattle.execution.specs.Step.{effect_of, instruction_in, word_in, length_in, trap_or, effect_in, seen, met_of, fetched_in, effect_at, step_of}
use Rattle.quick.specs.Turns.{pcc_at}
use Rattle.quick.specs.Steady.{Steady}
use Rattle.quick.specs.Entries.{there_of, Decoded, key_of, Quiet, Calm}

-- ---- no interrupt

pub not_due : (regs : List ℕ) (left : ℕ) → 1 ≤ left → Quiet left regs → interrupted regs ≡ false
unfolding interrupted
not_due regs left h (inl z) = absurd (omega (arith, h, z))
not_due regs left h (inr (inl m)) = rw m refl
not_due regs left h (inr (inr t)) = go (eqb (bit (mstatus_of regs) MIE) 1) (lt-leb (compare_of regs) (time_of regs) (omega (arith, h, t)))
  where
    go : (b : Bool) → leb (compare_of regs) (time_of regs) ≡ false → (b && leb (compare_of regs) (time_of regs)) ≡ false
    go true f = f
    go false f = refl

-- time one on, one step less
pub calm_after : (base k limit : ℕ) (regs after : List ℕ) → compare_of regs < 2 ^ 64 → Steady regs after → Calm base k limit regs → k < limit
    → Calm base (k + 1) limit after
calm_after base k limit regs after fits s (b, c) h =
    (b ∙ ap (λ (x : ℕ). x * 2 ^ 32) (sym s.word_stays), λ g. (s.tag_stays ∙ (c h).0, λ z. (c h).1 (sym s.word_stays ∙ z), go (c h).2 g))
  where
    go : Quiet (limit - k) regs → k + 1 < limit → Quiet (limit - (k + 1)) after
    go (inl z) g = absurd (omega (arith, z, g))
    go (inr (inl m)) g = inr (inl (ap (λ (x : ℕ). bit x MIE) s.status_stays ∙ m))
    go (inr (inr t)) g = inr (inr (omega (arith, t, g, fits, s.time_goes, s.compare_stays)))

-- ---- the plain step at a decoded address

module _ (board : Board) (revoked : List ℕ) (s : State) (m a n : ℕ) (x : Instruction) (pcc : pcc_of s.regs ≡ pcc_at m a)
    (due : interrupted s.regs ≡ false) (d : Decoded board.start s.mem m a n x) where
  abbrev there : Met
  there = there_of board.start s.mem a

  met_there : fetched_in board s ≡ there
  unfolding met_of
  met_there =
      let o = d.is_open in
      rw (due, pcc) (fetched_there (pcc_at m a) board.start s.mem o.allowed o.is_even o.is_above o.is_inside)

  no_fault : (b : Bool) (l h : ℕ) (regs : List ℕ) → effect_in (cond b (Ok (Long l)) (Ok (Half h))) regs (seen board revoked s)
      ≡ effect_of (length_in (cond b (Ok (Long l)) (Ok (Half h)))) (instruction_in (cond b (Ok (Long l)) (Ok (Half h)))) (word_in (cond b (Ok (Long
      l)) (Ok (Half h)))) regs
      (seen board revoked s)
  unfolding effect_in trap_or
  no_fault true l h regs = refl
  no_fault false l h regs = refl

  pub effect_there : effect_at board revoked s ≡ effect_of n x (word_in there) s.regs (seen board revoked s)
  effect_there =
      ap (λ (f : Met). effect_in f s.regs (seen board revoked s)) met_there
      ∙ no_fault (is_long (le_bytes half_bytes s.mem (a - board.start))) (le_bytes long_bytes s.mem (a - board.start))
      (le_bytes half_bytes s.mem (a - board.start)) s.regs
      ∙ ap₂ (λ (b : ℕ) (y : Instruction). effect_of b y (word_in there) s.regs (seen board revoked s)) d.length_is d.reads

  pub step_there : step_of board revoked s ≡ apply_effect board.start n (effect_at board revoked s) s
  unfolding step_of
  step_there = ap (λ (b : ℕ). apply_effect board.start b (effect_at board revoked s) s) (ap length_in met_there ∙ d.length_is)

-- ---- the entry of a key is PCC's

pub key_splits : (m a b c : ℕ) → a < 2 ^ 32 → c < 2 ^ 32 → key_of m a ≡ b * 2 ^ 32 + c → (m ≡ b) × (a ≡ c)
key_splits m a b c h g e = (omega (arith, h, g, e), omega (arith, h, g, e))

pub pcc_of_words : (regs : List ℕ) (m a : ℕ) → get_or regs 48 0 ≡ a → get_or regs 49 0 ≡ m → get_or regs 50 0 ≡ 1 → pcc_of regs ≡ pcc_at m a
unfolding capability_at
pcc_of_words regs m a e f g = rw (e, f, g) refl
