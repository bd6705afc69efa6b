-- The length of an instruction decides PCC alone: what the same effect leaves elsewhere does not depend on it.
use Rattle.std.proofs.Common.{◌≡◌, ℕ, ◌/◌, List, get_or, sym, refl, ◌∙◌, arith}
use Rattle.state.specs.Layout.{capability_words, pcc_index}
use Rattle.state.specs.Effects.{Next, onward, jumps, enters, writes_of}
use Rattle.state.specs.declared.Effect.{Effect}
use Rattle.commit.specs.Commit.{advanced, registers_after}
use Rattle.commit.proofs.Views.{resulted, besides, gone, registers_are}
use Rattle.commit.proofs.Registers.{each_capability}

-- word i is none of PCC's
abbrev pub Elsewhere : ℕ → Type 0
Elsewhere i = i / capability_words ≡ pcc_index → ⊥

pub advanced_elsewhere : (n : ℕ) (l : List ℕ) (i : ℕ) → Elsewhere i → get_or (advanced n l) i 0 ≡ get_or l i 0
unfolding advanced
advanced_elsewhere n l i h =
    (each_capability (λ j v. Elsewhere j → v ≡ get_or l j 0) l pcc_index _
    (record {
      address_holds = λ e. absurd (e (omega arith));
      metadata_holds = λ e. absurd (e (omega arith));
      tag_holds = λ e. absurd (e (omega arith));
    })
    (record { word = λ j e. refl })).word i h

module _ (n k : ℕ) where
  both_advanced : (l : List ℕ) (i : ℕ) → Elsewhere i → get_or (advanced n l) i 0 ≡ get_or (advanced k l) i 0
  both_advanced l i h = advanced_elsewhere n l i h ∙ sym (advanced_elsewhere k l i h)

  gone_alone : (x : Next) (l : List ℕ) (i : ℕ) → Elsewhere i → get_or (gone n x l) i 0 ≡ get_or (gone k x l) i 0
  gone_alone onward l i h = both_advanced l i h
  gone_alone (jumps target mstatus) l i h = refl
  gone_alone (enters cause value) l i h = refl

  pub next_alone : (e : Effect) (regs : List ℕ) (i : ℕ) → Elsewhere i → get_or (registers_after n e regs) i 0 ≡ get_or (registers_after k e regs) i 0
  next_alone e regs i h =
      rw (registers_are n e regs, registers_are k e regs)
      (gone_alone (writes_of e).next (besides (writes_of e).beside (resulted (writes_of e).result regs)) i h)
