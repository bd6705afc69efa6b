-- All that is proved of effects variant by variant: that the register file after an effect is what its writes leave, and what its views say of each other. Each
-- other law of effects is a law of the views. Assumes nothing.
use Rattle.std.proofs.Common.{◌≡◌, ℕ, Bool, true, false, List, set, refl}
use Rattle.capability.specs.Capability.{integer}
use Rattle.capability.specs.declared.Capability.{Capability}
use Rattle.instructions.specs.declared.Csr.TheVariants.{Mstatus}
use Rattle.state.specs.Layout.{pcc_index, csr_index, scr_index}
use Rattle.state.specs.Registers.{set_capability, write_register}
use Rattle.state.specs.Effects.{Stored, nothing, bytes, whole, stored_by, Result, none, given, Beside, neither, special, control, Next, onward, jumps, enters}
use Rattle.state.specs.Effects.{writes_of, EachCapability, EachWord}
use Rattle.state.specs.declared.Effect.{Effect}
use Rattle.state.specs.declared.Effect.TheVariants.{Advance, Write, Store, StoreCapability, Jump, WriteScr, WriteCsr, Trap}
use Rattle.commit.specs.Commit.{advanced, trapped, jumped, with_scr, with_csr, registers_after, retires}

-- ---- the register file

-- what each write leaves
abbrev pub resulted : Result → (regs : List ℕ) → List ℕ
resulted none regs = regs
resulted (given rd value) regs = write_register regs rd value

abbrev pub besides : Beside → (regs : List ℕ) → List ℕ
besides neither regs = regs
besides (special scr value) regs = set_capability regs (scr_index scr) value
besides (control csr value) regs = set regs (csr_index csr) value

abbrev pub gone : (bytes : ℕ) → Next → (regs : List ℕ) → List ℕ
gone n onward regs = advanced n regs
gone n (jumps target mstatus) regs = set (set_capability regs pcc_index target) (csr_index Mstatus) mstatus
gone n (enters cause value) regs = trapped regs cause value

pub registers_are : (n : ℕ) (e : Effect) (regs : List ℕ)
    → registers_after n e regs ≡ gone n (writes_of e).next (besides (writes_of e).beside (resulted (writes_of e).result regs))
unfolding jumped with_scr with_csr
registers_are n Advance regs = refl
registers_are n (Write rd value) regs = refl
registers_are n (Store kind i value) regs = refl
registers_are n (StoreCapability i value) regs = refl
registers_are n (Jump rd link target mstatus) regs = refl
registers_are n (WriteScr rd old scr value) regs = refl
registers_are n (WriteCsr rd old csr value) regs = refl
registers_are n (Trap cause value) regs = refl

-- ---- each capability and each word

abbrev pub OfResult : (Capability → Type 0) → Result → Type 0
OfResult P none = Unit {0}
OfResult P (given rd value) = P value

abbrev pub OfBeside : (Capability → Type 0) → (ℕ → Type 0) → Beside → Type 0
OfBeside P Q neither = Unit {0}
OfBeside P Q (special scr value) = P value
OfBeside P Q (control csr value) = Q value

abbrev pub OfNext : (Capability → Type 0) → (ℕ → Type 0) → Next → Type 0
OfNext P Q onward = Unit {0}
OfNext P Q (jumps target mstatus) = P target × Q mstatus
OfNext P Q (enters cause value) = Q cause × Q value

abbrev pub EachStored : (Capability → Type 0) → Stored → Type 0
EachStored P nothing = Unit {0}
EachStored P (bytes n i value) = Unit {0}
EachStored P (whole i value) = P value

-- what is said of each capability and each word of an effect is said of those of its writes, where it is said of an integer's word
abbrev pub EachOf : (Capability → Type 0) → (ℕ → Type 0) → Effect → Type 0
EachOf P Q e = OfResult P (writes_of e).result × OfBeside P Q (writes_of e).beside × OfNext P Q (writes_of e).next

pub each_of : (P : Capability → Type 0) (Q : ℕ → Type 0) → ((x : ℕ) → Q x → P (integer x)) → (e : Effect) → EachCapability P e → EachWord Q e → EachOf P Q e
each_of P Q f Advance c w = (tt, tt, tt)
each_of P Q f (Write rd value) c w = (c, tt, tt)
each_of P Q f (Store kind i value) c w = (tt, tt, tt)
each_of P Q f (StoreCapability i value) c w = (tt, tt, tt)
each_of P Q f (Jump rd link target mstatus) c w = (c.0, tt, (c.1, w))
each_of P Q f (WriteScr rd old scr value) c w = (c.0, c.1, tt)
each_of P Q f (WriteCsr rd old csr value) c w = (f old w.0, w.1, tt)
each_of P Q f (Trap cause value) c w = (tt, tt, w)

-- what every capability and every word has
module _ (P : Capability → Type 0) (Q : ℕ → Type 0) (p : (c : Capability) → P c) (q : (x : ℕ) → Q x) where
  pub any_result : (r : Result) → OfResult P r
  any_result none = tt
  any_result (given rd value) = p value

  pub any_beside : (b : Beside) → OfBeside P Q b
  any_beside neither = tt
  any_beside (special scr value) = p value
  any_beside (control csr value) = q value

  pub any_next : (x : Next) → OfNext P Q x
  any_next onward = tt
  any_next (jumps target mstatus) = (p target, q mstatus)
  any_next (enters cause value) = (q cause, q value)

  pub any_of : (e : Effect) → EachOf P Q e
  any_of e = (any_result (writes_of e).result, any_beside (writes_of e).beside, any_next (writes_of e).next)

-- and of the capability that it stores
pub each_stored : (P : Capability → Type 0) (e : Effect) → EachCapability P e → EachStored P (stored_by e)
each_stored P Advance c = tt
each_stored P (Write rd value) c = tt
each_stored P (Store kind i value) c = tt
each_stored P (StoreCapability i value) c = c
each_stored P (Jump rd link target mstatus) c = tt
each_stored P (WriteScr rd old scr value) c = tt
each_stored P (WriteCsr rd old csr value) c = tt
each_stored P (Trap cause value) c = tt

-- what every number has, each word of an effect has
each_word : (Q : ℕ → Type 0) → ((x : ℕ) → Q x) → (e : Effect) → EachWord Q e
each_word Q f Advance = tt
each_word Q f (Write rd value) = tt
each_word Q f (Store kind i value) = f value
each_word Q f (StoreCapability i value) = tt
each_word Q f (Jump rd link target mstatus) = f mstatus
each_word Q f (WriteScr rd old scr value) = tt
each_word Q f (WriteCsr rd old csr value) = (f old, f value)
each_word Q f (Trap cause value) = (f cause, f value)

-- so of capabilities alone, where every integer has it
abbrev pub Any : ℕ → Type 0
Any x = Unit {0}

pub each_capability_of : (P : Capability → Type 0) → ((x : ℕ) → P (integer x)) → (e : Effect) → EachCapability P e → EachOf P Any e
each_capability_of P f e c = each_of P Any (λ x u. f x) e c (each_word Any (λ x. tt) e)

-- ---- traps

-- what does not enter a trap retires
abbrev pub goes_on : Next → Bool
goes_on onward = true
goes_on (jumps target mstatus) = true
goes_on (enters cause value) = false

pub retires_is : (e : Effect) → retires e ≡ goes_on (writes_of e).next
unfolding retires
retires_is Advance = refl
retires_is (Write rd value) = refl
retires_is (Store kind i value) = refl
retires_is (StoreCapability i value) = refl
retires_is (Jump rd link target mstatus) = refl
retires_is (WriteScr rd old scr value) = refl
retires_is (WriteCsr rd old csr value) = refl
retires_is (Trap cause value) = refl

-- what traps gives no result and stores nothing
pub trap_alone : (e : Effect) → (retires e ≡ true → ⊥) → ((writes_of e).result ≡ none) × (stored_by e ≡ nothing)
unfolding retires
trap_alone Advance h = absurd (h refl)
trap_alone (Write rd value) h = absurd (h refl)
trap_alone (Store kind i value) h = absurd (h refl)
trap_alone (StoreCapability i value) h = absurd (h refl)
trap_alone (Jump rd link target mstatus) h = absurd (h refl)
trap_alone (WriteScr rd old scr value) h = absurd (h refl)
trap_alone (WriteCsr rd old csr value) h = absurd (h refl)
trap_alone (Trap cause value) h = (refl, refl)
