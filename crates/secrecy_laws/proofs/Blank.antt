-- A state with the tags of hidden granules cleared: all that it holds is what the state holds outside them. Assumes nothing.
use mathlib.Core.Path.{◌≡◌, refl, sym, ap, ◌∙◌}
use mathlib.Core.Bool.{Bool, true, false, cond, true≢false}
use mathlib.Core.List.{List}
use Prim.Native.Nat.{ℕ, zero, suc, ◌+◌, ◌*◌, ◌/◌, ◌≤◌, ◌<◌}
use native.Mathlib.Omega.{arith}
use lib.Dec.{eqb}
use lib.ListN.{length}
use borrow.Author.Tests.{eqb-true, eqb-false}
use Rattle.words.specs.Words.{Bytes, le_bytes, bit_at, put_bit}
use Rattle.words.proofs.Word.{by_test}
use Rattle.words.proofs.Bytes.{le_bytes_same}
use Rattle.words.proofs.Bits.{length_put_bit, bit_at_put_bit_same, bit_at_put_bit_other, put_bit_Bytes}
use Rattle.capability.specs.declared.Capability.{Capability}
use Rattle.state.specs.Registers.{capability_at}
use Rattle.state.specs.Lent.{State, state}
use Rattle.state.specs.Memory.{capability_in, granule_bytes}
use Rattle.state.specs.declared.Board.{Board}
use Rattle.state.proofs.Laws.{cond_holds, capability_in_granule}
use Rattle.machine.specs.Refusals.{refusal_of}
use Rattle.machine.proofs.Laws.{bits_alike}
use Rattle.sweep.proofs.Laws.{stored_tag, stored_alike}
use Rattle.machine_laws.specs.Lent.{GoodState}
use Rattle.authority_laws.specs.Gain as Whole
use Rattle.authority_laws.specs.Gain.{Held, Start}
use Rattle.secrecy_laws.specs.Outside.{StandsOutside, in_register, in_granule, HeldOutside, StartOutside, SameGranule, Alike}

-- ---- alike

-- what stands in a granule that is the same in both
pub granule_same : (a b : State) (g : ℕ) → SameGranule g a b
    → capability_in a.mem a.tags (g * granule_bytes) ≡ capability_in b.mem b.tags (g * granule_bytes)
granule_same a b g same =
    capability_in_granule a.mem a.tags g
    ∙ (rw (word place (omega arith) (omega arith), word (place + 4) (omega arith) (omega arith), same.tag)
    (sym (capability_in_granule b.mem b.tags g)))
  where
    place : ℕ
    place = g * granule_bytes

    word : (p : ℕ) → place ≤ p → p ≤ place + 4 → le_bytes 4 a.mem p ≡ le_bytes 4 b.mem p
    word p l u = le_bytes_same 4 a.mem b.mem p (λ j k. same.bytes (p + j) (omega arith))

module _ (hidden : ℕ → Bool) where
  pub alike_itself : (a : State) → Alike hidden a a
  alike_itself a = record { same_registers = refl; same_size = refl; same_tag_size = refl; same_byte = λ i h. refl; same_tag = λ g h. refl }

  pub alike_turned : {a b : State} → Alike hidden a b → Alike hidden b a
  alike_turned k =
      record {
        same_registers = sym k.same_registers;
        same_size = sym k.same_size;
        same_tag_size = sym k.same_tag_size;
        same_byte = λ i h. sym (k.same_byte i h);
        same_tag = λ g h. sym (k.same_tag g h);
      }

  pub alike_both : {a b c : State} → Alike hidden a b → Alike hidden b c → Alike hidden a c
  alike_both k l =
      record {
        same_registers = k.same_registers ∙ l.same_registers;
        same_size = k.same_size ∙ l.same_size;
        same_tag_size = k.same_tag_size ∙ l.same_tag_size;
        same_byte = λ i h. k.same_byte i h ∙ l.same_byte i h;
        same_tag = λ g h. k.same_tag g h ∙ l.same_tag g h;
      }

  module _ (a b : State) (alike : Alike hidden a b) where
    -- what stands in a granule that is not hidden
    pub granule_shown : (g : ℕ) → hidden g ≡ false → SameGranule g a b
    granule_shown g h = record { bytes = λ i e. alike.same_byte i (rw e h); tag = alike.same_tag g h }

    -- what one holds outside the other does
    pub held_alike : (c : Capability) → HeldOutside hidden a c → HeldOutside hidden b c
    held_alike c k = record { stands = at k.stands; is_tagged = k.is_tagged }
      where
        at : StandsOutside hidden a c → StandsOutside hidden b c
        at (in_register i l q) = in_register i l (q ∙ ap (λ (r : List ℕ). capability_at r i) alike.same_registers)
        at (in_granule g l h q) = in_granule g (rw alike.same_size at l) h (q ∙ granule_same a b g (granule_shown g h))

    -- both are refused alike
    pub refusal_alike : (n : ℕ) (board : Board) (revoked : List ℕ) → refusal_of n board revoked a ≡ refusal_of n board revoked b
    unfolding refusal_of
    refusal_alike n board revoked = rw (bits_alike board revoked a b alike.same_size alike.same_tag_size, alike.same_registers, alike.same_size)

    -- and good alike
    pub good_alike : (board : Board) (revoked : List ℕ) → GoodState board revoked a → GoodState board revoked b
    good_alike board revoked good =
        record {
          registers = rw alike.same_registers at good.registers;
          memory = rw alike.same_size at good.memory;
          window = rw alike.same_size at good.window;
          bits = record {
            tag_bytes = sym alike.same_tag_size ∙ (rw alike.same_size at good.bits.tag_bytes);
            revocation_bytes = good.bits.revocation_bytes;
          };
          words = rw alike.same_registers at good.words;
          edition = good.edition;
        }

-- ---- blanked

-- of the first n granules those that are hidden without their tags
unfoldable pub cleared : (hidden : ℕ → Bool) → (n : ℕ) → (tags : List ℕ) → List ℕ
cleared hidden zero tags = tags
cleared hidden (suc n) tags = cond (hidden n) (put_bit (cleared hidden n tags) n 0) (cleared hidden n tags)

module _ (hidden : ℕ → Bool) (tags : List ℕ) where
  cleared_long : (n : ℕ) → length (cleared hidden n tags) ≡ length tags
  unfolding cleared
  cleared_long zero = refl
  cleared_long (suc n) =
      cond_holds (λ (t : List ℕ). length t ≡ length tags) (hidden n) _ _ (length_put_bit (cleared hidden n tags) n 0 ∙ cleared_long n) (cleared_long n)

  cleared_bytes : (n : ℕ) → Bytes tags → Bytes (cleared hidden n tags)
  unfolding cleared
  cleared_bytes zero b = b
  cleared_bytes (suc n) b = cond_holds Bytes (hidden n) _ _ (put_bit_Bytes (cleared hidden n tags) n 0 (cleared_bytes n b)) (cleared_bytes n b)

  cleared_other : (n g : ℕ) → hidden g ≡ false → bit_at (cleared hidden n tags) g ≡ bit_at tags g
  unfolding cleared
  cleared_other zero g h = refl
  cleared_other (suc n) g h = go (hidden n) refl (cleared_other n g h)
    where
      go : (b : Bool) → hidden n ≡ b → bit_at (cleared hidden n tags) g ≡ bit_at tags g
          → bit_at (cond b (put_bit (cleared hidden n tags) n 0) (cleared hidden n tags)) g ≡ bit_at tags g
      go true q e = bit_at_put_bit_other (cleared hidden n tags) n 0 g (λ same. differ (rw same at h) q) ∙ e
        where
          differ : {b : Bool} → b ≡ false → b ≡ true → ⊥
          differ p q = true≢false (sym q ∙ p)
      go false q e = e

  cleared_hidden : (n g : ℕ) → g < n → g < 8 * length tags → hidden g ≡ true → bit_at (cleared hidden n tags) g ≡ 0
  unfolding cleared
  cleared_hidden zero g l there h = absurd (omega arith)
  cleared_hidden (suc n) g l there h = go (cleared_hidden n g) (eqb g n) refl
    where
      go : (g < n → g < 8 * length tags → hidden g ≡ true → bit_at (cleared hidden n tags) g ≡ 0) → (b : Bool) → eqb g n ≡ b
          → bit_at (cond (hidden n) (put_bit (cleared hidden n tags) n 0) (cleared hidden n tags)) g ≡ 0
      go before true q =
          let e = eqb-true g n q in
          let k : hidden n ≡ true = rw e at h in
          rw (k, e) (bit_at_put_bit_same (cleared hidden n tags) n 0 (omega (arith, cleared_long n)))
      go before false q =
          let d = eqb-false g n q in
          let e = before (omega arith) there h in
          cond_holds (λ (t : List ℕ). bit_at t g ≡ 0) (hidden n) _ _ (bit_at_put_bit_other (cleared hidden n tags) n 0 g d ∙ e) e

abbrev pub blanked : (hidden : ℕ → Bool) → State → State
blanked hidden s = state s.regs s.mem (cleared hidden (length s.mem / granule_bytes) s.tags)

module _ (hidden : ℕ → Bool) (s : State) where
  pub blanked_alike : Alike hidden s (blanked hidden s)
  blanked_alike =
      record {
        same_registers = refl;
        same_size = refl;
        same_tag_size = sym (cleared_long hidden s.tags (length s.mem / granule_bytes));
        same_byte = λ i h. refl;
        same_tag = λ g h. sym (cleared_other hidden s.tags (length s.mem / granule_bytes) g h);
      }

  module _ (board : Board) (revoked : List ℕ) (good : GoodState board revoked s) where
    pub blanked_held : (c : Capability) → Held (blanked hidden s) c → HeldOutside hidden s c
    blanked_held c k = record { stands = at k.stands; is_tagged = k.is_tagged }
      where
        tags : List ℕ
        tags = cleared hidden (length s.mem / granule_bytes) s.tags

        at : Whole.Stands (blanked hidden s) c → StandsOutside hidden s c
        at (Whole.in_register i l q) = in_register i l q
        at (Whole.in_granule g l q) =
            by_test (hidden g)
            (λ h. absurd (omega (
              arith,
              k.is_tagged,
              ap (λ (x : Capability). x.tag) q,
              stored_tag s.mem g tags,
              cleared_hidden hidden s.tags (length s.mem / granule_bytes) g l (omega (arith, good.bits.tag_bytes, good.memory.blocks)) h,
            )))
            (λ h. in_granule g l h (q ∙ stored_alike s.mem g tags s.tags (cleared_other hidden s.tags (length s.mem / granule_bytes) g h)))

    -- the theorem of authority can start there
    pub blanked_starts : StartOutside hidden s → Start (blanked hidden s)
    blanked_starts h =
        record {
          in_type = record {
            registers_in = h.in_type.registers_in;
            memory_in = h.in_type.memory_in;
            tags_in = cleared_bytes hidden s.tags (length s.mem / granule_bytes) h.in_type.tags_in;
          };
          sound = λ c k. h.sound c (blanked_held c k);
        }
