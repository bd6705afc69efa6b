-- What `look` finds: the four bytes at PCC's address, in memory and allowed, are a long word or start with a half, and PCC is itself after it. Assumes nothing.
use Rattle.std.proofs.Common.{◌≡◌, ℕ, ◌+◌, ◌-◌, ◌%◌, ◌^◌, ◌<◌, true, false, List, length, sym, refl, ap, ◌∙◌, arith, eq-eqb, ne_eqb}
use Rattle.std.proofs.Common.{Option, Some, None, Bool}
use Rattle.words.specs.Words.{le_bytes, wrap, Bytes}
use Rattle.capability.specs.Capability.{capability, move_of}
use Rattle.capability.specs.declared.Capability.{Capability}
use Rattle.instructions.specs.Decode.{decode_of}
use Rattle.instructions.specs.declared.Instruction.{Instruction}
use Rattle.short_forms.specs.Long.{long_form}
use Rattle.short_forms.specs.Standing.{is_long, half_bytes, long_bytes}
use Rattle.short_forms.proofs.Standing.{low_half}
use Rattle.execution.specs.Step.{instruction_in, length_in}
use Rattle.quick.specs.Turns.{pcc_at}
use Rattle.quick.specs.Entries.{Open, there_of, FoundOf, FoundAs, FoundAt, FoundIf, FirstLook}
use Rattle.quick.specs.declared.Found.{Found}

tagged_is : (c : Capability) → c.tag ≡ 1 → c ≡ pcc_at c.metadata c.address
tagged_is c h = ap (λ (t : ℕ). capability c.address c.metadata t) h

-- a capability that keeps its tag at another address
moved_is : (c : Capability) (to : ℕ) → c.tag ≡ 1 → (move_of c to).tag ≡ 1 → move_of (pcc_at c.metadata c.address) to ≡ pcc_at c.metadata to
unfolding move_of
moved_is c to t h =
    ap (λ (d : Capability). move_of d to) (sym (tagged_is c t)) ∙ ap (λ (x : ℕ). capability to c.metadata x) h

module _ (start : ℕ) (mem : List ℕ) (pcc : Capability) (known : Bytes mem) (there : Open start (length mem) pcc) (word : ℕ)
    (word_is : word ≡ le_bytes long_bytes mem (pcc.address - start)) (f : Found) (m-fits : pcc.metadata < 2 ^ 32) (a_fits : pcc.address < 2 ^ 32) where
  half_is : le_bytes half_bytes mem (pcc.address - start) ≡ word % 2 ^ 16
  half_is = sym (low_half mem (pcc.address - start) known) ∙ ap (λ (z : ℕ). z % 2 ^ 16) (sym word_is)

  module _ (bytes : ℕ) (x : Instruction) (found : FoundOf pcc bytes x f) (long : length_in (there_of start mem pcc.address) ≡ bytes)
      (reads : instruction_in (there_of start mem pcc.address) ≡ x) where
    found_at : FoundAt start mem pcc f
    found_at = record {
      is_tagged = there.is_tagged;
      stands_there = x;
      is_decoded = record {
        word_fits = m-fits;
        address_fits = a_fits;
        is_open = record {
          is_tagged = refl;
          is_even = there.is_even;
          is_above = there.is_above;
          is_inside = there.is_inside;
          allowed = rw (← (tagged_is pcc there.is_tagged)) there.allowed;
        };
        length_is = long ∙ sym found.bytes_are;
        reads = reads;
        goes_on = rw found.bytes_are (moved_is pcc (wrap (pcc.address + bytes)) there.is_tagged found.is_itself);
      };
      op_means = found.op_means;
      op_placed = found.op_placed;
    }

  pub found_long : word % 4 ≡ 3 → (x : Instruction) → x ≡ decode_of word → FoundOf pcc long_bytes x f → FoundAt start mem pcc f
  unfolding instruction_in length_in
  found_long h x d found =
      let t : is_long (le_bytes half_bytes mem (pcc.address - start)) ≡ true = rw half_is (eq-eqb (word % 2 ^ 16 % 4) 3 (omega (arith, h))) in
      found_at long_bytes x found (rw t refl) (rw t (ap decode_of (sym word_is) ∙ sym d))

  pub found_half : (word % 4 ≡ 3 → ⊥) → (x : Instruction) → x ≡ decode_of (long_form (word % 2 ^ 16)) → FoundOf pcc half_bytes x f → FoundAt start mem pcc f
  unfolding instruction_in length_in
  found_half h x d found =
      let t : is_long (le_bytes half_bytes mem (pcc.address - start)) ≡ false = rw half_is (ne_eqb (word % 2 ^ 16 % 4) 3 (λ q. h (omega (arith, q)))) in
      found_at half_bytes x found (rw t refl) (rw t (ap (λ (z : ℕ). decode_of (long_form z)) half_is ∙ sym d))

-- ---- what is found, or nothing

pub long_if : (start : ℕ) (mem : List ℕ) (pcc : Capability) → Bytes mem → Open start (length mem) pcc → (word : ℕ)
    → word ≡ le_bytes long_bytes mem (pcc.address - start) → (o : Option Found) → word % 4 ≡ 3 → (x : Instruction) → x ≡ decode_of word
    → FoundAs pcc long_bytes x o → FoundIf start mem pcc o
long_if start mem pcc known there word is None h x d found = tt
long_if start mem pcc known there word is (Some f) h x d found = λ m a. found_long start mem pcc known there word is f m a h x d found

pub half_if : (start : ℕ) (mem : List ℕ) (pcc : Capability) → Bytes mem → Open start (length mem) pcc → (word : ℕ)
    → word ≡ le_bytes long_bytes mem (pcc.address - start) → (o : Option Found) → (word % 4 ≡ 3 → ⊥) → (x : Instruction)
    → x ≡ decode_of (long_form (word % 2 ^ 16)) → FoundAs pcc half_bytes x o → FoundIf start mem pcc o
half_if start mem pcc known there word is None h x d found = tt
half_if start mem pcc known there word is (Some f) h x d found = λ m a. found_half start mem pcc known there word is f m a h x d found

pub first_look : (missed : Bool) (o : Option Found) → missed ≡ false → FirstLook missed o
first_look missed None h = tt
first_look missed (Some f) h = h
