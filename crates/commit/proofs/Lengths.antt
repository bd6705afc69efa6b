-- No effect changes the length of a buffer. Assumes nothing.
use Rattle.std.proofs.Common.{◌≡◌, ℕ, ◌+◌, ◌/◌, ◌%◌, ◌^◌, eqb, leb, List, length, set, refl, ◌∙◌, length-set}
use Rattle.words.specs.Words.{set_bytes, put_bit}
use Rattle.words.proofs.Bytes.{length_set_bytes}
use Rattle.words.proofs.Bits.{length_put_bit}
use Rattle.capability.specs.declared.Capability.{Capability}
use Rattle.instructions.specs.declared.Csr.TheVariants.{Mshwm}
use Rattle.state.specs.Layout.{general_count, csr_index, scr_index}
use Rattle.state.specs.Marks.{cleared, below_mark, marked}
use Rattle.state.specs.Timer.{ticked}
use Rattle.state.specs.Registers.{set_capability, write_register}
use Rattle.state.specs.Lent.{State}
use Rattle.state.specs.Memory.{granule_bytes}
use Rattle.state.specs.Effects.{Stored, nothing, bytes, whole, stored_by, Result, none, given, Beside, neither, special, control, Next, onward, jumps, enters}
use Rattle.state.specs.Effects.{writes_of}
use Rattle.state.specs.declared.Effect.{Effect}
use Rattle.state.proofs.Laws.{cond_holds}
use Rattle.commit.specs.Commit.{advanced, trapped, registers_after, marked_by, stored, retagged, stored_capability, memory_after, tags_after, apply_effect}
use Rattle.commit.proofs.Views.{resulted, besides, gone, registers_are}

abbrev Long : (n : ℕ) → List ℕ → Type 0
Long n l = length l ≡ n

capability_long : (l : List ℕ) (i : ℕ) (c : Capability) → length (set_capability l i c) ≡ length l
unfolding set_capability
capability_long l i c = simp length-set

register_long : (l : List ℕ) (rd : ℕ) (c : Capability) → length (write_register l rd c) ≡ length l
unfolding write_register
register_long l rd c =
    cond_holds (Long (length l)) (eqb (rd % general_count) 0) l (set_capability l (rd % general_count) c) refl (capability_long l (rd % general_count) c)

advanced_long : (n : ℕ) (l : List ℕ) → length (advanced n l) ≡ length l
unfolding advanced
advanced_long n l = capability_long l _ _

result_long : (r : Result) (l : List ℕ) → length (resulted r l) ≡ length l
result_long none l = refl
result_long (given rd value) l = register_long l rd value

beside_long : (b : Beside) (l : List ℕ) → length (besides b l) ≡ length l
beside_long neither l = refl
beside_long (special scr value) l = capability_long l (scr_index scr) value
beside_long (control csr value) l = length-set l (csr_index csr) value

gone_long : (n : ℕ) (x : Next) (l : List ℕ) → length (gone n x l) ≡ length l
unfolding trapped
gone_long n onward l = advanced_long n l
gone_long n (jumps target mstatus) l = simp (length-set, capability_long)
gone_long n (enters cause value) l = simp (length-set, capability_long)

pub registers_long : (n : ℕ) (e : Effect) (regs : List ℕ) → length (registers_after n e regs) ≡ length regs
registers_long n e regs =
    rw (registers_are n e regs)
    (gone_long n (writes_of e).next _ ∙ (beside_long (writes_of e).beside _ ∙ result_long (writes_of e).result regs))

marked_long : (a : ℕ) (l : List ℕ) → length (marked a l) ≡ length l
unfolding marked
marked_long a l = cond_holds (Long (length l)) (below_mark l a) (set l (csr_index Mshwm) (cleared a)) l (simp length-set) refl

mark_long : (start : ℕ) (x : Stored) (l : List ℕ) → length (marked_by start x l) ≡ length l
mark_long start nothing l = refl
mark_long start (bytes n i value) l = marked_long ((start + i) % 2 ^ 32) l
mark_long start (whole i value) l = marked_long ((start + i) % 2 ^ 32) l

ticked_long : (l : List ℕ) → length (ticked l) ≡ length l
unfolding ticked
ticked_long l = simp length-set

memory_long : (x : Stored) (mem : List ℕ) → length (memory_after x mem) ≡ length mem
unfolding stored stored_capability
memory_long nothing mem = refl
memory_long (bytes n i value) mem =
    cond_holds (Long (length mem)) (leb (i + n) (length mem)) (set_bytes n mem i value) mem (length_set_bytes n mem i value) refl
memory_long (whole i value) mem =
    let low = set_bytes 4 mem i value.address in
    cond_holds (Long (length mem)) (leb (i + granule_bytes) (length mem)) (set_bytes 4 low (i + 4) value.metadata) mem
    (length_set_bytes 4 low (i + 4) value.metadata ∙ length_set_bytes 4 mem i value.address) refl

retagged_long : (m t : List ℕ) (n i tag : ℕ) → length (retagged m t n i tag) ≡ length t
unfolding retagged
retagged_long m t n i tag =
    cond_holds (Long (length t)) (leb (i + n) (length m)) (put_bit t (i / granule_bytes) tag) t (length_put_bit t (i / granule_bytes) tag) refl

tags_long : (x : Stored) (mem tags : List ℕ) → length (tags_after x mem tags) ≡ length tags
tags_long nothing mem tags = refl
tags_long (bytes n i value) mem tags = retagged_long mem tags n i 0
tags_long (whole i value) mem tags = retagged_long mem tags granule_bytes i value.tag

pub written_long : (start n : ℕ) (e : Effect) (regs : List ℕ) → length (marked_by start (stored_by e) (registers_after n e regs)) ≡ length regs
written_long start n e regs = mark_long start (stored_by e) _ ∙ registers_long n e regs

-- no buffer changes its length
pub record SameLengths (before after : State) : Type 0 where
  pub same_registers : length after.regs ≡ length before.regs
  pub same_memory : length after.mem ≡ length before.mem
  pub same_tags : length after.tags ≡ length before.tags

pub applied_long : (start n : ℕ) (e : Effect) (s : State) → SameLengths s (apply_effect start n e s)
unfolding apply_effect
applied_long start n e s =
    record {
      same_registers = ticked_long _ ∙ written_long start n e s.regs;
      same_memory = memory_long (stored_by e) s.mem;
      same_tags = tags_long (stored_by e) s.mem s.tags;
    }
