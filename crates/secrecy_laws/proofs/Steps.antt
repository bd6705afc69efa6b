-- What is written equally to two states of one size leaves the same what was the same; so two states that are alike outside hidden granules take the same step,
-- and stay alike, where their registers may read nothing hidden. Assumes nothing.
use mathlib.Core.Path.{◌≡◌, refl, sym, ◌∙◌}
use mathlib.Core.Bool.{Bool, true, false, cond, ◌&&◌, true≢false}
use mathlib.Core.List.{List}
use Prim.Native.Nat.{ℕ, zero, suc, ◌+◌, ◌-◌, ◌*◌, ◌/◌, ◌≤◌, ◌<◌}
use native.Mathlib.Omega.{arith}
use lib.Dec.{eqb, leb, ltb}
use lib.ListN.{get_or, set, length}
use lib.Seq.{get_or-set_same, get_or-set_other, set_out}
use borrow.Author.Tests.{eqb-true, eqb-false, eq-eqb, ltb-true, ltb-false, lt-ltb, le-leb}
use Rattle.words.specs.Words.{set_bytes, bit_at, put_bit}
use Rattle.words.proofs.Word.{by_test}
use Rattle.words.proofs.Bytes.{length_set_bytes, get_d_set_bytes_same}
use Rattle.words.proofs.Bits.{bit_at_put_bit_same, bit_at_put_bit_other}
use Rattle.capability.specs.declared.Capability.{Capability}
use Rattle.capability_laws.proofs.Tests.{both_true}
use Rattle.state.specs.Layout.{capability_count}
use Rattle.state.specs.Registers.{capability_at}
use Rattle.state.specs.Lent.{State}
use Rattle.state.specs.Memory.{granule_bytes}
use Rattle.state.specs.Effects.{Stored, nothing, bytes, whole, stored_by, OneGranule, Within}
use Rattle.state.specs.declared.Board.{Board}
use Rattle.state.specs.declared.Effect.{Effect}
use Rattle.commit.specs.Commit.{stored, stored_capability, retagged, memory_after, tags_after, apply_effect}
use Rattle.execution.specs.Step.{length_in, fetched_in, effect_at, step_of}
use Rattle.machine_laws.proofs.Kept.{lengths_stay}
use Rattle.secrecy_laws.specs.Outside.{Reads, SameByte, TagAlike, SameGranule, Settled, both_clear, all_same, Alike, WhereDiffered}
use Rattle.secrecy_laws.specs.Secrecy.{SameStored}
use Rattle.secrecy_laws.proofs.Effects.{SameIn, met_same, next_same}

-- ---- lists

-- an element of two lists of one length, after the same writes
set_same : (a b : List ℕ) (p v j : ℕ) → length a ≡ length b → get_or a j 0 ≡ get_or b j 0 → get_or (set a p v) j 0 ≡ get_or (set b p v) j 0
set_same a b p v j l e =
    by_test (eqb j p)
    (λ s. by_test (ltb p (length a))
    (λ k. let h = ltb-true p (length a) k in rw (eqb-true j p s, get_or-set_same a p v 0 h, get_or-set_same b p v 0 (omega arith)))
    (λ k. let h = ltb-false p (length a) k in rw (set_out a p v h, set_out b p v (omega arith)) e))
    (λ s. let d = eqb-false j p s in rw (get_or-set_other a p j v 0 d, get_or-set_other b p j v 0 d) e)

set_bytes_same : (n : ℕ) (a b : List ℕ) (i v j : ℕ) → length a ≡ length b → get_or a j 0 ≡ get_or b j 0
    → get_or (set_bytes n a i v) j 0 ≡ get_or (set_bytes n b i v) j 0
unfolding set_bytes
set_bytes_same zero a b i v j l e = e
set_bytes_same (suc n) a b i v j l e =
    set_same (set_bytes n a i v) (set_bytes n b i v) (i + n) _ j (length_set_bytes n a i v ∙ l ∙ sym (length_set_bytes n b i v))
    (set_bytes_same n a b i v j l e)

-- a byte that was written, whatever was there
set_bytes_over : (n : ℕ) (a b : List ℕ) (i v j : ℕ) → length a ≡ length b → i + n ≤ length a → i ≤ j → j < i + n
    → get_or (set_bytes n a i v) j 0 ≡ get_or (set_bytes n b i v) j 0
set_bytes_over n a b i v j l m u w =
    let e : i + (j - i) ≡ j = omega arith in
    rw e at (get_d_set_bytes_same n a i v (j - i) (omega arith) m ∙ sym (get_d_set_bytes_same n b i v (j - i) (omega arith) (omega arith)))

-- a bit of two lists of one length, after the same bit is put in both
pub put_bit_same : (a b : List ℕ) (g v k : ℕ) → length a ≡ length b → bit_at a k ≡ bit_at b k → bit_at (put_bit a g v) k ≡ bit_at (put_bit b g v) k
unfolding put_bit
put_bit_same a b g v k l e =
    by_test (eqb k g)
    (λ s. by_test (ltb (g / 8) (length a))
    (λ h. let in-a = ltb-true (g / 8) (length a) h in
    rw (eqb-true k g s) (bit_at_put_bit_same a g v (omega arith) ∙ sym (bit_at_put_bit_same b g v (omega arith))))
    (λ h. let out = ltb-false (g / 8) (length a) h in rw (set_out a (g / 8) _ out, set_out b (g / 8) _ (omega arith)) e))
    (λ s. let d = eqb-false k g s in bit_at_put_bit_other a g v k d ∙ e ∙ sym (bit_at_put_bit_other b g v k d))

-- a bit that is clear, after another is put, or this one clear, or one that is not there
put_clear : (l : List ℕ) (k v g : ℕ) → bit_at l g ≡ 0 → (g ≡ k → g < 8 * length l → v ≡ 0) → bit_at (put_bit l k v) g ≡ 0
unfolding put_bit
put_clear l k v g z f =
    by_test (eqb g k)
    (λ s. let e = eqb-true g k s in
    by_test (ltb (k / 8) (length l))
    (λ h. let in-l = ltb-true (k / 8) (length l) h in rw e (bit_at_put_bit_same l k v (omega arith) ∙ omega (arith, f e (omega (arith, e)))))
    (λ h. rw (set_out l (k / 8) _ (ltb-false (k / 8) (length l) h)) z))
    (λ s. bit_at_put_bit_other l k v g (eqb-false g k s) ∙ z)

-- ---- what is settled

pub settled_tag : (g : ℕ) (a b : State) → Settled g a b → TagAlike g a b
settled_tag g a b (both_clear x y) = x ∙ sym y
settled_tag g a b (all_same k) = k.tag

retagged_clear : (mem tags : List ℕ) (n i tag g : ℕ) → bit_at tags g ≡ 0 → (g ≡ i / granule_bytes → g < 8 * length tags → tag ≡ 0)
    → bit_at (retagged mem tags n i tag) g ≡ 0
unfolding retagged
retagged_clear mem tags n i tag g z f = go (leb (i + n) (length mem))
  where
    go : (t : Bool) → bit_at (cond t (put_bit tags (i / granule_bytes) tag) tags) g ≡ 0
    go true = put_clear tags (i / granule_bytes) tag g z f
    go false = z

-- where bytes are stored
retagged_zero : (mem tags : List ℕ) (n i : ℕ) → i + n ≤ length mem → i / granule_bytes < 8 * length tags → bit_at (retagged mem tags n i 0) (i / granule_bytes)
    ≡ 0
unfolding retagged
retagged_zero mem tags n i m l = rw (le-leb (i + n) (length mem) m) (bit_at_put_bit_same tags (i / granule_bytes) 0 l)

-- u is s with x stored
record After (x : Stored) (s u : State) : Type 0 where
  memory : u.mem ≡ memory_after x s.mem
  its_tags : u.tags ≡ tags_after x s.mem s.tags

-- ---- the same effect

module _ (a b : State) (size : length a.mem ≡ length b.mem) (tag-size : length a.tags ≡ length b.tags) where
  either_same : (t : Bool) (x y : List ℕ) (P : List ℕ → ℕ) → P x ≡ P y → P a.mem ≡ P b.mem → P (cond t x a.mem) ≡ P (cond t y b.mem)
  either_same true x y P p q = p
  either_same false x y P p q = q

  first_long : (i v : ℕ) → length (set_bytes 4 a.mem i v) ≡ length (set_bytes 4 b.mem i v)
  first_long i v = length_set_bytes 4 a.mem i v ∙ size ∙ sym (length_set_bytes 4 b.mem i v)

  -- a byte that was the same
  byte_after : (x : Stored) (j : ℕ) → SameByte j a b → get_or (memory_after x a.mem) j 0 ≡ get_or (memory_after x b.mem) j 0
  unfolding stored stored_capability
  byte_after nothing j e = e
  byte_after (bytes n i value) j e =
      rw size (either_same (leb (i + n) (length b.mem)) _ _ (λ l. get_or l j 0) (set_bytes_same n a.mem b.mem i value j size e) e)
  byte_after (whole i value) j e =
      let v = value.address in
      rw size
      (either_same (leb (i + granule_bytes) (length b.mem)) _ _ (λ l. get_or l j 0)
      (set_bytes_same 4 (set_bytes 4 a.mem i v) (set_bytes 4 b.mem i v) (i + 4) value.metadata j (first_long i v)
      (set_bytes_same 4 a.mem b.mem i v j size e)) e)

  retagged_same : (n i tag g : ℕ) → TagAlike g a b → bit_at (retagged a.mem a.tags n i tag) g ≡ bit_at (retagged b.mem b.tags n i tag) g
  unfolding retagged
  retagged_same n i tag g e = rw size (go (leb (i + n) (length b.mem)))
    where
      go : (t : Bool)
          → bit_at (cond t (put_bit a.tags (i / granule_bytes) tag) a.tags) g ≡ bit_at (cond t (put_bit b.tags (i / granule_bytes) tag) b.tags) g
      go true = put_bit_same a.tags b.tags (i / granule_bytes) tag g tag-size e
      go false = e

  -- a tag that was the same
  tag_after : (x : Stored) (g : ℕ) → TagAlike g a b → bit_at (tags_after x a.mem a.tags) g ≡ bit_at (tags_after x b.mem b.tags) g
  tag_after nothing g e = e
  tag_after (bytes n i value) g e = retagged_same n i 0 g e
  tag_after (whole i value) g e = retagged_same granule_bytes i value.tag g e

  module _ (start n : ℕ) (e : Effect) where
    pub applied_byte : (i : ℕ) → SameByte i a b → SameByte i (apply_effect start n e a) (apply_effect start n e b)
    unfolding apply_effect
    applied_byte i h = byte_after (stored_by e) i h

    pub applied_tag : (g : ℕ) → TagAlike g a b → TagAlike g (apply_effect start n e a) (apply_effect start n e b)
    unfolding apply_effect
    applied_tag g h = tag_after (stored_by e) g h

    applied : (s : State) → After (stored_by e) s (apply_effect start n e s)
    unfolding apply_effect
    applied s = record { memory = refl; its_tags = refl }

  -- what is stored, whatever was there
  over_bytes : (n i value j : ℕ) → i + n ≤ length a.mem → i ≤ j → j < i + n
      → get_or (memory_after (bytes n i value) a.mem) j 0 ≡ get_or (memory_after (bytes n i value) b.mem) j 0
  unfolding stored
  over_bytes n i value j m l u =
      rw (le-leb (i + n) (length a.mem) m, le-leb (i + n) (length b.mem) (omega (arith, size)))
      (set_bytes_over n a.mem b.mem i value j size m l u)

  over_whole : (i j : ℕ) (value : Capability) → i + granule_bytes ≤ length a.mem → i ≤ j → j < i + granule_bytes
      → get_or (memory_after (whole i value) a.mem) j 0 ≡ get_or (memory_after (whole i value) b.mem) j 0
  unfolding stored_capability
  over_whole i j value m l u =
      let v = value.address in
      let in-a = length_set_bytes 4 a.mem i v in
      rw (le-leb (i + granule_bytes) (length a.mem) m, le-leb (i + granule_bytes) (length b.mem) (omega (arith, size)))
      (by_test (ltb j (i + 4))
      (λ t. set_bytes_same 4 (set_bytes 4 a.mem i v) (set_bytes 4 b.mem i v) (i + 4) value.metadata j (first_long i v)
      (set_bytes_over 4 a.mem b.mem i v j size (omega arith) l (ltb-true j (i + 4) t)))
      (λ t. let k = ltb-false j (i + 4) t in
      set_bytes_over 4 (set_bytes 4 a.mem i v) (set_bytes 4 b.mem i v) (i + 4) value.metadata j (first_long i v)
      (omega (arith, in-a)) (omega arith) (omega arith)))

  over_tag : (n i tag : ℕ) → i + n ≤ length a.mem → i / granule_bytes < 8 * length a.tags
      → bit_at (retagged a.mem a.tags n i tag) (i / granule_bytes) ≡ bit_at (retagged b.mem b.tags n i tag) (i / granule_bytes)
  unfolding retagged
  over_tag n i tag m l =
      rw (le-leb (i + n) (length a.mem) m, le-leb (i + n) (length b.mem) (omega (arith, size)))
      (bit_at_put_bit_same a.tags (i / granule_bytes) tag l
      ∙ sym (bit_at_put_bit_same b.tags (i / granule_bytes) tag (omega (arith, tag-size))))

  over_granule : (i : ℕ) (value : Capability) → OneGranule i granule_bytes (length a.mem) → i / granule_bytes < 8 * length a.tags → (u v : State)
      → After (whole i value) a u → After (whole i value) b v → SameGranule (i / granule_bytes) u v
  over_granule i value w l u v p q =
      record {
        bytes = λ j k.
            rw (p.memory, q.memory) (over_whole i j value w.inside (omega (arith, k, w.together)) (omega (arith, k, w.together)));
        tag = rw (p.its_tags, q.its_tags) (over_tag granule_bytes i value.tag w.inside l);
      }

  -- in a memory whose tags are as many as its granules
  pub over_stored : (start n : ℕ) (e : Effect) → length a.mem ≤ granule_bytes * (8 * length a.tags) → Within (length a.mem) (stored_by e)
      → SameStored (stored_by e) (apply_effect start n e a) (apply_effect start n e b)
  over_stored start n e long w = go (stored_by e) w (apply_effect start n e a) (apply_effect start n e b) (applied start n e a) (applied start n e b)
    where
      go : (x : Stored) → Within (length a.mem) x → (u v : State) → After x a u → After x b v → SameStored x u v
      go nothing w u v p q = tt
      go (bytes width i value) w u v p q = (
        λ j l k. rw (p.memory, q.memory) (over_bytes width i value j w.inside l k),
        both_clear
            (rw p.its_tags (retagged_zero a.mem a.tags width i w.inside (omega (arith, w.some, w.inside, long))))
            (rw q.its_tags
            (retagged_zero b.mem b.tags width i (omega (arith, w.inside, size)) (omega (arith, w.some, w.inside, long, tag-size)))),
      )
      go (whole i value) w u v p q = over_granule i value w (omega (arith, w.inside, long)) u v p q

  -- what was settled is
  clear_after : (x : Stored) → Within (length a.mem) x → (g : ℕ) (u v : State) → After x a u → After x b v → bit_at a.tags g ≡ 0 → bit_at b.tags g ≡ 0
      → Settled g u v
  clear_after nothing w g u v p q y z = both_clear (rw p.its_tags y) (rw q.its_tags z)
  clear_after (bytes n i value) w g u v p q y z =
      both_clear (rw p.its_tags (retagged_clear a.mem a.tags n i 0 g y (λ e l. refl)))
      (rw q.its_tags (retagged_clear b.mem b.tags n i 0 g z (λ e l. refl)))
  clear_after (whole i value) w g u v p q y z =
      by_test (eqb g (i / granule_bytes) && ltb g (8 * length a.tags))
      (λ t. let k = (both_true (eqb g (i / granule_bytes)) (ltb g (8 * length a.tags))).0 t in
      let e = eqb-true g (i / granule_bytes) k.0 in
      let l = ltb-true g (8 * length a.tags) k.1 in
      all_same (rw e (over_granule i value w (omega (arith, e, l)) u v p q)))
      (λ t. both_clear (rw p.its_tags (retagged_clear a.mem a.tags granule_bytes i value.tag g y (λ e l. absurd (not_both t e l))))
      (rw q.its_tags (retagged_clear b.mem b.tags granule_bytes i value.tag g z (λ e l. absurd (not_both t e (omega (arith, l, tag-size)))))))
    where
      not_both : eqb g (i / granule_bytes) && ltb g (8 * length a.tags) ≡ false → g ≡ i / granule_bytes → g < 8 * length a.tags → ⊥
      not_both t e l = true≢false (sym (rw (eq-eqb g (i / granule_bytes) e, lt-ltb g (8 * length a.tags) l) refl) ∙ t)

  pub applied_settled : (start n : ℕ) (e : Effect) → Within (length a.mem) (stored_by e) → (g : ℕ) → Settled g a b
      → Settled g (apply_effect start n e a) (apply_effect start n e b)
  applied_settled start n e w g (both_clear y z) = clear_after (stored_by e) w g _ _ (applied start n e a) (applied start n e b) y z
  applied_settled start n e w g (all_same k) =
      all_same (record { bytes = λ i h. applied_byte start n e i (k.bytes i h); tag = applied_tag start n e g k.tag })

-- ---- a step

-- a register of b that is tagged may read nothing hidden in a memory from start on
abbrev pub RegistersUnread : (hidden : ℕ → Bool) → State → (start : ℕ) → Type 0
RegistersUnread hidden b start =
    (k : ℕ) → k < capability_count → (capability_at b.regs k).tag ≡ 1 → (i : ℕ) → hidden (i / granule_bytes) ≡ true
    → Reads (capability_at b.regs k) (start + i) → ⊥

module _ (hidden : ℕ → Bool) (board : Board) (revoked : List ℕ) (a b : State) (alike : Alike hidden a b)
    (unread : RegistersUnread hidden b board.start) where
  same_through : (k : ℕ) → k < capability_count → SameIn board a.mem a.tags b.mem b.tags alike.same_size (capability_at b.regs k)
  same_through k l =
      record {
        bytes = λ t i r. alike.same_byte i (by_test (hidden (i / granule_bytes)) (λ h. absurd (unread k l t i h r)) (λ h. h));
        tag = λ t i r. alike.same_tag (i / granule_bytes) (by_test (hidden (i / granule_bytes)) (λ h. absurd (unread k l t i h r)) (λ h. h));
      }

  met_alike : fetched_in board a ≡ fetched_in board b
  met_alike = rw alike.same_registers (met_same board a.mem a.tags b.mem b.tags alike.same_size b.regs revoked same_through)

  pub next_alike : effect_at board revoked a ≡ effect_at board revoked b
  next_alike = rw alike.same_registers (next_same board a.mem a.tags b.mem b.tags alike.same_size b.regs revoked same_through)

  abbrev moved : ℕ
  moved = length_in (fetched_in board b)

  abbrev effect : Effect
  effect = effect_at board revoked b

  step_byte : (i : ℕ) → SameByte i a b → SameByte i (step_of board revoked a) (step_of board revoked b)
  unfolding step_of
  step_byte i h = rw (next_alike, met_alike) (applied_byte a b alike.same_size alike.same_tag_size board.start moved effect i h)

  pub step_tag : (g : ℕ) → TagAlike g a b → TagAlike g (step_of board revoked a) (step_of board revoked b)
  unfolding step_of
  step_tag g h = rw (next_alike, met_alike) (applied_tag a b alike.same_size alike.same_tag_size board.start moved effect g h)

  step_settled : Within (length a.mem) (stored_by (effect_at board revoked b)) → (g : ℕ) → Settled g a b
      → Settled g (step_of board revoked a) (step_of board revoked b)
  unfolding step_of
  step_settled w g h = rw (next_alike, met_alike) (applied_settled a b alike.same_size alike.same_tag_size board.start moved effect w g h)

  pub step_where_differed : Within (length a.mem) (stored_by (effect_at board revoked b)) → WhereDiffered a b (step_of board revoked a)
      (step_of board revoked b)
  step_where_differed w =
      record {
        byte = step_byte;
        granule = λ g same. record { bytes = λ i e. step_byte i (same.bytes i e); tag = step_tag g same.tag };
        settled = step_settled w;
      }

  step_registers : (step_of board revoked a).regs ≡ (step_of board revoked b).regs
  unfolding step_of apply_effect
  step_registers = rw (next_alike, met_alike, alike.same_registers)

  pub step_alike : Alike hidden (step_of board revoked a) (step_of board revoked b)
  step_alike =
      let k = lengths_stay board revoked a in
      let l = lengths_stay board revoked b in
      record {
        same_registers = step_registers;
        same_size = k.same_memory ∙ alike.same_size ∙ sym l.same_memory;
        same_tag_size = k.same_tags ∙ alike.same_tag_size ∙ sym l.same_tags;
        same_byte = λ i h. step_byte i (alike.same_byte i h);
        same_tag = λ g h. step_tag g (alike.same_tag g h);
      }

  -- what both store is the same in both
  pub step_stored : length a.mem ≤ granule_bytes * (8 * length a.tags) → Within (length a.mem) (stored_by (effect_at board revoked b))
      → SameStored (stored_by (effect_at board revoked b)) (step_of board revoked a) (step_of board revoked b)
  unfolding step_of
  step_stored long w = rw (next_alike, met_alike) (over_stored a b alike.same_size alike.same_tag_size board.start moved effect long w)
