-- A closed property of each capability of the register file holds of each after an effect whose capabilities have it. Assumes nothing.
use mathlib.Core.Path.{◌≡◌, refl, ◌∙◌}
use mathlib.Core.List.{List}
use Prim.Native.Nat.{ℕ, ◌+◌, ◌*◌, ◌/◌, ◌%◌, ◌^◌, ◌≤◌, ◌<◌}
use native.Mathlib.Omega.{arith}
use lib.Dec.{eqb}
use lib.ListN.{set, length, length-set}
use lib.Seq.{get_or-set_same, get_or-set_other}
use borrow.Author.Tests.{eqb-true, eqb-false}
use Rattle.words.proofs.Word.{by_test}
use Rattle.capability.specs.Capability.{integer}
use Rattle.capability.specs.declared.Capability.{Capability}
use Rattle.instructions.specs.declared.Csr.TheVariants.{Mstatus, Mcause, Mtval, Mshwm}
use Rattle.state.specs.Layout.{capability_words, general_count, capability_count, control_start, pcc_index, mtcc_index, mepcc_index, scr_index, csr_index}
use Rattle.state.specs.Layout.{time_index}
use Rattle.state.specs.Addresses.{vector_alignment, return_alignment}
use Rattle.state.specs.Registers.{capability_at, set_capability, write_register, pcc_of}
use Rattle.state.specs.Marks.{cleared, below_mark, marked}
use Rattle.state.specs.Timer.{next_time, ticked}
use Rattle.state.specs.Effects.{Stored, nothing, bytes, whole, stored_by, Result, none, given, Beside, neither, special, control, Next, onward, jumps, enters}
use Rattle.state.specs.Effects.{writes_of, EachCapability}
use Rattle.state.specs.declared.Effect.{Effect}
use Rattle.state.proofs.Laws.{cond_holds, scr_place, csr_place}
use Rattle.commit.specs.Commit.{advanced, trapped, registers_after, marked_by}
use Rattle.commit.proofs.Views.{resulted, besides, gone, registers_are, OfResult, OfBeside, OfNext, Any, each_capability_of}
use Rattle.authority_laws.proofs.Makers.{move_made, legalized_made}
use Rattle.authority_laws.proofs.Closed.{Carried, Files}

-- ---- a capability read after a write

-- a word that is none of its three
read_beside : (l : List ℕ) (p v i : ℕ) → (i * capability_words ≤ p → i * capability_words + capability_words ≤ p) → capability_at (set l p v) i
    ≡ capability_at l i
unfolding capability_at
read_beside l p v i b =
    rw (
      get_or-set_other l p (i * 3) v 0 (λ e. omega (arith, b (omega arith))),
      get_or-set_other l p (i * 3 + 1) v 0 (λ e. omega (arith, b (omega arith))),
      get_or-set_other l p (i * 3 + 2) v 0 (λ e. omega (arith, b (omega arith))),
    )

module _ (l : List ℕ) (i : ℕ) (c : Capability) where
  pub read_other : (j : ℕ) → (j ≡ i → ⊥) → capability_at (set_capability l i c) j ≡ capability_at l j
  unfolding set_capability
  read_other j d =
      read_beside _ (i * 3 + 2) c.tag j (λ h. omega arith)
      ∙ (read_beside _ (i * 3 + 1) c.metadata j (λ h. omega arith) ∙ read_beside l (i * 3) c.address j (λ h. omega arith))

  pub read_same : i * capability_words + capability_words ≤ length l → capability_at (set_capability l i c) i ≡ c
  unfolding capability_at set_capability
  read_same b =
      let l₁ : List ℕ = set l (i * 3) c.address in
      let l₂ : List ℕ = set l₁ (i * 3 + 1) c.metadata in
      rw (
        get_or-set_other l₂ (i * 3 + 2) (i * 3) c.tag 0 (λ e. omega arith),
        get_or-set_other l₁ (i * 3 + 1) (i * 3) c.metadata 0 (λ e. omega arith),
        get_or-set_same l (i * 3) c.address 0 (omega arith),
        get_or-set_other l₂ (i * 3 + 2) (i * 3 + 1) c.tag 0 (λ e. omega arith),
        get_or-set_same l₁ (i * 3 + 1) c.metadata 0 (simp length-set (omega arith)),
        get_or-set_same l₂ (i * 3 + 2) c.tag 0 (simp length-set (omega arith)),
      )

-- ---- a closed property after each write

module _ (P : Capability → Type 0) where
  -- a word above the capabilities
  pub file_set : (l : List ℕ) (p v : ℕ) → control_start ≤ p → Files P l → Files P (set l p v)
  file_set l p v b h = record { long = simp length-set h.long; file = λ i k. rw (read_beside l p v i (λ e. omega arith)) (h.file i k) }

  pub file_capability : (l : List ℕ) (i : ℕ) (c : Capability) → i < capability_count → P c → Files P l → Files P (set_capability l i c)
  unfolding set_capability
  file_capability l i c b p h =
      record {
        long = simp length-set h.long;
        file = λ j k.
            by_test (eqb j i) (λ t. rw (eqb-true j i t, read_same l i c (omega (arith, h.long))) p)
            (λ t. rw (read_other l i c j (eqb-false j i t)) (h.file j k));
      }

  pub file_register : (l : List ℕ) (rd : ℕ) (c : Capability) → P c → Files P l → Files P (write_register l rd c)
  unfolding write_register
  file_register l rd c p h =
      cond_holds (Files P) (eqb (rd % general_count) 0) l (set_capability l (rd % general_count) c) h
      (file_capability l (rd % general_count) c (omega arith) p h)

  -- the mark and time
  file_moved : (a : ℕ) (l : List ℕ) → Files P l → Files P (marked a l)
  unfolding marked
  file_moved a l h = cond_holds (Files P) (below_mark l a) (set l (csr_index Mshwm) (cleared a)) l (file_set l (csr_index Mshwm) (cleared a) (omega arith) h) h

  file_marked : (start : ℕ) (x : Stored) (l : List ℕ) → Files P l → Files P (marked_by start x l)
  file_marked start nothing l h = h
  file_marked start (bytes n i value) l h = file_moved ((start + i) % 2 ^ 32) l h
  file_marked start (whole i value) l h = file_moved ((start + i) % 2 ^ 32) l h

  file_ticked : (l : List ℕ) → Files P l → Files P (ticked l)
  unfolding ticked
  file_ticked l h =
      file_set _ (time_index + 1) (next_time l / 2 ^ 32) (omega arith) (file_set l time_index (next_time l % 2 ^ 32) (omega arith) h)

  module _ (closed : Carried P) where
    -- PCC moves
    file_advanced : (n : ℕ) (l : List ℕ) → Files P l → Files P (advanced n l)
    unfolding advanced
    file_advanced n l h = file_capability l pcc_index _ (omega arith) (closed.derived (move_made (pcc_of l) _) (h.file pcc_index (omega arith))) h

    -- MEPCC comes from PCC, and PCC from MTCC
    file_trapped : (l : List ℕ) (cause value : ℕ) → Files P l → Files P (trapped l cause value)
    unfolding trapped
    file_trapped l cause value h =
        file_set _ (csr_index Mtval) value (omega arith)
        (file_set _ (csr_index Mcause) cause (omega arith)
        (file_set _ (csr_index Mstatus) _ (omega arith)
        (file_capability _ pcc_index _ (omega arith)
        (closed.derived (legalized_made vector_alignment (capability_at l mtcc_index)) (h.file mtcc_index (omega arith)))
        (file_capability l mepcc_index _ (omega arith) (closed.derived (legalized_made return_alignment (pcc_of l)) (h.file pcc_index (omega arith))) h))))

    -- what an effect writes, one after the other
    file_result : (r : Result) (l : List ℕ) → OfResult P r → Files P l → Files P (resulted r l)
    file_result none l p h = h
    file_result (given rd value) l p h = file_register l rd value p h

    file_beside : (b : Beside) (l : List ℕ) → OfBeside P Any b → Files P l → Files P (besides b l)
    file_beside neither l p h = h
    file_beside (special scr value) l p h = file_capability l (scr_index scr) value (scr_place scr).1 p h
    file_beside (control csr value) l p h = file_set l (csr_index csr) value (csr_place csr).0 h

    file_gone : (n : ℕ) (x : Next) (l : List ℕ) → OfNext P Any x → Files P l → Files P (gone n x l)
    file_gone n onward l p h = file_advanced n l h
    file_gone n (jumps target mstatus) l p h = file_set _ (csr_index Mstatus) mstatus (omega arith) (file_capability l pcc_index target (omega arith) p.0 h)
    file_gone n (enters cause value) l p h = file_trapped l cause value h

    files_after : (n : ℕ) (e : Effect) (l : List ℕ) → EachCapability P e → Files P l → Files P (registers_after n e l)
    files_after n e l p h =
        let k = each_capability_of P (λ x. closed.untagged (integer x) refl) e p in
        rw (registers_are n e l)
        (file_gone n (writes_of e).next _ k.2 (file_beside (writes_of e).beside _ k.1 (file_result (writes_of e).result l k.0 h)))

    -- and the step recorded
    pub files_left : (start n : ℕ) (e : Effect) (l : List ℕ) → EachCapability P e → Files P l
        → Files P (ticked (marked_by start (stored_by e) (registers_after n e l)))
    files_left start n e l p h = file_ticked _ (file_marked start (stored_by e) _ (files_after n e l p h))
