-- Register words stay words. So no step and no run leaves the types of what is lent. Assumes nothing.
use mathlib.Core.Path.{◌≡◌, refl}
use mathlib.Core.Bool.{Bool, true, false, cond}
use mathlib.Core.List.{List}
use Prim.Native.Nat.{ℕ, zero, suc, ◌+◌, ◌-◌, ◌*◌, ◌≤◌, ◌<◌}
use native.Mathlib.Omega.{arith}
use lib.Dec.{eqb}
use borrow.Author.Tests.{eqb-true, eqb-false}
use Rattle.words.specs.Words.{Bytes, le_bytes}
use Rattle.words.proofs.Word.{by_test}
use Rattle.words.proofs.Bytes.{le_bytes_lt}
use Rattle.capability.specs.Capability.{Good, move_of}
use Rattle.capability.specs.declared.Capability.{Capability}
use Rattle.capability.proofs.Laws.{integer_good, move_good}
use Rattle.instructions.specs.Range.{Word, InRange}
use Rattle.instructions.specs.Decode.{decode_of}
use Rattle.instructions.specs.declared.Instruction.{Instruction}
use Rattle.instructions.proofs.Range.{decoded_in_range}
use Rattle.state.specs.Layout.{capability_words, capability_count, control_start, pcc_index, mtcc_index, mepcc_index, csr_index}
use Rattle.instructions.specs.declared.Csr.TheVariants.{Mstatus}
use Rattle.state.specs.declared.Board.{Board}
use Rattle.state.specs.Addresses.{vector_alignment, return_alignment, legalized}
use Rattle.state.specs.Registers.{pcc_of, pc_of}
use Rattle.short_forms.specs.Standing.{half_bytes, long_bytes}
use Rattle.short_forms.specs.Long.{long_form}
use Rattle.fetch.specs.Fetch.{fetch_of}
use Rattle.fetch.proofs.Laws.{fetch_holds}
use Rattle.state.specs.Timer.{timer_interrupt, interrupted}
use Rattle.state.specs.Lent.{Lent, State}
use Rattle.state.specs.Effects.{GoodTags}
use Rattle.state.specs.Fits.{FitsRegisters, FitsEffect}
use Rattle.state.specs.declared.Effect.{Effect}
use Rattle.state.proofs.Laws.{cond_holds}
use Rattle.state.proofs.Fits.{pcc_fits, legalized_fits, trap_status_fits}
use Rattle.integer_instructions.proofs.Fits.{integer_fits}
use Rattle.memory_instructions.proofs.Fits.{memory_fits}
use Rattle.jump_instructions.proofs.Fits.{jump_fits}
use Rattle.capability_instructions.proofs.Fits.{capability_fits}
use Rattle.system_instructions.proofs.Fits.{system_fits}
use Rattle.execution.specs.Step.{effect_of, instruction_in, word_in, length_in, trap_or, effect_in, seen, met_of, fetched_in, effect_at, step_of}
use Rattle.machine.specs.Refusals.{refusal_of}
use Rattle.machine.specs.Run.{step_refusal, step_after, Ran, ran, one_more, iterate, ran_from, run_after}
use Rattle.machine_laws.specs.Fits.{InType}
use Rattle.commit.specs.Commit.{apply_effect}
use Rattle.commit.proofs.Views.{each_of}
use Rattle.commit.proofs.Registers.{Holds, Rule, Keeps, keeps_of, each_applied}
use Rattle.machine_laws.proofs.Refusals.{good_of, refused_too, refused_run}
use Rattle.machine_laws.proofs.Kept.{Tag, tags_stay}
use Rattle.machine_laws.proofs.Bytes.{bytes_stay}
use Rattle.fetch.specs.Fetch.{Met, fault}

-- ---- the next effect

module _ (regs : List ℕ) (m : Lent) (h : FitsRegisters regs) (b : Bytes m.mem) where
  effect_fits : (n : ℕ) (i : Instruction) (word : ℕ) → InRange i → Word word → FitsEffect (effect_of n i word regs m)
  unfolding effect_of
  effect_fits n (Instruction.Integer i) word r w = integer_fits i regs r h
  effect_fits n (Instruction.Jump i) word r w = jump_fits n m.board.edition regs h i
  effect_fits n (Instruction.Memory i) word r w = memory_fits i regs m h b
  effect_fits n (Instruction.Capability i) word r w = capability_fits i regs h
  effect_fits n (Instruction.System i) word r w = system_fits regs h i r
  effect_fits n Instruction.Illegal word r w = (tt, (omega arith, w))

-- every capability that a step writes is good, and every word is a word
pub next_fits : (board : Board) (revoked : List ℕ) (s : State) → FitsRegisters s.regs → Bytes s.mem → FitsEffect (effect_at board revoked s)
unfolding met_of effect_in trap_or length_in instruction_in word_in
next_fits board revoked s h b =
    let m = seen board revoked s in
    let at = pc_of s.regs - board.start in
    let Q : Met → Type 0 = λ f. FitsEffect (effect_in f s.regs m) in
    cond_holds Q (interrupted s.regs) (fault timer_interrupt 0) (fetch_of (pcc_of s.regs) board.start s.mem) (tt, (omega arith, omega arith))
    (fetch_holds (pcc_of s.regs) board.start s.mem Q
    (λ n v a k. (tt, (a, k (pcc_fits s.regs h).address_fits)))
    (λ r l. effect_fits s.regs m h b long_bytes (decode_of (le_bytes long_bytes s.mem at)) _ (decoded_in_range _) (le_bytes_lt long_bytes s.mem at b))
    (λ r l. effect_fits s.regs m h b half_bytes (decode_of (long_form (le_bytes half_bytes s.mem at))) _ (decoded_in_range _)
    (omega (arith, le_bytes_lt half_bytes s.mem at b))))

-- ---- the register file

-- a word, and at a tag's place 0 or 1
abbrev Fit : ℕ → ℕ → Type 0
Fit i v = Word v × Tag i v

fit : (i : ℕ) (c : Capability) → Good c → Holds Fit i c
fit i c g =
    record {
      address_holds = (g.address_fits, λ k b e. absurd (omega arith));
      metadata_holds = (g.metadata_fits, λ k b e. absurd (omega arith));
      tag_holds = (omega (arith, g.tag_fits), λ k b e. omega (arith, g.tag_fits));
    }

good_at : (i : ℕ) (c : Capability) → i < capability_count → Holds Fit i c → Good c
good_at i c b h =
    record { address_fits = h.address_holds.0; metadata_fits = h.metadata_holds.0; tag_fits = omega (arith, h.tag_holds.1 i b refl) }

-- a word above the capabilities
fit_above : (i v : ℕ) → control_start ≤ i → Word v → Fit i v
fit_above i v l w = (w, λ k b e. absurd (omega arith))

fit_rule : Rule Fit
fit_rule =
    record {
      moved = λ c a b h. fit pcc_index (move_of c a) (move_good c a (good_at pcc_index c (omega arith) h) b);
      saved = λ c h. fit mepcc_index (legalized return_alignment c) (legalized_fits return_alignment c (good_at pcc_index c (omega arith) h));
      entered = λ c h. fit pcc_index (legalized vector_alignment c) (legalized_fits vector_alignment c (good_at mtcc_index c (omega arith) h));
      status = λ m h. fit_above (csr_index Mstatus) _ (omega arith) (trap_status_fits m h.0);
    }

fit_kept : (e : Effect) → FitsEffect e → Keeps Fit e
fit_kept e h =
    keeps_of Fit Good Word (λ i c l b g. fit i c g) (λ i v l b w. fit_above i v l w) e (each_of Good Word (λ x w. integer_good x w) e h.0 h.1)

-- a register file of words and good tags is one after a step
pub words_stay : (board : Board) (revoked : List ℕ) (s : State) → FitsRegisters s.regs → Bytes s.mem → FitsRegisters (step_of board revoked s).regs
unfolding step_of apply_effect
words_stay board revoked s h b =
    let e = each_applied Fit fit_rule (λ i v l w. fit_above i v (omega arith) w) board.start (length_in (fetched_in board s))
    (effect_at board revoked s) s.regs
    (fit_kept (effect_at board revoked s) (next_fits board revoked s h b))
    (record { word = λ i. (h.words i, λ k l q. rw q (h.tags k l)) }) in
    record { words = λ i. (e.word i).0; tags = λ k l. (e.word (k * capability_words + 2)).1 k l refl }

-- ---- all that is lent

module _ (board : Board) (revoked : List ℕ) where
  pub in_type_stays : (s : State) → GoodTags s.regs → InType s → InType (step_of board revoked s)
  in_type_stays s g t =
      let b = bytes_stay board revoked s t.memory_in t.tags_in in
      record {
        registers_in = (words_stay board revoked s (record { words = t.registers_in; tags = g }) t.memory_in).words;
        memory_in = b.0;
        tags_in = b.1;
      }

  -- after any number of steps
  pub iterate_in_type : (n : ℕ) (r : Ran) → GoodTags r.at.regs → InType r.at → InType (iterate n board revoked r).at
  unfolding iterate one_more
  iterate_in_type zero r g t = t
  iterate_in_type (suc n) r g t =
      iterate_in_type n (one_more board revoked r) (tags_stay board revoked r.at g) (in_type_stays r.at g t)

  module _ (s : State) (t : InType s) where
    good_tags : eqb (step_refusal board revoked s) 0 ≡ true → GoodTags s.regs
    good_tags e = (good_of board revoked s (eqb-true (step_refusal board revoked s) 0 e)).words.tag_words

    -- the public step and run ask nothing more: a tag that is not 0 or 1 is refused, and a refused call changes nothing
    pub step_in_type : InType (step_after board revoked s)
    unfolding step_after
    step_in_type = go (eqb (step_refusal board revoked s) 0) refl
      where
        go : (b : Bool) → eqb (step_refusal board revoked s) 0 ≡ b → InType (cond b (step_of board revoked s) s)
        go true e = in_type_stays s (good_tags e) t
        go false e = t

    good_run : (n : ℕ) → GoodTags s.regs → InType (run_after n board revoked s)
    unfolding run_after
    good_run n g = cond_holds InType (eqb (refusal_of n board revoked s) 0) (ran_from n board revoked s).at s (iterate_in_type n (ran s 0 0) g t) t

    pub run_in_type : (n : ℕ) → InType (run_after n board revoked s)
    run_in_type n =
        by_test (eqb (step_refusal board revoked s) 0) (λ e. good_run n (good_tags e))
        (λ e. let r = eqb-false (step_refusal board revoked s) 0 e in
        rw (refused_run board revoked s n (refused_too board revoked s r n)) t)
