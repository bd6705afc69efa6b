-- A turn that is done leaves what the next one asks: PCC's word and tag, the status and compare stay, and time goes one on. Assumes nothing.
use Rattle.std.proofs.Common.{◌≡◌, ℕ, ◌+◌, ◌*◌, ◌%◌, ◌^◌, ◌≤◌, Bool, true, false, List, length, get_or, sym, refl, ap, ◌∙◌, true≢false, arith}
use Rattle.words.specs.Words.{wrap}
use Rattle.capability.specs.declared.Capability.{Capability}
use Rattle.instructions.specs.declared.StoreKind.{StoreKind}
use Rattle.instructions.specs.declared.MemoryInstruction.{MemoryInstruction}
use Rattle.instructions.specs.declared.MemoryInstruction.TheVariants as Access
use Rattle.state.specs.Layout.{register_words, time_index, compare_index}
use Rattle.state.specs.Registers.{register_at, integer_at}
use Rattle.state.specs.Timer.{time_of, compare_of}
use Rattle.state.specs.Marks.{marked}
use Rattle.state.specs.Lent.{State, state, Lent}
use Rattle.state.specs.Memory.{place_of, load_width, store_width, granule_bytes}
use Rattle.state.specs.declared.Effect.{Effect}
use Rattle.state.specs.declared.Effect.TheVariants.{Write, Store, StoreCapability, Trap}
use Rattle.state.proofs.Laws.{checked_holds, placed}
use Rattle.memory_instructions.specs.Access.{load_at, load_effect, store_at, store_effect, load_capability_at, load_capability_effect}
use Rattle.memory_instructions.specs.Access.{store_capability_at, store_capability_effect, address_of, memory_effect}
use Rattle.commit.specs.Commit.{apply_effect, retires}
use Rattle.quick.specs.Turns.{went_on, written_at, Stands, Done, Turned}
use Rattle.quick.specs.Jumps.{WentIf, Went}
use Rattle.quick.specs.Steady.{Steady, SteadyIf}
use Rattle.quick.specs.Turns.{Took, is_done, said}
use Rattle.quick.proofs.Onward.{stays_on, stays_written, stays_marked, long_on, long_written, long_marked, time_on}
use Rattle.quick.proofs.Onward.{took_write, took_store, took_store_capability}

-- the words from PCC on, but the mark
abbrev Same : (l r : List ℕ) → Type 0
Same l r = (j : ℕ) → 48 ≤ j → (j ≡ 66 → ⊥) → get_or r j 0 ≡ get_or l j 0

same_time : (l r : List ℕ) → Same l r → time_of r ≡ time_of l
unfolding time_of
same_time l r h = rw (h time_index (omega arith) (λ q. omega arith), h (time_index + 1) (omega arith) (λ q. omega arith)) refl

same_compare : (l r : List ℕ) → get_or r compare_index 0 ≡ get_or l compare_index 0 → get_or r (compare_index + 1) 0 ≡ get_or l (compare_index + 1) 0
    → compare_of r ≡ compare_of l
unfolding compare_of
same_compare l r p q = rw (p, q) refl

kept_on : (l r : List ℕ) (to : ℕ) → Same l r → (j : ℕ) → 49 ≤ j → (j ≡ 66 → ⊥) → (j ≡ time_index → ⊥) → (j ≡ time_index + 1 → ⊥)
    → get_or (went_on to r) j 0 ≡ get_or l j 0
kept_on l r to h j k a b c = stays_on r to j (λ q. omega arith) b c ∙ h j (omega arith) a

steady_over : (l r : List ℕ) (to : ℕ) → length l ≡ register_words → length r ≡ length l → Same l r → Steady l (went_on to r)
steady_over l r to long e h =
    record {
      word_stays = kept_on l r to h 49 (omega arith) (λ q. omega arith) (λ q. omega arith) (λ q. omega arith);
      tag_stays = kept_on l r to h 50 (omega arith) (λ q. omega arith) (λ q. omega arith) (λ q. omega arith);
      status_stays = kept_on l r to h 63 (omega arith) (λ q. omega arith) (λ q. omega arith) (λ q. omega arith);
      compare_stays = same_compare l (went_on to r) (kept_on l r to h compare_index (omega arith) (λ q. omega arith) (λ q. omega arith) (λ q. omega arith))
          (kept_on l r to h (compare_index + 1) (omega arith) (λ q. omega arith) (λ q. omega arith) (λ q. omega arith));
      time_goes = time_on r to (e ∙ long) ∙ ap (λ (t : ℕ). (t + 1) % 2 ^ 64) (same_time l r h);
      long_stays = long_on r to ∙ e;
    }

pub steady_on : (l after : List ℕ) (to : ℕ) → length l ≡ register_words → after ≡ went_on to l → Steady l after
steady_on l after to long e = rw e (steady_over l l to long refl (λ j k n. refl))

pub steady_written : (l after : List ℕ) (to at : ℕ) (c : Capability) → length l ≡ register_words → at ≤ 45
    → after ≡ went_on to (written_at at c l) → Steady l after
steady_written l after to at c long h e =
    rw e (steady_over l (written_at at c l) to long (long_written l at c) (λ j k n. stays_written l at j c h k))

pub steady_marked : (l after : List ℕ) (to address : ℕ) → length l ≡ register_words → after ≡ went_on to (marked address l) → Steady l after
steady_marked l after to address long e =
    rw e (steady_over l (marked address l) to long (long_marked l address) (λ j k n. stays_marked l address j n))

-- ---- jumps

pub went_steady : (regs after : List ℕ) (start size to : ℕ) (t : Took) → length regs ≡ register_words → Went start size to regs after t
    → SteadyIf (is_done t) regs after
went_steady regs after start size to t long w = go (is_done t) w.0
  where
    go : (b : Bool) → WentIf b start size to regs after → SteadyIf b regs after
    go true (h, r) = steady_on regs after to long h
    go false h = tt

-- ---- loads and stores

module _ (regs mem tags : List ℕ) (start m a n to : ℕ) (s : Stands regs m a n) (q : to ≡ wrap (a + n)) where
  -- an effect that retires
  abbrev pub Leaves : Effect → Type 0
  Leaves e = retires e ≡ true → Steady regs (apply_effect start n e (state regs mem tags)).regs

  traps : (cause v : ℕ) → Leaves (Trap cause v)
  unfolding retires
  traps cause v h = absurd (true≢false (sym h))

  writes : (rd : ℕ) (v : Capability) → Leaves (Write rd v)
  writes rd v h =
      steady_written regs _ to (rd % 16 * 3) v s.long (omega arith)
      (ap (λ (x : State). x.regs) (sym (took_write regs mem tags start m a n to s q (rd % 16 * 3) rd v refl)))

  stores : (kind : StoreKind) (i v : ℕ) → Leaves (Store kind i v)
  stores kind i v h =
      steady_marked regs _ to ((start + i) % 2 ^ 32) s.long
      (ap (λ (x : State). x.regs) (sym (took_store regs mem tags start m a n to s q kind i v)))

  stores_capability : (i : ℕ) (v : Capability) → Leaves (StoreCapability i v)
  stores_capability i v h =
      steady_marked regs _ to ((start + i) % 2 ^ 32) s.long
      (ap (λ (x : State). x.regs) (sym (took_store_capability regs mem tags start m a n to s q i v)))

  pub memory_leaves : (i : MemoryInstruction) (l : Lent) → Leaves (memory_effect i regs l)
  unfolding memory_effect load_effect store_effect load_capability_effect store_capability_effect load_at store_at load_capability_at store_capability_at
  memory_leaves (Access.Load kind rd rs1 offset) l =
      let b : ℕ = address_of regs rs1 offset in
      checked_holds Leaves _ _ _ traps
      (placed Leaves (λ p. load_at p kind rd b l.mem) (traps _ _) (traps _ _) (λ i. writes _ _)
      (place_of l.board.start (length l.mem) b (load_width kind)))
  memory_leaves (Access.Store kind rs1 rs2 offset) l =
      let b : ℕ = address_of regs rs1 offset in
      checked_holds Leaves _ _ _ traps
      (placed Leaves (λ p. store_at p kind b (integer_at regs rs2)) (traps _ _) (traps _ _) (λ i. stores _ _ _)
      (place_of l.board.start (length l.mem) b (store_width kind)))
  memory_leaves (Access.LoadCapability rd rs1 offset) l =
      let b : ℕ = address_of regs rs1 offset in
      checked_holds Leaves _ _ _ traps
      (placed Leaves (λ p. load_capability_at p rd b (register_at regs rs1) l) (traps _ _) (traps _ _) (λ i. writes _ _)
      (place_of l.board.start (length l.mem) b granule_bytes))
  memory_leaves (Access.StoreCapability rs1 rs2 offset) l =
      let b : ℕ = address_of regs rs1 offset in
      checked_holds Leaves _ _ _ traps
      (placed Leaves (λ p. store_capability_at p b (register_at regs rs2)) (traps _ _) (traps _ _) (λ i. stores_capability _ _)
      (place_of l.board.start (length l.mem) b granule_bytes))

  pub done_steady : (e : Effect) (after : State) (t : Took) → Leaves e → Turned start n e (state regs mem tags) after t → SteadyIf (is_done t) regs after.regs
  done_steady e after t h w = go (is_done t) w
    where
      go : (b : Bool) → Done b start n e (state regs mem tags) after (said t) → SteadyIf b regs after.regs
      go true (x, r, z) = rw x (h r)
      go false z = tt
