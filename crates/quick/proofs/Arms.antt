-- What each arm of a turn leaves is the turn of its operation. Assumes nothing.
use Rattle.std.proofs.Common.{◌≡◌, ℕ, ◌+◌, ◌*◌, ◌%◌, ◌≤◌, List, get_or, ap, ◌∙◌, arith}
use Rattle.words.specs.Words.{wrap}
use Rattle.capability.specs.Capability.{integer, move_of, set_bounds_of}
use Rattle.instructions.specs.declared.Alu.{Alu}
use Rattle.instructions.specs.declared.Alu.TheVariants.{Add}
use Rattle.instructions.specs.declared.MultiplyKind.{MultiplyKind}
use Rattle.instructions.specs.declared.DivideKind.{DivideKind}
use Rattle.instructions.specs.declared.BranchKind.{BranchKind}
use Rattle.instructions.specs.declared.LoadKind.{LoadKind}
use Rattle.instructions.specs.declared.LoadKind.TheVariants.{Lw}
use Rattle.instructions.specs.declared.StoreKind.{StoreKind}
use Rattle.instructions.specs.declared.StoreKind.TheVariants.{Sw}
use Rattle.instructions.specs.declared.Instruction.{Instruction}
use Rattle.instructions.specs.declared.MemoryInstruction.{MemoryInstruction}
use Rattle.instructions.specs.declared.MemoryInstruction.TheVariants as Access
use Rattle.operations.specs.Means.{Placed}
use Rattle.operations.specs.declared.Operation.{Operation}
use Rattle.state.specs.Lent.{State, state, lent}
use Rattle.state.specs.declared.Board.{Board}
use Rattle.integer_instructions.specs.Integer.{alu_of, multiplied_of, divided_of}
use Rattle.capability_instructions.specs.Derivation.{moved_by}
use Rattle.memory_instructions.specs.Access.{memory_effect}
use Rattle.execution.specs.Step.{effect_of}
use Rattle.quick.specs.Turns.{went_on, written_at, held_at, Stands, Turned, done_turn, left_turn}
use Rattle.quick.specs.Jumps.{GoTurns, BranchTurns, LinkTurns, RegisterTurns}
use Rattle.quick.specs.Memory.{Loads, Stores, LoadsCapability, StoresCapability}
use Rattle.quick.specs.Steady.{SteadyIf, TurnedBy}
use Rattle.quick.specs.Turns.{Took, is_done}
use Rattle.quick.proofs.Onward.{pcc_words}
use Rattle.quick.proofs.Families.{turned_put, turned_immediate, turned_two, turned_multiply, turned_divide}
use Rattle.quick.proofs.Families.{turned_increment, turned_cut, turned_copy, turned_set_address, turned_increment_by, turned_address}
use Rattle.quick.proofs.Quiet.{turned_quiet}
use Rattle.quick.proofs.Steady.{steady_written, memory_leaves, done_steady}

-- the operation that an arm was told
pub told_op : (board : Board) (revoked : List ℕ) (op o : Operation) (n : ℕ) (before after : State) (t : Took) → op ≡ o
    → TurnedBy board revoked o n before after t → TurnedBy board revoked op n before after t
told_op board revoked op o n before after t p h = rw p h

pub placed_as : (op o : Operation) → op ≡ o → Placed op → Placed o
placed_as op o p h = rw p at h

pub by_plain : (board : Board) (revoked : List ℕ) (n : ℕ) (s : State) → TurnedBy board revoked Operation.Plain n s s left_turn
by_plain board revoked n s x word m a h w = (turned_quiet board.start n x word (lent board s.mem s.tags revoked) s h, tt)

module _ (board : Board) (revoked regs mem tags : List ℕ) (n to : ℕ) (e : to ≡ wrap (get_or regs 48 0 + n)) where
  -- to is the address after the instruction that PCC stands at
  next : (m a : ℕ) → Stands regs m a n → to ≡ wrap (a + n)
  next m a s = e ∙ ap (λ (z : ℕ). wrap (z + n)) (pcc_words regs m a s.pcc_is).0

  module _ (after : List ℕ) (at : ℕ) (k : at ≤ 45) where
    pub by_put : (value : ℕ) → after ≡ went_on to (written_at at (integer value) regs)
        → TurnedBy board revoked (Operation.Put at value) n (state regs mem tags) (state after mem tags) done_turn
    by_put value h x word m a (rd, i, p) s = (
      turned_put regs after mem tags board.start m a n to s (next m a s) x word (lent board mem tags revoked) at rd value i p h,
      steady_written regs after to at (integer value) s.long k h,
    )

    pub by_immediate : (op : Alu) (from value : ℕ) → after ≡ went_on to (written_at at (integer (alu_of op (get_or regs from 0) value)) regs)
        → TurnedBy board revoked (Operation.Immediate op at from value) n (state regs mem tags) (state after mem tags) done_turn
    by_immediate op from value h x word m a (rd, rs1, i, p, f) s = (
      turned_immediate regs after mem tags board.start m a n to s (next m a s) x word (lent board mem tags revoked) op at from rd rs1 value i p f h,
      steady_written regs after to at (integer (alu_of op (get_or regs from 0) value)) s.long k h,
    )

    pub by_add : (from value : ℕ) → after ≡ went_on to (written_at at (integer (alu_of Add (get_or regs from 0) value)) regs)
        → TurnedBy board revoked (Operation.AddImmediate at from value) n (state regs mem tags) (state after mem tags) done_turn
    by_add from value h x word m a i s = by_immediate Add from value h x word m a i s

    pub by_two : (op : Alu) (from other : ℕ)
        → after ≡ went_on to (written_at at (integer (alu_of op (get_or regs from 0) (get_or regs other 0))) regs)
        → TurnedBy board revoked (Operation.Two op at from other) n (state regs mem tags) (state after mem tags) done_turn
    by_two op from other h x word m a (rd, rs1, rs2, i, p, f, o) s = (
      turned_two regs after mem tags board.start m a n to s (next m a s) x word (lent board mem tags revoked) op at from other rd rs1 rs2 i p f o h,
      steady_written regs after to at (integer (alu_of op (get_or regs from 0) (get_or regs other 0))) s.long k h,
    )

    pub by_multiply : (kind : MultiplyKind) (from other : ℕ)
        → after ≡ went_on to (written_at at (integer (multiplied_of kind (get_or regs from 0) (get_or regs other 0))) regs)
        → TurnedBy board revoked (Operation.Multiply kind at from other) n (state regs mem tags) (state after mem tags) done_turn
    by_multiply kind from other h x word m a (rd, rs1, rs2, i, p, f, o) s = (
      turned_multiply regs after mem tags board.start m a n to s (next m a s) x word (lent board mem tags revoked) kind at from other rd rs1 rs2 i p f o h,
      steady_written regs after to at (integer (multiplied_of kind (get_or regs from 0) (get_or regs other 0))) s.long k h,
    )

    pub by_divide : (kind : DivideKind) (from other : ℕ)
        → after ≡ went_on to (written_at at (integer (divided_of kind (get_or regs from 0) (get_or regs other 0))) regs)
        → TurnedBy board revoked (Operation.Divide kind at from other) n (state regs mem tags) (state after mem tags) done_turn
    by_divide kind from other h x word m a (rd, rs1, rs2, i, p, f, o) s = (
      turned_divide regs after mem tags board.start m a n to s (next m a s) x word (lent board mem tags revoked) kind at from other rd rs1 rs2 i p f o h,
      steady_written regs after to at (integer (divided_of kind (get_or regs from 0) (get_or regs other 0))) s.long k h,
    )

    pub by_increment : (from offset : ℕ) → after ≡ went_on to (written_at at (moved_by (held_at from regs) offset) regs)
        → TurnedBy board revoked (Operation.Increment at from offset) n (state regs mem tags) (state after mem tags) done_turn
    by_increment from offset h x word m a (rd, p, i) s = (
      turned_increment regs after mem tags board.start m a n to s (next m a s) x word (lent board mem tags revoked) at from rd offset i p h,
      steady_written regs after to at (moved_by (held_at from regs) offset) s.long k h,
    )

    pub by_set_address : (from other : ℕ) → after ≡ went_on to (written_at at (move_of (held_at from regs) (get_or regs other 0)) regs)
        → TurnedBy board revoked (Operation.SetAddress at from other) n (state regs mem tags) (state after mem tags) done_turn
    by_set_address from other h x word m a (rd, rs1, rs2, i, p, f, o) s = (
      turned_set_address regs after mem tags board.start m a n to s (next m a s) x word (lent board mem tags revoked) at from other rd rs1 rs2 i p f o h,
      steady_written regs after to at (move_of (held_at from regs) (get_or regs other 0)) s.long k h,
    )

    pub by_increment_by : (from other : ℕ) → after ≡ went_on to (written_at at (moved_by (held_at from regs) (get_or regs other 0)) regs)
        → TurnedBy board revoked (Operation.IncrementBy at from other) n (state regs mem tags) (state after mem tags) done_turn
    by_increment_by from other h x word m a (rd, rs1, rs2, i, p, f, o) s = (
      turned_increment_by regs after mem tags board.start m a n to s (next m a s) x word (lent board mem tags revoked) at from other rd rs1 rs2 i p f o h,
      steady_written regs after to at (moved_by (held_at from regs) (get_or regs other 0)) s.long k h,
    )

    pub by_address : (from : ℕ) → after ≡ went_on to (written_at at (integer (get_or regs from 0)) regs)
        → TurnedBy board revoked (Operation.Address at from) n (state regs mem tags) (state after mem tags) done_turn
    by_address from h x word m a (rd, rs1, i, p, f) s = (
      turned_address regs after mem tags board.start m a n to s (next m a s) x word (lent board mem tags revoked) at from rd rs1 i p f h,
      steady_written regs after to at (integer (get_or regs from 0)) s.long k h,
    )

    pub by_cut : (from size : ℕ) → after ≡ went_on to (written_at at (set_bounds_of (held_at from regs) size) regs)
        → TurnedBy board revoked (Operation.Cut at from size) n (state regs mem tags) (state after mem tags) done_turn
    by_cut from size h x word m a (rd, rs1, i, p, f) s = (
      turned_cut regs after mem tags board.start m a n to s (next m a s) x word (lent board mem tags revoked) at from rd rs1 size i p f h,
      steady_written regs after to at (set_bounds_of (held_at from regs) size) s.long k h,
    )

    pub by_copy : (from : ℕ) → after ≡ went_on to (written_at at (held_at from regs) regs)
        → TurnedBy board revoked (Operation.Copy at from) n (state regs mem tags) (state after mem tags) done_turn
    by_copy from h x word m a (rd, rs1, i, p, f) s = (
      turned_copy regs after mem tags board.start m a n to s (next m a s) x word (lent board mem tags revoked) at from rd rs1 i p f h,
      steady_written regs after to at (held_at from regs) s.long k h,
    )

  -- ---- jumps

  zero_place : (rd : ℕ) → rd % 16 * 3 ≡ 0 → rd % 16 ≡ 0
  zero_place rd p = omega arith

  pub by_go : (after : List ℕ) (offset : ℕ) (t : Took) → GoTurns board.start offset regs after t → SteadyIf (is_done t) regs after
      → TurnedBy board revoked (Operation.Go offset) n (state regs mem tags) (state after mem tags) t
  unfolding effect_of
  by_go after offset t g st x word m a (rd, i, p) s = (rw i (g rd m a n board.edition mem tags s (zero_place rd p)), st)

  pub by_branch : (after : List ℕ) (kind : BranchKind) (from other offset : ℕ) (t : Took) → BranchTurns board.start kind from other offset to regs after t
      → SteadyIf (is_done t) regs after
      → TurnedBy board revoked (Operation.Branch kind from other offset) n (state regs mem tags) (state after mem tags) t
  unfolding effect_of
  by_branch after kind from other offset t g st x word m a (rs1, rs2, i, f, o) s =
      (rw i (g rs1 rs2 m a n board.edition mem tags s (next m a s) f o), st)

  pub by_jump_link : (after : List ℕ) (rd offset : ℕ) (t : Took) → LinkTurns board.start board.edition rd offset to regs after t
      → SteadyIf (is_done t) regs after → TurnedBy board revoked (Operation.JumpLink rd offset) n (state regs mem tags) (state after mem tags) t
  unfolding effect_of
  by_jump_link after rd offset t g st x word m a i s = (rw i (g m a n mem tags s (next m a s)), st)

  pub by_jump_register : (after : List ℕ) (rd rs1 offset : ℕ) (t : Took) → RegisterTurns board.start board.edition rd rs1 offset to regs after t
      → SteadyIf (is_done t) regs after → TurnedBy board revoked (Operation.JumpRegister rd rs1 offset) n (state regs mem tags) (state after mem tags) t
  unfolding effect_of
  by_jump_register after rd rs1 offset t g st x word m a i s = (rw i (g m a n mem tags s (next m a s)), st)

  -- ---- loads and stores

  by_memory : (x : Instruction) (word m a : ℕ) (i : MemoryInstruction) → x ≡ Instruction.Memory i → Stands regs m a n → (after : State) (t : Took)
      → Turned board.start n (memory_effect i regs (lent board mem tags revoked)) (state regs mem tags) after t
      → Turned board.start n (effect_of n x word regs (lent board mem tags revoked)) (state regs mem tags) after t × SteadyIf (is_done t) regs after.regs
  unfolding effect_of
  by_memory x word m a i p s after t w = (
    rw p w,
    done_steady regs mem tags board.start m a n to s (next m a s) (memory_effect i regs (lent board mem tags revoked)) after t
        (memory_leaves regs mem tags board.start m a n to s (next m a s) i (lent board mem tags revoked)) w,
  )

  pub by_load : (after : List ℕ) (kind : LoadKind) (at from offset : ℕ) (t : Took) → Loads kind at from offset to board.start mem regs after t
      → TurnedBy board revoked (Operation.LoadSmall kind at from offset) n (state regs mem tags) (state after mem tags) t
  unfolding memory_effect
  by_load after kind at from offset t h x word m a (rd, rs1, i, p, f) s =
      by_memory x word m a (Access.Load kind rd rs1 offset) i s (state after mem tags) t (h.turned rd rs1 m a n s (next m a s) p f tags)

  pub by_load_byte : (after : List ℕ) (kind : LoadKind) (at from offset : ℕ) (t : Took) → Loads kind at from offset to board.start mem regs after t
      → TurnedBy board revoked (Operation.LoadByte kind at from offset) n (state regs mem tags) (state after mem tags) t
  by_load_byte after kind at from offset t h x word m a i s = by_load after kind at from offset t h x word m a i s

  pub by_load_word : (after : List ℕ) (at from offset : ℕ) (t : Took) → Loads Lw at from offset to board.start mem regs after t
      → TurnedBy board revoked (Operation.LoadWord at from offset) n (state regs mem tags) (state after mem tags) t
  by_load_word after at from offset t h x word m a i s = by_load after Lw at from offset t h x word m a i s

  pub by_store : (after : State) (kind : StoreKind) (from other offset : ℕ) (t : Took)
      → Stores kind from other offset to board.start (state regs mem tags) after t
      → TurnedBy board revoked (Operation.StoreSmall kind from other offset) n (state regs mem tags) after t
  unfolding memory_effect
  by_store after kind from other offset t h x word m a (rs1, rs2, i, f, o) s =
      by_memory x word m a (Access.Store kind rs1 rs2 offset) i s after t (h.turned rs1 rs2 m a n s (next m a s) f o)

  pub by_store_word : (after : State) (from other offset : ℕ) (t : Took) → Stores Sw from other offset to board.start (state regs mem tags) after t
      → TurnedBy board revoked (Operation.StoreWord from other offset) n (state regs mem tags) after t
  by_store_word after from other offset t h x word m a i s = by_store after Sw from other offset t h x word m a i s

  pub by_load_capability : (after : List ℕ) (at from offset : ℕ) (t : Took)
      → LoadsCapability at from offset to (lent board mem tags revoked) regs after t
      → TurnedBy board revoked (Operation.LoadCapability at from offset) n (state regs mem tags) (state after mem tags) t
  unfolding memory_effect
  by_load_capability after at from offset t h x word m a (rd, rs1, i, p, f) s =
      by_memory x word m a (Access.LoadCapability rd rs1 offset) i s (state after mem tags) t (h.turned rd rs1 m a n s (next m a s) p f)

  pub by_store_capability : (after : State) (from other offset : ℕ) (t : Took)
      → StoresCapability from other offset to board.start (state regs mem tags) after t
      → TurnedBy board revoked (Operation.StoreCapability from other offset) n (state regs mem tags) after t
  unfolding memory_effect
  by_store_capability after from other offset t h x word m a (rs1, rs2, i, f, o) s =
      by_memory x word m a (Access.StoreCapability rs1 rs2 offset) i s after t (h.turned rs1 rs2 m a n s (next m a s) f o)
