-- A jump to what PCC reaches passes its checks, so that its effect is PCC at the target. Assumes nothing.
use Rattle.std.proofs.Common.{◌≡◌, ℕ, ◌+◌, ◌*◌, ◌/◌, ◌%◌, ◌^◌, ◌<◌, Bool, true, false, not, ◌&&◌, eqb, List, length, get_or, sym, refl, ap, ◌∙◌, true≢false}
use Rattle.std.proofs.Common.{Option, None}
use Rattle.std.proofs.Common.{arith, eq-eqb}
use Rattle.words.specs.Words.{wrap}
use Rattle.metadata.specs.Rights.{EX}
use Rattle.metadata.specs.Word.{type_of}
use Rattle.metadata.proofs.Words.{permissions_of_type, scale_of_type, top_of_type, base_of_type}
use Rattle.bounds.specs.Bounds.{low_at, high_at}
use Rattle.capability.specs.Capability.{integer, low, high, rights, covers, sealed, tagged, grants, move_of}
use Rattle.capability.specs.Sealing.{with_object_type}
use Rattle.capability.specs.declared.Capability.{Capability}
use Rattle.instructions.specs.declared.BranchKind.{BranchKind}
use Rattle.instructions.specs.declared.JumpInstruction.TheVariants.{Jal, Jalr, Branch}
use Rattle.state.specs.Layout.{register_words}
use Rattle.state.specs.Registers.{capability_at, register_at, integer_at, pcc_of, mstatus_of}
use Rattle.state.specs.Checks.{checked}
use Rattle.state.specs.Lent.{state}
use Rattle.state.specs.Effects.{Stored, nothing, bytes, whole, stored_by, Nothing, Storeless}
use Rattle.state.specs.declared.Effect.{Effect}
use Rattle.state.specs.declared.Effect.TheVariants.{Jump}
use Rattle.jump_instructions.specs.Editions.{accepts, link_type, jump_status}
use Rattle.jump_instructions.specs.Jumps.{link_of, aligned, target_cause, jal_effect, jalr_cause, jalr_effect, taken, taken_effect, branch_effect, jump_effect}
use Rattle.jump_instructions.proofs.Laws.{jump_storeless}
use Rattle.commit.specs.Commit.{retires}
use Rattle.quick.specs.Rows.{Good, InRow, Reached}
use Rattle.quick.specs.Turns.{went_on, written_at, held_at, pcc_at, Stands, MayStore, Done, Turned, done_turn, left_turn}
use Rattle.quick.specs.Jumps.{WentIf, Went, GoTurns, BranchTurns, link_at, LinkTurns, shut, RegisterTurns}
use Rattle.quick.specs.Steady.{SteadyIf}
use Rattle.quick.specs.Turns.{Took, is_done, said}
use Rattle.quick.specs.declared.Store.{Store}
use Rattle.quick.proofs.Onward.{took_advance, took_jump, took_linked, pcc_words}
use Rattle.quick.proofs.Reach.{reached}
use Rattle.quick.proofs.Steady.{steady_written}

-- what stores nothing may store anywhere
pub may_nothing : (x : Stored) (o : Option Store) → Nothing x → MayStore x o
may_nothing nothing o h = tt
may_nothing (bytes n i value) o h = absurd h
may_nothing (whole i value) o h = absurd h

opened : (b : Bool) → not b ≡ false → b ≡ true
opened true h = refl
opened false h = absurd (true≢false h)

-- PCC at what it reaches is itself
moved_is : (c : Capability) (start size to : ℕ) → Reached EX start size c to 2 → move_of c to ≡ pcc_at c.metadata to
unfolding move_of sealed
moved_is c start size to r = rw (opened (eqb (type_of c.metadata) 0) r.is_open, r.same_bounds (omega arith), r.is_tagged) refl

module _ (regs : List ℕ) (start size to : ℕ) (r : Reached EX start size (pcc_of regs) to 2) (z : to % 2 ≡ 0) where
  inside : target_cause (pcc_of regs) to ≡ 0
  unfolding target_cause
  inside = rw r.in_bounds refl

  jal_inside : (n edition rd : ℕ)
      → jal_effect n edition rd to regs ≡ Jump rd (link_of n edition (pcc_of regs) (mstatus_of regs)) (move_of (pcc_of regs) to) (mstatus_of regs)
  unfolding jal_effect checked aligned
  jal_inside n edition rd = rw (inside, eq-eqb (to % 2) 0 z) refl

  taken_inside : taken_effect to regs ≡ Jump 0 (integer 0) (move_of (pcc_of regs) to) (mstatus_of regs)
  unfolding taken_effect checked aligned
  taken_inside = rw (inside, eq-eqb (to % 2) 0 z) refl

-- a jump to what PCC reaches, or none
module _ (regs after mem tags : List ℕ) (start size to m a n : ℕ) (p : pcc_of regs ≡ pcc_at m a) (e : Effect) (still : Storeless e)
    (rd : ℕ) (link : Capability) (z : rd % 16 ≡ 0)
    (f : Reached EX start size (pcc_of regs) to 2 → to % 2 ≡ 0 → e ≡ Jump rd link (move_of (pcc_of regs) to) (mstatus_of regs)) (t : Took) where
  went_turned : to % 2 ≡ 0 → Went start size to regs after t → Turned start n e (state regs mem tags) (state after mem tags) t
  unfolding capability_at retires
  went_turned k w = go (is_done t) w.0
    where
      go : (b : Bool) → WentIf b start size to regs after → Done b start n e (state regs mem tags) (state after mem tags) (said t)
      go true (h, g) =
          let r = g (pcc_words regs m a p).2 in
          rw (f r k, h) (
            took_jump regs mem tags start m a n to p rd (mstatus_of regs) link (move_of (pcc_of regs) to) z
                (moved_is (pcc_of regs) start size to r ∙ ap (λ (c : Capability). pcc_at c.metadata to) p) refl,
            refl,
            w.1,
          )
      go false h = (ap (λ (l : List ℕ). state l mem tags) h, may_nothing (stored_by e) (said t) still)

module _ (regs after : List ℕ) (start size offset to : ℕ) (t : Took) (e : to ≡ wrap (get_or regs 48 0 + offset)) (o : offset % 2 ≡ 0)
    (w : Went start size to regs after t) where
  even_target : (m a n : ℕ) → Stands regs m a n → to % 2 ≡ 0
  even_target m a n s = omega (arith, e, o, s.even, (pcc_words regs m a s.pcc_is).0)

  pub go_turned : GoTurns start offset regs after t
  unfolding jump_effect capability_at
  go_turned rd m a n edition mem tags s z =
      went_turned regs after mem tags start size to m a n s.pcc_is (jump_effect n edition (Jal rd offset) regs)
      (jump_storeless n edition (Jal rd offset) regs) rd
      (link_of n edition (pcc_of regs) (mstatus_of regs)) z
      (λ r k. ap (λ (x : ℕ). jal_effect n edition rd x regs) (sym e) ∙ jal_inside regs start size to r k n edition rd) t (even_target m a n s) w

  pub branch_turned : (kind : BranchKind) (from other next : ℕ) → taken kind (get_or regs from 0) (get_or regs other 0) ≡ true
      → BranchTurns start kind from other offset next regs after t
  unfolding jump_effect branch_effect capability_at integer_at
  branch_turned kind from other next b rs1 rs2 m a n edition mem tags s q f g =
      let c : taken kind (integer_at regs rs1) (integer_at regs rs2) ≡ true = rw (f, g) at b in
      went_turned regs after mem tags start size to m a n s.pcc_is (jump_effect n edition (Branch kind rs1 rs2 offset) regs)
      (jump_storeless n edition (Branch kind rs1 rs2 offset) regs) 0 (integer 0) refl
      (λ r k. rw c (ap (λ (x : ℕ). taken_effect x regs) (sym e) ∙ taken_inside regs start size to r k)) t (even_target m a n s) w

-- a branch that is not taken goes on
pub branch_passed : (regs : List ℕ) (start offset next : ℕ) (kind : BranchKind) (from other : ℕ) → taken kind (get_or regs from 0) (get_or regs other 0) ≡ false
    → BranchTurns start kind from other offset next regs (went_on next regs) done_turn
unfolding jump_effect branch_effect integer_at retires
branch_passed regs start offset next kind from other b rs1 rs2 m a n edition mem tags s q f o =
    let c : taken kind (integer_at regs rs1) (integer_at regs rs2) ≡ false = rw (f, o) at b in
    rw c (took_advance regs mem tags start m a n next s q, refl, refl)

-- ---- jumps with a link

link_is : (regs : List ℕ) (m a n next edition : ℕ) → Stands regs m a n → next ≡ wrap (a + n)
    → link_at edition next (get_or regs 49 0) (get_or regs 63 0) ≡ link_of n edition (pcc_of regs) (mstatus_of regs)
unfolding link_of
link_is regs m a n next edition s q =
    let seal : Capability → Capability = λ c. with_object_type c (link_type edition (mstatus_of regs)) in
    ap (λ (x : ℕ). seal (pcc_at x next)) (pcc_words regs m a s.pcc_is).1
    ∙ ap seal (ap (pcc_at m) q ∙ sym s.goes_on)
    ∙ ap (λ (c : Capability). seal (move_of c (wrap (c.address + n)))) (sym s.pcc_is)

-- a jump whose effect is PCC at the target, with a link
module _ (regs after mem tags : List ℕ) (start m a n next to at rd edition mstatus : ℕ) (s : Stands regs m a n) (q : next ≡ wrap (a + n)) (e : Effect)
    (target : Capability) (e-is : e ≡ Jump rd (link_of n edition (pcc_of regs) (mstatus_of regs)) target mstatus) (target_is : target ≡ pcc_at m to)
    (stays : mstatus ≡ mstatus_of regs) (at-is : at ≡ rd % 16 * 3)
    (after_is : after ≡ went_on to (written_at at (link_at edition next (get_or regs 49 0) (get_or regs 63 0)) regs)) where
  linked_turned : Turned start n e (state regs mem tags) (state after mem tags) done_turn
  unfolding retires
  linked_turned =
      rw (e-is, after_is, link_is regs m a n next edition s q) (
        took_linked regs mem tags start m a n to s.pcc_is at rd mstatus (link_of n edition (pcc_of regs) (mstatus_of regs)) target at-is target_is stays,
        refl,
        refl,
      )

-- CJAL to what PCC reaches
pub link_turned : (regs after : List ℕ) (start size edition rd offset next to at : ℕ) (t : Took) → length regs ≡ register_words → t ≡ done_turn
    → to ≡ wrap (get_or regs 48 0 + offset) → to % 2 ≡ 0 → ((held_at 48 regs).tag ≡ 1 → Reached EX start size (held_at 48 regs) to 2) → at ≡ rd % 16 * 3
    → after ≡ went_on to (written_at at (link_at edition next (get_or regs 49 0) (get_or regs 63 0)) regs)
    → LinkTurns start edition rd offset next regs after t × SteadyIf (is_done t) regs after
unfolding jump_effect capability_at
link_turned regs after start size edition rd offset next to at t long u e z g w h =
    rw u (
      λ m a n mem tags s q.
          let r = g (pcc_words regs m a s.pcc_is).2 in
          linked_turned regs after mem tags start m a n next to at rd edition (mstatus_of regs) s q (jump_effect n edition (Jal rd offset) regs)
          (move_of (pcc_of regs) to) (ap (λ (x : ℕ). jal_effect n edition rd x regs) (sym e) ∙ jal_inside regs start size to r z n edition rd)
          (moved_is (pcc_of regs) start size to r ∙ ap (λ (c : Capability). pcc_at c.metadata to) s.pcc_is) refl w h,
      steady_written regs after to at (link_at edition next (get_or regs 49 0) (get_or regs 63 0)) long (omega (arith, w)) h,
    )

-- a capability without its seal has its own rights and bounds
module _ (c : Capability) (start size to : ℕ) (r : Reached EX start size (with_object_type c 0) to 2) where
  open_tagged : tagged c ≡ true
  unfolding with_object_type tagged
  open_tagged = eq-eqb c.tag 1 r.is_tagged

  open_granted : grants c EX ≡ true
  unfolding with_object_type rights
  open_granted = rw (permissions_of_type c.metadata 0 (omega arith)) at r.has_right

  open_inside : target_cause c to ≡ 0
  unfolding target_cause with_object_type covers low high low_at high_at
  open_inside =
      let i = rw (scale_of_type c.metadata 0, top_of_type c.metadata 0, base_of_type c.metadata 0) at r.in_bounds in
      rw i refl

  pub jalr_inside : (n edition rd rs1 offset : ℕ) (regs : List ℕ) → shut edition rd rs1 offset c ≡ false → to % 2 ≡ 0
      → jalr_effect n edition rd rs1 offset to c regs
      ≡ Jump rd (link_of n edition (pcc_of regs) (mstatus_of regs)) (move_of (with_object_type c 0) to)
      (jump_status edition (type_of c.metadata) (mstatus_of regs))
  unfolding jalr_effect jalr_cause checked aligned
  jalr_inside n edition rd rs1 offset regs z k = rw (open_tagged, z, open_granted, open_inside, eq-eqb (to % 2) 0 k) refl

-- CJALR to a capability of PCC's word that PCC's row has
pub register_turned : (regs after : List ℕ) (start size edition rd rs1 offset next to at from : ℕ) (c : Capability) (t : Took) → length regs ≡ register_words
    → t ≡ done_turn → c ≡ held_at from regs → from ≡ rs1 % 16 * 3 → to ≡ wrap (c.address + offset) / 2 * 2
    → (with_object_type c 0).metadata ≡ get_or regs 49 0 → Reached EX start size (with_object_type c 0) to 2 → shut edition rd rs1 offset c ≡ false
    → jump_status edition (type_of c.metadata) (get_or regs 63 0) ≡ get_or regs 63 0 → at ≡ rd % 16 * 3
    → after ≡ went_on to (written_at at (link_at edition next (get_or regs 49 0) (get_or regs 63 0)) regs)
    → RegisterTurns start edition rd rs1 offset next regs after t × SteadyIf (is_done t) regs after
unfolding jump_effect capability_at integer_at
register_turned regs after start size edition rd rs1 offset next to at from c t long u e f g word r z k w h =
    let held : c ≡ register_at regs rs1 = e ∙ ap (λ (x : ℕ). held_at x regs) f in
    rw u (
      λ m a n mem tags s q.
          linked_turned regs after mem tags start m a n next to at rd edition (jump_status edition (type_of c.metadata) (mstatus_of regs)) s q
          (jump_effect n edition (Jalr rd rs1 offset) regs) (move_of (with_object_type c 0) to)
          (ap (λ (x : Capability). jalr_effect n edition rd rs1 offset (wrap (x.address + offset) / 2 * 2) x regs) (sym held)
          ∙ ap (λ (x : ℕ). jalr_effect n edition rd rs1 offset x c regs) (sym g)
          ∙ jalr_inside c start size to r n edition rd rs1 offset regs z (omega (arith, g)))
          (moved_is (with_object_type c 0) start size to r ∙ ap (λ (x : ℕ). pcc_at x to) (word ∙ (pcc_words regs m a s.pcc_is).1)) k w h,
      steady_written regs after to at (link_at edition next (get_or regs 49 0) (get_or regs 63 0)) long (omega (arith, w)) h,
    )

-- a jump that is left
pub link_left : (regs : List ℕ) (start edition rd offset next : ℕ) (t : Took) → t ≡ left_turn
    → LinkTurns start edition rd offset next regs regs t × SteadyIf (is_done t) regs regs
link_left regs start edition rd offset next t u =
    rw u (
      λ m a n mem tags s q. (refl, may_nothing (stored_by (jump_effect n edition (Jal rd offset) regs)) None (jump_storeless n edition (Jal rd offset) regs)),
      tt,
    )

pub register_left : (regs : List ℕ) (start edition rd rs1 offset next : ℕ) (t : Took) → t ≡ left_turn
    → RegisterTurns start edition rd rs1 offset next regs regs t × SteadyIf (is_done t) regs regs
register_left regs start edition rd rs1 offset next t u =
    rw u (
      λ m a n mem tags s q.
          (refl, may_nothing (stored_by (jump_effect n edition (Jalr rd rs1 offset) regs)) None (jump_storeless n edition (Jalr rd rs1 offset) regs)),
      tt,
    )

-- ---- which sealed targets are not refused

pub refused : (b : Bool) → not b ≡ true → b ≡ false
refused true h = absurd (true≢false (sym h))
refused false h = refl

pub open_not_shut : (edition rd rs1 offset : ℕ) (c : Capability) → sealed c ≡ false → shut edition rd rs1 offset c ≡ false
open_not_shut edition rd rs1 offset c h = rw h refl

pub accepted_not_shut : (edition rd rs1 offset : ℕ) (c : Capability) → offset ≡ 0 → accepts edition c rd rs1 ≡ true → shut edition rd rs1 offset c ≡ false
accepted_not_shut edition rd rs1 offset c z h = rw (z, h) (go (sealed c))
  where
    go : (b : Bool) → (b && false) ≡ false
    go true = refl
    go false = refl

-- ---- where PCC lands

pub landed : (start size : ℕ) (rows regs : List ℕ) (c : Capability) (to : ℕ) → Good start size rows → c ≡ held_at 48 regs → to < 2 ^ 32
    → (c.address < 2 ^ 32) × InRow rows 96 c to 2 → (held_at 48 regs).tag ≡ 1 → Reached EX start size (held_at 48 regs) to 2
landed start size rows regs c to good e fits l tag =
    reached start size rows 96 to 2 (held_at 48 regs) good (omega arith) refl tag (rw e at l.0) fits (rw e at l.1)

pub went : (start size : ℕ) (rows regs after : List ℕ) (c : Capability) (to : ℕ) (t : Took) → Good start size rows → c ≡ held_at 48 regs → to < 2 ^ 32
    → (c.address < 2 ^ 32) × InRow rows 96 c to 2 → after ≡ went_on to regs → t ≡ done_turn → Went start size to regs after t
went start size rows regs after c to t good e fits l h u = rw u ((h, landed start size rows regs c to good e fits l), refl)

pub stayed : (start size to : ℕ) (regs : List ℕ) (t : Took) → t ≡ left_turn → Went start size to regs regs t
stayed start size to regs t u = rw u (refl, refl)
