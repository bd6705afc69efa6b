-- A turn of a jump. CHERIoT report, 9.4 (CJAL, CJALR); document 02, 14. Assumes nothing.
use Rattle.std.specs.Prelude.{◌≡◌, ℕ, ◌+◌, ◌*◌, ◌%◌, ◌^◌, ◌<◌, Bool, true, false, not, ◌&&◌, ◌||◌, List, Option, None, ◌==◌}
use Rattle.words.specs.Words.{wrap}
use Rattle.metadata.specs.Rights.{EX}
use Rattle.capability.specs.Capability.{sealed}
use Rattle.capability.specs.Sealing.{with_object_type}
use Rattle.capability.specs.declared.Capability.{Capability}
use Rattle.instructions.specs.declared.BranchKind.{BranchKind}
use Rattle.instructions.specs.declared.JumpInstruction.TheVariants.{Jal, Jalr, Branch}
use Rattle.state.specs.Addresses.{target_bytes, target_alignment}
use Rattle.state.specs.Lent.{state}
use Rattle.jump_instructions.specs.Editions.{accepts, link_type}
use Rattle.jump_instructions.specs.Jumps.{jump_effect}
use Rattle.quick.specs.Rows.{row_of_pcc, InRow, Reached}
use Rattle.quick.specs.Turns.{went_on, held_at, pcc_at, pcc_place, Stands, Took, is_done, said, Turned}

-- a target is aligned and in PCC's row; PCC's own address is a word, and in the row
pub record Lands (rows : List ℕ) (pcc : Capability) (to : ℕ) : Type 0 where
  pub is_even : to % target_alignment ≡ 0
  pub own_fits : pcc.address < 2 ^ 32
  pub in_row : InRow rows row_of_pcc pcc to target_bytes

-- PCC goes to a target, which it reaches where it is tagged; or nothing is changed
abbrev pub WentIf : Bool → (start size to : ℕ) → (before after : List ℕ) → Type 0
WentIf true start size to before after =
    (after ≡ went_on to before) × ((held_at pcc_place before).tag ≡ 1 → Reached EX start size (held_at pcc_place before) to target_bytes)
WentIf false start size to before after = after ≡ before

-- and nothing is stored
abbrev pub Went : (start size to : ℕ) → (before after : List ℕ) → Took → Type 0
Went start size to before after t = WentIf (is_done t) start size to before after × (said t ≡ None)

-- CJAL to c0
abbrev pub GoTurns : (start offset : ℕ) → (before after : List ℕ) → Took → Type 0
GoTurns start offset before after t =
    (rd m a n edition : ℕ) → (mem tags : List ℕ) → Stands before m a n → rd % 16 ≡ 0
    → Turned start n (jump_effect n edition (Jal rd offset) before) (state before mem tags) (state after mem tags) t

-- a branch, of registers by their places
abbrev pub BranchTurns : (start : ℕ) → BranchKind → (from other offset to : ℕ) → (before after : List ℕ) → Took → Type 0
BranchTurns start kind from other offset to before after t =
    (rs1 rs2 m a n edition : ℕ) → (mem tags : List ℕ) → Stands before m a n → to ≡ wrap (a + n) → from ≡ rs1 % 16 * 3 → other ≡ rs2 % 16 * 3
    → Turned start n (jump_effect n edition (Branch kind rs1 rs2 offset) before) (state before mem tags) (state after mem tags) t

-- the link of a jump: PCC's word at the address after it, sealed by the interrupt status
abbrev pub link_at : (edition next word mstatus : ℕ) → Capability
link_at edition next word mstatus = with_object_type (pcc_at word next) (link_type edition mstatus)

-- CJAL with a link; next is the address after it
abbrev pub LinkTurns : (start edition rd offset next : ℕ) → (before after : List ℕ) → Took → Type 0
LinkTurns start edition rd offset next before after t =
    (m a n : ℕ) → (mem tags : List ℕ) → Stands before m a n → next ≡ wrap (a + n)
    → Turned start n (jump_effect n edition (Jal rd offset) before) (state before mem tags) (state after mem tags) t

-- a sealed target is refused: it is not accepted, or there is an offset
abbrev pub shut : (edition rd rs1 offset : ℕ) → Capability → Bool
shut edition rd rs1 offset c = sealed c && (not (accepts edition c rd rs1) || not (offset == 0))

-- CJALR; next is the address after it
abbrev pub RegisterTurns : (start edition rd rs1 offset next : ℕ) → (before after : List ℕ) → Took → Type 0
RegisterTurns start edition rd rs1 offset next before after t =
    (m a n : ℕ) → (mem tags : List ℕ) → Stands before m a n → next ≡ wrap (a + n)
    → Turned start n (jump_effect n edition (Jalr rd rs1 offset) before) (state before mem tags) (state after mem tags) t
