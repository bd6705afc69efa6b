-- What a call asks of the lent buffers, said without tests. Document 01, "What is lent" and "Answers"; document 02, 5, 8 and 13. Assumes nothing.
use Rattle.std.specs.Prelude.{List, ◌≡◌, ℕ, ◌+◌, ◌/◌, ◌%◌, ◌^◌, ◌≤◌, ◌<◌, get_or, length}
use Rattle.capability.specs.Capability.{low, high}
use Rattle.capability.specs.declared.Capability.{Capability}
use Rattle.state.specs.Layout.{register_words, capability_count, capability_words}
use Rattle.state.specs.Registers.{capability_at}
use Rattle.state.specs.Lent.{State, report_edition, later_edition}
use Rattle.state.specs.Memory.{granule_bytes}
use Rattle.state.specs.Effects.{GoodTags}
use Rattle.state.specs.declared.Board.{Board}
use Rattle.machine.specs.Refusals.{block_bytes, most_memory, most_steps}

-- as many words as the register file has
abbrev pub LentRegisters : State → Type 0
LentRegisters s = length s.regs ≡ register_words

-- memory's size and start are within their limits
pub record LentMemory (board : Board) (size : ℕ) : Type 0 where
  pub least : block_bytes ≤ size
  pub most : size ≤ most_memory
  pub blocks : size % block_bytes ≡ 0
  pub start_aligned : board.start % granule_bytes ≡ 0
  pub in_space : board.start + size ≤ 2 ^ 32

-- the window lies in memory, in whole blocks, and may be empty
pub record LentWindow (board : Board) (size : ℕ) : Type 0 where
  pub start_blocks : board.window.start % block_bytes ≡ 0
  pub size_blocks : board.window.size % block_bytes ≡ 0
  pub in_memory : board.window.start + board.window.size ≤ size

-- one tag bit for each granule of memory, one revocation bit for each of the window
pub record LentBits (board : Board) (revoked : List ℕ) (s : State) : Type 0 where
  pub tag_bytes : length s.tags ≡ length s.mem / block_bytes
  pub revocation_bytes : length revoked ≡ board.window.size / block_bytes

-- each word of c0 is 0
abbrev pub ZeroRegister : (regs : List ℕ) → Type 0
ZeroRegister regs = (i : ℕ) → i < capability_words → get_or regs i 0 ≡ 0

-- each tag word is 0 or 1, and c0 is NULL
pub record LentWords (regs : List ℕ) : Type 0 where
  pub tag_words : GoodTags regs
  pub c0_words : ZeroRegister regs

-- the edition is one of the two
pub data LentEdition (board : Board) : Type 0 where
  is_report : board.edition ≡ report_edition → LentEdition board
  is_later : board.edition ≡ later_edition → LentEdition board

-- bounds in order, and none past the address space
pub record Sound (c : Capability) : Type 0 where
  pub order : low c ≤ high c
  pub top : high c ≤ 2 ^ 32

-- each capability of the register file that is tagged is sound: c0 to c15, PCC and the special ones, sealed or not
abbrev pub SoundRegisters : (regs : List ℕ) → Type 0
SoundRegisters regs = (i : ℕ) → i < capability_count → (capability_at regs i).tag ≡ 1 → Sound (capability_at regs i)

-- all that is lent is as it must be, but for what the registers hold at the start of a call: what a step keeps (law `good_after`)
pub record GoodState (board : Board) (revoked : List ℕ) (s : State) : Type 0 where
  pub registers : LentRegisters s
  pub memory : LentMemory board (length s.mem)
  pub window : LentWindow board (length s.mem)
  pub bits : LentBits board revoked s
  pub words : LentWords s.regs
  pub edition : LentEdition board

-- the number of a refusal of n steps, by its cases: the lowest wins
pub data Refusal (n : ℕ) (board : Board) (revoked : List ℕ) (s : State) : ℕ → Type 0 where
  none : GoodState board revoked s → n ≤ most_steps → SoundRegisters s.regs → Refusal n board revoked s 0
  bad_registers : (LentRegisters s → ⊥) → Refusal n board revoked s 1
  bad_memory : LentRegisters s → (LentMemory board (length s.mem) → ⊥) → Refusal n board revoked s 2
  bad_window : LentRegisters s → LentMemory board (length s.mem) → (LentWindow board (length s.mem) → ⊥) → Refusal n board revoked s 2
  bad_bits : LentRegisters s → LentMemory board (length s.mem) → LentWindow board (length s.mem) → (LentBits board revoked s → ⊥)
      → Refusal n board revoked s 3
  bad_words : LentRegisters s → LentMemory board (length s.mem) → LentWindow board (length s.mem) → LentBits board revoked s
      → (LentWords s.regs → ⊥) → Refusal n board revoked s 4
  too_long : LentRegisters s → LentMemory board (length s.mem) → LentWindow board (length s.mem) → LentBits board revoked s → LentWords s.regs
      → most_steps < n → Refusal n board revoked s 5
  bad_edition : LentRegisters s → LentMemory board (length s.mem) → LentWindow board (length s.mem) → LentBits board revoked s → LentWords s.regs
      → n ≤ most_steps → (LentEdition board → ⊥) → Refusal n board revoked s 7
  unsound : GoodState board revoked s → n ≤ most_steps → (SoundRegisters s.regs → ⊥) → Refusal n board revoked s 8
