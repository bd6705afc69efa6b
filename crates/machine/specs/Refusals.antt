-- The refusals of a step and a run, in the order of their numbers: the lowest wins. Document 01, "What is lent" and "Answers"; document 02, 5, 8 and 13.
-- Assumes nothing.
use Rattle.std.specs.Prelude.{Result, Ok, Err, Bool, true, cond, not, ◌&&◌, ◌||◌, List, ℕ, zero, suc, ◌+◌, ◌*◌, ◌/◌, ◌%◌, ◌^◌, eqb, leb, ltb, get_or, length}
use Rattle.capability.specs.Capability.{low, high, tagged}
use Rattle.capability.specs.declared.Capability.{Capability}
use Rattle.state.specs.Layout.{register_words, capability_count, capability_words}
use Rattle.state.specs.Registers.{capability_at}
use Rattle.state.specs.Lent.{State, report_edition, later_edition}
use Rattle.state.specs.Memory.{granule_bytes}
use Rattle.state.specs.Checks.{fail_if}
use Rattle.state.specs.declared.Board.{Board}
use Rattle.machine.specs.declared.answers.Refusal.{Refusal}
use Rattle.machine.specs.declared.answers.Refusal.TheVariants.{Registers, Memory, Bits, Words, Steps, Edition, Bounds, Granule, Rights, Place, Range}

-- ---- the refusals by name

-- the paper's number of each; the sweeper's is 9, and those from 20 on are of the search of what is reached
abbrev pub number_of : Refusal → ℕ
number_of Registers = 1
number_of Memory = 2
number_of Bits = 3
number_of Words = 4
number_of Steps = 5
number_of Edition = 7
number_of Bounds = 8
number_of Granule = 9
number_of Rights = 20
number_of Place = 21
number_of Range = 22

-- the refusal of a number (laws `refusal_named_number`, `refusal_number`)
unfoldable pub refusal_named : (number : ℕ) → Refusal
refusal_named n =
    cond (eqb n 1) Registers (cond (eqb n 2) Memory (cond (eqb n 3) Bits (cond (eqb n 4) Words (cond (eqb n 5) Steps
    (cond (eqb n 7) Edition (cond (eqb n 8) Bounds (cond (eqb n 9) Granule (cond (eqb n 20) Rights (cond (eqb n 21) Place Range)))))))))

-- the number of an answer; 0 where nothing is refused
abbrev pub number_in : {A : Type 0} → Result A Refusal → ℕ
number_in (Ok x) = 0
number_in (Err r) = number_of r

-- the answer to one test
abbrev pub refused_unless : (good : Bool) → Refusal → Result (Unit {0}) Refusal
refused_unless good why = cond good (Ok tt) (Err why)

-- ---- the tests

-- the bytes of memory that one byte of tags or revocation bits is for: the least memory, and what its size and the window's ends are multiples of
abbrev pub block_bytes : ℕ
block_bytes = granule_bytes * 8

abbrev pub most_memory : ℕ
most_memory = 1048576

-- the most steps of a run
abbrev pub most_steps : ℕ
most_steps = 1000000

-- memory's size and start
unfoldable pub good_memory : Board → (size : ℕ) → Bool
good_memory board size =
    leb block_bytes size
    && (leb size most_memory && (eqb (size % block_bytes) 0 && (eqb (board.start % granule_bytes) 0 && leb (board.start + size) (2 ^ 32))))

-- the window's start, counted from memory's, and its size: both in whole blocks, inside memory; it may be empty, also at memory's end
unfoldable pub good_window : Board → (size : ℕ) → Bool
good_window board size =
    eqb (board.window.start % block_bytes) 0
    && (eqb (board.window.size % block_bytes) 0 && leb (board.window.start + board.window.size) size)

-- a bit of tags for each granule of memory and a revocation bit for each of the window
unfoldable pub good_bits : Board → (revoked : List ℕ) → State → Bool
good_bits board revoked s = eqb (length s.tags) (length s.mem / block_bytes) && eqb (length revoked) (board.window.size / block_bytes)

-- the tag words of n capabilities from capability i on are 0 or 1
unfoldable pub good_tags : (n : ℕ) → (regs : List ℕ) → (i : ℕ) → Bool
good_tags zero regs i = true
good_tags (suc n) regs i = leb (get_or regs (i * capability_words + 2) 0) 1 && good_tags n regs (i + 1)

-- each word of c0 is 0
unfoldable pub good_zero : (regs : List ℕ) → Bool
good_zero regs = eqb (get_or regs 0 0) 0 && (eqb (get_or regs 1 0) 0 && eqb (get_or regs 2 0) 0)

unfoldable pub good_words : (regs : List ℕ) → Bool
good_words regs = good_tags capability_count regs 0 && good_zero regs

-- the edition is one of the two
unfoldable pub good_edition : Board → Bool
good_edition board = eqb board.edition report_edition || eqb board.edition later_edition

-- bounds in order, and none past the address space, as whole numbers and at the capability's own address
unfoldable pub sound : Capability → Bool
sound c = leb (low c) (high c) && leb (high c) (2 ^ 32)

-- of a capability without its tag nothing is asked; sealed or not makes no difference
unfoldable pub sound_if_tagged : Capability → Bool
sound_if_tagged c = not (tagged c) || sound c

-- so of n capabilities from capability i on
unfoldable pub good_bounds : (n : ℕ) → (regs : List ℕ) → (i : ℕ) → Bool
good_bounds zero regs i = true
good_bounds (suc n) regs i = sound_if_tagged (capability_at regs i) && good_bounds n regs (i + 1)

-- the number for a call that asks n steps, where a single step asks one; 0 where nothing is refused
unfoldable pub refusal_of : (n : ℕ) → Board → (revoked : List ℕ) → State → ℕ
refusal_of n board revoked s =
    fail_if (not (eqb (length s.regs) register_words)) 1
    (fail_if (not (good_memory board (length s.mem))) 2
    (fail_if (not (good_window board (length s.mem))) 2
    (fail_if (not (good_bits board revoked s)) 3
    (fail_if (not (good_words s.regs)) 4
    (fail_if (ltb most_steps n) 5
    (fail_if (not (good_edition board)) 7 (fail_if (not (good_bounds capability_count s.regs 0)) 8
    0)))))))
