-- A window of all of memory is document 01's lookup and its lengths, so nothing else of the base has moved; an empty one is good wherever it starts in memory
-- or at its end, and revokes nothing. Assumes nothing.
use mathlib.Core.Path.{◌≡◌, refl, ap}
use mathlib.Core.Bool.{Bool, true, false, cond, ◌&&◌}
use mathlib.Core.List.{List}
use Prim.Native.Nat.{ℕ, ◌+◌, ◌-◌, ◌/◌, ◌%◌, ◌≤◌}
use native.Mathlib.Omega.{arith}
use lib.Dec.{T, eqb, leb, ltb}
use lib.ListN.{length}
use borrow.Author.Tests.{leb-true, ltb-true}
use Rattle.words.specs.Words.{bit_at}
use Rattle.capability.specs.Capability.{low}
use Rattle.capability.specs.Loading.{revocable}
use Rattle.capability.specs.declared.Capability.{Capability}
use Rattle.state.specs.Lent.{State}
use Rattle.state.specs.Memory.{granule_bytes, window_at, revocation_at}
use Rattle.state.specs.declared.Board.{Board}
use Rattle.state.specs.declared.Revocation.TheVariants.{Outside, Clear, Marked}
use Rattle.memory_instructions.specs.Access.{revoked_by, revoked_value}
use Rattle.machine.specs.Refusals.{block_bytes, good_memory, good_window, good_bits}
use Rattle.machine_laws.specs.Window.{WholeWindow, revoked_in_memory, bits_for_memory, told, lookups}
use Rattle.machine_laws.proofs.Refusals.{memory_is, window_test}

-- ---- all of memory

and_true : (r : Bool) → r ≡ (r && true)
and_true true = refl
and_true false = refl

and_false : (r : Bool) → false ≡ (r && false)
and_false true = refl
and_false false = refl

-- the test by what the bits say, and by the bit itself
by_bit : (inside set : Bool) (v : Capability) → revoked_by (cond inside (cond set Marked Clear) Outside) v ≡ (revocable v && cond inside set false)
by_bit true true v = and_true (revocable v)
by_bit true false v = and_false (revocable v)
by_bit false set v = and_false (revocable v)

module _ (board : Board) (size : ℕ) (whole : WholeWindow board size) where
  -- a value is revoked exactly where document 01's lookup says so
  pub whole_lookup : (revoked : List ℕ) (v : Capability) → revoked_value board revoked v ≡ (revocable v && revoked_in_memory board.start size revoked (low v))
  unfolding revoked_value revocation_at
  whole_lookup revoked v =
      let e : window_at board ≡ board.start = omega (arith, whole.from_start) in
      rw (e, whole.to_end)
      (by_bit (leb board.start (low v) && ltb (low v) (board.start + size)) (eqb (bit_at revoked ((low v - board.start) / granule_bytes)) 1) v)

  -- it is good where memory is
  pub whole_window : good_memory board size ≡ true → good_window board size ≡ true
  whole_window h =
      let m = memory_is board size h in
      window_test board size
      (record {
        start_blocks = rw whole.from_start refl;
        size_blocks = rw whole.to_end m.blocks;
        in_memory = omega (arith, whole.from_start, whole.to_end);
      })

-- and refusal 3 asks for document 01's lengths
pub whole_bits : (board : Board) (revoked : List ℕ) (s : State) → WholeWindow board (length s.mem) → good_bits board revoked s ≡ bits_for_memory revoked s
unfolding good_bits
whole_bits board revoked s whole = rw whole.to_end refl

-- ---- outside, and none of memory

-- outside the window counts as clear
pub outside_clear : (board : Board) (revoked : List ℕ) (v : Capability) → revocation_at board revoked (low v) ≡ Outside → revoked_value board revoked v ≡ false
unfolding revoked_value
outside_clear board revoked v h = ap (λ r. revoked_by r v) h

module _ (board : Board) (empty : board.window.size ≡ 0) where
  -- good at any block up to memory's end
  pub empty_window : (size : ℕ) → board.window.start % block_bytes ≡ 0 → board.window.start ≤ size → good_window board size ≡ true
  empty_window size blocks inside =
      window_test board size
      (record { start_blocks = blocks; size_blocks = rw empty refl; in_memory = omega (arith, empty, inside) })

  -- with an empty buffer, and nothing is revoked
  pub empty_clear : (revoked : List ℕ) (v : Capability) → revoked_value board revoked v ≡ false
  unfolding revocation_at
  empty_clear revoked v =
      outside_clear board revoked v
      (rw (nowhere (leb (window_at board) (low v)) refl (ltb (low v) (window_at board + board.window.size)) refl) refl)
    where
      nowhere : (a : Bool) → leb (window_at board) (low v) ≡ a → (b : Bool) → ltb (low v) (window_at board + board.window.size) ≡ b
          → (leb (window_at board) (low v) && ltb (low v) (window_at board + board.window.size)) ≡ false
      nowhere false p b q = rw p refl
      nowhere true p false q = rw (p, q) refl
      nowhere true p true q = absurd (omega (arith, empty, leb-true (window_at board) (low v) p, ltb-true (low v) (window_at board + board.window.size) q))

-- ---- the worked lookups

pub lookups_hold : T (told lookups)
unfolding told lookups revocation_at bit_at
lookups_hold = tt
