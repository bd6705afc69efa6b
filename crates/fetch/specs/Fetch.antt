-- The fetch in halves. Document 02, 3; document 01, "Traps"; CHERIoT report, 7.5. Assumes nothing.
use Rattle.std.specs.Prelude.{Result, Ok, Err, ◌≡◌, ℕ, ◌+◌, ◌-◌, ◌*◌, ◌%◌, ◌≤◌, Bool, true, false, cond, not, List, length, ◌==◌, nat_le}
use Rattle.words.specs.Words.{le_bytes, wrap}
use Rattle.metadata.specs.Rights.{EX}
use Rattle.capability.specs.declared.Capability.{Capability}
use Rattle.short_forms.specs.Standing.{is_long, half_bytes, long_bytes}
use Rattle.state.specs.Memory.{place_of}
use Rattle.state.specs.Checks.{in_bounds, access_cause, execute_cause, bounds_cause, no_cause, pcc_register, capability_fault, fetch_fault, fetch_misaligned}
use Rattle.state.specs.declared.Place.{Place}
use Rattle.state.specs.declared.Place.TheVariants.{At, Misaligned, Outside}
use Rattle.fetch.specs.declared.Fetched.{Fetched}
use Rattle.fetch.specs.declared.Fetched.TheVariants.{Long, Half}
use Rattle.fetch.specs.declared.Trap.{Trap}

-- what a step meets: a long word or a half, or a trap before anything is executed
abbrev pub Met : Type 0
Met = Result Fetched Trap

abbrev pub fault : (cause value : ℕ) → Met
fault cause value = Err (record { cause = cause; value = value })

-- a capability trap of PCC, as every other has it in mtval
unfoldable pub shut_out : (cause : ℕ) → Met
shut_out cause = fault capability_fault (pcc_register * 32 + cause % 32)

-- A long word whose first half is in bounds and in memory: four bytes in bounds, as whole numbers; then the second half in memory, whose fault has its own
-- address. A second half at 2^32 is in no memory; its address as a word of mtval is 0.
unfoldable pub second_of : (pcc : Capability) → (word : ℕ) → (inside : Bool) → Met
second_of pcc word inside =
    cond (not (in_bounds pcc pcc.address long_bytes)) (shut_out bounds_cause)
    (cond inside (Ok (Long word))
    (fault fetch_fault (wrap (pcc.address + half_bytes))))

-- the first half tells how long the instruction is
unfoldable pub stands_of : (pcc : Capability) → (half word : ℕ) → (inside : Bool) → Met
stands_of pcc half word inside = cond (is_long half) (second_of pcc word inside) (Ok (Half half))

-- alignment, then the first half in memory
unfoldable pub fetched_at : Place → (pcc : Capability) → (mem : List ℕ) → Met
fetched_at Misaligned pcc mem = fault fetch_misaligned pcc.address
fetched_at Outside pcc mem = fault fetch_fault pcc.address
fetched_at (At i) pcc mem = stands_of pcc (le_bytes half_bytes mem i) (le_bytes long_bytes mem i) (nat_le (i + long_bytes) (length mem))

-- first of all PCC's tag, seal, execute right and two bytes in bounds
unfoldable pub fetch_of : (pcc : Capability) → (start : ℕ) → (mem : List ℕ) → Met
fetch_of pcc start mem =
    let cause = access_cause pcc EX execute_cause pcc.address half_bytes in
    cond (cause == no_cause) (fetched_at (place_of start (length mem) pcc.address half_bytes) pcc mem) (shut_out cause)

-- ---- what is known of an instruction that was fetched

-- n bytes from PCC's address on are in its bounds and in memory, and its address is even
pub record Reached (pcc : Capability) (start : ℕ) (mem : List ℕ) (n : ℕ) : Type 0 where
  pub in_bounds : in_bounds pcc pcc.address n ≡ true
  pub even : pcc.address % 2 ≡ 0
  pub above : start ≤ pcc.address
  pub inside : pcc.address + n ≤ start + length mem

-- a long word, or a half, is the bytes that stand there
abbrev pub Whole : (pcc : Capability) → (start : ℕ) → (mem : List ℕ) → Met → Type 0
Whole pcc start mem (Err trap) = Unit {0}
Whole pcc start mem (Ok (Long w)) =
    Reached pcc start mem long_bytes × (w ≡ le_bytes long_bytes mem (pcc.address - start))
    × (is_long (le_bytes half_bytes mem (pcc.address - start)) ≡ true)
Whole pcc start mem (Ok (Half h)) = Reached pcc start mem half_bytes × (h ≡ le_bytes half_bytes mem (pcc.address - start)) × (is_long h ≡ false)
