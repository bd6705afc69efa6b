-- A step of the second engine: the register file where PCC goes on by one word, and what is promised of a turn. Document 02, 14. Assumes nothing.
use Rattle.std.specs.Prelude.{◌≡◌, ℕ, ◌+◌, ◌%◌, ◌≤◌, Bool, true, false, cond, List, length, ◌==◌, ◌≢◌, slice_index, slice_set}
use Rattle.std.specs.Prelude.{Option, None, Some, Result, Ok, Err}
use Rattle.words.specs.Words.{wrap}
use Rattle.capability.specs.Capability.{capability, move_of}
use Rattle.capability.specs.declared.Capability.{Capability}
use Rattle.state.specs.Layout.{register_words}
use Rattle.state.specs.Registers.{pcc_of}
use Rattle.state.specs.Timer.{ticked}
use Rattle.state.specs.Lent.{State}
use Rattle.state.specs.Memory.{granule_bytes}
use Rattle.state.specs.Effects.{Stored, nothing, bytes, whole, stored_by}
use Rattle.state.specs.declared.Effect.{Effect}
use Rattle.commit.specs.Commit.{apply_effect, retires}
use Rattle.quick.specs.declared.Store.{Store}

-- the place of PCC's address in the register file
abbrev pub pcc_place : ℕ
pcc_place = 48

-- PCC's address as one word, and time one on
abbrev pub went_on : (to : ℕ) → (regs : List ℕ) → List ℕ
went_on to regs = ticked (slice_set regs pcc_place to)

-- the place of a register that is not c0
abbrev pub Writable : (at : ℕ) → Type 0
Writable at = (at ≤ 45) × (at ≢ 0)

-- a register written by its place; c0 stays
abbrev pub written_at : (at : ℕ) → Capability → (regs : List ℕ) → List ℕ
written_at at c regs = cond (at == 0) regs (slice_set (slice_set (slice_set regs at c.address) (at + 1) c.metadata) (at + 2) c.tag)

-- the capability of the three words at a place
abbrev pub held_at : (from : ℕ) → (regs : List ℕ) → Capability
held_at from regs = capability (slice_index regs from) (slice_index regs (from + 1)) (slice_index regs (from + 2))

-- PCC as a tagged word m at an address
abbrev pub pcc_at : (m a : ℕ) → Capability
pcc_at m a = capability a m 1

-- where a turn stands: the register file is whole, PCC is a tagged word at an even address, and it is itself after some bytes
pub record Stands (regs : List ℕ) (m a bytes : ℕ) : Type 0 where
  pub long : length regs ≡ register_words
  pub pcc_is : pcc_of regs ≡ pcc_at m a
  pub even : a % 2 ≡ 0
  pub goes_on : move_of (pcc_at m a) (wrap (a + bytes)) ≡ pcc_at m (wrap (a + bytes))

-- what a turn answers: done, and what it stored; or left to a plain step, and what that may store
abbrev pub Took : Type 0
Took = Result (Option Store) (Option Store)

abbrev pub is_done : Took → Bool
is_done (Ok s) = true
is_done (Err s) = false

-- what it says of a store
abbrev pub said : Took → Option Store
said (Ok s) = s
said (Err s) = s

abbrev pub store : (at width : ℕ) → Store
store at width = record { at = at; width = width }

-- what an effect stores is what a turn says
abbrev pub StoredAt : Stored → Option Store → Type 0
StoredAt nothing s = s ≡ None
StoredAt (bytes n i value) s = s ≡ Some (store i n)
StoredAt (whole i value) s = s ≡ Some (store i granule_bytes)

-- what it may store is
abbrev pub MayStore : Stored → Option Store → Type 0
MayStore nothing s = Unit {0}
MayStore (bytes n i value) s = s ≡ Some (store i n)
MayStore (whole i value) s = s ≡ Some (store i granule_bytes)

-- What a turn promises for an effect of an instruction of some bytes: it is done, and what is left is what the effect leaves; or nothing is changed, and the
-- turn says where the effect may store.
abbrev pub Done : Bool → (start bytes : ℕ) → Effect → (before after : State) → Option Store → Type 0
Done true start n e before after s = (after ≡ apply_effect start n e before) × (retires e ≡ true) × StoredAt (stored_by e) s
Done false start n e before after s = (after ≡ before) × MayStore (stored_by e) s

abbrev pub Turned : (start bytes : ℕ) → Effect → (before after : State) → Took → Type 0
Turned start n e before after t = Done (is_done t) start n e before after (said t)

-- a turn that is done and has stored nothing, and one that is not and says of no store
abbrev pub done_turn : Took
done_turn = Ok None

abbrev pub left_turn : Took
left_turn = Err None
