-- Properties of capabilities that no operation breaks, said of each capability of a register file and of memory. Assumes nothing.
use mathlib.Core.Path.{◌≡◌}
use mathlib.Core.List.{List}
use Prim.Native.Nat.{ℕ, ◌≤◌, ◌<◌}
use lib.ListN.{length}
use Rattle.capability.specs.declared.Capability.{Capability}
use Rattle.state.specs.Layout.{capability_count, control_start}
use Rattle.state.specs.Registers.{capability_at}
use Rattle.state.specs.Lent.{State}
use Rattle.state.specs.Memory.{capability_in, granule_bytes}
use Rattle.state.specs.Effects.{OneGranule}
use Rattle.authority_laws.proofs.Operations.{From}
use Rattle.authority_laws.proofs.Makers.{Made}

-- what is untagged has it, and what comes from one that has it
pub record Closed (P : Capability → Type 0) : Type 0 where
  pub untagged : (c : Capability) → c.tag ≡ 0 → P c
  pub derived : {c r : Capability} → From c r → P c → P r

-- the same, of a property that the sealing of a link may break
pub record Carried (P : Capability → Type 0) : Type 0 where
  pub untagged : (c : Capability) → c.tag ≡ 0 → P c
  pub derived : {c r : Capability} → Made c r → P c → P r

pub carried_of : (P : Capability → Type 0) → Closed P → Carried P
carried_of P closed = record { untagged = closed.untagged; derived = λ m h. closed.derived m.from h }

-- each capability of a register file that has room for them all
pub record Files (P : Capability → Type 0) (regs : List ℕ) : Type 0 where
  pub long : control_start ≤ length regs
  pub file : (i : ℕ) → i < capability_count → P (capability_at regs i)

-- each of memory
abbrev pub Granules : (Capability → Type 0) → (mem tags : List ℕ) → Type 0
Granules P mem tags = (i : ℕ) → OneGranule i granule_bytes (length mem) → P (capability_in mem tags i)

pub record Everywhere (P : Capability → Type 0) (s : State) : Type 0 where
  pub registers : Files P s.regs
  pub memory : Granules P s.mem s.tags
