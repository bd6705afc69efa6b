-- One jump in both editions: they differ in whether the target is accepted, in MIE and in the link's type. Document 02, 8, the last sentence. Assumes nothing.
use Rattle.std.specs.Prelude.{◌≡◌, ℕ, Bool, true, false, List, ◌≢◌}
use Rattle.metadata.specs.Word.{reserved_of, permissions_of, scale_of, top_of, base_of}
use Rattle.metadata.specs.Rights.{bit}
use Rattle.capability.specs.declared.Capability.{Capability}
use Rattle.instructions.specs.declared.JumpInstruction.{JumpInstruction}
use Rattle.instructions.specs.declared.JumpInstruction.TheVariants.{Jal, Jalr, Branch, Mret}
use Rattle.state.specs.Registers.{register_at}
use Rattle.state.specs.Status.{MIE}
use Rattle.state.specs.declared.Effect.{Effect}
use Rattle.state.specs.declared.Effect.TheVariants.{Jump}
use Rattle.jump_instructions.specs.Editions.{no_link, accepts}

-- capabilities that are the same but for the type
pub record SameButType (c d : Capability) : Type 0 where
  pub address_same : d.address ≡ c.address
  pub tag_same : d.tag ≡ c.tag
  pub reserved_same : reserved_of d.metadata ≡ reserved_of c.metadata
  pub permissions_same : permissions_of d.metadata ≡ permissions_of c.metadata
  pub scale_same : scale_of d.metadata ≡ scale_of c.metadata
  pub top_same : top_of d.metadata ≡ top_of c.metadata
  pub base_same : base_of d.metadata ≡ base_of c.metadata

-- words of mstatus that are the same but for MIE
abbrev pub SameButMie : (m n : ℕ) → Type 0
SameButMie m n = (k : ℕ) → (k ≢ MIE) → bit n k ≡ bit m k

-- both jump to the same target and link by register rd: the link's type and MIE apart
pub data ApartJump (rd : ℕ) : (report later : Effect) → Type 0 where
  jump_apart : {link other target : Capability} {m n : ℕ} → SameButType link other → SameButMie m n
      → ApartJump rd (Jump rd link target m) (Jump rd other target n)

-- What one jump leads to in the two editions, which accept its target or not: the same; apart as said; or, where one alone accepts it, the seal violation
-- in the other.
pub data InEditions {A : Type 0} (Apart : A → A → Type 0) (violation : A) (report later : Bool) : A → A → Type 0 where
  alike : {a : A} → InEditions Apart violation report later a a
  apart : {a b : A} → Apart a b → InEditions Apart violation report later a b
  report_alone : {a : A} → report ≡ true → later ≡ false → InEditions Apart violation report later a violation
  later_alone : {a : A} → report ≡ false → later ≡ true → InEditions Apart violation report later violation a

-- the register that a jump links by and the one that it goes by; c0 for none
abbrev pub links_by : JumpInstruction → ℕ
links_by (Jal rd offset) = rd
links_by (Jalr rd rs1 offset) = rd
links_by (Branch kind rs1 rs2 offset) = no_link
links_by Mret = no_link

abbrev pub goes_by : JumpInstruction → ℕ
goes_by (Jal rd offset) = 0
goes_by (Jalr rd rs1 offset) = rs1
goes_by (Branch kind rs1 rs2 offset) = 0
goes_by Mret = 0

-- CJALR alone has a target that an edition accepts or not
abbrev pub accepted_in : (edition : ℕ) → JumpInstruction → (regs : List ℕ) → Bool
accepted_in edition (Jal rd offset) regs = true
accepted_in edition (Jalr rd rs1 offset) regs = accepts edition (register_at regs rs1) rd rs1
accepted_in edition (Branch kind rs1 rs2 offset) regs = true
accepted_in edition Mret regs = true
