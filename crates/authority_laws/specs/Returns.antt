-- Return sentries, and states without one. Document 02, 8; CHERIoT report, 7.13.2 and E.2.3 (links back are made by jumps alone). Assumes nothing.
use Rattle.std.specs.Prelude.{◌≡◌}
use Rattle.metadata.specs.Word.{type_of}
use Rattle.metadata.specs.Rights.{EX, Has}
use Rattle.capability.specs.Capability.{rights}
use Rattle.capability.specs.declared.Capability.{Capability}
use Rattle.jump_instructions.specs.Report.{ReturnType}
use Rattle.state.specs.Lent.{State}
use Rattle.authority_laws.specs.Gain.{Stands}

-- tagged, executable, of one of the two types
pub record ReturnSentry (c : Capability) : Type 0 where
  pub is_tagged : c.tag ≡ 1
  pub return_type : ReturnType (type_of c.metadata)
  pub executable : Has (rights c) EX

-- none stands in registers or memory
abbrev pub NoReturns : State → Type 0
NoReturns s = (c : Capability) → Stands s c → ReturnSentry c → ⊥
