-- The checks that come before an effect, and the trap of the first that fails. Document 01, "Traps"; CHERIoT report, 7.11, Table 7.3 and 9.4. Assumes nothing.
use Rattle.std.specs.Prelude.{ℕ, ◌+◌, ◌*◌, ◌%◌, Bool, cond, not, ◌==◌}
use Rattle.metadata.specs.Rights.{SR}
use Rattle.capability.specs.Capability.{grants, sealed, tagged, covers}
use Rattle.capability.specs.declared.Capability.{Capability}
use Rattle.state.specs.declared.Effect.{Effect}
use Rattle.state.specs.declared.Effect.TheVariants.{Trap}

-- mcause: RISC-V privileged standard; 28 for every capability check (CHERIoT report, 7.11)
abbrev pub fetch_misaligned : ℕ
fetch_misaligned = 0

abbrev pub fetch_fault : ℕ
fetch_fault = 1

abbrev pub illegal_instruction : ℕ
illegal_instruction = 2

abbrev pub breakpoint : ℕ
breakpoint = 3

abbrev pub load_misaligned : ℕ
load_misaligned = 4

abbrev pub load_fault : ℕ
load_fault = 5

abbrev pub store_misaligned : ℕ
store_misaligned = 6

abbrev pub store_fault : ℕ
store_fault = 7

abbrev pub environment_call : ℕ
environment_call = 11

abbrev pub capability_fault : ℕ
capability_fault = 28

-- the causes of capability traps (Table 7.3), 0 for none
abbrev pub no_cause : ℕ
no_cause = 0

abbrev pub bounds_cause : ℕ
bounds_cause = 1

abbrev pub tag_cause : ℕ
tag_cause = 2

abbrev pub seal_cause : ℕ
seal_cause = 3

abbrev pub execute_cause : ℕ
execute_cause = 17

abbrev pub load_cause : ℕ
load_cause = 18

abbrev pub store_cause : ℕ
store_cause = 19

abbrev pub store_capability_cause : ℕ
store_capability_cause = 21

abbrev pub store_local_cause : ℕ
store_local_cause = 22

abbrev pub system_cause : ℕ
system_cause = 24

-- PCC's number in mtval, whose register field of six bits stands above a cause of five (Figure 7.1)
abbrev pub pcc_register : ℕ
pcc_register = 32

abbrev pub capability_trap : (register cause : ℕ) → Effect
capability_trap r cause = Trap capability_fault (r % 64 * 32 + cause % 32)

-- the effect where no check failed, else the capability trap
unfoldable pub checked : (register cause : ℕ) → Effect → Effect
checked r cause e = cond (cause == no_cause) e (capability_trap r cause)

-- A check: its number where it fails, else what the rest says. Checks one under another stand in the order in which they happen.
abbrev pub fail_if : (fails : Bool) → (number rest : ℕ) → ℕ
fail_if fails number rest = cond fails number rest

-- width bytes at an address in the bounds: both ends as whole numbers
abbrev pub in_bounds : Capability → (address width : ℕ) → Bool
in_bounds c a width = covers c a (a + width)

-- an access through a capability: tag, seal, the right k, then bounds
unfoldable pub access_cause : Capability → (k rightCause address width : ℕ) → ℕ
access_cause c k rightCause a width =
    fail_if (not (tagged c)) tag_cause
    (fail_if (sealed c) seal_cause
    (fail_if (not (grants c k)) rightCause
    (fail_if (not (in_bounds c a width)) bounds_cause
    no_cause)))

-- what a special register or MRET asks of PCC
unfoldable pub system_access : (pcc : Capability) → ℕ
system_access pcc = fail_if (not (grants pcc SR)) system_cause no_cause
