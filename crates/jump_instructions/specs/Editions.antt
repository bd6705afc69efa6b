-- What the edition of the architecture decides of a jump, and nothing else does: the sealed targets that it accepts, the type of its link, and what becomes of
-- MIE. The report: 7.13.2 and 9.4 (CJALR). The later edition: document 02, 8; docs/DECISIONS.md has its table. A number that is no edition counts as the
-- report's, and the machine refuses it before (number 7). Assumes nothing.
use Rattle.std.specs.Prelude.{ℕ, Bool, cond, ◌&&◌, ◌||◌, ◌==◌, nat_le}
use Rattle.words.specs.Words.{with_bit}
use Rattle.metadata.specs.Word.{type_of}
use Rattle.metadata.specs.Rights.{EX, has}
use Rattle.capability.specs.Capability.{grants}
use Rattle.capability.specs.Sealing.{is_sentry, sentry, sentry_disabling, sentry_enabling}
use Rattle.capability.specs.declared.Capability.{Capability}
use Rattle.state.specs.Lent.{later_edition}
use Rattle.state.specs.Status.{MIE}

-- the types of return sentries, which the report reserves: 4 disables and 5 enables interrupts
abbrev pub return_disabling : ℕ
return_disabling = 4

abbrev pub return_enabling : ℕ
return_enabling = 5

-- the register that a call links and a return goes through, and the one that a jump without a link names
abbrev pub link_register : ℕ
link_register = 1

abbrev pub no_link : ℕ
no_link = 0

-- ---- the sealed targets that a jump accepts, by type, the register of the link (cd) and that of the target (cs1)

-- the report: each sentry, whatever the registers
abbrev pub report_accepts : (target : Capability) → Bool
report_accepts c = is_sentry c

-- the later edition's table: a return takes the return sentries alone; a call that links c1 takes the three others; any other jump the sentry that inherits
unfoldable pub later_table : (type cd cs1 : ℕ) → Bool
later_table type cd cs1 =
    cond (cd == no_link && cs1 == link_register) (type == return_disabling || type == return_enabling)
    (cond (cd == link_register) (nat_le sentry type && nat_le type sentry_enabling)
    (type == sentry))

-- as in the report, the target must be executable
unfoldable pub accepts : (edition : ℕ) → (target : Capability) → (cd cs1 : ℕ) → Bool
accepts edition c cd cs1 = cond (edition == later_edition) (grants c EX && later_table (type_of c.metadata) cd cs1) (report_accepts c)

-- ---- the type of a link: the one of the present interrupt status

abbrev pub report_link : (mstatus : ℕ) → ℕ
report_link mstatus = cond (has mstatus MIE) sentry_enabling sentry_disabling

abbrev pub later_link : (mstatus : ℕ) → ℕ
later_link mstatus = cond (has mstatus MIE) return_enabling return_disabling

unfoldable pub link_type : (edition mstatus : ℕ) → ℕ
link_type edition mstatus = cond (edition == later_edition) (later_link mstatus) (report_link mstatus)

-- ---- mstatus after a jump by a target of a type: MIE is 0 after a disabling one, 1 after an enabling one, else as before

unfoldable pub report_status : (type mstatus : ℕ) → ℕ
report_status type m = cond (type == sentry_disabling) (with_bit m MIE 0) (cond (type == sentry_enabling) (with_bit m MIE 1) m)

unfoldable pub later_status : (type mstatus : ℕ) → ℕ
later_status type m =
    cond (type == sentry_disabling || type == return_disabling) (with_bit m MIE 0)
    (cond (type == sentry_enabling || type == return_enabling) (with_bit m MIE 1)
    m)

unfoldable pub jump_status : (edition type mstatus : ℕ) → ℕ
jump_status edition type m = cond (edition == later_edition) (later_status type m) (report_status type m)
