-- The row that is selected; or the second source is no register. That there is no row is found.
use Rattle.std.proofs.Common.{arith}
use Rattle.instructions.proofs.Rows.{row_is, row_illegal}
use Rattle.instructions.proofs.capabilities.two_sources.Goals as goal

-- no register
pub returns-then-rs2-gt-LAST_REGISTER : goal.returns-then-rs2-gt-LAST_REGISTER
returns-then-rs2-gt-LAST_REGISTER g c = let a = c.args in row_illegal a.f7 a.rd a.rs1 a.rs2 (omega arith)

-- a row
pub returns-in-Some : goal.returns-in-Some
returns-in-Some g c = let a = c.args in row_is a.f7 a.rd a.rs1 a.rs2 _ c.in-Some.ensures (omega arith)
