-- Four refusals say nothing; past them the row's word and range are as compared.
use Rattle.std.proofs.Common.{sym, true≢false}
use Rattle.quick.proofs.rows.in_row.Goals as goal

pub returns-then-rows-i : goal.returns-then-rows-i
returns-then-rows-i c = λ h. absurd (true≢false (sym h))

pub returns-then-own-low : goal.returns-then-own-low
returns-then-own-low c = λ h. absurd (true≢false (sym h))

pub returns-then-high-own : goal.returns-then-high-own
returns-then-high-own c = λ h. absurd (true≢false (sym h))

pub returns-then-from-low : goal.returns-then-from-low
returns-then-from-low c = λ h. absurd (true≢false (sym h))
