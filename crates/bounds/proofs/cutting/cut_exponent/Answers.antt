-- `cut_exponent`: no lesser exponent than the proposed one fits, and the next always does. Assumes nothing.
use Rattle.std.proofs.Common.{sym, ◌∙◌, arith, rules}
use Rattle.bounds.proofs.Suggested.{suggested_past, suggested_fits, suggested_next, suggested_last}
use Rattle.bounds.proofs.cutting.cut_exponent.Goals as goal

-- above 14 nothing but 24 fits
pub returns-then-e-gt-MOST_STORED : goal.returns-then-e-gt-MOST_STORED
returns-then-e-gt-MOST_STORED c =
    let a = c.args in
    sym (suggested_past a.base a.length (search rules) (rw c.suggestion-e.ensures at c.if-e-gt-MOST_STORED.true))

-- the one that is proposed fits
pub returns-then-fits_at : goal.returns-then-fits_at
returns-then-fits_at c =
    let a = c.args in
    c.suggestion-e.ensures ∙ sym (suggested_fits a.base a.length (search rules) (omega arith) (cc))

-- it does not, and the next is at most 14
pub returns-then-e-lt-MOST_STORED : goal.returns-then-e-lt-MOST_STORED
returns-then-e-lt-MOST_STORED c =
    let a = c.args in
    omega (arith, c.suggestion-e.ensures, suggested_next a.base a.length (search rules) (omega arith) (cc))

-- it does not, and the next is 24
pub returns : goal.returns
returns c =
    let a = c.args in
    sym (suggested_last a.base a.length (search rules) (omega arith) (cc))
