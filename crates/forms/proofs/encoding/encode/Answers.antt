-- The table is the definition's lists, entry by entry, and a row that is none its other case.
use Rattle.std.proofs.Common.{refl, lt-ltb}
use Rattle.forms.specs.Rows.{fixed_bits, formats}
use Rattle.forms.specs.Encoding.{encode_of}
use Rattle.forms.specs.declared.Row.{Row}
use Rattle.forms.proofs.Entries.{field_at}
use Rattle.words.proofs.Tests.{tests}
use Rattle.forms.proofs.encoding.encode.Goals as goal

pub returns-then-row-lt-ROWS : goal.returns-then-row-lt-ROWS
unfolding encode_of fixed_bits formats
returns-then-row-lt-ROWS c =
    rw (c.place.ensures, field_at (λ (r : Row). r.2), field_at (λ (r : Row). r.3), lt-ltb _ _ c.if-row-lt-ROWS.true) refl

pub returns : goal.returns
unfolding encode_of
returns c = search tests
