-- What is listed of a word: the row of a name, and up to three operands as words. The operands that come from the word itself, as the standard has them.
use Rattle.std.specs.Prelude.{ℕ, ◌/◌, ◌%◌, ◌^◌, Bool, ◌==◌}
use Rattle.words.specs.Words.{sign_extend}
use Rattle.instructions.specs.Fields.{upper12}
use Rattle.forms.specs.declared.Shape.{Shape}

-- three operands, two, one, none; the last one is c
abbrev pub three : (row a b c : ℕ) → Shape
three r x y z = record { row = r; count = 3; a = x; b = y; c = z }

abbrev pub two : (row b c : ℕ) → Shape
two r y z = record { row = r; count = 2; a = 0; b = y; c = z }

abbrev pub one : (row c : ℕ) → Shape
one r z = record { row = r; count = 1; a = 0; b = 0; c = z }

abbrev pub bare : (row : ℕ) → Shape
bare r = record { row = r; count = 0; a = 0; b = 0; c = 0 }

-- LUI, AUIPCC, AUICGP: the twenty upper bits as a signed number
abbrev pub upper_of : (word : ℕ) → ℕ
upper_of w = sign_extend (w / 2 ^ 12 % 2 ^ 20) 20

-- FENCE: the sets of the predecessor and of the successor
abbrev pub pred_of : (word : ℕ) → ℕ
pred_of w = w / 2 ^ 24 % 2 ^ 4

abbrev pub succ_of : (word : ℕ) → ℕ
succ_of w = w / 2 ^ 20 % 2 ^ 4

-- FENCE.TSO: fm is 8, and both sets are reads and writes (standard, RV32I, memory ordering); the upper twelve bits are these three
abbrev pub is_tso : (word : ℕ) → Bool
is_tso w = upper12 w == 0x833
