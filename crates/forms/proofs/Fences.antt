-- FENCE and FENCE.TSO by example: what is listed of a word, and the word chosen for it. The words were put together field by field from the standard.
use Rattle.std.proofs.Common.{◌≡◌, ℕ, List, [], ◌∷◌, map, refl}
use Rattle.instructions.specs.Decode.{fence_of, decode_of}
use Rattle.forms.specs.Shapes.{two, bare}
use Rattle.forms.specs.Rows.{system_shape, instruction_shape}
use Rattle.forms.specs.ShortShapes.{shape_of}
use Rattle.forms.specs.Encoding.{chosen}
use Rattle.forms.specs.declared.Shape.{Shape}

record Row : Type 0 where
  word : ℕ
  shape : Shape
  choice : ℕ

abbrev row : (word : ℕ) → Shape → (choice : ℕ) → Row
row w s v = record { word = w; shape = s; choice = v }

abbrev table : List Row
table =
    -- FENCE.TSO, and with rd and rs1
    row 0x8330000f (bare 116) 0x8330000f ∷
    row 0x833f8f8f (bare 116) 0x8330000f ∷
    -- fm 8 with another set before, and with another after: FENCE
    row 0x8230000f (two 41 2 3) 0x0230000f ∷
    row 0x8310000f (two 41 3 1) 0x0310000f ∷
    row 0x8ff0000f (two 41 15 15) 0x0ff0000f ∷
    -- FENCE RW, RW; with another fm; with rd and rs1
    row 0x0330000f (two 41 3 3) 0x0330000f ∷
    row 0x9330000f (two 41 3 3) 0x0330000f ∷
    row 0x033f8f8f (two 41 3 3) 0x0330000f ∷
    []

-- the row of a word
abbrev found : Row → Row
found r = row r.word (shape_of r.word) (chosen r.word)

pub fences_listed : map found table ≡ table
unfolding shape_of decode_of fence_of instruction_shape system_shape chosen
fences_listed = refl
