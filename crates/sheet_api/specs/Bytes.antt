-- A text's bytes, so that worked examples can be read.
-- Assumes nothing.
use mathlib.Core.List as List
use Prim.Native.Char.{code}
use Rattle.std.specs.Prelude.{ℕ}
use Prim.Native.String.{String, [], ◌∷◌}

unfoldable pub bytes : String → List.List ℕ
bytes [] = List.[]
bytes (c ∷ s) = let r = bytes s in List.◌∷◌ (code c) r
