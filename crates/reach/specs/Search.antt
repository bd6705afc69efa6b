-- What the loop over memory goes by. Assumes nothing.
use Rattle.std.specs.Prelude.{Bool, cond, ◌&&◌, List, ℕ, ◌-◌, ◌*◌, ◌/◌, ◌%◌, eqb}
use Rattle.words.specs.Words.{le8}
use Rattle.state.specs.Layout.{capability_count}
use Rattle.state.specs.Memory.{capability_in, granule_bytes}
use Rattle.reach.specs.Reach.{reaches_into}
use Rattle.reach.specs.declared.Query.{Query}

-- the granules that have their tags in one byte
abbrev pub tags_of_byte : ℕ
tags_of_byte = 8

-- granule g is the first of a byte of tags, and none of them is set
unfoldable pub byte_clear : (tags : List ℕ) → (granule : ℕ) → Bool
byte_clear tags g = eqb (g % tags_of_byte) 0 && eqb (le8 tags (g / tags_of_byte)) 0

-- it counts
abbrev pub granule_reaches : Query → (mem tags : List ℕ) → (granule : ℕ) → Bool
granule_reaches q mem tags g = reaches_into q (capability_in mem tags (g * granule_bytes))

-- the granule at a place does
abbrev pub granule_passes : Query → (mem tags : List ℕ) → (p : ℕ) → Bool
granule_passes q mem tags p = granule_reaches q mem tags (p - capability_count)

-- how many granules from one on are passed over at once, none of which counts: all of a byte of tags that is clear, else this one; 0 where it counts
unfoldable pub clear_from : Query → (mem tags : List ℕ) → (granule : ℕ) → ℕ
clear_from q mem tags g = cond (byte_clear tags g) tags_of_byte (cond (granule_reaches q mem tags g) 0 1)
