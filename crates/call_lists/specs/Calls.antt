-- The plain machine of document 01, "Lists of cuts, moves and narrowings": one capability and four calls on it. What demand 3 says of a whole list.
-- Assumes nothing.
use Rattle.std.specs.Prelude.{List, [], ◌∷◌, ◌≡◌, ◌↔◌, ◌+◌}
use Rattle.metadata.specs.Word.{reserved_of, type_of}
use Rattle.bounds.specs.Bounds.{Contains}
use Rattle.capability.specs.Capability.{low, high, move_of, set_bounds_of, set_bounds_exact_of, narrow_of}
use Rattle.capability.specs.declared.Capability.{Capability}
use Rattle.capability_laws.specs.Authority.{Inside}
use Rattle.call_lists.specs.declared.Call.{Call}
use Rattle.call_lists.specs.declared.Call.TheVariants.{Cut, ExactCut, Move, Narrow}

-- one call
unfoldable pub make_call : Call → Capability → Capability
make_call (Cut n) s = set_bounds_of s n
make_call (ExactCut n) s = set_bounds_exact_of s n
make_call (Move a) s = move_of s a
make_call (Narrow m) s = narrow_of s m

-- the machine after a list: each call is given what the one before it returned
unfoldable pub run : List Call → Capability → Capability
run [] s = s
run (c ∷ cs) s = run cs (make_call c s)

-- the capabilities after each call
unfoldable pub trace : List Call → Capability → List Capability
trace [] s = []
trace (c ∷ cs) s = make_call c s ∷ trace cs (make_call c s)

-- the last of them, or the first capability where there was no call
abbrev pub last_of : Capability → List Capability → Capability
last_of s [] = s
last_of s (r ∷ rs) = last_of r rs

-- ---- demand 3

-- a cut's request lies inside what it is given, an exact cut is not rounded, a move changes no bound
abbrev pub Kept : Call → Capability → Type 0
Kept (Cut n) s = Contains (low s) (high s) s.address (s.address + n)
Kept (ExactCut n) s =
    Contains (low s) (high s) s.address (s.address + n)
    × ((low (set_bounds_exact_of s n) ≡ s.address) × (high (set_bounds_exact_of s n) ≡ s.address + n))
Kept (Move a) s = (low (move_of s a) ≡ low s) × (high (move_of s a) ≡ high s)
Kept (Narrow m) s = Unit {0}

-- so for every call of the list, each at the capability that it is given
abbrev pub AllKept : List Call → Capability → Type 0
AllKept [] s = Unit {0}
AllKept (c ∷ cs) s = Kept c s × AllKept cs (make_call c s)

-- every tag is cleared
abbrev pub AllCleared : List Capability → Type 0
AllCleared [] = Unit {0}
AllCleared (c ∷ cs) = (c.tag ≡ 0) × AllCleared cs

-- after a tag that is cleared every tag is
abbrev pub StaysCleared : List Capability → Type 0
StaysCleared [] = Unit {0}
StaysCleared (c ∷ cs) = (c.tag ≡ 0 → AllCleared cs) × StaysCleared cs

-- of a list from s, whose last returned capability is `last`
pub record ListClaim (cs : List Call) (s last : Capability) : Type 0 where
  -- the last tag is set exactly when every call kept it
  pub tag_set : (last.tag ≡ 1) ↔ AllKept cs s
  -- if it is set, the last capability lies inside the first and holds no right that the first lacked
  pub inside : last.tag ≡ 1 → Inside s last
  -- no call changes the type or the reserved bit
  pub same_type : type_of last.metadata ≡ type_of s.metadata
  pub same_reserved : reserved_of last.metadata ≡ reserved_of s.metadata
  -- nor sets a tag that is cleared
  pub stays_cleared : StaysCleared (trace cs s)
