-- The places of a sheet: its regions, and no region in each place after them. Assumes nothing.
use native.Mathlib.Omega.{arith}
use Rattle.std.specs.Prelude.{ℕ, List, ◌++◌, ◌≡◌, ◌≤◌, ◌-◌, length, take, drop, replicate}
use lib.ListN.{length-take}
use mathlib.Core.Path.{refl, sym}
use Rattle.std.proofs.lemmas.List.{take-append-drop}
use Rattle.sheets.specs.declared.Region.{Region}
use Rattle.sheets.specs.declared.regions.Sheet.TheInside.{Inside}

-- no region, without a name
abbrev pub nowhere : Region
nowhere = record { name = replicate 16 0; start = 0; size = 0; rights = 0 }

-- so many of them
abbrev pub blank : (n : ℕ) → List Region
blank n = replicate n nowhere

abbrev pub regions_of : Inside → List Region
regions_of s = take s.count s.places

abbrev pub HasPlaces : Inside → Type 0
HasPlaces s = (length s.places ≡ 64) × (s.count ≤ 64) × (drop s.count s.places ≡ blank (64 - s.count))

-- the places that regions give
abbrev pub places_of : List Region → Inside
places_of rs = record { places = rs ++ blank (64 - length rs); count = length rs }

-- which are these places again
pub gives_back : (s : Inside) → HasPlaces s → places_of (regions_of s) ≡ s
gives_back s h =
    let n : length (take s.count s.places) ≡ s.count = simp length-take (omega (arith, h.0, h.1)) in
    rw (n, sym h.2, take-append-drop s.count s.places) refl
