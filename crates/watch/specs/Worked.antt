-- Worked touches: stores around the ends of a range, and counts around their last number. Document 02, 14. Assumes nothing.
use Rattle.std.specs.Prelude.{Bool, true, ◌&&◌, List, [], ◌∷◌, ℕ, eqb}
use Rattle.watch.specs.Watch.{touched_at}
use Rattle.watch.specs.declared.Watch.{Watch}

-- two ranges with counts, a store, and the counts after it
pub record Touch : Type 0 where
  pub start1 : ℕ
  pub length1 : ℕ
  pub count1 : ℕ
  pub start2 : ℕ
  pub length2 : ℕ
  pub count2 : ℕ
  pub address : ℕ
  pub width : ℕ
  pub after1 : ℕ
  pub after2 : ℕ

-- ranges (start, length, count twice), the store (address, width), and both counts after it
abbrev touch : (start1 length1 count1 start2 length2 count2 address width after1 after2 : ℕ) → Touch
touch start1 length1 count1 start2 length2 count2 address width after1 after2 =
    record {
      start1 = start1;
      length1 = length1;
      count1 = count1;
      start2 = start2;
      length2 = length2;
      count2 = count2;
      address = address;
      width = width;
      after1 = after1;
      after2 = after2;
    }

abbrev pub left_by : Touch → Watch
left_by t =
    touched_at
    (record {
      first = record { start = t.start1; length = t.length1; count = t.count1 };
      second = record { start = t.start2; length = t.length2; count = t.count2 };
    })
    t.address t.width

unfoldable pub told : List Touch → Bool
told [] = true
told (t ∷ ts) = eqb (left_by t).first.count t.after1 && (eqb (left_by t).second.count t.after2 && told ts)

unfoldable pub touches : List Touch
touches =
    -- a word at 0x100: ranges that end before it and at its first byte; that start at its last byte and after it
    touch 0xFC 4 0 0xFC 5 0 0x100 4 0 1
    ∷ touch 0x103 1 0 0x104 4 0 0x100 4 1 0
    -- a range inside it and one around it; an empty one inside it, and one at its start
    ∷ touch 0x101 2 0 0xF0 0x20 0 0x100 4 1 1
    ∷ touch 0x102 0 0 0x100 0 0 0x100 4 0 0
    -- a byte and a capability, 8 bytes, at the last of these
    ∷ touch 0x107 1 0 0x101 7 0 0x100 1 0 0
    ∷ touch 0x107 1 0 0x108 1 0 0x100 8 1 0
    -- an end past 2^32: it touches what lies from its start on, and not address 0
    ∷ touch 0xFFFFFFF8 0x10 0 0xFFFFFFF9 0xFFFFFFFF 0 0xFFFFFFF8 8 1 1
    ∷ touch 0xFFFFFFF8 0x10 0 0xFFFFFFFF 0xFFFFFFFF 0 0 4 0 0
    -- a count stops at its last number
    ∷ touch 0x100 4 0xFFFFFFFE 0x100 4 0xFFFFFFFF 0x100 4 0xFFFFFFFF 0xFFFFFFFF
    ∷ touch 0x100 4 7 0x200 4 0xFFFFFFFF 0x100 4 8 0xFFFFFFFF
    ∷ []
