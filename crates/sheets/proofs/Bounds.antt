-- The 65th line is bad whatever it says, and no bad line has a greater number.
-- Assumes nothing.
use mathlib.Core.Bool.{Bool, true, false}
use mathlib.Core.Path.{◌≡◌, refl, ap}
use mathlib.Core.List.{List, ◌++◌}
use Prim.Native.Nat.{ℕ, ◌≤◌, ◌<◌}
use native.Mathlib.Omega.{arith}
use lib.ListN.{length}
use Rattle.sheets.specs.Records.{all_words, judged, FirstBadRecord}
use Rattle.sheets.specs.Scanning.{read_of}
use Rattle.sheets.specs.Sheet.{sheet_text, Regions, bad, ending, FirstBad}
use Rattle.sheets.specs.declared.Region.{Region}
use Rattle.sheets.proofs.Answers.{read_says}
use Rattle.sheets.proofs.Lengths.{regions_few, follows_both}
use Rattle.sheets.proofs.Records.{judged_says}
use Rattle.sheets.proofs.Trips.{bad_read}

-- after 64 regions comes the end
pub sixty_fifth : (rs : List Region) (from : List ℕ) → Regions rs → length rs ≡ 64 → 0 < length from → read_of false (sheet_text rs ++ from) ≡ bad 65
unfolding ending
sixty_fifth rs from g n h =
    bad_read false (sheet_text rs ++ from) 65 (record {
      before = rs;
      from = from;
      regions = g;
      number = omega arith;
      text_is = refl;
      no_line = λ r rest e f. omega (arith, (follows_both rs r f).1);
      no_end = λ rest e. absurd (omega (arith, ap length e));
    })

pub bad_line_le : (image : Bool) (text : List ℕ) (n : ℕ) → read_of image text ≡ bad n → n ≤ 65
bad_line_le image text n e =
    let k : FirstBad image text n = rw e at (read_says image text) in
    omega (arith, k.number, regions_few k.regions)

pub bad_record_le : (ws : List ℕ) (n : ℕ) → all_words ws ≡ true → judged ws ≡ bad n → n ≤ 65
bad_record_le ws n a e =
    let k : FirstBadRecord ws n = rw e at (judged_says ws a) in
    omega (arith, k.number, regions_few k.regions)
