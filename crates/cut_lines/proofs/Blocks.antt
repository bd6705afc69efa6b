-- A block taken byte by byte: how many bytes are taken, and what the loop over them keeps.
-- Assumes nothing.
use Rattle.std.proofs.Common.{◌≡◌, ℕ, suc, ◌+◌, ◌-◌, ◌<◌, ◌≤◌, Bool, true, false, cond, ltb, List, [], ◌∷◌, ◌++◌, length, get_or, take, drop, refl, ap, ◌∙◌}
use Rattle.std.proofs.Common.{append-nil, add-one, arith, take-append-drop, drop_of_length-le, drop-cons, take-suc, le-ltb, lt-ltb}
use Rattle.cut_lines.specs.Scanning.{stepped, step_text, scanned, scan_text, taken, Processed}
use Rattle.text.specs.Writing.{Puts, Placed}
use Rattle.text.proofs.Putting.{placed, placed_none, placed_then, placed_length}
use Rattle.cut_lines.specs.Writing.{longest}
use Rattle.cut_lines.specs.declared.Scan.{Scan}
use Rattle.cut_lines.specs.declared.Progress.{Progress}
use Rattle.cut_lines.proofs.Texts.{scanned_append, text_append}

taken_le : (s : Scan) (l : List ℕ) (room : ℕ) → taken s l room ≤ length l
unfolding taken
taken_le s [] room = omega arith
taken_le s (b ∷ l) room = go (ltb room longest) (taken_le (stepped s b) l (room - length (step_text s b)))
  where
    go : (t : Bool) → taken (stepped s b) l (room - length (step_text s b)) ≤ length l
        → cond t 0 (suc (taken (stepped s b) l (room - length (step_text s b)))) ≤ suc (length l)
    go true r = omega arith
    go false r = omega arith

-- with room for the longest line a block that is not empty is never refused whole
taken_some : (s : Scan) (l : List ℕ) (room : ℕ) → longest ≤ room → 0 < length l → 0 < taken s l room
unfolding taken
taken_some s [] room h k = k
taken_some s (b ∷ l) room h k = rw (le-ltb room longest h) (omega arith)

-- one byte more of a block
scanned_more : (s : Scan) (l : List ℕ) (i : ℕ) → i < length l → scanned s (take (i + 1) l) ≡ stepped (scanned s (take i l)) (get_or l i 0)
unfolding scanned
scanned_more s l i h = rw (add-one i, take-suc l i 0 h) (scanned_append s (take i l) (get_or l i 0 ∷ []))

text_more : (s : Scan) (l : List ℕ) (i : ℕ) → i < length l
    → scan_text s (take (i + 1) l) ≡ scan_text s (take i l) ++ step_text (scanned s (take i l)) (get_or l i 0)
unfolding scan_text
text_more s l i h =
    rw (add-one i, take-suc l i 0 h)
    (text_append s (take i l) (get_or l i 0 ∷ []) ∙ ap (λ (t : List ℕ). scan_text s (take i l) ++ t)
    (append-nil (step_text (scanned s (take i l)) (get_or l i 0))))

taken_turn : (s : Scan) (l : List ℕ) (i room : ℕ) → i < length l → longest ≤ room
    → taken s (drop i l) room ≡ suc (taken (stepped s (get_or l i 0)) (drop (i + 1) l) (room - length (step_text s (get_or l i 0))))
unfolding taken
taken_turn s l i room h k = rw (drop-cons l i 0 h, add-one i, le-ltb room longest k)

taken_full : (s : Scan) (l : List ℕ) (room : ℕ) → room < longest → taken s l room ≡ 0
unfolding taken
taken_full s [] room h = refl
taken_full s (b ∷ l) room h = rw (lt-ltb room longest h)

taken_end : (s : Scan) (l : List ℕ) (i room : ℕ) → length l ≤ i → taken s (drop i l) room ≡ 0
unfolding taken
taken_end s l i room h = rw (drop_of_length-le l h)

-- Within a block, i bytes of it taken: the state and the text are those of these bytes, and what is taken from here on makes up the whole.
pub record Going (s₀ : Scan) (input output₀ output : List ℕ) (s : Scan) (i at : ℕ) : Type 0 where
  pub within : i ≤ length input
  pub scan_is : s ≡ scanned s₀ (take i input)
  pub text_is : Placed output₀ 0 (scan_text s₀ (take i input)) output at
  pub still : i + taken s (drop i input) (length output₀ - at) ≡ taken s₀ input (length output₀)

pub going_start : (s : Scan) (input output : List ℕ) → Going s input output output s 0 0
unfolding scanned scan_text
going_start s input output =
    let e : length output - 0 ≡ length output = omega arith in
    record { within = omega arith; scan_is = refl; text_is = placed_none output 0 (omega arith); still = rw e (omega arith) }

pub going_turn : {s₀ s s' : Scan} {input output₀ output output' : List ℕ} {i at at' : ℕ} → Going s₀ input output₀ output s i at → i < length input
    → at + longest ≤ length output → length (step_text s (get_or input i 0)) ≤ longest
    → Puts output at (step_text s (get_or input i 0)) output' at' → s' ≡ stepped s (get_or input i 0)
    → Going s₀ input output₀ output' s' (i + 1) at'
going_turn {s₀} {s} {s'} {input} {output₀} {output} {output'} {i} {at} {at'} g h k w q e =
    let p = placed (omega arith) q in
    let n = placed_length g.text_is in
    let left : length output₀ - at - length (step_text s (get_or input i 0)) ≡ length output₀ - at' = omega (arith, p.ends) in
    record {
      within = omega arith;
      scan_is = rw scanned_more (e ∙ ap (λ (x : Scan). stepped x (get_or input i 0)) g.scan_is);
      text_is = rw (text_more s₀ input i h, ← g.scan_is) (placed_then g.text_is p);
      still = rw e (omega (arith, g.still, rw left at (taken_turn s input i (length output₀ - at) h (omega arith))));
    }

done : {s₀ s : Scan} {input output₀ output : List ℕ} {i at : ℕ} → Going s₀ input output₀ output s i at → taken s (drop i input) (length output₀ - at) ≡ 0
    → Processed s₀ input output₀ output (record { scan = s; read = i; written = at })
done g e = record { read_is = omega (arith, g.still); scan_is = g.scan_is; text_is = g.text_is }

-- the block is at its end, or the room
pub going_end : {s₀ s : Scan} {input output₀ output : List ℕ} {i at : ℕ} → Going s₀ input output₀ output s i at → length input ≤ i
    → Processed s₀ input output₀ output (record { scan = s; read = i; written = at })
going_end {s₀} {s} {input} {output₀} {output} {i} {at} g h = done g (taken_end s input i (length output₀ - at) h)

pub going_full : {s₀ s : Scan} {input output₀ output : List ℕ} {i at : ℕ} → Going s₀ input output₀ output s i at → length output < at + longest
    → Processed s₀ input output₀ output (record { scan = s; read = i; written = at })
going_full {s₀} {s} {input} {output₀} {output} {i} {at} g h =
    let n = placed_length g.text_is in
    done g (taken_full s (drop i input) (length output₀ - at) (omega (arith, g.text_is.fits, g.text_is.ends)))

-- what a caller of `process` may count on: how much was taken and written, and that the rest of the block, from there, leads where the whole does
module _ {s : Scan} {input before after : List ℕ} {p : Progress} (q : Processed s input before after p) where
  pub read_le : p.read ≤ length input
  read_le = rw q.read_is (taken_le s input (length before))

  pub read_some : longest ≤ length before → 0 < length input → 0 < p.read
  read_some h k = rw q.read_is (taken_some s input (length before) h k)

  pub written_le : p.written ≤ length after
  written_le = omega (arith, placed_length q.text_is, q.text_is.fits, q.text_is.ends)

  pub same_buffer : length after ≡ length before
  same_buffer = placed_length q.text_is

  pub rest_leads : scanned p.scan (drop p.read input) ≡ scanned s input
  rest_leads = rw (q.scan_is, ← (scanned_append s (take p.read input) (drop p.read input)), take-append-drop)

pub scanned_none : (s : Scan) → scanned s [] ≡ s
unfolding scanned
scanned_none s = refl
