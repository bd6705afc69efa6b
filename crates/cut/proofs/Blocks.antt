-- A block taken in pieces leads to the state of all its bytes, and the answers of the reads and writes decide what a turn comes to.
-- Assumes nothing.
use Rattle.std.proofs.Common.{◌≡◌, ℕ, zero, suc, ◌+◌, ◌-◌, ◌<◌, ◌≤◌, min, List, [], ◌++◌, length, take, drop, refl, sym, ap, ◌∙◌, inl, inr, arith}
use Rattle.std.proofs.Common.{true, Option, Some, Result, Ok, Err, zero-add, length-append, length-drop}
use borrow.Author.Tests.{le-leb}
use lib.Seq.{take-add, take_all, take-append_seam, drop-drop}
use Rattle.std.specs.declared.io.Error.{Error}
use Rattle.std.specs.Io.KnownBytes.{Appends}
use Rattle.std.proofs.KnownBytes.{Appends-nil, Appends-trans}
use Rattle.cut_lines.specs.Scanning.{start_of, scanned, scan_text, Processed}
use Rattle.text.specs.Writing.{put}
use Rattle.text.proofs.Putting.{placed_take}
use Rattle.cut_lines.specs.Writing.{longest, has_room, Writes}
use Rattle.cut_lines.specs.declared.NoRoom.{NoRoom}
use Rattle.cut_lines.specs.declared.Scan.{Scan}
use Rattle.cut_lines.specs.declared.Progress.{Progress}
use Rattle.cut_lines.proofs.Blocks.{scanned_none, read_le, read_some}
use Rattle.cut_lines.proofs.Texts.{scanned_append, text_append}
use Rattle.cut.specs.declared.Failure.{Failure}
use Rattle.cut.specs.declared.Failure.TheVariants.{Read}
use Rattle.cut.specs.Turns.{Stopped, AfterCount, AfterRead, Turned, Starts, LastWritten, FailedAt, Ends}

-- ---- a block

-- Within a block, of which `rest` is left: the state and what was written are those of the bytes before.
pub record Part (s₀ : Scan) (block : List ℕ) (held : Option (List ℕ)) (s : Scan) (rest : List ℕ) (holds : Option (List ℕ)) : Type 0 where
  pub from : ℕ
  pub rest_is : rest ≡ drop from block
  pub scan_is : s ≡ scanned s₀ (take from block)
  pub written : Appends held holds (scan_text s₀ (take from block))

pub part_start : (s : Scan) (block : List ℕ) (held : Option (List ℕ)) → Part s block held s block held
unfolding scan_text
part_start s block held = record { from = 0; rest_is = refl; scan_is = sym (scanned_none s); written = Appends-nil held }

-- what is left of a slice after a piece, as it is sliced
left_after : (rest : List ℕ) (n : ℕ) → take (length rest - n) (drop n rest) ≡ drop n rest
left_after rest n = let k = length-drop n rest in take_all (length rest - n) (drop n rest) (omega arith)

pub left_smaller : {s : Scan} {rest before after : List ℕ} {p : Progress} → Processed s rest before after p → longest ≤ length before → 0 < length rest
    → length (take (length rest - p.read) (drop p.read rest)) < length rest
left_smaller {s} {rest} {before} {after} {p} q room some =
    let k = length-drop p.read rest in
    rw (left_after rest p.read) (omega (arith, read_some q room some, read_le q))

module _ {s₀ s : Scan} {block rest : List ℕ} {held mid : Option (List ℕ)} (h : Part s₀ block held s rest mid) where
  -- the rest, by the block's bytes
  of_block : {before after : List ℕ} {p : Progress} → Processed s rest before after p
      → Processed (scanned s₀ (take h.from block)) (drop h.from block) before after p
  of_block q = rw (← h.scan_is, ← h.rest_is) q

  -- the next piece of it
  pub part_next : {before after : List ℕ} {p : Progress} (holds : Option (List ℕ)) → Processed s rest before after p
      → Appends mid holds (take p.written after) → Part s₀ block held p.scan (take (length rest - p.read) (drop p.read rest)) holds
  part_next {before} {after} {p} holds q w =
      let b = of_block q in
      let more : take p.written after ≡ scan_text (scanned s₀ (take h.from block)) (take p.read (drop h.from block)) = placed_take b.text_is in
      record {
        from = h.from + p.read;
        rest_is = left_after rest p.read ∙ ap (drop p.read) h.rest_is ∙ drop-drop p.read h.from block;
        scan_is = rw (take-add, scanned_append s₀ (take h.from block) (take p.read (drop h.from block))) b.scan_is;
        written = rw (take-add, text_append s₀ (take h.from block) (take p.read (drop h.from block)))
            (Appends-trans held mid holds _ _ h.written (rw more at w));
      }

  -- a piece of it whose write failed
  pub part_stopped : {before after : List ℕ} {p : Progress} → 0 < length rest → Processed s rest before after p → Stopped s₀ block after
  part_stopped {before} {after} {p} some q =
      let n = ap length h.rest_is ∙ length-drop h.from block in
      record { from = h.from; before = before; progress = p; left = omega arith; processed = of_block q }

  -- all of it
  all_taken : rest ≡ [] → take h.from block ≡ block
  all_taken e =
      let n = sym (ap length e) ∙ ap length h.rest_is ∙ length-drop h.from block in
      take_all h.from block (omega arith)

  pub part_scan : rest ≡ [] → s ≡ scanned s₀ block
  part_scan e = h.scan_is ∙ ap (scanned s₀) (all_taken e)

  pub part_text : rest ≡ [] → Appends held mid (scan_text s₀ block)
  part_text e = rw (all_taken e) at h.written

-- ---- a writer that has room: its text, and what the buffer starts with

module _ {before text after : List ℕ} {answer : Result ℕ NoRoom} (room : longest ≤ length before) (w : Writes before 0 text after answer) where
  has_room_lem : has_room before 0 ≡ true
  has_room_lem = le-leb (0 + longest) (length before) (omega arith)

  left : after ≡ put before 0 text
  left = rw has_room_lem at w.after_is

  pub writer_starts : Starts after text
  unfolding put
  writer_starts = rw (left, zero-add) (take-append_seam text (drop (length text) before))

  pub writer_end : {n : ℕ} → answer ≡ Ok n → n ≡ length text
  writer_end {n} e =
      let a : Ok n ≡ Ok (0 + length text) = sym e ∙ (rw has_room_lem at w.answer_is) in
      let m : n ≡ 0 + length text = cc in
      omega arith

  pub writer_text : {n : ℕ} → answer ≡ Ok n → take n after ≡ text
  writer_text e = rw (writer_end e) writer_starts

  pub writer_fits : {n : ℕ} → answer ≡ Ok n → n ≤ length after
  unfolding put
  writer_fits e = rw (writer_end e, left, length-append) (omega arith)

-- ---- a run: the state is that of the bytes taken so far

abbrev pub Reached : Scan → Type 0
Reached s = (bytes : List ℕ) × (s ≡ scanned (start_of 1) bytes)

pub run_start : (s : Scan) → s ≡ start_of 1 → Reached s
run_start s h = ([], h ∙ sym (scanned_none (start_of 1)))

-- where a call failed
abbrev FailedRun : (input after : List ℕ) → Failure → Type 0
FailedRun input after f = (bytes : List ℕ) × FailedAt (scanned (start_of 1) bytes) input after f

module _ (s : Scan) (input after : List ℕ) where
  count_on : (n : ℕ) (t : Scan) → AfterCount n s input after (Ok (Some t)) → Reached s → Reached t
  count_on zero t h r = absurd cc
  count_on (suc k) t h (bytes, e) =
      let more : List ℕ = take (suc k) input in
      (bytes ++ more, h ∙ ap (λ x. scanned x more) e ∙ sym (scanned_append (start_of 1) bytes more))

  read_on : (got : Result ℕ Error) (t : Scan) → AfterRead got s input after (Ok (Some t)) → Reached s → Reached t
  read_on (Ok k) t h r = count_on (min k (length input)) t h r
  read_on (Err x) t h r = absurd cc

  pub turn_on : (t : Scan) → Turned s input after (Ok (Some t)) → Reached s → Reached t
  turn_on t h e = read_on h.got t h.turn_is e

  count_failed : (n : ℕ) (f : Failure) → AfterCount n s input after (Err f) → Reached s → FailedRun input after f
  count_failed zero f h r = absurd cc
  count_failed (suc k) f ((x, q), stopped) (bytes, e) = (bytes, rw (q, ← e) (inr (suc k, stopped)))

  read_stopped : (got : Result ℕ Error) (f : Failure) → AfterRead got s input after (Err f) → Reached s → FailedRun input after f
  read_stopped (Ok k) f h r = count_failed (min k (length input)) f h r
  read_stopped (Err x) f h (bytes, e) = let q : f ≡ Read x = cc in (bytes, rw q tt)

  pub turn_failed : (f : Failure) → Turned s input after (Err f) → Reached s → FailedRun input after f
  turn_failed f h e = read_stopped h.got f h.turn_is e

-- at the end
pub last_ends : {s : Scan} {after : List ℕ} (input : List ℕ) (r : Result (Unit {0}) Failure) → LastWritten s after r → Reached s → Ends input after r
last_ends input (Ok done) h (bytes, e) = (bytes, rw (← e) h.text_is)
last_ends input (Err f) h (bytes, e) = let (x, q) = h.outcome_is in (bytes, rw (q, ← e) (inl h.text_is))
