-- What a turn and a run do to the bytes that a reader has left and those that a writer holds.
-- Assumes nothing.
use Rattle.std.proofs.Common.{◌≡◌, ℕ, zero, suc, ◌<◌, min, List, [], ◌++◌, length, take, refl, sym, ap, ◌∙◌, arith, Result, Ok, Err, append-nil}
use Rattle.std.proofs.Common.{Option, Some, None, OnOk}
use Rattle.std.specs.Io.{ReadsAtMost}
use Rattle.std.specs.Io.KnownBytes.{Appends, Consumes, IsAtEnd, ReadConsumes}
use Rattle.std.proofs.KnownBytes.{Appends-nil, Appends-trans, Consumes-nil, Consumes-trans}
use Rattle.std.specs.declared.io.Error.{Error}
use Rattle.cut_lines.specs.Lines.{header_text}
use Rattle.cut_lines.specs.Scanning.{start_of, scanned, scan_text, last_text}
use Rattle.cut_lines.specs.declared.Scan.{Scan}
use Rattle.cut_lines.proofs.Texts.{scanned_append, text_append, whole_text}
use Rattle.cut.specs.declared.Failure.{Failure}
use Rattle.cut.specs.Turns.{count, AfterCount, AfterRead}
use Rattle.cut.specs.Bytes.{TurnWrites, TurnMoves, RunMoves, AllWritten}

-- ---- a turn

module _ (s : Scan) (buffer after : List ℕ) (left leaves held holds : Option (List ℕ)) where
  count_moves : (n : ℕ) (r : Result (Option Scan) Failure) → AfterCount n s buffer after r → Consumes left leaves (take n buffer)
      → (n ≡ 0 → 0 < length buffer → IsAtEnd leaves) → TurnWrites (scan_text s (take n buffer)) held holds r → TurnMoves s buffer left leaves held holds r
  count_moves zero (Ok (Some t)) h c e w = absurd cc
  count_moves zero (Ok None) h c e w = (c, e refl, w)
  count_moves n (Err f) h c e w = tt
  count_moves (suc k) (Ok (Some t)) h c e w = (take (suc k) buffer, c, w, h)
  count_moves (suc k) (Ok None) h c e w = absurd h

  pub turn_moves : (got : Result ℕ Error) (r : Result (Option Scan) Failure) → ReadConsumes left leaves got buffer → ReadsAtMost got buffer
      → AfterRead got s buffer after r → TurnWrites (scan_text s (take (count got (length buffer)) buffer)) held holds r
      → TurnMoves s buffer left leaves held holds r
  turn_moves (Ok n) r c b h w =
      let e : min n (length buffer) ≡ n = omega (arith, b.0) in
      count_moves n r (rw e at h) c.0 c.1 (rw e at w)
  turn_moves (Err x) (Ok t) c b h w = absurd cc
  turn_moves (Err x) (Err f) c b h w = tt

-- ---- a run: what was read so far, and what was written

abbrev pub Moved : (s : Scan) (left leaves held holds : Option (List ℕ)) → Type 0
Moved s left leaves held holds =
    (bytes : List ℕ) × Consumes left leaves bytes × Appends held holds (scan_text (start_of 1) bytes) × (s ≡ scanned (start_of 1) bytes)

pub moved_start : (s : Scan) (left held : Option (List ℕ)) → s ≡ start_of 1 → Moved s left left held held
unfolding scan_text scanned
moved_start s left held e = ([], Consumes-nil left, Appends-nil held, e)

pub moved_on : (s t : Scan) (buffer : List ℕ) (left mid leaves held kept holds : Option (List ℕ)) → Moved s left mid held kept
    → TurnMoves s buffer mid leaves kept holds (Ok (Some t)) → Moved t left leaves held holds
moved_on s t buffer left mid leaves held kept holds (bytes, c, w, e) (more, c', w', e') =
    let w'' : Appends kept holds (scan_text (scanned (start_of 1) bytes) more) = rw (← e) w' in (
      bytes ++ more,
      Consumes-trans left mid leaves bytes more c c',
      rw (text_append (start_of 1) bytes more) (Appends-trans held kept holds _ _ w w''),
      e' ∙ ap (λ (x : Scan). scanned x more) e ∙ sym (scanned_append (start_of 1) bytes more),
    )

pub moved_end : (s : Scan) (buffer : List ℕ) (r : Result (Unit {0}) Failure) (left mid leaves held kept there holds : Option (List ℕ))
    → Moved s left mid held kept → TurnMoves s buffer mid leaves kept there (Ok None) → OnOk r (Appends there holds (last_text s))
    → RunMoves buffer left leaves held holds r
moved_end s buffer (Ok done) left mid leaves held kept there holds (bytes, c, w, e) (c', end, w') l =
    let l' : Appends there holds (last_text (scanned (start_of 1) bytes)) = rw (← e) l in
    let c'' = Consumes-trans left mid leaves bytes [] c c' in
    let w'' = Appends-trans held kept there _ _ w w' in
    (bytes, rw (append-nil bytes) at c'', end, Appends-trans held there holds _ _ (rw (append-nil (scan_text (start_of 1) bytes)) at w'') l')
moved_end s buffer (Err f) left mid leaves held kept there holds g m l = tt

-- all that a reader had, where nothing is left
all_read : (xs bytes : List ℕ) (leaves : Option (List ℕ)) → Consumes (Some xs) leaves bytes → IsAtEnd leaves → xs ≡ bytes
all_read xs bytes None c e = absurd c
all_read xs bytes (Some ys) c e = c ∙ ap (λ (l : List ℕ). bytes ++ l) e ∙ append-nil bytes

-- the whole run
pub run_written : (buffer : List ℕ) (r : Result (Unit {0}) Failure) (left leaves held kept holds : Option (List ℕ)) → 0 < length buffer
    → Appends held kept header_text → RunMoves buffer left leaves kept holds r → AllWritten left leaves held holds r
run_written buffer (Ok done) None leaves held kept holds h a (bytes, c, end, w) = (end h, tt)
run_written buffer (Ok done) (Some xs) leaves held kept holds h a (bytes, c, end, w) =
    let e : xs ≡ bytes = all_read xs bytes leaves c (end h) in
    (end h, λ short. rw (← (whole_text xs short)) (Appends-trans held kept holds _ _ a (rw (← e) at w)))
run_written buffer (Err f) left leaves held kept holds h b m = tt
