-- What a turn and a whole run come to, by what the reads and writes answered. A contract cannot speak of the bytes that pass through the operating
-- system: of a call it has the answer alone.
-- Assumes nothing.
use Rattle.std.specs.Prelude.{List, ◌⊎◌, ◌≡◌, ℕ, zero, suc, ◌<◌, min, length, take, drop, Option, Some, None, Result, Ok, Err, IfErr, ⊤}
use Rattle.std.specs.Io.{ReadsAtMost}
use Rattle.std.specs.declared.io.Error.{Error}
use Rattle.cut_lines.specs.Scanning.{start_of, scanned, last_text, Processed}
use Rattle.cut_lines.specs.declared.Scan.{Scan}
use Rattle.cut_lines.specs.declared.Progress.{Progress}
use Rattle.cut.specs.declared.Failure.{Failure}
use Rattle.cut.specs.declared.Failure.TheVariants.{Read, Write, OutOfTurns}

-- how many of a buffer's bytes an answer says were read, at most as many as it has
abbrev pub count : (got : Result ℕ Error) (room : ℕ) → ℕ
count (Ok n) room = min n room
count (Err e) room = 0

-- the call that failed was a write
abbrev pub IsFailedWrite : Failure → Type 0
IsFailedWrite f = (e : Error) × (f ≡ Write e)

-- A write that failed, within a block: all of the block before `from` went through, and the output holds, from its start on, what `process` put there
-- for what follows.
pub record Stopped (s : Scan) (block after : List ℕ) : Type 0 where
  pub from : ℕ
  pub before : List ℕ
  pub progress : Progress
  pub left : from < length block
  pub processed : Processed (scanned s (take from block)) (drop from block) before after progress

-- a block that went through has led to the state of all its bytes; if it failed, it was at a write
abbrev pub Taken : (s : Scan) (block after : List ℕ) → Result Scan Failure → Type 0
Taken s block after (Ok t) = t ≡ scanned s block
Taken s block after (Err f) = IsFailedWrite f × Stopped s block after

-- by how many bytes were read: none is the end of the input, and else they were taken
abbrev pub AfterCount : (n : ℕ) (s : Scan) (input after : List ℕ) → Result (Option Scan) Failure → Type 0
AfterCount zero s input after r = r ≡ Ok None
AfterCount (suc k) s input after (Ok (Some t)) = Taken s (take (suc k) input) after (Ok t)
AfterCount (suc k) s input after (Ok None) = ⊥
AfterCount (suc k) s input after (Err f) = Taken s (take (suc k) input) after (Err f)

-- by what the read answered: a failure is reported as that, a count is taken up to the buffer's length
abbrev pub AfterRead : (got : Result ℕ Error) (s : Scan) (input after : List ℕ) → Result (Option Scan) Failure → Type 0
AfterRead (Ok n) s input after r = AfterCount (min n (length input)) s input after r
AfterRead (Err e) s input after r = r ≡ Err (Read e)

-- a turn is what some answer leads to that a read may have: an error, or a count up to the buffer's length
pub record Turned (s : Scan) (input after : List ℕ) (r : Result (Option Scan) Failure) : Type 0 where
  pub got : Result ℕ Error
  pub may_be : ReadsAtMost got input
  pub turn_is : AfterRead got s input after r

-- the buffer starts with a text
abbrev pub Starts : (buffer text : List ℕ) → Type 0
Starts buffer text = take (length text) buffer ≡ text

-- the last line is in the output, and was written or not as the write answered
pub record LastWritten (s : Scan) (after : List ℕ) (r : Result (Unit {0}) Failure) : Type 0 where
  pub text_is : Starts after (last_text s)
  pub outcome_is : IfErr r IsFailedWrite

-- where a run stopped, in state s: at a read that failed, or at a write that failed, of the last line or within a block
abbrev pub FailedAt : (s : Scan) (input after : List ℕ) → Failure → Type 0
FailedAt s input after (Read e) = ⊤
FailedAt s input after (Write e) = Starts after (last_text s) ⊎ ((n : ℕ) × Stopped s (take n input) after)
FailedAt s input after OutOfTurns = ⊤

-- The end of a run over some bytes, from line 1 on; of one whose turns are used up nothing is said. Nothing ties the bytes to standard input: no bytes at all
-- will do, so a program that reads and writes nothing keeps this too.
abbrev pub Ends : (input after : List ℕ) → Result (Unit {0}) Failure → Type 0
Ends input after (Ok done) = (bytes : List ℕ) × Starts after (last_text (scanned (start_of 1) bytes))
Ends input after (Err f) = (bytes : List ℕ) × FailedAt (scanned (start_of 1) bytes) input after f
