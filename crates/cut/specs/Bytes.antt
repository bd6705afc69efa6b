-- What a turn and a whole run do to the bytes that a reader has left and those that a writer holds, where those are known. Of the system's own
-- two they are not, of a reader and a writer over memory they are.
-- Assumes nothing.
use Rattle.std.specs.Prelude.{◌≡◌, ℕ, ◌+◌, ◌^◌, ◌<◌, ⊤, List, [], ◌++◌, length, Option, Some, None, Result, Ok, Err, IfSome, OnOk}
use Rattle.std.specs.Io.KnownBytes.{Appends, Consumes, IsAtEnd}
use Rattle.cut_lines.specs.Lines.{text_of}
use Rattle.cut_lines.specs.Scanning.{start_of, scanned, scan_text, last_text}
use Rattle.cut_lines.specs.declared.Scan.{Scan}
use Rattle.cut.specs.declared.Failure.{Failure}

-- a turn that went on has written a text, and the turn at the end of the input nothing
abbrev pub TurnWrites : (text : List ℕ) (held holds : Option (List ℕ)) → Result (Option Scan) Failure → Type 0
TurnWrites text held holds (Ok (Some t)) = Appends held holds text
TurnWrites text held holds (Ok None) = Appends held holds []
TurnWrites text held holds (Err f) = ⊤

-- A turn that went on has read some bytes, and written what belongs to them. At the end nothing is left to read, if there was room for a byte.
abbrev pub TurnMoves : (s : Scan) (buffer : List ℕ) (left leaves held holds : Option (List ℕ)) → Result (Option Scan) Failure → Type 0
TurnMoves s buffer left leaves held holds (Ok (Some t)) =
    (bytes : List ℕ) × Consumes left leaves bytes × Appends held holds (scan_text s bytes) × (t ≡ scanned s bytes)
TurnMoves s buffer left leaves held holds (Ok None) = Consumes left leaves [] × (0 < length buffer → IsAtEnd leaves) × Appends held holds []
TurnMoves s buffer left leaves held holds (Err f) = ⊤

-- a run from line 1 on: all that was there was read, and what belongs to it was written
abbrev pub RunMoves : (buffer : List ℕ) (left leaves held holds : Option (List ℕ)) → Result (Unit {0}) Failure → Type 0
RunMoves buffer left leaves held holds r =
    OnOk r ((bytes : List ℕ) × Consumes left leaves bytes × (0 < length buffer → IsAtEnd leaves)
    × Appends held holds (scan_text (start_of 1) bytes ++ last_text (scanned (start_of 1) bytes)))

-- The whole run: where it is done, nothing is left to read, and of an input of fewer than 2 ^ 64 - 1 bytes just its text was written.
abbrev pub AllWritten : (left leaves held holds : Option (List ℕ)) → Result (Unit {0}) Failure → Type 0
AllWritten left leaves held holds r =
    OnOk r (IsAtEnd leaves × IfSome left (λ input. 1 + length input < 2 ^ 64 → Appends held holds (text_of input)))
