-- Both round trips through the functions for C, as their promises give them: what is read is written as the same bytes, and what is written is read as the
-- same words. Document 02, 7.
-- Assumes nothing.
use Rattle.std.specs.Prelude.{true, List, ◌≡◌, ℕ, ◌*◌, ◌/◌, ◌≤◌, length, take, Result, Ok}
use Rattle.sheets.specs.Records.{all_words}
use Rattle.sheets.specs.declared.SheetError.{SheetError}
use Rattle.sheet_reader.specs.Words.{ReadsInto}
use Rattle.sheet_writer.specs.Writing.{Writes}

-- a text that is read into `count` records, which are then written into a buffer with room for the text
abbrev pub ReadThenWritten : Type 0
ReadThenWritten =
    (text buffer words out after : List ℕ) (count : ℕ) (answer : Result ℕ SheetError) → ReadsInto text buffer words (Ok count)
    → Writes (take (count * 7) words) out after answer → length text ≤ length out
    → (answer ≡ Ok (length text)) × (take (length text) after ≡ text)

-- words of 32 bits that are written as `count` bytes, which are then read into a buffer with room for the words
abbrev pub WrittenThenRead : Type 0
WrittenThenRead =
    (words buffer text out after : List ℕ) (count : ℕ) (answer : Result ℕ SheetError) → all_words words ≡ true → Writes words buffer text (Ok count)
    → ReadsInto (take count text) out after answer → length words ≤ length out
    → (answer ≡ Ok (length words / 7)) × (take (length words) after ≡ words)
