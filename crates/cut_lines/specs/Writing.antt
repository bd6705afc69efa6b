-- The rule on room: 44 bytes, the longest line that is ever written.
-- Assumes nothing.
use Rattle.std.specs.Prelude.{◌≡◌, ℕ, ◌+◌, Bool, cond, List, length, nat_le, Result, Ok, Err}
use Rattle.text.specs.Writing.{put}
use Rattle.cut_lines.specs.declared.NoRoom.{NoRoom}

-- 20 digits, a tab, 8 digits, a tab, 9 digits, a tab, `yes`, a newline
abbrev pub longest : ℕ
longest = 44

-- room for the longest line from index `at` on
abbrev pub has_room : (buffer : List ℕ) (at : ℕ) → Bool
has_room buffer at = nat_le (at + longest) (length buffer)

-- a writer's refusal, its number, and the index after its text: document 02's number 10, and 0, where there is too little room
abbrev pub no_room : NoRoom
no_room = record {}

abbrev pub written_number : Result ℕ NoRoom → ℕ
written_number (Ok n) = 0
written_number (Err e) = 10

abbrev pub written_end : Result ℕ NoRoom → ℕ
written_end (Ok n) = n
written_end (Err e) = 0

-- a writer's answer, and what it leaves: without that room it refuses, and nothing is written
pub record Writes (before : List ℕ) (at : ℕ) (text after : List ℕ) (answer : Result ℕ NoRoom) : Type 0 where
  pub answer_is : answer ≡ cond (has_room before at) (Ok (at + length text)) (Err no_room)
  pub number_is : written_number answer ≡ cond (has_room before at) 0 10
  pub end_is : written_end answer ≡ cond (has_room before at) (at + length text) 0
  pub after_is : after ≡ cond (has_room before at) (put before at text) before
