-- The rule on room: two ways to ask for it, and what a writer's answer is with it and without.
-- Assumes nothing.
use Rattle.std.proofs.Common.{◌≡◌, ℕ, ◌+◌, ◌-◌, ◌≤◌, true, false, leb, List, length, ◌<◌, arith, le-leb, leb-true, leb-false, sym}
use Rattle.std.proofs.Common.{Result, Ok, Err, is_ok, is_err}
use borrow.Author.Tests.{lt-leb}
use Rattle.text.specs.Writing.{Puts}
use Rattle.text.proofs.Putting.{placed}
use Rattle.cut_lines.specs.Writing.{longest, has_room, no_room, Writes}

-- the two ways to ask for room
pub room_left : (n at : ℕ) → longest ≤ n - at → leb (at + longest) n ≡ true
room_left n at h = le-leb (at + longest) n (omega arith)

pub room_short : (n at : ℕ) → n - at < longest → leb (at + longest) n ≡ false
room_short n at h = lt-leb (at + longest) n (omega arith)

-- what the test of the room tells
pub room_told : {A E : Type 0} (o : List ℕ) (at : ℕ) (r : Result A E) → is_ok r ≡ has_room o at → is_err r ≡ false → at + longest ≤ length o
room_told o at (Ok x) h e = leb-true (at + longest) (length o) (sym h)
room_told o at (Err x) h e = absurd cc

pub room_denied : {A E : Type 0} (o : List ℕ) (at : ℕ) (r : Result A E) → is_ok r ≡ has_room o at → is_err r ≡ true → length o < at + longest
room_denied o at (Ok x) h e = absurd cc
room_denied o at (Err x) h e = leb-false (at + longest) (length o) (sym h)

-- a writer's answer: with room for the longest line, and without
pub wrote : {o o₁ text : List ℕ} {at n : ℕ} → has_room o at ≡ true → length text ≤ longest → Puts o at text o₁ n → Writes o at text o₁ (Ok n)
wrote {o} {o₁} {text} {at} h k q =
    let room = leb-true (at + longest) (length o) h in
    let p = placed (omega arith) q in
    record { answer_is = rw (h, p.ends); number_is = rw h; end_is = rw h p.ends; after_is = rw h p.bytes }

pub refused : (o : List ℕ) (at : ℕ) (text : List ℕ) → has_room o at ≡ false → Writes o at text o (Err no_room)
refused o at text h = record { answer_is = rw h; number_is = rw h; end_is = rw h; after_is = rw h }
