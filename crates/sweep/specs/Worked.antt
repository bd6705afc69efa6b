-- Worked visits to 64 bytes whose granule 1 holds a capability for [0x20000010, 0x20000020) at address 0x20000018. Document 02, 10. Assumes nothing.
use Rattle.std.specs.Prelude.{Option, Some, None, Result, Ok, Err, Bool, true, ◌&&◌, List, [], ◌∷◌, ℕ, eqb, get_or, replicate}
use Rattle.words.specs.Words.{set32}
use Rattle.state.specs.Lent.{report_edition}
use Rattle.state.specs.declared.Board.{Board}
use Rattle.sweep.specs.Visits.{visit_answer, tags_after, visit_number, visit_last, visit_next}
use Rattle.machine.specs.declared.answers.Refusal.{Refusal}
use Rattle.machine.specs.declared.answers.Refusal.TheVariants.{Granule}

-- memory from 0x20000000, all of it with revocation bits
abbrev pub board : Board
board = record { start = 0x20000000; window = record { start = 0; size = 64 }; edition = report_edition }

-- what granule 1 holds, by its metadata: with every right to memory; a token, with GL and U0
abbrev pub object : ℕ
object = 0x7E004010

abbrev pub token : ℕ
token = 0x48004010

abbrev pub holding : (metadata : ℕ) → List ℕ
holding metadata = set32 (set32 (replicate 64 0) 8 0x20000018) 12 metadata

-- a visit, with the bytes of revocation bits and of tags: its answer, and the byte of tags that it leaves
pub record Visit : Type 0 where
  pub metadata : ℕ
  pub marks : ℕ
  pub tags : ℕ
  pub granule : ℕ
  pub answer : Result (Option ℕ) Refusal
  pub left : ℕ

abbrev pub answer_of : Visit → Result (Option ℕ) Refusal
answer_of v = visit_answer board (v.marks ∷ []) (holding v.metadata) (v.tags ∷ []) v.granule

abbrev pub left_by : Visit → List ℕ
left_by v = tags_after board (v.marks ∷ []) (holding v.metadata) (v.tags ∷ []) v.granule

abbrev same : (a b : Result (Option ℕ) Refusal) → Bool
same a b = eqb (visit_number a) (visit_number b) && (eqb (visit_last a) (visit_last b) && eqb (visit_next a) (visit_next b))

unfoldable pub told : List Visit → Bool
told [] = true
told (v ∷ vs) = same (answer_of v) v.answer && (eqb (get_or (left_by v) 0 0) v.left && told vs)

abbrev visiting : (metadata marks tags granule : ℕ) → Result (Option ℕ) Refusal → (left : ℕ) → Visit
visiting metadata marks tags granule answer left =
    record { metadata = metadata; marks = marks; tags = tags; granule = granule; answer = answer; left = left }

unfoldable pub visits : List Visit
visits =
    -- the low bound's granule is marked, with no other tag set and with all; the address's is; the one where it stands is; all but the low bound's
    visiting object 0x04 0x02 1 (Ok (Some 2)) 0x00
    ∷ visiting object 0x04 0xFF 1 (Ok (Some 2)) 0xFD
    ∷ visiting object 0x08 0xFF 1 (Ok (Some 2)) 0xFF
    ∷ visiting object 0x02 0xFF 1 (Ok (Some 2)) 0xFF
    ∷ visiting object 0xFB 0xFF 1 (Ok (Some 2)) 0xFF
    -- what the test spares, and what has no tag
    ∷ visiting token 0xFF 0x02 1 (Ok (Some 2)) 0x02
    ∷ visiting object 0xFF 0xFD 1 (Ok (Some 2)) 0xFD
    -- the first granule and the last; numbers with no granule
    ∷ visiting object 0x04 0x02 0 (Ok (Some 1)) 0x02
    ∷ visiting object 0x04 0x02 7 (Ok None) 0x02
    ∷ visiting object 0x04 0x02 8 (Err Granule) 0x02
    ∷ visiting object 0x04 0x02 0x20000001 (Err Granule) 0x02
    ∷ []
