-- Searches worked out, of a memory of 64 bytes from 0x20000000: what is asked, from which place on, and the answer. Assumes nothing.
use Rattle.std.specs.Prelude.{Option, Some, None, Result, Ok, Err, Bool, true, ◌&&◌, List, [], ◌∷◌, ℕ, eqb, replicate}
use Rattle.words.specs.Words.{set32}
use Rattle.capability.specs.Capability.{capability}
use Rattle.state.specs.Layout.{register_words}
use Rattle.state.specs.Registers.{set_capability}
use Rattle.state.specs.Lent.{state}
use Rattle.reach.specs.Reach.{query_of, reach_answer, reach_number, reach_place}
use Rattle.reach.specs.Outside.{outside_answer}
use Rattle.machine.specs.declared.answers.Refusal.{Refusal}
use Rattle.machine.specs.declared.answers.Refusal.TheVariants.{Rights, Place, Range}

-- c1 may load and store in [0x20000010, 0x20000020); c2, sealed with type 1, in [0x20000020, 0x20000028); MTDC, place 18, in [0x20000030, 0x20000038)
unfoldable pub registers : List ℕ
registers =
    set_capability
    (set_capability (set_capability (replicate register_words 0) 1 (capability 0x20000018 0x7E004010 1)) 2 (capability 0x20000020 0x7E405020 1)) 18
    (capability 0x20000030 0x7E007030 1)

-- granule 4, place 25, may load and store in [0xFFFFFFF0, 2^32); granule 5, place 26, has no right at all, and low 0x02000000 above high 0x01000000
unfoldable pub memory : List ℕ
memory = set32 (set32 (set32 (set32 (replicate 64 0) 32 0xFFFFFFF8) 36 0x7E0001F0) 40 0) 44 0x003C0202

-- the byte of tags with granule 4 tagged, and with both
abbrev pub four : ℕ
four = 0x10

abbrev pub both : ℕ
both = 0x30

abbrev found : (place : ℕ) → Result (Option ℕ) Refusal
found place = Ok (Some place)

abbrev nowhere : Result (Option ℕ) Refusal
nowhere = Ok None

pub record Search : Type 0 where
  pub tags : ℕ
  pub low : ℕ
  pub length : ℕ
  pub rights : ℕ
  pub from : ℕ
  pub answer : Result (Option ℕ) Refusal

abbrev pub answer_of : Search → Result (Option ℕ) Refusal
answer_of x = reach_answer 0x20000000 (query_of x.low x.length x.rights) x.from (state registers memory (x.tags ∷ []))

-- outside the range
abbrev pub answer_outside : Search → Result (Option ℕ) Refusal
answer_outside x = outside_answer 0x20000000 (query_of x.low x.length x.rights) x.from (state registers memory (x.tags ∷ []))

abbrev same : (a b : Result (Option ℕ) Refusal) → Bool
same a b = eqb (reach_number a) (reach_number b) && eqb (reach_place a) (reach_place b)

unfoldable pub told : (search : Search → Result (Option ℕ) Refusal) → List Search → Bool
told search [] = true
told search (x ∷ xs) = same (search x) x.answer && told search xs

abbrev searching : (tags low length rights from : ℕ) → Result (Option ℕ) Refusal → Search
searching tags low length rights from answer =
    record { tags = tags; low = low; length = length; rights = rights; from = from; answer = answer }

-- rights 0x004 is SD, 0x020 LD, 0x100 EX
unfoldable pub searches : List Search
searches =
    -- the byte before c1's first, its first, its last and the one behind it, which is c2's; a range that has its first as last byte
    searching four 0x2000000F 1 0x004 0 nowhere
    ∷ searching four 0x20000010 1 0x004 0 (found 1)
    ∷ searching four 0x2000001F 1 0x004 0 (found 1)
    ∷ searching four 0x20000020 1 0x004 0 (found 2)
    ∷ searching four 0x2000000F 2 0x004 0 (found 1)
    -- a special register; behind it; memory, at the end of the space; a range past that end, which does not begin again at 0
    ∷ searching four 0x20000037 1 0x004 0 (found 18)
    ∷ searching four 0x20000038 8 0x004 0 nowhere
    ∷ searching four 0xFFFFFFF0 1 0x004 0 (found 25)
    ∷ searching four 0x20000038 0xE0000008 0x004 0 (found 25)
    -- from a place on: c1 itself, the next, and none between
    ∷ searching four 0x20000010 0x20 0x004 1 (found 1)
    ∷ searching four 0x20000010 0x20 0x004 2 (found 2)
    ∷ searching four 0x20000010 0x20 0x004 3 nowhere
    -- both rights, one that it has not, none asked; an empty range
    ∷ searching four 0x20000010 1 0x024 0 (found 1)
    ∷ searching four 0x20000010 1 0x104 0 nowhere
    ∷ searching four 0x20000010 1 0 0 (found 1)
    ∷ searching four 0x20000018 0 0x004 0 nowhere
    -- one that is not sound counts for every range but an empty one, whatever its rights
    ∷ searching both 0 1 0xFFF 0 (found 26)
    ∷ searching both 0 0 0 0 nowhere
    ∷ searching both 0 1 0 27 nowhere
    -- the last place; no place; a right too many; both
    ∷ searching four 0 1 0 28 nowhere
    ∷ searching four 0 1 0 29 (Err Place)
    ∷ searching four 0 1 0x1000 0 (Err Rights)
    ∷ searching four 0 1 0x1000 29 (Err Rights)
    ∷ []

-- the same outside ranges
unfoldable pub searches_outside : List Search
searches_outside =
    -- registers count, though they may reach into the range alone; from a place on
    searching four 0x20000010 0x10 0x004 0 (found 1)
    ∷ searching four 0x20000010 0x20 0x004 2 (found 2)
    ∷ searching four 0x20000010 0x20 0x004 3 nowhere
    -- granule 4 reaches to the end of the space: outside the range, in it, and in it where the range ends past the space
    ∷ searching four 0x20000028 0xDFFFFFD8 0x004 19 (found 25)
    ∷ searching four 0x20000020 0xDFFFFFE0 0x004 19 nowhere
    ∷ searching four 0x20000020 0xFFFFFFF8 0x004 19 nowhere
    -- granule 5, which is not sound: outside, before and behind the range, and in it
    ∷ searching both 0x20000020 8 0xFFF 0 (found 26)
    ∷ searching both 0x20000030 8 0xFFF 0 (found 26)
    ∷ searching both 0x20000028 8 0xFFF 0 nowhere
    ∷ searching both 0x20000000 0x40 0xFFF 0 nowhere
    ∷ searching both 0x20000028 0 0xFFF 0 nowhere
    -- a range that cuts a granule, at its start or its end; a right too many, and no place, come first
    ∷ searching four 0x20000014 0x0C 0x004 0 (Err Range)
    ∷ searching four 0x20000010 0x0C 0x004 0 (Err Range)
    ∷ searching four 0x20000014 0 0x004 0 (Err Range)
    ∷ searching four 0x20000014 8 0x1000 0 (Err Rights)
    ∷ searching four 0x20000014 8 0x004 29 (Err Place)
    ∷ []
