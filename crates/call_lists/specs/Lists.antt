-- A list of calls as it is lent, the answer to it, and the words that it leaves. Document 01, "Lists of cuts, moves and narrowings".
-- Assumes nothing.
use Rattle.std.specs.Prelude.{Bool, true, cond, not, ◌&&◌, List, [], ◌∷◌, ◌≡◌, ℕ, ◌+◌, ◌*◌, eqb, ltb, length, set, Result, Ok, Err}
use Rattle.std.specs.List.{list_all}
use Rattle.capability.specs.Capability.{integer}
use Rattle.capability.specs.declared.Capability.{Capability}
use Rattle.capability_laws.specs.Authority.{Authority}
use Rattle.call_lists.specs.declared.Call.{Call}
use Rattle.call_lists.specs.declared.Call.TheVariants.{Cut, ExactCut, Move, Narrow}
use Rattle.call_lists.specs.declared.ListError.{ListError}
use Rattle.call_lists.specs.declared.ListError.TheVariants.{BadTag, WrongSize, UnknownKind}
use Rattle.call_lists.specs.Calls.{run, trace, last_of, ListClaim}

-- the kinds: 0 a cut, 1 an exact cut, 2 a move, 3 a narrowing
unfoldable pub is_known : (kind : ℕ) → Bool
is_known k = ltb k 4

unfoldable pub call_of : (kind value : ℕ) → Call
call_of k v = cond (eqb k 0) (Cut v) (cond (eqb k 1) (ExactCut v) (cond (eqb k 2) (Move v) (Narrow v)))

unfoldable pub all_known : (kinds : List ℕ) → Bool
all_known ks = list_all is_known ks

-- the calls of equally many kinds and values
unfoldable pub calls_of : (kinds values : List ℕ) → List Call
calls_of [] vs = []
calls_of (k ∷ ks) [] = []
calls_of (k ∷ ks) (v ∷ vs) = call_of k v ∷ calls_of ks vs

-- address, metadata and tag of each capability
unfoldable pub words_of : List Capability → List ℕ
words_of [] = []
words_of (c ∷ cs) = c.address ∷ c.metadata ∷ c.tag ∷ words_of cs

-- a capability's words at number i
abbrev pub put_words : List ℕ → (i : ℕ) → Capability → List ℕ
put_words out i c = set (set (set out (3 * i) c.address) (3 * i + 1) c.metadata) (3 * i + 2) c.tag

-- the calls were made and every capability returned was written: the last, and the words left
pub record Written (c : Capability) (calls : List Call) (last : Capability) (after : List ℕ) : Type 0 where
  pub last_is : last ≡ run calls c
  pub words_are : after ≡ words_of (trace calls c)

-- as many values as kinds, and three words for each
unfoldable pub sizes_fit : (kinds values out : ℕ) → Bool
sizes_fit k v o = eqb v k && eqb o (3 * k)

-- The number that refuses a list, or 0: 4 for a tag word that is not 0 or 1, as document 01 has it, and two of this function's own, above those that
-- documents 01 and 02 use. The lowest wins.
unfoldable pub list_refusal : Capability → (kinds values out : List ℕ) → ℕ
list_refusal c ks vs out =
    cond (ltb 1 c.tag) 4
    (cond (not (sizes_fit (length ks) (length vs) (length out))) 11
    (cond (not (all_known ks)) 12
    0))

unfoldable pub answer_of : Capability → (kinds values out : List ℕ) → Result Capability ListError
answer_of c ks vs out =
    cond (ltb 1 c.tag) (Err BadTag)
    (cond (not (sizes_fit (length ks) (length vs) (length out))) (Err WrongSize)
    (cond (not (all_known ks)) (Err UnknownKind)
    (Ok (run (calls_of ks vs) c))))

-- an answer's number, and its capability: the last one, or where refused none, for which NULL stands
abbrev pub answer_number : Result Capability ListError → ℕ
answer_number (Ok c) = 0
answer_number (Err BadTag) = 4
answer_number (Err WrongSize) = 11
answer_number (Err UnknownKind) = 12

abbrev pub answer_last : Result Capability ListError → Capability
answer_last (Ok c) = c
answer_last (Err e) = integer 0

-- what the lent words are afterwards: every capability returned, or as they were
unfoldable pub out_of : Capability → (kinds values out : List ℕ) → List ℕ
out_of c ks vs out = cond (eqb (list_refusal c ks vs out) 0) (words_of (trace (calls_of ks vs) c)) out

-- what is promised of a list from c: the answer with its number and its capability, the words left, and demand 3 of the whole list where it was run
pub record Listed (c : Capability) (kinds values before after : List ℕ) (answer : Result Capability ListError) : Type 0 where
  pub answer_is : answer ≡ answer_of c kinds values before
  pub number_is : answer_number answer ≡ list_refusal c kinds values before
  pub last_is : answer_last answer ≡ cond (eqb (list_refusal c kinds values before) 0) (last_of c (trace (calls_of kinds values) c)) (integer 0)
  pub words_are : after ≡ out_of c kinds values before
  pub claim : (last : Capability) → answer ≡ Ok last → Authority c → ListClaim (calls_of kinds values) c last

-- The same with the answer as a number. `claim` is about the definitions alone: the last capability is `last_of` of `trace`, or c where there was no call.
-- `words_are` ties it to the program: the words left are those of `trace`.
pub record ListedNumber (c : Capability) (kinds values before after : List ℕ) (number : ℕ) : Type 0 where
  pub number_is : number ≡ list_refusal c kinds values before
  pub words_are : after ≡ out_of c kinds values before
  pub claim : number ≡ 0 → Authority c → ListClaim (calls_of kinds values) c (last_of c (trace (calls_of kinds values) c))
