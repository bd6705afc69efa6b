-- The numbers and values that the two answers have, by the tests that both definitions make; so a promise is its answer and its buffer.
use Rattle.std.proofs.Common.{◌≡◌, ℕ, ◌+◌, ◌-◌, ◌<◌, ◌≤◌, true, false, ltb, leb, List, length, sym, refl, ap, ◌∙◌, arith, le-ltb, lt-ltb}
use Rattle.words.proofs.Word.{by_test}
use Rattle.listing.specs.Code.{words_at, end_at, text_of, listing_of, list_number, list_value, list_refusal, list_rest, list_answer, list_after, ListPromise}
use Rattle.listing.specs.Assembling.{bad_at, read_at, code_of, assembly_of, assemble_number}
use Rattle.listing.specs.Assembling.{assemble_value, assemble_refusal, assemble_rest, assemble_answer, assemble_after}
use Rattle.listing.specs.Assembling.{AssemblePromise}
use Rattle.std.specs.Prelude.{Option, Some, Result, Ok, Err}
use Rattle.listing.specs.declared.ListError.{ListError}
use Rattle.listing.specs.declared.ListError.TheVariants.{CutOff, NoRoom}
use Rattle.listing.specs.declared.AssembleError.{AssembleError}
use Rattle.listing.specs.declared.AssembleError.TheVariants.{BadLine, TooShort}
use Rattle.listing.specs.Rooms.{spent}
use Rattle.listing.proofs.Spending.{Enough, spent_nothing}
use Rattle.listing.proofs.Texts.{past_lines, text_here, coded_stop}
use Rattle.listing.proofs.Words.{past, code_here, listed_stop}

list_tells : (code : List ℕ) (room : ℕ)
    → (list_number (list_answer code room) ≡ list_refusal code room) × (list_value (list_answer code room) ≡ list_rest code room)
unfolding list_answer list_refusal list_rest
list_tells code room =
    by_test (ltb (end_at code 0) (length code)) (λ t. rw t (refl, refl))
    (λ t. rw t (by_test (leb (length (listing_of code)) room) (λ u. rw u (refl, refl)) (λ u. rw u (refl, refl))))

pub lists : {code before after : List ℕ} {answer : Result ℕ ListError} → answer ≡ list_answer code (length before) → after ≡ list_after code before
    → ListPromise code before after answer
lists {code} {before} e f =
    let t = list_tells code (length before) in
    record { answer_is = e; number_is = ap list_number e ∙ t.0; value_is = ap list_value e ∙ t.1; bytes_are = f }

assemble_tells : (text : List ℕ) (room : ℕ)
    → (assemble_number (assemble_answer text room) ≡ assemble_refusal text room) × (assemble_value (assemble_answer text room) ≡ assemble_rest text room)
unfolding assemble_answer assemble_refusal assemble_rest
assemble_tells text room =
    by_test (ltb (bad_at text 0) (length text)) (λ t. rw t (refl, refl))
    (λ t. rw t (by_test (leb (length (assembly_of text)) room) (λ u. rw u (refl, refl)) (λ u. rw u (refl, refl))))

pub assembles : {text before after : List ℕ} {answer : Result ℕ AssembleError} → answer ≡ assemble_answer text (length before)
    → after ≡ assemble_after text before
    → AssemblePromise text before after answer
assembles {text} {before} e f =
    let t = assemble_tells text (length before) in
    record { answer_is = e; number_is = ap assemble_number e ∙ t.0; value_is = ap assemble_value e ∙ t.1; bytes_are = f }

-- ---- what the first walk answers, and what its answer says

module _ (code : List ℕ) (room : ℕ) where
  pub list_cut : end_at code 0 < length code → list_answer code room ≡ Err (CutOff (end_at code 0))
  unfolding list_answer
  list_cut h = rw (lt-ltb (end_at code 0) (length code) h) refl

  pub list_short : end_at code 0 ≡ length code → leb (length (listing_of code)) room ≡ false → list_answer code room ≡ Err NoRoom
  unfolding list_answer
  list_short h t = rw (le-ltb (end_at code 0) (length code) (omega arith), t) refl

  pub list_done : {left : ℕ} → end_at code 0 ≡ length code → Enough room (length (listing_of code)) left → list_answer code room ≡ Ok (room - left)
  unfolding list_answer
  list_done h e = rw (le-ltb (end_at code 0) (length code) (omega arith), e.fits, e.spent_is) refl

  pub list_ok : (size : ℕ) → list_answer code room ≡ Ok size
      → (ltb (end_at code 0) (length code) ≡ false) × (leb (length (listing_of code)) room ≡ true)
  unfolding list_answer
  list_ok size e =
      by_test (ltb (end_at code 0) (length code))
      (λ t. let k = rw t at e in let z : ⊥ = cc in absurd z)
      (λ t. by_test (leb (length (listing_of code)) room) (λ u. (t, u)) (λ u. let k = rw (t, u) at e in let z : ⊥ = cc in absurd z))

pub list_kept : (code before : List ℕ) (x : ListError) → list_answer code (length before) ≡ Err x → list_after code before ≡ before
unfolding list_answer list_after
list_kept code before x e =
    by_test (ltb (end_at code 0) (length code))
    (λ t. rw t refl)
    (λ t. by_test (leb (length (listing_of code)) (length before)) (λ u. let k = rw (t, u) at e in let z : ⊥ = cc in absurd z) (λ u. rw (t, u) refl))

module _ (text : List ℕ) (room : ℕ) where
  pub assemble_bad : bad_at text 0 < length text → assemble_answer text room ≡ Err (BadLine (length (read_at text 0) + 1))
  unfolding assemble_answer
  assemble_bad h = rw (lt-ltb (bad_at text 0) (length text) h) refl

  pub assemble_short : bad_at text 0 ≡ length text → leb (length (assembly_of text)) room ≡ false → assemble_answer text room ≡ Err TooShort
  unfolding assemble_answer
  assemble_short h t = rw (le-ltb (bad_at text 0) (length text) (omega arith), t) refl

  pub assemble_done : {left : ℕ} → bad_at text 0 ≡ length text → Enough room (length (assembly_of text)) left → assemble_answer text room ≡ Ok (room - left)
  unfolding assemble_answer
  assemble_done h e = rw (le-ltb (bad_at text 0) (length text) (omega arith), e.fits, e.spent_is) refl

  pub assemble_ok : (size : ℕ) → assemble_answer text room ≡ Ok size
      → (ltb (bad_at text 0) (length text) ≡ false) × (leb (length (assembly_of text)) room ≡ true)
  unfolding assemble_answer
  assemble_ok size e =
      by_test (ltb (bad_at text 0) (length text))
      (λ t. let k = rw t at e in let z : ⊥ = cc in absurd z)
      (λ t. by_test (leb (length (assembly_of text)) room) (λ u. (t, u)) (λ u. let k = rw (t, u) at e in let z : ⊥ = cc in absurd z))

pub assemble_kept : (text before : List ℕ) (x : AssembleError) → assemble_answer text (length before) ≡ Err x → assemble_after text before ≡ before
unfolding assemble_answer assemble_after
assemble_kept text before x e =
    by_test (ltb (bad_at text 0) (length text))
    (λ t. rw t refl)
    (λ t. by_test (leb (length (assembly_of text)) (length before)) (λ u. let k = rw (t, u) at e in let z : ⊥ = cc in absurd z) (λ u. rw (t, u) refl))

-- ---- at the end of the first walk: it stops at the length, and what is left of the room is what the whole leaves

pub list_end : (code : List ℕ) (at most : ℕ) (room : Option ℕ) → length code ≤ at → at ≤ length code → end_at code at ≡ end_at code 0
    → spent room (length (text_of (words_at code at))) ≡ spent (Some most) (length (listing_of code))
    → (end_at code 0 ≡ length code) × (room ≡ spent (Some most) (length (listing_of code)))
list_end code at most room p q e f =
    let g = past code at p in
    (omega (arith, e, code_here code at g), sym (spent_nothing room) ∙ (rw (listed_stop code at g) at f))

pub assemble_end : (text : List ℕ) (at most : ℕ) (room : Option ℕ) → length text ≤ at → at ≤ length text → bad_at text at ≡ bad_at text 0
    → spent room (length (code_of (read_at text at))) ≡ spent (Some most) (length (assembly_of text))
    → (bad_at text 0 ≡ length text) × (room ≡ spent (Some most) (length (assembly_of text)))
assemble_end text at most room p q e f =
    let g = past_lines text at p in
    (omega (arith, e, text_here text at g), sym (spent_nothing room) ∙ (rw (coded_stop text at g) at f))
