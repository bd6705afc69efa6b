-- The bytes of any words are read as these words; so what assembles lists as the same text.
use Rattle.std.proofs.Common.{◌≡◌, ℕ, zero, suc, ◌+◌, ◌*◌, ◌/◌, ◌%◌, ◌^◌, ◌<◌, ◌≤◌, true, eqb, ltb, List, [], ◌∷◌, ◌++◌, length, get_or, drop, sym, refl, ap}
use Rattle.std.proofs.Common.{◌∙◌, append_assoc, append-nil, add-zero, arith, length-append, drop_of_length-le, get_or-append-add, eq-eqb, ne_eqb, eqb-true}
use Rattle.std.proofs.Common.{le-leb}
use borrow.Author.Tests.{eqb-false}
use Rattle.words.proofs.Word.{by_test}
use Rattle.text.specs.Digits.{minus}
use Rattle.text.specs.Writing.{tab, newline}
use Rattle.forms.specs.Rows.{row_count}
use Rattle.forms.specs.Encoding.{encode_of}
use Rattle.forms.specs.ShortShapes.{Word}
use Rattle.listing.specs.Walking.{walk_from, spread}
use Rattle.listing.specs.Code.{size_at, word_at, whole_at, words_at, end_at, text_of, listing_of}
use Rattle.listing.specs.Reading.{start, pushed, hex_of, named, negated, counted, stepped, scanned, meant}
use Rattle.listing.specs.Assembling.{line_word, line_size, line_good, read_at, bad_at, bytes_of, code_of, assembly_of}
use Rattle.listing.specs.declared.Scan.{Scan}
use Rattle.listing.proofs.Again.{candidate_word}
use Rattle.listing.proofs.Walking.{walk_turn, walk_stop}
use Rattle.listing.proofs.Words.{past, code_walk, code_turn, code_here}
use Rattle.listing.proofs.Promises.{Words, none, more, text_is}
use Rattle.listing.proofs.Codes.{long_word, half_word}

-- ---- where the bytes of a word stand, the word is read

record Found (code : List ℕ) (at w : ℕ) : Type 0 where
  whole : whole_at code at ≡ true
  size : size_at code at ≡ length (bytes_of w)
  word : word_at code at ≡ w

first_at : (front l : List ℕ) → get_or (front ++ l) (length front) 0 ≡ get_or l 0 0
first_at front l = ap (λ (k : ℕ). get_or (front ++ l) k 0) (sym (add-zero (length front))) ∙ get_or-append-add front l 0 0

low : (w : ℕ) → (w % 256) % 4 ≡ w % 4
low w = omega arith

four_bytes : (w : ℕ) → w < 2 ^ 32 → w % 256 + w / 256 % 256 * 2 ^ 8 + w / 65536 % 256 * 2 ^ 16 + w / 65536 / 256 % 256 * 2 ^ 24 ≡ w
four_bytes w h =
    let a : w ≡ w / 65536 * 65536 + w % 65536 = omega arith in
    let b : w % 65536 ≡ w / 256 % 256 * 256 + w % 256 = omega arith in
    let c : w / 65536 ≡ w / 65536 / 256 * 256 + w / 65536 % 256 = omega arith in
    let d : w / 65536 / 256 % 256 ≡ w / 65536 / 256 = omega arith in
    sum w (w / 65536) (w % 65536) (w / 65536 / 256) (w / 65536 / 256 % 256) (w / 65536 % 256) (w / 256 % 256) (w % 256) a b c d
  where
    sum : (w q r p b₃ b₂ b₁ b₀ : ℕ) → w ≡ q * 65536 + r → r ≡ b₁ * 256 + b₀ → q ≡ p * 256 + b₂ → b₃ ≡ p → b₀ + b₁ * 2 ^ 8 + b₂ * 2 ^ 16 + b₃ * 2 ^ 24 ≡ w
    sum w q r p b₃ b₂ b₁ b₀ a b c d = omega arith

two_bytes : (w : ℕ) → w < 2 ^ 16 → w % 256 + w / 256 % 256 * 2 ^ 8 ≡ w
two_bytes w h = let e : w / 256 % 256 ≡ w / 256 = omega arith in omega arith

found_long : (front rest : List ℕ) (w : ℕ) → w < 2 ^ 32 → w % 4 ≡ 3 → Found (front ++ (bytes_of w ++ rest)) (length front) w
unfolding bytes_of size_at word_at whole_at
found_long front rest w h e =
    let l = w % 256 ∷ w / 256 % 256 ∷ w / 65536 % 256 ∷ w / 65536 / 256 % 256 ∷ rest in
    let z : get_or (front ++ l) (length front) 0 % 4 ≡ 3 = ap (λ (x : ℕ). x % 4) (first_at front l) ∙ low w ∙ e in
    let t = eq-eqb (get_or (front ++ l) (length front) 0 % 4) 3 z in
    let u = eq-eqb (w % 4) 3 e in
    rw u
    (record {
      whole = rw t (le-leb (length front + 4) (length (front ++ l)) (omega (arith, length-append front l)));
      size = rw (t, u) refl;
      word =
          rw t
          (long_word (front ++ l) (length front)
          ∙ rw (first_at front l, get_or-append-add front l 1 0, get_or-append-add front l 2 0, get_or-append-add front l 3 0) (four_bytes w h));
    })

found_short : (front rest : List ℕ) (w : ℕ) → w < 2 ^ 16 → (w % 4 ≡ 3 → ⊥) → Found (front ++ (bytes_of w ++ rest)) (length front) w
unfolding bytes_of size_at word_at whole_at
found_short front rest w h n =
    let l = w % 256 ∷ w / 256 % 256 ∷ rest in
    let z : get_or (front ++ l) (length front) 0 % 4 ≡ w % 4 = ap (λ (x : ℕ). x % 4) (first_at front l) ∙ low w in
    let t = ne_eqb (get_or (front ++ l) (length front) 0 % 4) 3 (λ q. n (sym z ∙ q)) in
    let u = ne_eqb (w % 4) 3 n in
    rw u
    (record {
      whole = rw t (le-leb (length front + 2) (length (front ++ l)) (omega (arith, length-append front l)));
      size = rw (t, u) refl;
      word = rw t (half_word (front ++ l) (length front) ∙ rw (first_at front l, get_or-append-add front l 1 0) (two_bytes w h));
    })

found : (front rest : List ℕ) (w : ℕ) → Word w → Found (front ++ (bytes_of w ++ rest)) (length front) w
found front rest w h =
    by_test (eqb (w % 4) 3)
    (λ t. found_long front rest w h.fits (eqb-true (w % 4) 3 t))
    (λ t. let n = eqb-false (w % 4) 3 t in found_short front rest w (h.short n) n)

words_from : (front ws code : List ℕ) → Words ws → code ≡ front ++ code_of ws
    → (words_at code (length front) ≡ ws) × (end_at code (length front) ≡ length code)
unfolding spread
words_from front [] code none e =
    let l : length code ≡ length front = ap length (e ∙ append-nil front) in
    let p = past code (length front) (omega arith) in
    (walk_stop (whole_at code) (size_at code) (word_at code) (length code) (code_walk code) (length front) p, code_here code (length front) p ∙ sym l)
words_from front (w ∷ ws) code (more h hs) e =
    let s : Found code (length front) w = rw e (found front (code_of ws) w h) in
    let n : length front + length (bytes_of w) ≡ length (front ++ bytes_of w) = sym (length-append front (bytes_of w)) in
    let r = words_from (front ++ bytes_of w) ws code hs (e ∙ sym (append_assoc front (bytes_of w) (code_of ws))) in (
      walk_turn (whole_at code) (size_at code) (word_at code) (length code) (code_walk code) (length front) s.whole ∙ rw (s.word, s.size, n, r.0) refl,
      code_turn code (length front) s.whole ∙ rw (s.size, n) r.1,
    )

-- the bytes of words are whole words, these ones
pub code_read : (ws : List ℕ) → Words ws → (words_at (code_of ws) 0 ≡ ws) × (end_at (code_of ws) 0 ≡ length (code_of ws))
code_read ws h = words_from [] ws (code_of ws) h refl

-- ---- what is read from a text are words

encode_word : (row a b c : ℕ) → encode_of row a b c < 2 ^ 32
unfolding encode_of
encode_word row a b c = by_test (ltb row row_count) (λ t. rw t (omega arith)) (λ t. rw t (omega arith))

stepped_hex : (s : Scan) (x : ℕ) → s.hex < 2 ^ 32 → (stepped s x).hex < 2 ^ 32
unfolding stepped pushed named negated counted hex_of
stepped_hex s x h =
    by_test (eqb x tab)
    (λ t. rw t h)
    (λ t. rw t
    (by_test s.past_name
    (λ u. rw u (by_test (eqb x minus) (λ v. rw v h) (λ v. rw v h)))
    (λ u. rw u (omega arith))))

scanned_hex : (s : Scan) (l : List ℕ) → s.hex < 2 ^ 32 → (scanned s l).hex < 2 ^ 32
unfolding scanned
scanned_hex s [] h = h
scanned_hex s (x ∷ l) h =
    let r = scanned_hex (stepped s x) l (stepped_hex s x h) in
    by_test (eqb x newline) (λ t. rw t h) (λ t. rw t r)

meant_word : (l : List ℕ) → meant (pushed (scanned start l)) < 2 ^ 32
unfolding meant pushed
meant_word l =
    let s = scanned start l in
    let h : s.hex < 2 ^ 32 = scanned_hex start l (omega arith) in
    by_test (eqb s.weight 8) (λ t. rw t h) (λ t. rw t (by_test (eqb s.weight 4) (λ u. rw u h) (λ u. rw u (encode_word _ _ _ _))))

line_word_lem : (text : List ℕ) (at : ℕ) → Word (line_word text at)
unfolding line_word
line_word_lem text at = candidate_word (drop at text) (meant_word (drop at text))

read_words : (f : ℕ) (text : List ℕ) (at : ℕ) → Words (walk_from (line_good text) (line_size text) (line_word text) f at)
unfolding walk_from
read_words zero text at = none
read_words (suc f) text at =
    let r = read_words f text (at + line_size text at) in
    by_test (line_good text at) (λ t. rw t (more (line_word_lem text at) r)) (λ t. rw t none)

-- what assembles is whole words and lists as the same text
pub text_again : (text : List ℕ) → bad_at text 0 ≡ length text
    → (end_at (assembly_of text) 0 ≡ length (assembly_of text)) × (listing_of (assembly_of text) ≡ text)
text_again text e =
    let r = code_read (read_at text 0) (read_words (length text) text 0) in
    let n : length text ≤ bad_at text 0 = omega arith in (
      r.1,
      ap text_of r.0 ∙ sym (append-nil (text_of (read_at text 0))) ∙ ap (λ (l : List ℕ). text_of (read_at text 0) ++ l) (sym (drop_of_length-le text n))
          ∙ text_is text,
    )
