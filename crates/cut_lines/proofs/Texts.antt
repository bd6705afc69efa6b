-- An input in blocks: what is written is the text of the whole input, wherever the blocks were cut.
-- Assumes nothing.
use Rattle.std.proofs.Common.{◌≡◌, ℕ, suc, ◌+◌, ◌%◌, ◌^◌, ◌<◌, Bool, true, false, eqb, List, [], ◌∷◌, ◌++◌, length, take, sym, refl, ap, ◌∙◌, append_assoc}
use Rattle.std.proofs.Common.{append-nil, arith}
use Rattle.std.proofs.lemmas.List.Sums.{fold-append}
use Rattle.text.specs.Writing.{newline}
use Rattle.cut_lines.specs.Lines.{header_text, line_text, start_line, lines_of, lines_text, text_of}
use Rattle.cut_lines.specs.Scanning.{start_of, advanced, has_begun, answered, stepped, step_text, read_line, scanned, scan_text, last_text}
use Rattle.cut_lines.specs.Scanning.{Session, ended, block}
use Rattle.cut_lines.specs.declared.Scan.{Scan}
use Rattle.text.proofs.Putting.{placed_take}
use Rattle.cut_lines.proofs.Reading.{number_read, begun_read, answered_line}

-- ---- blocks

pub scanned_append : (s : Scan) (a b : List ℕ) → scanned s (a ++ b) ≡ scanned (scanned s a) b
unfolding scanned
scanned_append s a b = fold-append stepped s a b

pub text_append : (s : Scan) (a b : List ℕ) → scan_text s (a ++ b) ≡ scan_text s a ++ scan_text (scanned s a) b
unfolding scanned scan_text
text_append s [] b = refl
text_append s (x ∷ a) b =
    rw (text_append (stepped s x) a b) (sym (append_assoc (step_text s x) (scan_text (stepped s x) a) (scan_text (scanned (stepped s x) a) b)))

-- what a run wrote is what belongs to the bytes that it read
session_whole : {s : Scan} {input text : List ℕ} → Session s input text → text ≡ scan_text s input ++ last_text (scanned s input)
unfolding scan_text scanned
session_whole ended = refl
session_whole (block {s} {bytes} {before} {after} {rest} {text} {p} q r) =
    let a = take p.read bytes in
    rw (placed_take q.text_is, text_append s a rest, scanned_append s a rest, ← q.scan_is)
    (ap (λ (t : List ℕ). scan_text s a ++ t) (session_whole r) ∙ sym
    (append_assoc (scan_text s a) (scan_text p.scan rest) (last_text (scanned p.scan rest))))

-- ---- lines

read_more : (s : Scan) (p : List ℕ) (b : ℕ) → read_line s (p ++ (b ∷ [])) ≡ advanced (read_line s p) b
read_more s [] b = refl
read_more s (x ∷ p) b = read_more (advanced s x) p b

-- bytes in front of the first of the lines
front : List ℕ → List (List ℕ) → List (List ℕ)
front [] ls = ls
front (b ∷ p) ls = start_line b (front p ls)

front_more : (p : List ℕ) (b : ℕ) (ls : List (List ℕ)) → front (p ++ (b ∷ [])) ls ≡ front p (start_line b ls)
unfolding front
front_more [] b ls = refl
front_more (x ∷ p) b ls = ap (start_line x) (front_more p b ls)

front_line : (p : List ℕ) (ls : List (List ℕ)) → front p ([] ∷ ls) ≡ p ∷ ls
unfolding front start_line
front_line [] ls = refl
front_line (x ∷ p) ls = rw (front_line p ls)

front_end : (b : ℕ) (p : List ℕ) → front (b ∷ p) [] ≡ (b ∷ p) ∷ []
unfolding front start_line
front_end b [] = refl
front_end b (x ∷ p) = rw (front_end x p)

last_begun : (s : Scan) → has_begun s.fields ≡ true → last_text s ≡ answered s
unfolding last_text
last_begun s h = rw h refl

last_line : (n : ℕ) (p : List ℕ) → last_text (read_line (start_of n) p) ≡ lines_text n (front p [])
unfolding last_text lines_text front
last_line n [] = refl
last_line n (b ∷ p) =
    last_begun (read_line (start_of n) (b ∷ p)) (begun_read (start_of n) b p)
    ∙ answered_line n (b ∷ p)
    ∙ sym (ap (lines_text n) (front_end b p) ∙ append-nil (line_text n (b ∷ p)))

-- after a newline the next line starts
next_line : (n : ℕ) (p : List ℕ) → n + 1 < 2 ^ 64 → start_of (((read_line (start_of n) p).number + 1) % 2 ^ 64) ≡ start_of (suc n)
next_line n p h = let e = number_read (start_of n) p in ap start_of (omega arith)

at_newline_lem : (s : Scan) (b : ℕ) → eqb b newline ≡ true → (step_text s b ≡ answered s) × (stepped s b ≡ start_of ((s.number + 1) % 2 ^ 64))
unfolding step_text stepped
at_newline_lem s b e = (rw e, rw e)

in_line : (s : Scan) (b : ℕ) → eqb b newline ≡ false → (step_text s b ≡ []) × (stepped s b ≡ advanced s b)
unfolding step_text stepped
in_line s b e = (rw e, rw e)

-- from a place within line n on, of which p was read
whole : (input p : List ℕ) (n : ℕ) → n + length input < 2 ^ 64
    → scan_text (read_line (start_of n) p) input ++ last_text (scanned (read_line (start_of n) p) input) ≡ lines_text n (front p (lines_of input))
unfolding scan_text scanned lines_of front lines_text
whole [] p n h = last_line n p
whole (b ∷ l) p n h = go (eqb b newline) refl (whole l [] (suc n) (omega arith)) (whole l (p ++ (b ∷ [])) n (omega arith))
  where
    go : (t : Bool) → eqb b newline ≡ t
        → scan_text (start_of (suc n)) l ++ last_text (scanned (start_of (suc n)) l) ≡ lines_text (suc n) (lines_of l)
        → scan_text (read_line (start_of n) (p ++ (b ∷ []))) l ++ last_text (scanned (read_line (start_of n) (p ++ (b ∷ []))) l)
        ≡ lines_text n (front (p ++ (b ∷ [])) (lines_of l))
        → scan_text (read_line (start_of n) p) (b ∷ l) ++ last_text (scanned (read_line (start_of n) p) (b ∷ l)) ≡ lines_text n (front p (lines_of (b ∷ l)))
    go true e r q =
        let x = at_newline_lem (read_line (start_of n) p) b e in
        rw (x.0, x.1 ∙ next_line n p (omega arith), e, answered_line n p, append_assoc, r, front_line p (lines_of l))
    go false e r q =
        let y = in_line (read_line (start_of n) p) b e in
        rw (y.0, y.1 ∙ sym (read_more (start_of n) p b), e, ← (front_more p b (lines_of l))) q

-- The header, and what is written for an input of fewer than 2 ^ 64 - 1 bytes, read from line 1 on, are the text of the input.
pub whole_text : (input : List ℕ) → 1 + length input < 2 ^ 64
    → header_text ++ (scan_text (start_of 1) input ++ last_text (scanned (start_of 1) input)) ≡ text_of input
unfolding text_of front
whole_text input h = ap (λ (t : List ℕ). header_text ++ t) (whole input [] 1 h)

-- A run over any input of fewer than 2 ^ 64 - 1 bytes, in blocks of any sizes: the header and what the run wrote are the text of the input.
pub session_text : {input text : List ℕ} → Session (start_of 1) input text → 1 + length input < 2 ^ 64 → header_text ++ text ≡ text_of input
session_text {input} r h = ap (λ (t : List ℕ). header_text ++ t) (session_whole r) ∙ whole_text input h
