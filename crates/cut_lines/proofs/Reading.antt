-- A line read byte by byte: the state after its bytes tells what is written for it.
-- Assumes nothing.
use Rattle.std.proofs.Common.{◌≡◌, ℕ, zero, suc, ◌+◌, ◌*◌, ◌/◌, ◌%◌, ◌^◌, ◌<◌, ◌≤◌, Bool, true, false, cond, ◌&&◌, eqb, ltb, List, [], ◌∷◌, length, get_or}
use Rattle.std.proofs.Common.{take, drop, refl, ap, ◌∙◌, add-zero, zero-add, arith, length-drop, length-take-le}
use Rattle.std.proofs.Common.{ltb-false, ltb-true, lt-ltb, eq-eqb, ne_eqb, eqb-true}
use mathlib.Core.Bool.{and-true, and-false, and_assoc, and-eq-true_iff}
use Rattle.std.specs.Prelude.{Option, Some, None, option_and_then}
use Rattle.text.specs.Digits.{digit_of, is_digit, all_digits, number_from, number_of}
use Rattle.text.specs.Writing.{tab}
use Rattle.cut_lines.specs.Lines.{well_formed, requested, cut_text, bad_text, line_text}
use Rattle.cut_lines.specs.Scanning.{start_of, expected, value_with, accepted, spoiled, longer, advanced, has_begun, is_whole, read_line, outcome, answered}
use Rattle.cut_lines.specs.declared.Fields.{Fields}
use Rattle.cut_lines.specs.declared.Scan.{Scan}
use Rattle.text.proofs.Numbers.{number_word, number_after, digit_lt}

swap : (a b c : Bool) → (a && (b && c)) ≡ (b && (a && c))
swap true b c = refl
swap false true c = refl
swap false false c = refl

-- what was read after the bytes of a line; the number stays
read_fields : Option Fields → List ℕ → Option Fields
read_fields o [] = o
read_fields o (b ∷ l) = read_fields (option_and_then (λ f. longer f b) o) l

line_read : (s : Scan) (l : List ℕ) → read_line s l ≡ record { number = s.number; fields = read_fields s.fields l }
unfolding advanced read_fields
line_read s [] = refl
line_read s (b ∷ l) = line_read (advanced s b) l

pub number_read : (s : Scan) (l : List ℕ) → (read_line s l).number ≡ s.number
number_read s l = ap (λ (t : Scan). t.number) (line_read s l)

-- a line that is ill-formed, and one that has begun, stay so
none_read : (l : List ℕ) → read_fields None l ≡ None
unfolding read_fields
none_read [] = refl
none_read (b ∷ l) = none_read l

begun_longer : (o : Option Fields) (b : ℕ) → has_begun (option_and_then (λ f. longer f b) o) ≡ true
unfolding longer
begun_longer None b = refl
begun_longer (Some f) b = go (expected f.place b)
  where
    go : (t : Bool) → has_begun (cond t (Some (accepted f b)) spoiled) ≡ true
    go true = lt-ltb 0 (f.place + 1) (omega arith)
    go false = refl

begun_fields : (o : Option Fields) (l : List ℕ) → has_begun o ≡ true → has_begun (read_fields o l) ≡ true
unfolding read_fields
begun_fields o [] h = h
begun_fields o (b ∷ l) h = begun_fields (option_and_then (λ f. longer f b) o) l (begun_longer o b)

pub begun_read : (s : Scan) (b : ℕ) (l : List ℕ) → has_begun (read_line s (b ∷ l)).fields ≡ true
unfolding read_fields
begun_read s b l = rw (line_read s (b ∷ l)) (begun_fields (option_and_then (λ f. longer f b) s.fields) l (begun_longer s.fields b))

-- the bytes from a place on are as they should be
shape : (place : ℕ) → List ℕ → Bool
shape p [] = eqb p 17
shape p (b ∷ l) = expected p b && shape (p + 1) l

shape_read : (f : Fields) (l : List ℕ) → is_whole (read_fields (Some f) l) ≡ shape f.place l
unfolding read_fields shape longer
shape_read f [] = refl
shape_read f (b ∷ l) = go (expected f.place b) (shape_read (accepted f b) l)
  where
    go : (t : Bool) → is_whole (read_fields (Some (accepted f b)) l) ≡ shape (f.place + 1) l
        → is_whole (read_fields (cond t (Some (accepted f b)) spoiled) l) ≡ (t && shape (f.place + 1) l)
    go true r = r
    go false r = ap is_whole (none_read l)

-- the number that the digits from a place on write after v
value_from : (place v : ℕ) → List ℕ → ℕ
value_from p v [] = v
value_from p v (b ∷ l) = value_from (p + 1) (cond (eqb p 8) v (v * 16 + digit_of b)) l

digit_mod : (v x d : ℕ) → d < 16 → x ≡ v % 2 ^ 64 → (x * 2 ^ 4) % 2 ^ 64 + d ≡ (v * 16 + d) % 2 ^ 64
digit_mod v x d h e = omega arith

value_with_lem : (p v x b : ℕ) → expected p b ≡ true → x ≡ v % 2 ^ 64 → value_with p x b ≡ cond (eqb p 8) v (v * 16 + digit_of b) % 2 ^ 64
unfolding expected value_with
value_with_lem p v x b h e = go (eqb p 8) h
  where
    go : (t : Bool) → cond t (eqb b tab) (is_digit b && ltb p 17) ≡ true → cond t x ((x * 2 ^ 4) % 2 ^ 64 + digit_of b)
        ≡ cond t v (v * 16 + digit_of b) % 2 ^ 64
    go true k = e
    go false k = digit_mod v x (digit_of b) (digit_lt b ((and-eq-true_iff (is_digit b) (ltb p 17)).0 k).0) e

read_as : (f : Fields) (p v : ℕ) → f.place ≡ p → f.value ≡ v → f ≡ record { place = p; value = v }
read_as f p v e h = rw (← e, ← h) refl

value_read : (f : Fields) (l : List ℕ) (v : ℕ) → shape f.place l ≡ true → f.value ≡ v % 2 ^ 64
    → read_fields (Some f) l ≡ Some (record { place = 17; value = value_from f.place v l % 2 ^ 64 })
unfolding read_fields shape value_from longer
value_read f [] v h e = ap Some (read_as f 17 (v % 2 ^ 64) (eqb-true f.place 17 h) e)
value_read f (b ∷ l) v h e =
    let t = (and-eq-true_iff (expected f.place b) (shape (f.place + 1) l)).0 h in
    rw t.0
    (value_read (accepted f b) l (cond (eqb f.place 8) v (v * 16 + digit_of b)) t.1 (value_with_lem f.place v f.value b t.0 e))

-- the second field: the places after the tab
shape_second : (p : ℕ) (l : List ℕ) → 8 < p → p ≤ 17 → shape p l ≡ (eqb (p + length l) 17 && all_digits l)
unfolding shape all_digits expected
shape_second p [] h k = rw (add-zero, and-true)
shape_second p (b ∷ l) h k = go (ltb p 17) refl (shape_second (p + 1) l)
  where
    go : (t : Bool) → ltb p 17 ≡ t → (8 < p + 1 → p + 1 ≤ 17 → shape (p + 1) l ≡ (eqb (p + 1 + length l) 17 && all_digits l))
        → shape p (b ∷ l) ≡ (eqb (p + suc (length l)) 17 && (is_digit b && all_digits l))
    go true e r =
        let n = ltb-true p 17 e in
        let q : p + 1 + length l ≡ p + suc (length l) = omega arith in
        rw (ne_eqb p 8 (omega arith), e, and-true, r (omega arith) (omega arith), q) (swap (is_digit b) (eqb (p + suc (length l)) 17) (all_digits l))
    go false e r =
        let n = ltb-false p 17 e in
        rw (ne_eqb p 8 (omega arith), e, and-false, ne_eqb (p + suc (length l)) 17 (omega arith))

value_second : (p v : ℕ) (l : List ℕ) → 8 < p → value_from p v l ≡ number_from v l
unfolding value_from number_from
value_second p v [] h = refl
value_second p v (b ∷ l) h = rw (ne_eqb p 8 (omega arith)) (value_second (p + 1) (v * 16 + digit_of b) l (omega arith))

-- the first field: k places before the tab
value_first : (k p v : ℕ) (l : List ℕ) → p + k ≡ 8 → value_from p v l ≡ number_from (number_from v (take k l)) (drop (suc k) l)
unfolding value_from number_from
value_first zero p v [] e = refl
value_first (suc k) p v [] e = refl
value_first zero p v (b ∷ l) e = rw (eq-eqb p 8 (omega arith)) (value_second (p + 1) v l (omega arith))
value_first (suc k) p v (b ∷ l) e = rw (ne_eqb p 8 (omega arith)) (value_first k (p + 1) (v * 16 + digit_of b) l (omega arith))

shape_first : (k p : ℕ) (l : List ℕ) → p + k ≡ 8
    → shape p l ≡ (eqb (p + length l) 17 && (all_digits (take k l) && (eqb (get_or l k 0) tab && all_digits (drop (suc k) l))))
unfolding shape all_digits expected
shape_first zero p [] e = rw (and-false (eqb (p + 0) 17), ne_eqb p 17 (omega arith))
shape_first (suc k) p [] e = rw (and-false (eqb (p + 0) 17), ne_eqb p 17 (omega arith))
shape_first zero p (b ∷ l) e =
    let q : p + 1 + length l ≡ p + suc (length l) = omega arith in
    rw (eq-eqb p 8 (omega arith), shape_second (p + 1) l (omega arith) (omega arith), q) (swap (eqb b tab) (eqb (p + suc (length l)) 17) (all_digits l))
shape_first (suc k) p (b ∷ l) e =
    let q : p + 1 + length l ≡ p + suc (length l) = omega arith in
    let rest : Bool = eqb (get_or l k 0) tab && all_digits (drop (suc k) l) in
    let again = and_assoc (is_digit b) (all_digits (take k l)) rest in
    rw (ne_eqb p 8 (omega arith), lt-ltb p 17 (omega arith), and-true, shape_first k (p + 1) l (omega arith), q, again)
    (swap (is_digit b) (eqb (p + suc (length l)) 17) (all_digits (take k l) && rest))

-- at the start of a line
nothing_read : Fields
nothing_read = record { place = 0; value = 0 }

pub well_read : (n : ℕ) (line : List ℕ) → is_whole (read_line (start_of n) line).fields ≡ well_formed line
unfolding well_formed nothing_read
well_read n line = rw (line_read (start_of n) line) (shape_read nothing_read line ∙ rw zero-add at (shape_first 8 0 line refl))

apart : (x v a b : ℕ) → x ≡ v % 2 ^ 64 → v ≡ a * 2 ^ 32 + b → a < 2 ^ 32 → b < 2 ^ 32 → (x / 2 ^ 32 ≡ a) × (x % 2 ^ 32 ≡ b)
apart x v a b h e f g = omega arith

-- both fields of a well-formed line out of the value
pub fields_read : (n : ℕ) (line : List ℕ) → well_formed line ≡ true
    → (f : Fields) × ((read_line (start_of n) line).fields ≡ Some f)
    × (f.value / 2 ^ 32 ≡ number_of (take 8 line)) × (f.value % 2 ^ 32 ≡ number_of (drop 9 line))
unfolding well_formed nothing_read
fields_read n line h =
    let t = (and-eq-true_iff (eqb (length line) 17) (all_digits (take 8 line) && (eqb (get_or line 8 0) tab && all_digits (drop 9 line)))).0 h in
    let u = (and-eq-true_iff (all_digits (take 8 line)) (eqb (get_or line 8 0) tab && all_digits (drop 9 line))).0 t.1 in
    let w = (and-eq-true_iff (eqb (get_or line 8 0) tab) (all_digits (drop 9 line))).0 u.1 in
    let long : length line ≡ 17 = eqb-true (length line) 17 t.0 in
    let eight : length (drop 9 line) ≡ 8 = length-drop 9 line ∙ omega arith in
    let whole : shape 0 line ≡ true = rw zero-add at (shape_first 8 0 line refl) ∙ h in
    let value = value_read nothing_read line 0 whole refl in
    let a = apart (value_from 0 0 line % 2 ^ 64) (number_from (number_of (take 8 line)) (drop 9 line)) (number_of (take 8 line)) (number_of (drop 9 line))
    (ap (λ (v : ℕ). v % 2 ^ 64) (value_first 8 0 0 line refl))
    (number_after (number_of (take 8 line)) (drop 9 line) eight)
    (number_word (take 8 line) (length-take-le 8 line (omega arith)) u.0)
    (number_word (drop 9 line) eight w.1) in
    (record { place = 17; value = value_from 0 0 line % 2 ^ 64 }, rw (line_read (start_of n) line) value, a.0, a.1)

cut_read : (n : ℕ) (line : List ℕ) → well_formed line ≡ true → outcome (read_line (start_of n) line).fields ≡ cut_text (requested line)
unfolding outcome requested
cut_read n line h =
    let f = fields_read n line h in
    let whole : eqb f.0.place 17 ≡ true = rw f.1 at (well_read n line ∙ h) in
    rw (f.1, whole, f.2, f.3) refl

bad_read : (o : Option Fields) → is_whole o ≡ false → outcome o ≡ bad_text
unfolding outcome
bad_read None h = refl
bad_read (Some f) h = rw h refl

-- what is written for a line that was read byte by byte is what the line's own text says
pub answered_line : (n : ℕ) (line : List ℕ) → answered (read_line (start_of n) line) ≡ line_text n line
unfolding answered line_text
answered_line n line = go (well_formed line) refl
  where
    go : (t : Bool) → well_formed line ≡ t → answered (read_line (start_of n) line) ≡ line_text n line
    go true e = rw (number_read (start_of n) line, cut_read n line e, e)
    go false e = rw (number_read (start_of n) line, bad_read (read_line (start_of n) line).fields (well_read n line ∙ e), e)
