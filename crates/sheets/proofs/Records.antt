-- What words say as records, and how they are judged: a record's words are its region's and back, so what is judged is what is said.
-- Assumes nothing.
use mathlib.Core.Bool.{Bool, true, false, cond, ◌&&◌, and-eq-true_iff}
use mathlib.Core.Path.{◌≡◌, refl, sym, ap, ◌∙◌}
use mathlib.Core.List.{List, [], ◌∷◌, ◌++◌, append_assoc, append-nil}
use Prim.Native.Nat.{ℕ, zero, suc, ◌+◌, ◌-◌, ◌*◌, ◌/◌, ◌%◌, ◌^◌, ◌≤◌, ◌<◌}
use native.Mathlib.Nat.{add-zero, div-div-eq-div-mul}
use native.Mathlib.Omega.{arith}
use borrow.Author.Tests.{eq-eqb, ne_eqb, eqb-true, eqb-false, ltb-true, lt-ltb, leb-true}
use lib.Dec.{eqb, ltb, leb}
use lib.ListN.{length, get_or, drop, replicate, length-append, length-drop, drop_of_length-le}
use lib.Seq.{append_snoc, drop-drop, get_or-append-add, get_or-drop}
use Rattle.sheets.specs.Records.{word_at, name_words, record_words, sheet_words, all_words, word_bytes, record_at, judged_from, judged}
use Rattle.sheets.specs.Records.{AreRecords, FirstBadRecord, SaysRecords}
use Rattle.sheets.specs.Scanning.{padded, ended}
use Rattle.sheets.specs.Sheet.{is_letter, name_of, formed, follows, Regions, none, more, sheet, bad}
use Rattle.sheets.specs.declared.Region.{Region}
use Rattle.sheets.proofs.Answers.{clash_of}
use Rattle.sheets.proofs.Lines.{form_of}
use Rattle.sheets.proofs.Padding.{all_letters}
use Rattle.sheets.proofs.Words.{words_snoc, words_length, record_length}

-- ---- bytes and words

unfoldable pub all_bytes : List ℕ → Bool
all_bytes [] = true
all_bytes (b ∷ l) = ltb b 256 && all_bytes l

bytes_append : (a b : List ℕ) → all_bytes a ≡ true → all_bytes b ≡ true → all_bytes (a ++ b) ≡ true
unfolding all_bytes
bytes_append [] b h k = k
bytes_append (x ∷ a) b h k =
    let t = (and-eq-true_iff (ltb x 256) (all_bytes a)).0 h in
    rw t.0 (bytes_append a b t.1 k)

letters_bytes : (l : List ℕ) → all_letters l ≡ true → all_bytes l ≡ true
unfolding all_letters is_letter all_bytes
letters_bytes [] h = refl
letters_bytes (b ∷ l) h =
    let t = (and-eq-true_iff (leb 97 b && leb b 122) (all_letters l)).0 h in
    let u = leb-true b 122 ((and-eq-true_iff (leb 97 b) (leb b 122)).0 t.0).1 in
    rw (lt-ltb b 256 (omega arith)) (letters_bytes l t.1)

zeros_bytes : (n : ℕ) → all_bytes (replicate n 0) ≡ true
unfolding all_bytes
zeros_bytes zero = refl
zeros_bytes (suc n) = zeros_bytes n

padded_bytes : (l : List ℕ) → all_letters l ≡ true → all_bytes (padded l) ≡ true
unfolding padded
padded_bytes l h = bytes_append l (replicate (16 - length l) 0) (letters_bytes l h) (zeros_bytes (16 - length l))

-- division by 2 ^ 16 and 2 ^ 24, in steps
two : (w : ℕ) → w / 65536 ≡ w / 256 / 256
two w = sym (div-div-eq-div-mul w 256 256)

three : (w : ℕ) → w / 16777216 ≡ w / 256 / 256 / 256
three w = sym (ap (λ (n : ℕ). n / 256) (div-div-eq-div-mul w 256 256) ∙ div-div-eq-div-mul w 65536 256)

word_bytes_lem : (a b c d : ℕ) → a < 256 → b < 256 → c < 256 → d < 256
    → word_bytes (a + b * 256 + c * 65536 + d * 16777216) ≡ a ∷ b ∷ c ∷ d ∷ []
word_bytes_lem a b c d h i j k =
    let w = a + b * 256 + c * 65536 + d * 16777216 in
    let q1 : w / 256 ≡ b + c * 256 + d * 65536 = omega arith in
    let q2 : w / 65536 ≡ c + d * 256 = two w ∙ (rw q1 (omega arith)) in
    let q3 : w / 16777216 ≡ d = three w ∙ ap (λ (n : ℕ). n / 256) (sym (two w) ∙ q2) ∙ omega arith in
    let e0 : w % 256 ≡ a = omega arith in
    let e1 : w / 256 % 256 ≡ b = rw q1 (omega arith) in
    let e2 : w / 65536 % 256 ≡ c = rw q2 (omega arith) in
    let e3 : w / 16777216 % 256 ≡ d = rw q3 (omega arith) in
    rw (e0, e1, e2, e3)

bytes_word : (w : ℕ) → w < 2 ^ 32 → w % 256 + w / 256 % 256 * 256 + w / 65536 % 256 * 65536 + w / 16777216 % 256 * 16777216 ≡ w
bytes_word w h = go (w / 256) (w / 65536) (w / 16777216) refl (two w) (three w ∙ ap (λ (n : ℕ). n / 256) (sym (two w)))
  where
    go : (x y z : ℕ) → w / 256 ≡ x → y ≡ w / 256 / 256 → z ≡ y / 256 → w % 256 + x % 256 * 256 + y % 256 * 65536 + z % 256 * 16777216 ≡ w
    go x y z e f g =
        let y-is : y ≡ x / 256 = f ∙ ap (λ (n : ℕ). n / 256) e in
        omega arith

-- ---- a region's words and back

-- four bytes at the front
front_bytes : (l : List ℕ) → 4 ≤ length l → all_bytes l ≡ true → (word_bytes (word_at l 0) ++ drop 4 l ≡ l) × (all_bytes (drop 4 l) ≡ true)
unfolding all_bytes word_at
front_bytes [] h k = absurd (omega arith)
front_bytes (a ∷ []) h k = absurd (omega arith)
front_bytes (a ∷ b ∷ []) h k = absurd (omega arith)
front_bytes (a ∷ b ∷ c ∷ []) h k = absurd (omega arith)
front_bytes (a ∷ b ∷ c ∷ d ∷ l) h k =
    let t0 = (and-eq-true_iff (ltb a 256) _).0 k in
    let t1 = (and-eq-true_iff (ltb b 256) _).0 t0.1 in
    let t2 = (and-eq-true_iff (ltb c 256) _).0 t1.1 in
    let t3 = (and-eq-true_iff (ltb d 256) (all_bytes l)).0 t2.1 in
    let e = word_bytes_lem a b c d (ltb-true a 256 t0.0) (ltb-true b 256 t1.0) (ltb-true c 256 t2.0) (ltb-true d 256 t3.0) in
    (ap (λ (t : List ℕ). t ++ l) e, t3.1)

word_drop : (n : ℕ) (l : List ℕ) → word_at (drop n l) 0 ≡ word_at l n
unfolding word_at
word_drop n l = rw (get_or-drop n l 0 0, get_or-drop n l 1 0, get_or-drop n l 2 0, get_or-drop n l 3 0, add-zero n)

abbrev name_back : List ℕ → List ℕ
name_back n = word_bytes (word_at n 0) ++ word_bytes (word_at n 4) ++ word_bytes (word_at n 8) ++ word_bytes (word_at n 12)

name_back_lem : (n : List ℕ) → length n ≡ 16 → all_bytes n ≡ true → name_back n ≡ n
name_back_lem n e h =
    let d0 = front_bytes n (omega arith) h in
    let d1 = front_bytes (drop 4 n) (simp length-drop (omega arith)) d0.1 in
    let d2 = front_bytes (drop 4 (drop 4 n)) (simp length-drop (omega arith)) d1.1 in
    let d3 = front_bytes (drop 4 (drop 4 (drop 4 n))) (simp length-drop (omega arith)) d2.1 in
    let w1 = word_drop 4 n in
    let w2 : word_at (drop 4 (drop 4 n)) 0 ≡ word_at n 8 = ap (λ (t : List ℕ). word_at t 0) (drop-drop 4 4 n) ∙ word_drop 8 n in
    let w3 : word_at (drop 4 (drop 4 (drop 4 n))) 0 ≡ word_at n 12
    = ap (λ (t : List ℕ). word_at t 0) (drop-drop 4 4 (drop 4 n) ∙ drop-drop 8 4 n) ∙ word_drop 12 n in
    let z : drop 4 (drop 4 (drop 4 (drop 4 n))) ≡ [] = drop_of_length-le (drop 4 (drop 4 (drop 4 n))) {i = 4} (simp length-drop (omega arith)) in
    let t3 : word_bytes (word_at n 12) ≡ drop 4 (drop 4 (drop 4 n)) = sym (append-nil (word_bytes (word_at n 12))) ∙ rw (z, w3) at d3.0 in
    let t2 : word_bytes (word_at n 8) ++ word_bytes (word_at n 12) ≡ drop 4 (drop 4 n) = rw t3 (rw w2 at d2.0) in
    let t1 : word_bytes (word_at n 4) ++ (word_bytes (word_at n 8) ++ word_bytes (word_at n 12)) ≡ drop 4 n = rw t2 (rw w1 at d1.0) in
    ap (λ (t : List ℕ). word_bytes (word_at n 0) ++ t) t1 ∙ d0.0

-- the record at the front of words is that of their region
pub record_back : (r : Region) (rest : List ℕ) → formed r ≡ true → record_at (record_words r ++ rest) 0 ≡ r
unfolding record_at record_words name_words
record_back r rest h =
    let f = form_of r h in
    let e = name_back_lem r.name f.sixteen (rw f.held (padded_bytes (name_of r) f.letters)) in
    rw e

-- the words of the record at the front of words
front_words : (l : List ℕ) → 7 ≤ length l → all_words l ≡ true → (record_words (record_at l 0) ++ drop 7 l ≡ l) × (all_words (drop 7 l) ≡ true)
unfolding all_words record_words record_at name_words word_at
front_words [] h k = absurd (omega arith)
front_words (a ∷ []) h k = absurd (omega arith)
front_words (a ∷ b ∷ []) h k = absurd (omega arith)
front_words (a ∷ b ∷ c ∷ []) h k = absurd (omega arith)
front_words (a ∷ b ∷ c ∷ d ∷ []) h k = absurd (omega arith)
front_words (a ∷ b ∷ c ∷ d ∷ x ∷ []) h k = absurd (omega arith)
front_words (a ∷ b ∷ c ∷ d ∷ x ∷ y ∷ []) h k = absurd (omega arith)
front_words (a ∷ b ∷ c ∷ d ∷ x ∷ y ∷ z ∷ l) h k =
    let t0 = (and-eq-true_iff (ltb a (2 ^ 32)) _).0 k in
    let t1 = (and-eq-true_iff (ltb b (2 ^ 32)) _).0 t0.1 in
    let t2 = (and-eq-true_iff (ltb c (2 ^ 32)) _).0 t1.1 in
    let t3 = (and-eq-true_iff (ltb d (2 ^ 32)) _).0 t2.1 in
    let t4 = (and-eq-true_iff (ltb x (2 ^ 32)) _).0 t3.1 in
    let t5 = (and-eq-true_iff (ltb y (2 ^ 32)) _).0 t4.1 in
    let t6 = (and-eq-true_iff (ltb z (2 ^ 32)) (all_words l)).0 t5.1 in
    let ea = bytes_word a (ltb-true a (2 ^ 32) t0.0) in
    let eb = bytes_word b (ltb-true b (2 ^ 32) t1.0) in
    let ec = bytes_word c (ltb-true c (2 ^ 32) t2.0) in
    let ed = bytes_word d (ltb-true d (2 ^ 32) t3.0) in
    (rw (ea, eb, ec, ed), t6.1)

-- ---- what is judged is what the words say

-- the record after those before
record_after : (p q : List ℕ) (n : ℕ) → length p ≡ n → record_at (p ++ q) n ≡ record_at q 0
unfolding record_at
record_after p q n e =
    let g0 : get_or (p ++ q) n 0 ≡ get_or q 0 0 = rw (← e, ← (add-zero (length p))) (get_or-append-add p q 0 0) in
    let at : (k : ℕ) → get_or (p ++ q) (n + k) 0 ≡ get_or q k 0 = λ k. rw (← e) (get_or-append-add p q k 0) in
    rw (g0, at 1, at 2, at 3, at 4, at 5, at 6)

formed_of : (before : List Region) (r : Region) → follows before r ≡ true → formed r ≡ true
unfolding follows
formed_of before r h = ((and-eq-true_iff (formed r) _).0 h).0

-- the record after those before is bad, where there are words for one
says_refused : (ws from : List ℕ) (before : List Region) → Regions before → ws ≡ sheet_words before ++ from → 7 ≤ length from
    → follows before (record_at from 0) ≡ false → FirstBadRecord ws (length before + 1)
says_refused ws from before g e h f =
    record {
      before = before;
      from = from;
      regions = g;
      number = refl;
      words_are = e;
      no_record =
          λ r rest q k. clash_of (sym k ∙ ap (follows before) (sym (ap (λ (t : List ℕ). record_at t 0) q ∙ record_back r rest (formed_of before r k))) ∙ f);
      no_end = λ q. absurd (omega (arith, ap length q));
    }

-- too few words for a record
says_short : (ws from : List ℕ) (before : List Region) → Regions before → ws ≡ sheet_words before ++ from → length from < 7
    → (from ≡ [] → length before ≡ 0) → FirstBadRecord ws (length before + 1)
says_short ws from before g e h k =
    record {
      before = before;
      from = from;
      regions = g;
      number = refl;
      words_are = e;
      no_record = λ r rest q f. omega (arith, simp length-append at (ap length q), record_length r);
      no_end = k;
    }

nothing_of : (l : List ℕ) → length l ≡ 0 → l ≡ []
nothing_of [] h = refl
nothing_of (x ∷ l) h = absurd (omega arith)

says_last : (ws from : List ℕ) (before : List Region) → Regions before → ws ≡ sheet_words before ++ from → length from < 7
    → SaysRecords ws (judged_from ws before 0)
unfolding judged_from ended
says_last ws from before g e h = go (eqb (length ws % 7) 0) refl
  where
    n : length ws ≡ length before * 7 + length from
    n = ap length e ∙ simp length-append (omega (arith, words_length before))

    on : (t : Bool) → eqb (length before) 0 ≡ t → length from ≡ 0 → SaysRecords ws (cond t (bad 1) (sheet before []))
    on true z k =
        let m : length before ≡ 0 = eqb-true (length before) 0 z in
        let o : length before + 1 ≡ 1 = omega arith in
        rw o at (says_short ws from before g e h (λ q. m))
    on false z k =
        let m = eqb-false (length before) 0 z in
        record { regions = g; some = omega arith; words_are = e ∙ rw (nothing_of from k, append-nil) }

    go : (t : Bool) → eqb (length ws % 7) 0 ≡ t → SaysRecords ws (cond t (cond (eqb (length before) 0) (bad 1) (sheet before [])) (bad (length before + 1)))
    go true z = let k = eqb-true (length ws % 7) 0 z in on (eqb (length before) 0) refl (omega (arith, n))
    go false z = let k = eqb-false (length ws % 7) 0 z in says_short ws from before g e h (λ q. absurd (k (omega (arith, n, ap length q))))

judged_step : (ws : List ℕ) (before : List Region) (left : ℕ) (it : Region) → record_at ws (length before * 7) ≡ it
    → judged_from ws before (suc left) ≡ cond (follows before it) (judged_from ws (before ++ (it ∷ [])) left) (bad (length before + 1))
unfolding judged_from
judged_step ws before left it e = rw e

says_from : (ws from : List ℕ) (left : ℕ) (before : List Region) → Regions before → ws ≡ sheet_words before ++ from → all_words from ≡ true
    → length from / 7 ≡ left → SaysRecords ws (judged_from ws before left)
says_from ws from zero before g e a l = says_last ws from before g e (omega arith)
says_from ws from (suc left) before g e a l = step (λ f. says_from ws (drop 7 from) left (before ++ (it ∷ [])) (more it g f))
  where
    it : Region
    it = record_at from 0

    d : (record_words it ++ drop 7 from ≡ from) × (all_words (drop 7 from) ≡ true)
    d = front_words from (omega arith) a

    it_is : record_at ws (length before * 7) ≡ it
    it_is = ap (λ (t : List ℕ). record_at t (length before * 7)) e ∙ record_after (sheet_words before) from (length before * 7) (words_length before)

    next_words : ws ≡ sheet_words (before ++ (it ∷ [])) ++ drop 7 from
    next_words = e ∙ rw (words_snoc before it)
        (ap (λ (t : List ℕ). sheet_words before ++ t) (sym d.0) ∙ sym (append_assoc (sheet_words before) (record_words it) (drop 7 from)))

    go : (t : Bool) → follows before it ≡ t
        → (follows before it ≡ true → SaysRecords ws (judged_from ws (before ++ (it ∷ [])) left))
        → SaysRecords ws (cond t (judged_from ws (before ++ (it ∷ [])) left) (bad (length before + 1)))
    go true f next = next f
    go false f next = says_refused ws from before g e (omega arith) f

    step : (follows before it ≡ true → ws ≡ sheet_words (before ++ (it ∷ [])) ++ drop 7 from → all_words (drop 7 from) ≡ true → length (drop 7 from) / 7 ≡ left
        → SaysRecords ws (judged_from ws (before ++ (it ∷ [])) left))
        → SaysRecords ws (judged_from ws before (suc left))
    step next = rw (judged_step ws before left it it_is) (go (follows before it) refl (λ f. next f next_words d.1 (simp length-drop (omega arith))))

-- what words are judged to be is what they say
pub judged_says : (ws : List ℕ) → all_words ws ≡ true → SaysRecords ws (judged ws)
unfolding judged sheet_words
judged_says ws a = says_from ws ws (length ws / 7) [] none refl a refl

-- ---- what words say is one answer

-- regions that follow those before, from the first on
data Chain : List Region → List Region → Type 0 where
  last : {before : List Region} → Chain before []
  next : {before rs : List Region} (r : Region) → follows before r ≡ true → Chain (before ++ (r ∷ [])) rs → Chain before (r ∷ rs)

chain_snoc : {before rs : List Region} → Chain before rs → (r : Region) → follows (before ++ rs) r ≡ true → Chain before (rs ++ (r ∷ []))
chain_snoc {before} last r f = next r (rw append-nil at f) last
chain_snoc {before} (next {rs = rs} x h c) r f = next x h (chain_snoc c r (rw (append_snoc before x rs) f))

chain_of : {rs : List Region} → Regions rs → Chain [] rs
chain_of none = last
chain_of (more r g f) = chain_snoc (chain_of g) r f

-- the records of regions are taken
judged_skip : {before rs : List Region} → Chain before rs → (ws from : List ℕ) (left : ℕ) → ws ≡ sheet_words before ++ (sheet_words rs ++ from)
    → judged_from ws before (length rs + left) ≡ judged_from ws (before ++ rs) left
unfolding sheet_words
judged_skip {before} last ws from left e = let z : 0 + left ≡ left = omega arith in rw (append-nil, z)
judged_skip {before} (next {rs = rs} r f c) ws from left e =
    let rest : List ℕ = sheet_words rs ++ from in
    let e2 : ws ≡ sheet_words before ++ (record_words r ++ rest) = e ∙ rw (append_assoc (record_words r) (sheet_words rs) from) in
    let it : record_at ws (length before * 7) ≡ r
    = ap (λ (t : List ℕ). record_at t (length before * 7)) e2 ∙ record_after (sheet_words before) (record_words r ++ rest) (length before * 7)
    (words_length before)
    ∙ record_back r rest (formed_of before r f) in
    let e3 : ws ≡ sheet_words (before ++ (r ∷ [])) ++ rest = e2 ∙ rw (words_snoc before r) (sym (append_assoc (sheet_words before) (record_words r) rest)) in
    let z : suc (length rs) + left ≡ suc (length rs + left) = omega arith in
    rw (z, judged_step ws before (length rs + left) r it, f) (judged_skip c ws from left e3 ∙ rw (append_snoc before r rs))

-- records of a sheet are judged to be that sheet
pub records_judged : (ws : List ℕ) (rs : List Region) → AreRecords ws rs → judged ws ≡ sheet rs []
unfolding judged judged_from ended sheet_words
records_judged ws rs k =
    let w : ws ≡ sheet_words rs ++ [] = k.words_are ∙ sym (append-nil (sheet_words rs)) in
    let n : length ws ≡ length rs * 7 = ap length k.words_are ∙ words_length rs in
    let l : length ws / 7 ≡ length rs + 0 = omega arith in
    let z : length ws % 7 ≡ 0 = omega arith in
    rw l (judged_skip (chain_of k.regions) ws [] 0 w ∙ rw (eq-eqb (length ws % 7) 0 z, ne_eqb (length rs) 0 (omega (arith, k.some))))

-- and words whose first bad record is the nth are judged so
words_after : (p q : List ℕ) → all_words (p ++ q) ≡ true → all_words q ≡ true
unfolding all_words
words_after [] q h = h
words_after (w ∷ p) q h = words_after p q ((and-eq-true_iff (ltb w (2 ^ 32)) (all_words (p ++ q))).0 h).1

module _ (ws : List ℕ) (a : all_words ws ≡ true) (n : ℕ) (k : FirstBadRecord ws n) where
  all_from : all_words k.from ≡ true
  all_from = words_after (sheet_words k.before) k.from (rw k.words_are at a)

  long : length ws ≡ length k.before * 7 + length k.from
  long = ap length k.words_are ∙ simp length-append (omega (arith, words_length k.before))

  bad_end : length k.from < 7 → judged_from ws k.before 0 ≡ bad (length k.before + 1)
  unfolding judged_from ended
  bad_end h = go (eqb (length ws % 7) 0) refl
    where
      go : (t : Bool) → eqb (length ws % 7) 0 ≡ t
          → cond t (cond (eqb (length k.before) 0) (bad 1) (sheet k.before [])) (bad (length k.before + 1)) ≡ bad (length k.before + 1)
      go true e =
          let z = eqb-true (length ws % 7) 0 e in
          let m : length k.before ≡ 0 = k.no_end (nothing_of k.from (omega (arith, long))) in
          rw (eq-eqb (length k.before) 0 m, m)
      go false e = refl

  bad_record : (left : ℕ) → 7 ≤ length k.from → judged_from ws k.before (suc left) ≡ bad (length k.before + 1)
  bad_record left h =
      rw (judged_step ws k.before left (record_at k.from 0) (ap (λ (t : List ℕ). record_at t (length k.before * 7)) k.words_are
      ∙ record_after (sheet_words k.before) k.from (length k.before * 7) (words_length k.before))) (go (follows k.before
      (record_at k.from 0)) refl)
    where
      go : (t : Bool) → follows k.before (record_at k.from 0) ≡ t
          → cond t (judged_from ws (k.before ++ (record_at k.from 0 ∷ [])) left) (bad (length k.before + 1)) ≡ bad (length k.before + 1)
      go true e = absurd (k.no_record (record_at k.from 0) (drop 7 k.from) (sym (front_words k.from h all_from).0) e)
      go false e = refl

  pub bad_judged : judged ws ≡ bad n
  unfolding judged sheet_words
  bad_judged =
      let l : length ws / 7 ≡ length k.before + length k.from / 7 = omega (arith, long) in
      rw (l, k.number) (judged_skip (chain_of k.regions) ws k.from (length k.from / 7) k.words_are ∙ go (length k.from / 7) refl)
    where
      go : (left : ℕ) → length k.from / 7 ≡ left → judged_from ws k.before left ≡ bad (length k.before + 1)
      go zero e = bad_end (omega arith)
      go (suc left) e = bad_record left (omega arith)
