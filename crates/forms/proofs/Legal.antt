-- A word has a row exactly where the machine's decoder does not find it illegal: of long words by the decoder's tests (Back), of halves by a clause a form.
-- And the operands of a half are words.
use Rattle.std.proofs.Common.{◌≡◌, ℕ, ◌*◌, ◌/◌, ◌%◌, ◌^◌, ◌<◌, ◌≤◌, Bool, true, false, cond, eqb, ltb, sym, refl, ◌∙◌, mod-lt, arith, pow_pos}
use Rattle.words.specs.Words.{sign_extend}
use Rattle.words.proofs.Word.{by_test}
use Rattle.short_forms.specs.Forms.{short_of}
use Rattle.short_forms.specs.Meaning.{legal, is_legal, Full, Signed, Fields}
use Rattle.short_forms.proofs.Laws.{half_legal}
use Rattle.short_forms.proofs.Range.{short_fields}
use Rattle.short_forms.specs.declared.ShortForm.{ShortForm}
use Rattle.short_forms.specs.declared.ShortForm.TheVariants.{Addi4spn, Lw, Ld, Sw, Sd, Addi, Jal, Li, Addi16sp, Lui, Srli, Srai, Andi, Sub, Xor, Or, And}
use Rattle.short_forms.specs.declared.ShortForm.TheVariants.{J, Beqz, Bnez, Slli, Lwsp, Ldsp, Jr, Mv, Ebreak, Jalr, Add, Swsp, Sdsp, NoForm}
use Rattle.forms.specs.Rows.{row_count}
use Rattle.forms.specs.Shapes.{two, upper_of}
use Rattle.forms.specs.ShortShapes.{named, addi_shape, short_shape, shape_of, instruction_of}
use Rattle.forms.specs.declared.Shape.{Shape}
use Rattle.forms.proofs.Fit.{Fit, fit3, fit2, fit1, fit0}
use Rattle.forms.proofs.Back.{long_good}

listed : Shape → Bool
listed s = ltb s.row row_count

named_legal : (n : ℕ) (s : Shape) (b : Bool) → listed s ≡ b → listed (named n s) ≡ cond (ltb n 16) b false
unfolding listed
named_legal n s b e = by_test (ltb n 16) (λ t. rw t e) (λ t. rw t refl)

named_one : (n : ℕ) (s : Shape) → listed s ≡ true → listed (named n s) ≡ ltb n 16
unfolding listed
named_one n s e = by_test (ltb n 16) (λ t. rw t e) (λ t. rw t refl)

addi_listed : (rd value : ℕ) → listed (addi_shape rd value) ≡ true
unfolding listed
addi_listed rd value = by_test (eqb rd 0) (λ t. rw t (by_test (eqb value 0) (λ u. rw u refl) (λ u. rw u refl))) (λ t. rw t refl)

short_legal : (s : ShortForm) → listed (short_shape s) ≡ legal s
unfolding listed short_shape legal
short_legal (Addi4spn rd value) = refl
short_legal (Lw rd rs1 offset) = refl
short_legal (Ld rd rs1 offset) = refl
short_legal (Sw rs1 rs2 offset) = refl
short_legal (Sd rs1 rs2 offset) = refl
short_legal (Addi rd value) = named_one rd (addi_shape rd value) (addi_listed rd value)
short_legal (Jal offset) = refl
short_legal (Li rd value) = named_one rd _ refl
short_legal (Addi16sp value) = refl
short_legal (Lui rd value) = named_one rd _ refl
short_legal (Srli rd shamt) = refl
short_legal (Srai rd shamt) = refl
short_legal (Andi rd value) = refl
short_legal (Sub rd rs2) = refl
short_legal (Xor rd rs2) = refl
short_legal (Or rd rs2) = refl
short_legal (And rd rs2) = refl
short_legal (J offset) = refl
short_legal (Beqz rs1 offset) = refl
short_legal (Bnez rs1 offset) = refl
short_legal (Slli rd shamt) = named_one rd _ refl
short_legal (Lwsp rd offset) = named_one rd _ refl
short_legal (Ldsp rd offset) = named_one rd _ refl
short_legal (Jr rs1) = named_one rs1 _ refl
short_legal (Mv rd rs2) = named_legal rd (named rs2 (two 110 rd rs2)) (ltb rs2 16) (named_one rs2 _ refl)
short_legal Ebreak = refl
short_legal (Jalr rs1) = named_one rs1 _ refl
short_legal (Add rd rs2) = named_legal rd (named rs2 (two 113 rd rs2)) (ltb rs2 16) (named_one rs2 _ refl)
short_legal (Swsp rs2 offset) = named_one rs2 _ refl
short_legal (Sdsp rs2 offset) = named_one rs2 _ refl
short_legal NoForm = refl

-- the operands of a half
word : (n x : ℕ) → 2 ^ n ≤ 2 ^ 32 → sign_extend x n < 2 ^ 32
unfolding sign_extend
word n x h =
    let p = mod-lt x (pow_pos n) in
    by_test (ltb (2 * (x % 2 ^ n)) (2 ^ n)) (λ t. rw t (omega arith)) (λ t. rw t (omega arith))

signed12 : (x : ℕ) → Signed 12 x → x < 2 ^ 32
signed12 x e = rw e at (word 12 x (omega arith))

signed13 : (x : ℕ) → Signed 13 x → x < 2 ^ 32
signed13 x e = rw e at (word 13 x (omega arith))

signed21 : (x : ℕ) → Signed 21 x → x < 2 ^ 32
signed21 x e = rw e at (word 21 x (omega arith))

full : (n : ℕ) → Full n → n < 2 ^ 32
full n h = omega arith

eight : (n : ℕ) → n < 16 → n < 2 ^ 32
eight n h = omega arith

upper : (x : ℕ) → upper_of x < 2 ^ 32
upper x = word 20 (x / 2 ^ 12 % 2 ^ 20) (omega arith)

named_fit : (n : ℕ) (s : Shape) → Fit s → Fit (named n s)
named_fit n s p = by_test (ltb n 16) (λ t. rw t p) (λ t. rw t (fit0 255))

addi_fit : (rd value : ℕ) → Full rd → Signed 12 value → Fit (addi_shape rd value)
addi_fit rd value h e =
    let v = signed12 value e in
    by_test (eqb rd 0)
    (λ t. rw t (by_test (eqb value 0) (λ u. rw u (fit0 90)) (λ u. rw u (fit1 90 value v))))
    (λ t. rw t (fit2 91 rd value (full rd h) v))

ruleset fits = (named_fit, fit3, fit2, fit1, fit0, signed12, signed13, signed21, full, eight)

short_fit : (s : ShortForm) → Fields s → Fit (short_shape s)
unfolding short_shape Fields
short_fit (Addi4spn rd value) h = search fits
short_fit (Lw rd rs1 offset) h = search fits
short_fit (Ld rd rs1 offset) h = search fits
short_fit (Sw rs1 rs2 offset) h = search fits
short_fit (Sd rs1 rs2 offset) h = search fits
short_fit (Addi rd value) h = named_fit rd _ (addi_fit rd value h.0 h.1)
short_fit (Jal offset) h = search fits
short_fit (Li rd value) h = search fits
short_fit (Addi16sp value) h = search fits
short_fit (Lui rd value) h = named_fit rd _ (fit2 95 rd (upper_of value) (full rd h.0) (upper value))
short_fit (Srli rd shamt) h = search fits
short_fit (Srai rd shamt) h = search fits
short_fit (Andi rd value) h = search fits
short_fit (Sub rd rs2) h = search fits
short_fit (Xor rd rs2) h = search fits
short_fit (Or rd rs2) h = search fits
short_fit (And rd rs2) h = search fits
short_fit (J offset) h = search fits
short_fit (Beqz rs1 offset) h = search fits
short_fit (Bnez rs1 offset) h = search fits
short_fit (Slli rd shamt) h = search fits
short_fit (Lwsp rd offset) h = search fits
short_fit (Ldsp rd offset) h = search fits
short_fit (Jr rs1) h = search fits
short_fit (Mv rd rs2) h = search fits
short_fit Ebreak h = search fits
short_fit (Jalr rs1) h = search fits
short_fit (Add rd rs2) h = search fits
short_fit (Swsp rs2 offset) h = search fits
short_fit (Sdsp rs2 offset) h = search fits
short_fit NoForm h = search fits

pub half_fit : (h : ℕ) → Fit (short_shape (short_of h))
half_fit h = short_fit (short_of h) (short_fields h)

-- a word, long or short, has a row exactly where the machine's decoder takes it
pub legal_row : (w : ℕ) → ltb (shape_of w).row row_count ≡ is_legal (instruction_of w)
unfolding shape_of instruction_of listed
legal_row w =
    by_test (eqb (w % 4) 3)
    (λ t. rw t (long_good w).legal)
    (λ t. rw t (short_legal (short_of w) ∙ sym (half_legal w)))
