-- What is listed of any word, long or short: its operands fit, the word made of it is the chosen one, and all encodings of one instruction are listed
-- alike and are that instruction.
use Rattle.std.proofs.Common.{◌≡◌, ℕ, ◌+◌, ◌/◌, ◌%◌, ◌^◌, ◌<◌, false, eqb, sym, refl, ◌∙◌, arith, eq-eqb, ne_eqb, eqb-true}
use borrow.Author.Tests.{eqb-false}
use Rattle.words.proofs.Word.{by_test}
use Rattle.instructions.specs.Fields.{opcode, funct3, upper12}
use Rattle.instructions.specs.Decode.{fence_of, decode_of}
use Rattle.instructions.specs.declared.SystemInstruction.TheVariants.{Fence}
use Rattle.instructions.specs.declared.Instruction.TheVariants.{System}
use Rattle.forms.specs.Rows.{fence_shape, system_shape, instruction_shape}
use Rattle.forms.specs.Shapes.{pred_of, succ_of, is_tso}
use Rattle.forms.specs.ShortShapes.{shape_of, instruction_of, Word}
use Rattle.forms.specs.Encoding.{place_f, chosen_fence, chosen, restored}
use Rattle.forms.proofs.Back.{long_good}
use Rattle.forms.proofs.Fit.{Fit}
use Rattle.forms.proofs.Halves.{half_again}
use Rattle.forms.proofs.Legal.{half_fit}

not_fence : (w : ℕ) → (w % 4 ≡ 3 → ⊥) → opcode w ≡ 0x0f → ⊥
not_fence w n e = n (omega arith)

pub short_chosen : (w : ℕ) → (w % 4 ≡ 3 → ⊥) → w ≡ chosen w
unfolding chosen
short_chosen w n = rw (ne_eqb (opcode w) 0x0f (not_fence w n)) refl

-- the word made of what is listed is the chosen one
pub listed_again : (w : ℕ) → Word w → restored w (shape_of w) ≡ chosen w
unfolding shape_of
listed_again w h =
    by_test (eqb (w % 4) 3)
    (λ t. rw t ((long_good w).again h.fits))
    (λ t.
    let n = eqb-false (w % 4) 3 t in
    rw t (half_again w (h.short n) ∙ short_chosen w n))

pub shape_fit : (w : ℕ) → Fit (shape_of w)
unfolding shape_of
shape_fit w = by_test (eqb (w % 4) 3) (λ t. rw t (long_good w).fit) (λ t. rw t (half_fit w))

-- FENCE and FENCE.TSO
decodes_fence : (w : ℕ) → opcode w ≡ 0x0f → funct3 w ≡ 0 → decode_of w ≡ System Fence
unfolding decode_of fence_of
decodes_fence w o f = rw (o, f) refl

long_fence : (w : ℕ) → opcode w ≡ 0x0f → w % 4 ≡ 3
long_fence w o = omega arith

fence_shape_lem : (w : ℕ) → opcode w ≡ 0x0f → funct3 w ≡ 0 → shape_of w ≡ fence_shape w
unfolding shape_of instruction_shape system_shape
fence_shape_lem w o f = rw (eq-eqb (w % 4) 3 (long_fence w o), decodes_fence w o f) refl

fence_instruction : (w : ℕ) → opcode w ≡ 0x0f → funct3 w ≡ 0 → instruction_of w ≡ System Fence
unfolding instruction_of
fence_instruction w o f = rw (eq-eqb (w % 4) 3 (long_fence w o)) (decodes_fence w o f)

-- the chosen word: listed alike, the same instruction, of the same length, a word
pub record Settles (w v : ℕ) : Type 0 where
  pub alike : shape_of v ≡ shape_of w
  pub same : instruction_of v ≡ instruction_of w
  pub low : v % 4 ≡ w % 4
  pub fits : v < 2 ^ 32

-- of a fence, a word that is one too and has the same shape
settled : (w v : ℕ) → opcode w ≡ 0x0f → funct3 w ≡ 0 → opcode v ≡ 0x0f → funct3 v ≡ 0 → v < 2 ^ 32 → fence_shape v ≡ fence_shape w → Settles w v
settled w v o f m n h e =
    record {
      alike = fence_shape_lem v m n ∙ e ∙ sym (fence_shape_lem w o f);
      same = fence_instruction v m n ∙ sym (fence_instruction w o f);
      low = omega arith;
      fits = h;
    }

fenced : (w : ℕ) → opcode w ≡ 0x0f → funct3 w ≡ 0 → Settles w (chosen_fence w)
fenced w o f = by_test (is_tso w) (λ t. rw t (settled w 0x8330000f o f refl refl (omega arith) (rw t refl))) (λ t. rw t (plain t))
  where
    plain : is_tso w ≡ false → Settles w (0x0f + place_f (w / 2 ^ 24) (w / 2 ^ 20))
    plain t =
        let v = 0x0f + place_f (w / 2 ^ 24) (w / 2 ^ 20) in
        let p : pred_of v ≡ pred_of w = omega arith in
        let q : succ_of v ≡ succ_of w = omega arith in
        let u : is_tso v ≡ false = ne_eqb (upper12 v) 0x833 (λ e. omega arith) in
        settled w v o f (omega arith) (omega arith) (omega arith) (rw (t, u, p, q) refl)

pub chosen_settles : (w : ℕ) → w < 2 ^ 32 → Settles w (chosen w)
unfolding chosen
chosen_settles w h =
    by_test (eqb (opcode w) 0x0f)
    (λ t. by_test (eqb (funct3 w) 0) (λ u. rw (t, u) (fenced w (eqb-true (opcode w) 0x0f t) (eqb-true (funct3 w) 0 u))) (λ u. rw (t, u) (plain w h)))
    (λ t. rw t (plain w h))
  where
    plain : (x : ℕ) → x < 2 ^ 32 → Settles x x
    plain x g = record { alike = refl; same = refl; low = refl; fits = g }
