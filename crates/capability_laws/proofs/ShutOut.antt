-- Which cutters cannot keep the promise of a cut: those that always answer the whole space, an empty region, one region, or a refusal.
-- Document 01, "Promises that pin the answer". The claim shows it of every request, two worked cases of one program. Assumes nothing.
use mathlib.Core.Path.{◌≡◌, ap, ◌∙◌}
use mathlib.Core.List.{List, [], ◌∷◌}
use Prim.Native.Nat.{ℕ, zero, suc, ◌+◌, ◌^◌, ◌≤◌, ◌<◌}
use native.Mathlib.Omega.{arith}
use lib.Dec.{T, eqb→eq}
use Rattle.choices.proofs.Every.{and_left, and_right}
use Rattle.bounds.specs.Bounds.{Expressible, Contains}
use Rattle.bounds.specs.Cutting.{cut_of, answer_number, answer_low, answer_high, CutPromise}
use Rattle.std.specs.Prelude.{Result, Err}
use Rattle.bounds.specs.declared.CutRegion.{CutRegion}
use Rattle.bounds.specs.declared.CutError.{CutError}
use Rattle.bounds.specs.declared.CutError.TheVariants.{PastEnd}
use Rattle.capability_laws.specs.Cases.{Case, bounds, rights, narrowed, cut, holds, all, cases}
use Rattle.capability_laws.proofs.Cases.{cases_hold}
use Rattle.capability_laws.proofs.Answers.{cut_claim}

-- the answer is [0, 2^32)
abbrev pub WholeSpace : Result CutRegion CutError → Type 0
WholeSpace a = (answer_low a ≡ 0) × (answer_high a ≡ 2 ^ 32)

-- ---- of every request that ends by 2^32

module _ (base n : ℕ) (word : base < 2 ^ 32) (sane : base + n ≤ 2 ^ 32) (a : Result CutRegion CutError) (promised : CutPromise base n a) where
  -- an empty region is answered only to an empty request
  pub empty_only : answer_high a ≤ answer_low a → n ≡ 0
  empty_only h = omega (arith, h, ((cut_claim base n word a promised).region sane).contains)

  -- the whole space is answered only where no smaller region is around the request
  pub whole_only : WholeSpace a → (low high : ℕ) → Expressible low high → Contains low high base (base + n) → (low ≡ 0) × (2 ^ 32 ≤ high)
  whole_only w low high r k =
      let c = ((cut_claim base n word a promised).region sane).least low high r k in
      (omega (arith, w.0, c), omega (arith, w.1, c))

-- ---- two worked cases

-- what a row of the table says of a cut
record Row (base n low high : ℕ) : Type 0 where
  number_is : answer_number (cut_of base n) ≡ 0
  low_at_lem : answer_low (cut_of base n) ≡ low
  high_at_lem : answer_high (cut_of base n) ≡ high

abbrev Says : Case → Type 0
Says (bounds w a l h) = Unit {0}
Says (rights w r) = Unit {0}
Says (narrowed w r k l) = Unit {0}
Says (cut b n l h e) = Row b n l h

says : (c : Case) → T (holds c) → Says c
unfolding holds
says (bounds w a l h) t = tt
says (rights w r) t = tt
says (narrowed w r k l) t = tt
says (cut b n l h e) t =
    record {
      number_is = eqb→eq (answer_number (cut_of b n)) 0 (search and_left);
      low_at_lem = eqb→eq (answer_low (cut_of b n)) l (search (and_left, and_right));
      high_at_lem = eqb→eq (answer_high (cut_of b n)) h (search (and_left, and_right));
    }

abbrev SaysAt : List Case → (i : ℕ) → Type 0
SaysAt [] i = Unit {0}
SaysAt (c ∷ cs) zero = Says c
SaysAt (c ∷ cs) (suc i) = SaysAt cs i

row_at : (cs : List Case) (i : ℕ) → T (all cs) → SaysAt cs i
unfolding all
row_at [] i h = tt
row_at (c ∷ cs) zero h = says c (and_left (holds c) (all cs) h)
row_at (c ∷ cs) (suc i) h = row_at cs i (and_right (holds c) (all cs) h)

row_511 : Row 0x20000001 511 0x20000001 0x20000200
unfolding cases
row_511 = row_at cases 6 cases_hold

row_512 : Row 0x20000001 512 0x20000000 0x20000202
unfolding cases
row_512 = row_at cases 7 cases_hold

-- ---- what no cutter that keeps the promise does

module _ (a b : Result CutRegion CutError) (asked-511 : CutPromise 0x20000001 511 a) (asked-512 : CutPromise 0x20000001 512 b) where
  low_511 : answer_low a ≡ 0x20000001
  low_511 = ap answer_low asked-511.answer_is ∙ row_511.low_at_lem

  high_511 : answer_high a ≡ 0x20000200
  high_511 = ap answer_high asked-511.answer_is ∙ row_511.high_at_lem

  low_512 : answer_low b ≡ 0x20000000
  low_512 = ap answer_low asked-512.answer_is ∙ row_512.low_at_lem

  high_512 : answer_high b ≡ 0x20000202
  high_512 = ap answer_high asked-512.answer_is ∙ row_512.high_at_lem

  -- the whole space: neither request gets it
  pub whole_space_shut_out : (WholeSpace a → ⊥) × (WholeSpace b → ⊥)
  whole_space_shut_out = (λ h. omega (arith, h.1, high_511), λ h. omega (arith, h.1, high_512))

  -- an empty region: neither does
  pub empty_region_shut_out : (answer_high a ≤ answer_low a → ⊥) × (answer_high b ≤ answer_low b → ⊥)
  empty_region_shut_out = (λ h. omega (arith, h, low_511, high_511), λ h. omega (arith, h, low_512, high_512))

  -- nor is any one region, low or high, that of both
  pub one_region_shut_out : (answer_low a ≡ answer_low b → ⊥) × (answer_high a ≡ answer_high b → ⊥)
  one_region_shut_out = (λ h. omega (arith, h, low_511, low_512), λ h. omega (arith, h, high_511, high_512))

  -- nor a refusal
  pub refusing_cut_shut_out : (a ≡ Err PastEnd → ⊥) × (b ≡ Err PastEnd → ⊥)
  refusing_cut_shut_out = (
    λ h. omega (arith, ap answer_number h, ap answer_number asked-511.answer_is, row_511.number_is),
    λ h. omega (arith, ap answer_number h, ap answer_number asked-512.answer_is, row_512.number_is),
  )
