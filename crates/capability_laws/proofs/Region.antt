-- The cut of a request is the least region that the encoding can express around it, once over the exponent. At the exponent of any region around
-- the request the request fits; so the cut's exponent, the least that fits, rounds it no further out than that region's ends.
-- Assumes nothing.
use mathlib.Core.Path.{◌≡◌, refl, sym, ◌∙◌}
use mathlib.Core.Logic.{inl, inr, ◌↔◌}
use mathlib.Core.Bool.{true}
use Prim.Native.Nat.{ℕ, ◌+◌, ◌-◌, ◌*◌, ◌/◌, ◌%◌, ◌^◌, ◌≤◌, ◌<◌}
use native.Mathlib.Nat.{div-mul-le_self, eq-zero-or-pos, le_of_mul-le-mul_right, mul-le-mul_right, le_trans, le_refl}
use native.Mathlib.Omega.{arith}
use borrow.Author.Tests.{leb-true, le-leb}
use lib.Pow.{pow_pos}
use Rattle.metadata.specs.Word.{scale_of, top_of, base_of}
use Rattle.metadata.proofs.Words.{scale_lt, top_lt, base_lt}
use Rattle.bounds.specs.Bounds.{less, low_of, high_of, low_at, high_at, exponent_of, Expressible, Contains}
use Rattle.bounds.specs.Cutting.{floor_at, ceil_at, round_down, round_up, fits_at, cut_exponent, cut_base, cut_top, with_cut, unrounded, cut_low, cut_high}
use Rattle.bounds.specs.Cutting.{cut_exact}
use Rattle.bounds.proofs.Rounding.{floor_ge, ceil_ge, ceil_le, floor_nest, ceil_nest, pow_split}
use Rattle.bounds.proofs.Exponent.{Exponent, exponent_of_lem, exponent_of_field, exponent_le, cut_exponent_lem, IsLeast, least}
use Rattle.bounds.proofs.Program.{test}
use Rattle.bounds.proofs.Decode.{whole_space, unit_below, many, Units, block_of, units_many, units_few, low_at_lem, high_at_lem, own_low, own_high}
use Rattle.bounds.proofs.Limits.{scale_of_cut, top_of_cut, base_of_cut, cut_word}

-- ---- the bounds in units of 2^e

pub units_of : (e T B a : ℕ) → Exponent e → T < 512 → B < 512 → a < 2 ^ 32 → Units (2 ^ (32 - e)) (block_of (a / 2 ^ e) B) T B (less T B)
units_of e T B a (inl x) hT hB ha =
    let k = many e x in
    let (i, j, c, d, (f, _)) = units_many (2 ^ (23 - e)) (a / 2 ^ e) T B _ (rw k at (unit_below (inl x) ha)) hT hB (test _ _) (eq-zero-or-pos _) in
    rw k (i, j, c, d, f)
units_of e T B a (inr x) hT hB ha =
    let (c, d, f) = units_few (a / 2 ^ 24) T B _ (omega arith) hT hB (test _ _) (eq-zero-or-pos _) in
    rw x (B % 256, T, c, d, f)

-- ---- a region of exponent e around a request: the request, rounded at e, is within 511 units, and lies inside the region

record Around (e lo hi base end : ℕ) : Type 0 where
  near : ceil_at e end ≤ floor_at e base + 511
  from : lo ≤ round_down e base
  to : round_up e end ≤ hi

around : (e T B a base end : ℕ) → Exponent e → T < 512 → B < 512 → a < 2 ^ 32 → end ≤ 2 ^ 32 → low_of e B a ≤ base → end ≤ high_of e T B a
    → Around e (low_of e B a) (high_of e T B a) base end
unfolding floor_at ceil_at
around e T B a base end x hT hB ha top hl hh =
    let (i, j, c, d, f) = units_of e T B a x hT hB ha in
    let li : low_of e B a ≡ i * 2 ^ e = low_at_lem e B a (2 ^ (32 - e)) c i (exponent_le x) hB (whole_space x) f.in_space f.starts in
    let hj : high_of e T B a ≡ j * 2 ^ e = high_at_lem e T B a (2 ^ (32 - e)) d j (exponent_le x) hB (whole_space x) f.in_twice f.ends in
    let fi : i ≤ base / 2 ^ e = floor_ge base i (pow_pos e) (rw (← li) hl) in
    let cj : (end + (2 ^ e - 1)) / 2 ^ e ≤ j = ceil_le end j (pow_pos e) (rw (← hj) hh) in
    let ck : (end + (2 ^ e - 1)) / 2 ^ e ≤ 2 ^ (32 - e) = ceil_le end (2 ^ (32 - e)) (pow_pos e) (rw (whole_space x) top) in
    record {
      near = omega (arith, f.near _ cj ck);
      from = rw li (mul-le-mul_right (2 ^ e) fi);
      to = rw hj (mul-le-mul_right (2 ^ e) cj);
    }

-- ---- what fits

pub fits_of : (base end e : ℕ) → ceil_at e end ≤ floor_at e base + 511 → fits_at base end e ≡ true
unfolding fits_at
fits_of base end e h = le-leb (round_up e end) (round_down e base + 511 * 2 ^ e) (omega (arith, mul-le-mul_right (2 ^ e) h))

pub of_fits : (base end e : ℕ) → fits_at base end e ≡ true → ceil_at e end ≤ floor_at e base + 511
unfolding fits_at
of_fits base end e h =
    let l : ceil_at e end * 2 ^ e ≤ (floor_at e base + 511) * 2 ^ e = omega (arith, leb-true (round_up e end) (round_down e base + 511 * 2 ^ e) h) in
    le_of_mul-le-mul_right l (pow_pos e)

pub ceil_space : (e end : ℕ) → Exponent e → end ≤ 2 ^ 32 → ceil_at e end ≤ 2 ^ (32 - e)
unfolding ceil_at
ceil_space e end x top = ceil_le end (2 ^ (32 - e)) (pow_pos e) (rw (whole_space x) top)

-- the exponent of the cut's own field E, of every request, past 2^32 too
pub cut_exponent_again : (base end w : ℕ) → exponent_of (scale_of (with_cut w base end)) ≡ cut_exponent base end
cut_exponent_again base end w = rw (scale_of_cut w base end) (exponent_of_field (cut_exponent base end) (cut_exponent_lem base end))

-- ---- a request [base, end) in the address space

module _ (base end : ℕ) (word : base < 2 ^ 32) (order : base ≤ end) (top : end ≤ 2 ^ 32) where
  -- of all exponents that fit
  pub cut_least_exponent : IsLeast base end (cut_exponent base end)
  cut_least_exponent = least base end (fits_of base end 24 (omega (arith, ceil_space 24 end (inr refl) top)))

  pub down≤ : (e : ℕ) → round_down e base ≤ base
  unfolding floor_at
  down≤ e = div-mul-le_self base (2 ^ e)

  pub ≤up : (e : ℕ) → end ≤ round_up e end
  unfolding ceil_at
  ≤up e = ceil_ge end (pow_pos e)

  floor≤ceil : (e : ℕ) → floor_at e base ≤ ceil_at e end
  floor≤ceil e = le_of_mul-le-mul_right {k = 2 ^ e} (omega (arith, down≤ e, ≤up e)) (pow_pos e)

  -- the fields of the rounded ends, at address base, decode to the rounded ends
  own_decode : (e : ℕ) → Exponent e → fits_at base end e ≡ true
      → (low_of e (floor_at e base % 512) base ≡ round_down e base) × (high_of e (ceil_at e end % 512) (floor_at e base % 512) base ≡ round_up e end)
  unfolding floor_at
  own_decode e x h = (
    own_low e base (2 ^ (32 - e)) (exponent_le x) (whole_space x) (unit_below x word),
    own_high e base (2 ^ (32 - e)) (ceil_at e end) (exponent_le x) (whole_space x) (floor≤ceil e) (of_fits base end e h)
        (omega (arith, ceil_space e end x top, pow_pos (32 - e))),
  )

  cut_decode : (low_of (cut_exponent base end) (cut_base base end) base ≡ round_down (cut_exponent base end) base)
      × (high_of (cut_exponent base end) (cut_top base end) (cut_base base end) base ≡ round_up (cut_exponent base end) end)
  unfolding cut_base cut_top
  cut_decode = own_decode (cut_exponent base end) (cut_exponent_lem base end) cut_least_exponent.is_fit

  -- so does the word with the cut's fields, whatever its upper bits
  pub low_of_cut : (w : ℕ) → low_at base (with_cut w base end) ≡ round_down (cut_exponent base end) base
  unfolding low_at
  low_of_cut w = rw (cut_exponent_again base end w, base_of_cut w base end) cut_decode.0

  pub high_of_cut : (w : ℕ) → high_at base (with_cut w base end) ≡ round_up (cut_exponent base end) end
  unfolding high_at
  high_of_cut w = rw (cut_exponent_again base end w, top_of_cut w base end, base_of_cut w base end) cut_decode.1

  pub cut_low_lem : cut_low base end ≡ round_down (cut_exponent base end) base
  unfolding cut_low
  cut_low_lem = low_of_cut 0

  pub cut_high_lem : cut_high base end ≡ round_up (cut_exponent base end) end
  unfolding cut_high
  cut_high_lem = high_of_cut 0

  -- the cut's region does not depend on the word that it was cut from
  pub low_any : (w : ℕ) → low_at base (with_cut w base end) ≡ cut_low base end
  low_any w = low_of_cut w ∙ sym cut_low_lem

  pub high_any : (w : ℕ) → high_at base (with_cut w base end) ≡ cut_high base end
  high_any w = high_of_cut w ∙ sym cut_high_lem

  pub cut_expressible : Expressible (cut_low base end) (cut_high base end)
  unfolding cut_low cut_high
  cut_expressible =
      record {
        metadata = with_cut 0 base end;
        address = base;
        metadata_fits = cut_word 0 base end (omega arith);
        address_fits = word;
        low_is = refl;
        high_is = refl;
      }

  pub cut_contains : Contains (cut_low base end) (cut_high base end) base end
  cut_contains = record { from = rw cut_low_lem (down≤ _); to = rw cut_high_lem (≤up _) }

  pub cut_in_space : cut_high base end ≤ 2 ^ 32
  cut_in_space =
      let x = cut_exponent_lem base end in
      rw cut_high_lem (omega (arith, mul-le-mul_right (2 ^ cut_exponent base end) (ceil_space _ end x top), whole_space x))

  -- every region of some fields at some address that contains the request contains the cut; wrapped and empty ones are no exception
  inside_fields : (e T B a : ℕ) → Exponent e → T < 512 → B < 512 → a < 2 ^ 32 → low_of e B a ≤ base → end ≤ high_of e T B a
      → Contains (low_of e B a) (high_of e T B a) (cut_low base end) (cut_high base end)
  unfolding floor_at ceil_at
  inside_fields e T B a x hT hB ha hl hh =
      let r = around e T B a base end x hT hB ha top hl hh in
      let s = pow_split (cut_least_exponent.is_least e x (fits_of base end e r.near)) in
      record {
        from = rw cut_low_lem (le_trans r.from (floor_nest base _ (pow_pos (cut_exponent base end)) s));
        to = rw cut_high_lem (le_trans (ceil_nest end _ (pow_pos e) (pow_pos (cut_exponent base end)) s) r.to);
      }

  pub cut_inside : (a w : ℕ) → a < 2 ^ 32 → Contains (low_at a w) (high_at a w) base end → Contains (low_at a w) (high_at a w) (cut_low base end)
      (cut_high base end)
  unfolding low_at high_at
  cut_inside a w ha k =
      inside_fields (exponent_of (scale_of w)) (top_of w) (base_of w) a (exponent_of_lem (scale_of w) (scale_lt w)) (top_lt w) (base_lt w) ha k.from k.to

  pub cut_least : (lo hi : ℕ) → Expressible lo hi → Contains lo hi base end → Contains lo hi (cut_low base end) (cut_high base end)
  cut_least lo hi r k = rw (r.low_is, r.high_is) (cut_inside r.address r.metadata r.address_fits (rw (r.low_is, r.high_is) at k))

  -- it is the request exactly where the encoding can express the request
  pub cut_exact_lem : ((cut_low base end ≡ base) × (cut_high base end ≡ end)) ↔ Expressible base end
  cut_exact_lem = (λ h. rw (h.0, h.1) at cut_expressible, back)
    where
      back : Expressible base end → (cut_low base end ≡ base) × (cut_high base end ≡ end)
      back r =
          let k = cut_least base end r (record { from = le_refl base; to = le_refl end }) in
          (omega (arith, k, cut_contains), omega (arith, k, cut_contains))

  -- what CSetBoundsExact asks of the rounding is what the cut's answer says of its bounds
  pub unrounded_exact : unrounded base end ≡ cut_exact base end
  unfolding unrounded cut_exact
  unrounded_exact = rw (cut_low_lem, cut_high_lem)
