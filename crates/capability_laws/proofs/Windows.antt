-- The bounds that CSetBounds leaves, and the addresses at which they stay: the first 512 units from the low bound, or all at exponent 24. Assumes nothing.
use mathlib.Core.Path.{◌≡◌}
use mathlib.Core.Logic.{◌⊎◌, inl, inr, ◌↔◌}
use mathlib.Core.Bool.{true}
use Prim.Native.Nat.{ℕ, ◌+◌, ◌*◌, ◌/◌, ◌%◌, ◌^◌, ◌≤◌, ◌<◌}
use native.Mathlib.Nat.{div-lt_iff_lt-mul, le-div_iff_mul-le}
use native.Mathlib.Omega.{arith}
use lib.Pow.{pow_pos, pow-add}
use Rattle.bounds.specs.Bounds.{low_at, high_at}
use Rattle.bounds.specs.Cutting.{floor_at, cut_exponent, cut_base, cut_top, cut_low, cut_high}
use Rattle.bounds.proofs.Rounding.{floor_ge}
use Rattle.bounds.proofs.Exponent.{Exponent, cut_exponent_lem, exponent_le}
use Rattle.bounds.proofs.Program.{cut_base_lt, cut_top_lt}
use Rattle.bounds.proofs.Decode.{block_of}
use Rattle.bounds.proofs.Blocks.{Same, same_block, few_same, block_of_same}
use Rattle.capability.specs.Capability.{low, high, same_bounds, set_bounds_of}
use Rattle.capability.specs.declared.Capability.{Capability}
use Rattle.capability_laws.proofs.Tests.{both_equal}
use Rattle.bounds.proofs.Limits.{top_of_cut, base_of_cut}
use Rattle.capability_laws.proofs.Region.{cut_exponent_again, cut_low_lem, low_any, high_any}

-- ---- the bounds after CSetBounds

module _ (c : Capability) (n : ℕ) (word : c.address < 2 ^ 32) (sane : c.address + n ≤ 2 ^ 32) where
  start≤end : c.address ≤ c.address + n
  start≤end = omega arith

  pub set_low : low (set_bounds_of c n) ≡ cut_low c.address (c.address + n)
  unfolding low set_bounds_of
  set_low = low_any c.address (c.address + n) word start≤end sane c.metadata

  pub set_high : high (set_bounds_of c n) ≡ cut_high c.address (c.address + n)
  unfolding high set_bounds_of
  set_high = high_any c.address (c.address + n) word start≤end sane c.metadata

-- ---- the addresses at which a cut's bounds stay

-- an address in unit q is in the block of the cut whose base is unit p, where at most 511 units lie between them
in_block : (p q : ℕ) → (block_of q (p % 512) ≡ block_of p (p % 512)) ↔ ((p ≤ q) × (q < p + 512))
in_block p q = (λ h. omega arith, λ h. omega arith)

module _ (base end a : ℕ) (word : base < 2 ^ 32) (order : base ≤ end) (sane : end ≤ 2 ^ 32) (new : a < 2 ^ 32) where
  -- the first 512 units from the cut's low
  window : ((cut_low base end ≤ a) × (a < cut_low base end + 2 ^ (cut_exponent base end + 9)))
      ↔ (block_of (a / 2 ^ cut_exponent base end) (cut_base base end) ≡ block_of (base / 2 ^ cut_exponent base end) (cut_base base end))
  unfolding cut_base floor_at
  window =
      let e : ℕ = cut_exponent base end in
      let l : cut_low base end ≡ base / 2 ^ e * 2 ^ e = cut_low_lem base end word order sane in
      let s = in_block (base / 2 ^ e) (a / 2 ^ e) in
      rw (l, pow-add 2 e 9) (
        λ h. s.1 (floor_ge a (base / 2 ^ e) (pow_pos e) h.0, (div-lt_iff_lt-mul (pow_pos e)).1 (omega (arith, h.1))),
        λ h. ((le-div_iff_mul-le (pow_pos e)).0 (s.0 h).0, omega (arith, (div-lt_iff_lt-mul (pow_pos e)).0 (s.0 h).1)),
      )

  pub stays : (cut_exponent base end ≡ 24) ⊎ ((cut_low base end ≤ a) × (a < cut_low base end + 2 ^ (cut_exponent base end + 9)))
      → Same (cut_exponent base end) (cut_top base end) (cut_base base end) base a
  stays (inl z) = rw z (few_same (cut_top base end) (cut_base base end) base a (cut_top_lt base end) (cut_base_lt base end) word new)
  stays (inr w) =
      same_block (cut_exponent base end) (cut_top base end) (cut_base base end) base a (exponent_le (cut_exponent_lem base end)) (cut_base_lt base end)
      (window.0 w)

  pub stayed : Exponent (cut_exponent base end) → Same (cut_exponent base end) (cut_top base end) (cut_base base end) base a
      → (cut_exponent base end ≡ 24) ⊎ ((cut_low base end ≤ a) × (a < cut_low base end + 2 ^ (cut_exponent base end + 9)))
  stayed (inl x) s =
      inr (window.1
      (block_of_same (cut_exponent base end) (cut_top base end) (cut_base base end) base a x (cut_top_lt base end) (cut_base_lt base end) word new s))
  stayed (inr z) s = inl z

-- the test of a move, of what CSetBounds gives
pub same_of_cut : (c : Capability) (n a : ℕ)
    → (same_bounds (set_bounds_of c n) a ≡ true)
    ↔ Same (cut_exponent c.address (c.address + n)) (cut_top c.address (c.address + n)) (cut_base c.address (c.address + n)) c.address a
unfolding same_bounds low high set_bounds_of low_at high_at
same_of_cut c n a =
    let b : ℕ = c.address in
    let w : ℕ = c.metadata in
    rw (cut_exponent_again b (b + n) w, top_of_cut w b (b + n), base_of_cut w b (b + n)) (both_equal _ _ _ _)
