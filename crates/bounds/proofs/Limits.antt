-- Limits of the bounds, and what a cut leaves of a metadata word. Assumes nothing.
use Rattle.std.proofs.Common.{◌≡◌, ℕ, ◌^◌, ◌<◌, refl, arith}
use Rattle.metadata.specs.Word.{reserved_of, permissions_of, type_of, scale_of, top_of, base_of}
use Rattle.metadata.proofs.Words.{type_of_bounds, permissions_of_bounds, scale_of_bounds, top_of_bounds, base_of_bounds, bounds_word}
use Rattle.metadata.proofs.Joined.{reserved_of_bounds}
use Rattle.bounds.specs.Bounds.{low_of, high_of, low_at, high_at, bounds_of}
use Rattle.bounds.specs.Cutting.{cut_exponent, scale_field, cut_top, cut_base, with_cut}
use Rattle.bounds.proofs.Program.{cut_field_lt, cut_top_lt, cut_base_lt}

-- a low bound is a word, a high bound a number of 33 bits
pub low_lt : (address w : ℕ) → low_at address w < 2 ^ 32
unfolding low_at low_of
low_lt address w = omega arith

pub high_lt : (address w : ℕ) → high_at address w < 2 ^ 33
unfolding high_at high_of
high_lt address w = omega arith

-- the two bounds together
pub bounds_are : (address w : ℕ) → bounds_of address w ≡ record { low = low_at address w; high = high_at address w }
unfolding bounds_of
bounds_are address w = refl

-- a cut changes only E, T and B
module _ (w base end : ℕ) where
  pub cut_word : w < 2 ^ 32 → with_cut w base end < 2 ^ 32
  unfolding with_cut
  cut_word h = bounds_word w _ _ _ (cut_field_lt base end) (cut_top_lt base end) (cut_base_lt base end) h

  pub type_of_cut : type_of (with_cut w base end) ≡ type_of w
  unfolding with_cut
  type_of_cut = type_of_bounds w _ _ _ (cut_field_lt base end) (cut_top_lt base end) (cut_base_lt base end)

  pub permissions_of_cut : permissions_of (with_cut w base end) ≡ permissions_of w
  unfolding with_cut
  permissions_of_cut = permissions_of_bounds w _ _ _ (cut_field_lt base end) (cut_top_lt base end) (cut_base_lt base end)

  pub reserved_of_cut : reserved_of (with_cut w base end) ≡ reserved_of w
  unfolding with_cut
  reserved_of_cut = reserved_of_bounds w _ _ _ (cut_field_lt base end) (cut_top_lt base end) (cut_base_lt base end)

  pub scale_of_cut : scale_of (with_cut w base end) ≡ scale_field (cut_exponent base end)
  unfolding with_cut
  scale_of_cut = scale_of_bounds w _ _ _ (cut_field_lt base end) (cut_top_lt base end) (cut_base_lt base end)

  pub top_of_cut : top_of (with_cut w base end) ≡ cut_top base end
  unfolding with_cut
  top_of_cut = top_of_bounds w _ _ _ (cut_field_lt base end) (cut_top_lt base end) (cut_base_lt base end)

  pub base_of_cut : base_of (with_cut w base end) ≡ cut_base base end
  unfolding with_cut
  base_of_cut = base_of_bounds w _ _ _ (cut_field_lt base end) (cut_top_lt base end) (cut_base_lt base end)
