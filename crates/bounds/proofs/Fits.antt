-- The alignment mask and the representable length of any length are words. Assumes nothing.
use Rattle.std.proofs.Common.{ℕ, ◌^◌, ◌<◌, arith, pow_pos}
use Rattle.bounds.specs.Cutting.{cut_exponent}
use Rattle.bounds.specs.Lengths.{alignment_mask, representable_length}

pub alignment_mask_word : (length : ℕ) → alignment_mask length < 2 ^ 32
unfolding alignment_mask
alignment_mask_word length = omega (arith, pow_pos (cut_exponent 0 length))

pub representable_length_word : (length : ℕ) → representable_length length < 2 ^ 32
unfolding representable_length
representable_length_word length = omega arith
