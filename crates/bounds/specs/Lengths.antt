-- CRepresentableAlignmentMask and CRoundRepresentableLength. CHERIoT report, 9.4 and Appendix A, getRepresentableAlignmentMask and getRepresentableLength.
-- Assumes nothing.
use Rattle.std.specs.Prelude.{ℕ, ◌-◌, ◌%◌, ◌^◌}
use Rattle.bounds.specs.Cutting.{cut_exponent, round_up}

-- ones above the exponent of the cut of [0, length)
unfoldable pub alignment_mask : (length : ℕ) → ℕ
alignment_mask length = 2 ^ 32 - 2 ^ cut_exponent 0 length

-- the length rounded up to that alignment; 0 where that is 2^32
unfoldable pub representable_length : (length : ℕ) → ℕ
representable_length length = round_up (cut_exponent 0 length) length % 2 ^ 32
