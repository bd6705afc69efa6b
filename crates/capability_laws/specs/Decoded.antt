-- A metadata word decompressed and compressed again. The report, Appendix A, encCapabilityToCapability and capToEncCap.
-- Assumes nothing.
use Rattle.std.specs.Prelude.{ℕ}
use Rattle.metadata.specs.Word.{reserved_of, scale_of, top_of, base_of, word_of}
use Rattle.metadata.specs.Rights.{word_rights, code_of}
use Rattle.bounds.specs.Bounds.{exponent_of}
use Rattle.bounds.specs.Cutting.{scale_field}
use Rattle.capability.specs.Capability.{capability}
use Rattle.capability.specs.Sealing.{object_type}

-- the twelve rights, the 4-bit type and the exponent stand for the stored fields
pub record Decoded : Type 0 where
  pub reserved : ℕ
  pub rights : ℕ
  pub otype : ℕ
  pub exponent : ℕ
  pub top : ℕ
  pub base : ℕ

unfoldable pub decompress_of : (metadata : ℕ) → Decoded
decompress_of w =
    record {
      reserved = reserved_of w;
      rights = word_rights w;
      otype = object_type (capability 0 w 0);
      exponent = exponent_of (scale_of w);
      top = top_of w;
      base = base_of w;
    }

-- of the 4-bit type the three low bits are stored: `word_of` takes these
unfoldable pub compress_of : Decoded → ℕ
compress_of d =
    word_of (record {
      reserved = d.reserved;
      permissions = code_of d.rights;
      otype = d.otype;
      scale = scale_field d.exponent;
      top = d.top;
      base = d.base;
    })
