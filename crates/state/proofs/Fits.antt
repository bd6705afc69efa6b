-- What is read from good registers and bytes is good, a check's trap writes words, and mstatus stays a word. Assumes nothing.
use Rattle.std.proofs.Common.{ℕ, ◌+◌, ◌*◌, ◌/◌, ◌%◌, ◌^◌, ◌<◌, eqb, List, div-mul-le_self, arith}
use Rattle.words.specs.Words.{Bytes, with_bit}
use Rattle.words.proofs.Bytes.{le_bytes_lt}
use Rattle.words.proofs.Fits.{with_bit_lt}
use Rattle.capability.specs.declared.Capability.{Capability}
use Rattle.capability.proofs.Laws.{move_good}
use Rattle.capability.specs.Capability.{Good, capability}
use Rattle.instructions.specs.Range.{Word}
use Rattle.instructions.specs.declared.Csr.{Csr}
use Rattle.state.specs.Layout.{capability_words, general_count, capability_count, pcc_index, csr_index}
use Rattle.state.specs.Registers.{capability_at, register_at, integer_at, pcc_of, csr_at}
use Rattle.state.specs.Addresses.{legalized}
use Rattle.state.specs.Status.{MIE, MPIE, trap_status, return_status, written_status}
use Rattle.state.specs.Memory.{capability_in}
use Rattle.state.specs.Checks.{checked, capability_trap}
use Rattle.state.specs.Fits.{FitsRegisters, FitsEffect}
use Rattle.state.specs.declared.Effect.{Effect}
use Rattle.state.proofs.Laws.{cond_holds, capability_in_tag}

-- ---- effects

pub checked_fits : (r cause : ℕ) (e : Effect) → FitsEffect e → FitsEffect (checked r cause e)
unfolding checked
checked_fits r cause e h = cond_holds FitsEffect (eqb cause 0) e (capability_trap r cause) h (tt, (omega arith, omega arith))

-- ---- what is read

module _ (regs : List ℕ) (h : FitsRegisters regs) where
  pub capability_fits : (i : ℕ) → i < capability_count → Good (capability_at regs i)
  unfolding capability_at
  capability_fits i l =
      record { address_fits = h.words (i * capability_words); metadata_fits = h.words (i * capability_words + 1); tag_fits = omega (arith, h.tags i l) }

  pub register_fits : (r : ℕ) → Good (register_at regs r)
  register_fits r = capability_fits (r % general_count) (omega arith)

  pub pcc_fits : Good (pcc_of regs)
  pcc_fits = capability_fits pcc_index (omega arith)

  pub integer_fits : (r : ℕ) → Word (integer_at regs r)
  unfolding integer_at
  integer_fits r = h.words (r % general_count * capability_words)

  pub csr_fits : (csr : Csr) → Word (csr_at regs csr)
  csr_fits csr = h.words (csr_index csr)

pub capability_in_fits : (mem tags : List ℕ) (i : ℕ) → Bytes mem → Good (capability_in mem tags i)
unfolding capability_in
capability_in_fits mem tags i b =
    record { address_fits = le_bytes_lt 4 mem i b; metadata_fits = le_bytes_lt 4 mem (i + 4) b; tag_fits = omega (arith, capability_in_tag mem tags i) }

-- ---- what is written

placed_good : (c : Capability) (a : ℕ) → Good c → a < 2 ^ 32 → Good (capability a c.metadata c.tag)
placed_good c a g h = record { address_fits = h; metadata_fits = g.metadata_fits; tag_fits = g.tag_fits }

-- whether the tag is kept by a rule or stays: that it follows the address-move rule is the functions' own answer
pub legalized_fits : (unit : ℕ) (c : Capability) → Good c → Good (legalized unit c)
unfolding legalized
legalized_fits unit c g =
    let cut : c.address / unit * unit < 2 ^ 32 = omega (arith, div-mul-le_self c.address unit, g.address_fits) in
    search (move_good, placed_good, g, cut)

-- mstatus with another MIE, MPIE or both
pub mie_fits : (m v : ℕ) → Word m → Word (with_bit m MIE v)
mie_fits m v h = with_bit_lt 32 m MIE v h (omega arith)

mpie_fits : (m v : ℕ) → Word m → Word (with_bit m MPIE v)
mpie_fits m v h = with_bit_lt 32 m MPIE v h (omega arith)

module _ (m : ℕ) (h : Word m) where
  pub trap_status_fits : Word (trap_status m)
  unfolding trap_status
  trap_status_fits = mie_fits _ _ (mpie_fits m _ h)

  pub return_status_fits : Word (return_status m)
  unfolding return_status
  return_status_fits = mpie_fits _ _ (mie_fits m _ h)

  pub written_status_fits : (w : ℕ) → Word (written_status m w)
  unfolding written_status
  written_status_fits w = mpie_fits _ _ (mie_fits m _ h)
