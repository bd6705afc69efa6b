-- mstatus. Document 01, "What is lent": two of its bits mean something, the others stay as they were lent. RISC-V privileged standard. Assumes nothing.
use Rattle.std.specs.Prelude.{ℕ}
use Rattle.words.specs.Words.{with_bit}
use Rattle.metadata.specs.Rights.{bit}

abbrev pub MIE : ℕ
MIE = 3

abbrev pub MPIE : ℕ
MPIE = 7

-- trap entry: MPIE := MIE, MIE := 0
unfoldable pub trap_status : (mstatus : ℕ) → ℕ
trap_status m = with_bit (with_bit m MPIE (bit m MIE)) MIE 0

-- MRET: MIE := MPIE, MPIE := 1
unfoldable pub return_status : (mstatus : ℕ) → ℕ
return_status m = with_bit (with_bit m MIE (bit m MPIE)) MPIE 1

-- a CSR instruction's write: the two bits take the new word's
unfoldable pub written_status : (mstatus word : ℕ) → ℕ
written_status m w = with_bit (with_bit m MIE (bit w MIE)) MPIE (bit w MPIE)
