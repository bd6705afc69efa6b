-- The register file: where each word stands. Document 01, "What is lent"; document 02, 6. Every place follows from these counts. Assumes nothing.
use Rattle.std.specs.Prelude.{ℕ, ◌+◌, ◌*◌}
use Rattle.instructions.specs.declared.Csr.{Csr}
use Rattle.instructions.specs.declared.Csr.TheVariants.{Mstatus, Mcause, Mtval, Mshwm, Mshwmb}
use Rattle.instructions.specs.declared.Scr.{Scr}
use Rattle.instructions.specs.declared.Scr.TheVariants.{Mtcc, Mtdc, Mscratchc, Mepcc}

-- the words of a capability: address, metadata, tag
abbrev pub capability_words : ℕ
capability_words = 3

-- c0 to c15, then PCC and the four special registers
abbrev pub general_count : ℕ
general_count = 16

abbrev pub special_count : ℕ
special_count = 5

abbrev pub capability_count : ℕ
capability_count = general_count + special_count

-- mstatus, mcause, mtval, then the mark pair, mshwm and mshwmb
abbrev pub control_count : ℕ
control_count = 5

-- time and compare, each in two words, the low one first
abbrev pub timer_count : ℕ
timer_count = 4

-- the first word above the capabilities, and how many words there are
abbrev pub control_start : ℕ
control_start = capability_count * capability_words

abbrev pub register_words : ℕ
register_words = control_start + control_count + timer_count

-- the places of PCC and the special registers among the capabilities
abbrev pub pcc_index : ℕ
pcc_index = general_count

abbrev pub mtcc_index : ℕ
mtcc_index = general_count + 1

abbrev pub mtdc_index : ℕ
mtdc_index = general_count + 2

abbrev pub mscratchc_index : ℕ
mscratchc_index = general_count + 3

abbrev pub mepcc_index : ℕ
mepcc_index = general_count + 4

abbrev pub scr_index : Scr → ℕ
scr_index Mtcc = mtcc_index
scr_index Mtdc = mtdc_index
scr_index Mscratchc = mscratchc_index
scr_index Mepcc = mepcc_index

-- CHERIoT report, Table 7.2: the special registers' own numbers
abbrev pub scr_number : Scr → ℕ
scr_number Mtcc = 28
scr_number Mtdc = 29
scr_number Mscratchc = 30
scr_number Mepcc = 31

-- the places of the control words
abbrev pub csr_index : Csr → ℕ
csr_index Mstatus = control_start
csr_index Mcause = control_start + 1
csr_index Mtval = control_start + 2
csr_index Mshwm = control_start + 3
csr_index Mshwmb = control_start + 4

-- the places of the timer's low words; no instruction names one
abbrev pub time_index : ℕ
time_index = control_start + control_count

abbrev pub compare_index : ℕ
compare_index = time_index + 2
