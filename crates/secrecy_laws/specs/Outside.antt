-- Hidden granules, what is held outside them, and two states that differ in them alone. Assumes nothing.
use Rattle.std.specs.Prelude.{Bool, true, false, ◌≡◌, ℕ, ◌+◌, ◌*◌, ◌/◌, ◌≤◌, ◌<◌, get_or, length}
use Rattle.words.specs.Words.{bit_at}
use Rattle.metadata.specs.Rights.{LD, Has}
use Rattle.capability.specs.Capability.{low, high, rights}
use Rattle.capability.specs.declared.Capability.{Capability}
use Rattle.capability_laws.specs.Authority.{Inside}
use Rattle.state.specs.Layout.{capability_count}
use Rattle.state.specs.Registers.{capability_at}
use Rattle.state.specs.Lent.{State}
use Rattle.state.specs.Memory.{capability_in, granule_bytes}
use Rattle.machine_laws.specs.Fits.{InType}
use Rattle.machine_laws.specs.Lent.{Sound}

-- c has the right to load and the address in its bounds; sealed or not, since what is sealed may be unsealed later. What may execute may load
-- (law `executes_loads`), so a fetch counts too.
pub record Reads (c : Capability) (address : ℕ) : Type 0 where
  pub loads : Has (rights c) LD
  pub from : low c ≤ address
  pub to : address < high c

-- ---- held outside

-- Some granules are hidden: a test of their numbers. Where a capability stands outside them: one of the twenty-one of the register file, or the bytes of
-- another granule with their tag. What stands in a hidden one is not counted: nothing can load it.
pub data StandsOutside (hidden : ℕ → Bool) (s : State) (c : Capability) : Type 0 where
  in_register : (i : ℕ) → i < capability_count → c ≡ capability_at s.regs i → StandsOutside hidden s c
  in_granule : (g : ℕ) → g < length s.mem / granule_bytes → hidden g ≡ false → c ≡ capability_in s.mem s.tags (g * granule_bytes)
      → StandsOutside hidden s c

-- it stands there with its tag set
pub record HeldOutside (hidden : ℕ → Bool) (s : State) (c : Capability) : Type 0 where
  pub stands : StandsOutside hidden s c
  pub is_tagged : c.tag ≡ 1

abbrev pub SoundOutside : (hidden : ℕ → Bool) → State → Type 0
SoundOutside hidden s = (c : Capability) → HeldOutside hidden s c → Sound c

-- where the theorem starts: as Start of AuthorityClaim, but that nothing is asked of what is held in hidden granules
pub record StartOutside (hidden : ℕ → Bool) (s : State) : Type 0 where
  pub in_type : InType s
  pub sound : SoundOutside hidden s

-- Nothing held outside may read a byte of a hidden granule of a memory from start on. A granule past memory's end counts where the test is true of it.
abbrev pub Unread : (hidden : ℕ → Bool) → State → (start : ℕ) → Type 0
Unread hidden s start = (c : Capability) → HeldOutside hidden s c → (i : ℕ) → hidden (i / granule_bytes) ≡ true → Reads c (start + i) → ⊥

-- all that is held outside after is derived from what was held outside before, and sound: nothing comes out of a hidden granule
pub record DerivedOutside (hidden : ℕ → Bool) (s : State) (c : Capability) : Type 0 where
  pub origin : Capability
  pub is_held : HeldOutside hidden s origin
  pub is_inside : Inside origin c

pub record NoGainOutside (hidden : ℕ → Bool) (before after : State) : Type 0 where
  pub derived : (c : Capability) → HeldOutside hidden after c → DerivedOutside hidden before c
  pub sound : SoundOutside hidden after

-- ---- two states

-- byte i is the same in both; the tag of granule g is, of states beside one another (`SameTag` of integrity: one after the other); all of granule g is
abbrev pub SameByte : (i : ℕ) → (a b : State) → Type 0
SameByte i a b = get_or a.mem i 0 ≡ get_or b.mem i 0

abbrev pub TagAlike : (g : ℕ) → (a b : State) → Type 0
TagAlike g a b = bit_at a.tags g ≡ bit_at b.tags g

pub record SameGranule (g : ℕ) (a b : State) : Type 0 where
  pub bytes : (i : ℕ) → i / granule_bytes ≡ g → SameByte i a b
  pub tag : TagAlike g a b

-- the registers are the same, and each byte and each tag of a granule that is not hidden
pub record Alike (hidden : ℕ → Bool) (a b : State) : Type 0 where
  pub same_registers : a.regs ≡ b.regs
  pub same_size : length a.mem ≡ length b.mem
  pub same_tag_size : length a.tags ≡ length b.tags
  pub same_byte : (i : ℕ) → hidden (i / granule_bytes) ≡ false → SameByte i a b
  pub same_tag : (g : ℕ) → hidden g ≡ false → TagAlike g a b

-- the tag of granule g is clear in both, or all of the granule is the same: either way its tag is (law `settled_tag`), and a sweep takes it of both or of none
pub data Settled (g : ℕ) (a b : State) : Type 0 where
  both_clear : bit_at a.tags g ≡ 0 → bit_at b.tags g ≡ 0 → Settled g a b
  all_same : SameGranule g a b → Settled g a b

-- What differs in x and y, which came of a and b, lies where a and b differed, hidden or not: a byte that was the same is, and so is a granule with its tag.
-- A tag is told of with its whole granule, or where it is clear, since a sweep takes it by the bytes beside it.
pub record WhereDiffered (a b x y : State) : Type 0 where
  pub byte : (i : ℕ) → SameByte i a b → SameByte i x y
  pub granule : (g : ℕ) → SameGranule g a b → SameGranule g x y
  pub settled : (g : ℕ) → Settled g a b → Settled g x y
