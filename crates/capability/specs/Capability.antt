-- A capability as a register holds it, and the calls on it that change its address, bounds and rights.
-- Document 01, "Capability word", "Cutting bounds", "Lists of cuts, moves and narrowings". Assumes nothing.
use Rattle.std.specs.Prelude.{Bool, cond, not, ◌&&◌, ℕ, ◌+◌, ◌^◌, ◌<◌, eqb, leb}
use Rattle.metadata.specs.Word.{type_of}
use Rattle.metadata.specs.Rights.{has, word_rights, narrow_word}
use Rattle.bounds.specs.Bounds.{low_at, high_at}
use Rattle.bounds.specs.Cutting.{with_cut, unrounded}
use Rattle.capability.specs.declared.Capability.{Capability}

-- the capability of three words
abbrev pub capability : (address metadata tag : ℕ) → Capability
capability a m t = record { address = a; metadata = m; tag = t }

-- as a register of words holds it: address and metadata are words, and the tag is 0 or 1
pub record Good (c : Capability) : Type 0 where
  pub address_fits : c.address < 2 ^ 32
  pub metadata_fits : c.metadata < 2 ^ 32
  pub tag_fits : c.tag < 2

-- an integer result: no metadata, no tag; of 0 it is the NULL capability
abbrev pub integer : ℕ → Capability
integer x = capability x 0 0

unfoldable pub low : Capability → ℕ
low c = low_at c.address c.metadata

unfoldable pub high : Capability → ℕ
high c = high_at c.address c.metadata

unfoldable pub rights : Capability → ℕ
rights c = word_rights c.metadata

-- right k is among the capability's rights
abbrev pub grants : Capability → ℕ → Bool
grants c k = has (rights c) k

-- a type other than 0
unfoldable pub sealed : Capability → Bool
sealed c = not (eqb (type_of c.metadata) 0)

abbrev pub unsealed : Capability → Bool
unsealed c = eqb (type_of c.metadata) 0

unfoldable pub tagged : Capability → Bool
tagged c = eqb c.tag 1

-- the capability's region contains [base, end), in whole numbers
unfoldable pub covers : Capability → (base end : ℕ) → Bool
covers c base end = leb (low c) base && leb end (high c)

unfoldable pub clear_tag : Capability → Capability
clear_tag c = capability c.address c.metadata 0

-- the capability with its tag kept where the test passes, else cleared
abbrev pub keep_tag_if : Bool → Capability → Capability
keep_tag_if b c = capability c.address c.metadata (cond b c.tag 0)

-- both bounds are the same at another address
unfoldable pub same_bounds : Capability → (address : ℕ) → Bool
same_bounds c a = eqb (low_at a c.metadata) (low c) && eqb (high_at a c.metadata) (high c)

-- a move to another address: a sealed capability, and one whose bounds would change with it, lose the tag
unfoldable pub move_of : Capability → (address : ℕ) → Capability
move_of c a = capability a c.metadata (cond (unsealed c && same_bounds c a) c.tag 0)

-- CSetBounds, a cut to [address, address + length): the tag goes where the capability is sealed or does not cover the request, and in the
-- exact form also where the cut is not the request itself
abbrev pub cut_word : Capability → (length : ℕ) → ℕ
cut_word c n = with_cut c.metadata c.address (c.address + n)

unfoldable pub set_bounds_of : Capability → (length : ℕ) → Capability
set_bounds_of c n = capability c.address (cut_word c n) (cond (unsealed c && covers c c.address (c.address + n)) c.tag 0)

unfoldable pub set_bounds_exact_of : Capability → (length : ℕ) → Capability
set_bounds_exact_of c n =
    capability c.address (cut_word c n)
    (cond (unsealed c && (covers c c.address (c.address + n) && unrounded c.address (c.address + n))) c.tag 0)

-- narrowing, CAndPerm: the rights alone change, but that a sealed capability loses its tag (CHERIoT report, 9.4)
unfoldable pub narrow_of : Capability → (mask : ℕ) → Capability
narrow_of c mask = capability c.address (narrow_word c.metadata mask) (cond (unsealed c) c.tag 0)
