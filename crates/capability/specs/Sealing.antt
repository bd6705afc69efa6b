-- Sealing and unsealing, and the types of sealed capabilities. CHERIoT report, 7.13.2, 9.4 (CSeal, CUnseal, CGetType) and Appendix A.
-- Assumes nothing.
use Rattle.std.specs.Prelude.{Bool, cond, not, ◌&&◌, ◌||◌, ℕ, ◌+◌, ◌-◌, ◌%◌, ◌^◌, eqb, leb, ltb}
use Rattle.metadata.specs.Word.{type_of, with_type}
use Rattle.metadata.specs.Rights.{GL, EX, SE, US, all_rights, narrow_word}
use Rattle.capability.specs.Capability.{capability, low, high, grants, sealed, tagged}
use Rattle.capability.specs.declared.Capability.{Capability}

-- what the type of data has beyond its three stored bits
abbrev pub data_types : ℕ
data_types = 8

-- the 4-bit type: the stored three bits, and 8 more where they are not 0 and the rights lack EX
unfoldable pub object_type : Capability → ℕ
object_type c = cond (sealed c && not (grants c EX)) (data_types + type_of c.metadata) (type_of c.metadata)

-- the types of sentries: 1 inherits, 2 disables and 3 enables interrupts
abbrev pub sentry : ℕ
sentry = 1

abbrev pub sentry_disabling : ℕ
sentry_disabling = 2

abbrev pub sentry_enabling : ℕ
sentry_enabling = 3

-- executable, with one of those types
unfoldable pub is_sentry : Capability → Bool
is_sentry c = grants c EX && (leb sentry (type_of c.metadata) && leb (type_of c.metadata) sentry_enabling)

-- the other types of code, and the types of data
abbrev pub first_code_type : ℕ
first_code_type = 6

abbrev pub last_code_type : ℕ
last_code_type = 7

abbrev pub first_data_type : ℕ
first_data_type = 9

abbrev pub last_data_type : ℕ
last_data_type = 15

-- the types that a capability may be sealed with: what may be executed those of sentries and of code, all else those of data
unfoldable pub permitted_type : Capability → (t : ℕ) → Bool
permitted_type c t =
    cond (grants c EX) ((leb sentry t && leb t sentry_enabling) || (leb first_code_type t && leb t last_code_type))
    (leb first_data_type t && leb t last_data_type)

-- the authority's own address lies in its bounds
unfoldable pub address_in_bounds : Capability → Bool
address_in_bounds c = leb (low c) c.address && ltb c.address (high c)

-- tagged, unsealed, with the right k, at an address in its bounds
unfoldable pub authorizes : Capability → (k : ℕ) → Bool
authorizes c k = tagged c && (not (sealed c) && (grants c k && address_in_bounds c))

-- another type, whatever is sealed: the three stored bits
unfoldable pub with_object_type : Capability → (t : ℕ) → Capability
with_object_type c t = capability c.address (with_type c.metadata (t % 2 ^ 3)) c.tag

-- CSeal: the type becomes the authority's address; the tag is kept only of an unsealed capability, by an authority with SE, at a type that fits
unfoldable pub seal_of : (c authority : Capability) → Capability
seal_of c a =
    capability c.address (with_type c.metadata (a.address % 2 ^ 3))
    (cond (not (sealed c) && (authorizes a SE && permitted_type c a.address)) c.tag 0)

-- all rights but GL, which both must have
unfoldable pub global_mask : (authority : Capability) → ℕ
global_mask a = cond (grants a GL) all_rights (all_rights - 2 ^ GL)

-- CUnseal: type 0, GL only if both have it; the tag is kept only of a sealed capability, by an authority with US whose address is its type
-- 7.13.2 asks for less of the authority, bounds that hold the type, and for more of the type, that it be none of the reserved 4 and 5. The
-- clause in 9.4 decides: the address is the type, and no type is shut out.
unfoldable pub unseal_of : (c authority : Capability) → Capability
unseal_of c a =
    capability c.address (with_type (narrow_word c.metadata (global_mask a)) 0)
    (cond (sealed c && (authorizes a US && eqb a.address (object_type c))) c.tag 0)
