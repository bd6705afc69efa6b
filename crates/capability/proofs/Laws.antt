-- What every call leaves: no cleared tag is set again, and words stay words. Assumes nothing.
use mathlib.Core.Path.{◌≡◌, refl}
use mathlib.Core.Logic.{◌⊎◌, inl, inr}
use mathlib.Core.Bool.{Bool, true, false, cond, not, ◌&&◌}
use Prim.Native.Nat.{ℕ, ◌+◌, ◌%◌, ◌^◌, ◌≤◌, ◌<◌}
use native.Mathlib.Omega.{arith}
use lib.Dec.{eqb}
use Rattle.metadata.specs.Word.{type_of}
use Rattle.metadata.specs.Rights.{narrow_word, GL, LG, SD, LM, MC, EX, US, SE}
use Rattle.metadata.proofs.Words.{type_lt, type_word}
use Rattle.metadata.proofs.Narrowed.{word_rights_lt, narrow_word_lem}
use Rattle.bounds.specs.Cutting.{unrounded}
use Rattle.bounds.proofs.Limits as limits
use Rattle.capability.specs.declared.Capability.{Capability}
use Rattle.capability.specs.Capability.{Good, integer, low, high, rights, sealed, unsealed, grants, tagged, covers, same_bounds}
use Rattle.capability.specs.Capability.{clear_tag, move_of, set_bounds_of, set_bounds_exact_of, narrow_of}
use Rattle.capability.specs.Sealing.{data_types, object_type, authorizes, permitted_type, with_object_type, global_mask, seal_of, unseal_of}
use Rattle.capability.specs.Loading.{lose_global, lose_mutable, lose_tag, loaded_of, without, revocable}

-- ---- limits

pub low_lt : (c : Capability) → low c < 2 ^ 32
unfolding low
low_lt c = limits.low_lt c.address c.metadata

pub high_lt : (c : Capability) → high c < 2 ^ 33
unfolding high
high_lt c = limits.high_lt c.address c.metadata

pub rights_lt : (c : Capability) → rights c < 4096
unfolding rights
rights_lt c = word_rights_lt c.metadata

either_lt : (t : Bool) (a b n : ℕ) → a < n → b < n → cond t a b < n
either_lt true a b n h k = h
either_lt false a b n h k = k

pub object_type_lt : (c : Capability) → object_type c < 16
unfolding object_type
object_type_lt c =
    either_lt (sealed c && not (grants c EX)) (data_types + type_of c.metadata) (type_of c.metadata) 16 (omega (arith, type_lt c.metadata))
    (omega (arith, type_lt c.metadata))

-- ---- tags

-- the tag is the old one, or cleared
abbrev pub Kept : (old new : ℕ) → Type 0
Kept old new = (new ≡ old) ⊎ (new ≡ 0)

pub kept : (t : Bool) (tag : ℕ) → Kept tag (cond t tag 0)
kept true tag = inl refl
kept false tag = inr refl

pub kept_le : {old new : ℕ} → Kept old new → new ≤ old
kept_le (inl e) = omega arith
kept_le (inr e) = omega arith

pub clear_kept : (c : Capability) → Kept c.tag (clear_tag c).tag
unfolding clear_tag
clear_kept c = inr refl

pub move_kept : (c : Capability) (a : ℕ) → Kept c.tag (move_of c a).tag
unfolding move_of
move_kept c a = kept (unsealed c && same_bounds c a) c.tag

pub set_bounds_kept : (c : Capability) (n : ℕ) → Kept c.tag (set_bounds_of c n).tag
unfolding set_bounds_of
set_bounds_kept c n = kept (unsealed c && covers c c.address (c.address + n)) c.tag

pub set_bounds_exact_kept : (c : Capability) (n : ℕ) → Kept c.tag (set_bounds_exact_of c n).tag
unfolding set_bounds_exact_of
set_bounds_exact_kept c n =
    kept (unsealed c && (covers c c.address (c.address + n) && unrounded c.address (c.address + n))) c.tag

pub narrow_kept : (c : Capability) (mask : ℕ) → Kept c.tag (narrow_of c mask).tag
unfolding narrow_of
narrow_kept c mask = kept (unsealed c) c.tag

pub seal_kept : (c a : Capability) → Kept c.tag (seal_of c a).tag
unfolding seal_of
seal_kept c a = kept (not (sealed c) && (authorizes a SE && permitted_type c a.address)) c.tag

pub unseal_kept : (c a : Capability) → Kept c.tag (unseal_of c a).tag
unfolding unseal_of
unseal_kept c a = kept (sealed c && (authorizes a US && eqb a.address (object_type c))) c.tag

pub type_kept : (c : Capability) (t : ℕ) → Kept c.tag (with_object_type c t).tag
unfolding with_object_type
type_kept c t = inl refl

pub loaded_kept : (a v : Capability) → Kept v.tag (loaded_of a v).tag
unfolding loaded_of lose_tag lose_mutable lose_global
loaded_kept a v = kept (grants a MC) v.tag

-- ---- words

-- a call whose address and metadata are words, with the tag kept or cleared, leaves a good capability
good : (c d : Capability) → Good c → d.address < 2 ^ 32 → d.metadata < 2 ^ 32 → Kept c.tag d.tag → Good d
good c d g a m k = record { address_fits = a; metadata_fits = m; tag_fits = omega (arith, kept_le k, g.tag_fits) }

pub integer_good : (x : ℕ) → x < 2 ^ 32 → Good (integer x)
integer_good x h = record { address_fits = h; metadata_fits = omega arith; tag_fits = omega arith }

pub clear_good : (c : Capability) → Good c → Good (clear_tag c)
unfolding clear_tag
clear_good c g = good c (clear_tag c) g g.address_fits g.metadata_fits (clear_kept c)

pub move_good : (c : Capability) (a : ℕ) → Good c → a < 2 ^ 32 → Good (move_of c a)
unfolding move_of
move_good c a g h = good c (move_of c a) g h g.metadata_fits (move_kept c a)

pub set_bounds_good : (c : Capability) (n : ℕ) → Good c → Good (set_bounds_of c n)
unfolding set_bounds_of
set_bounds_good c n g =
    good c (set_bounds_of c n) g g.address_fits (limits.cut_word c.metadata c.address (c.address + n) g.metadata_fits) (set_bounds_kept c n)

pub set_bounds_exact_good : (c : Capability) (n : ℕ) → Good c → Good (set_bounds_exact_of c n)
unfolding set_bounds_exact_of
set_bounds_exact_good c n g =
    good c (set_bounds_exact_of c n) g g.address_fits (limits.cut_word c.metadata c.address (c.address + n) g.metadata_fits)
    (set_bounds_exact_kept c n)

pub narrow_good : (c : Capability) (mask : ℕ) → Good c → Good (narrow_of c mask)
unfolding narrow_of
narrow_good c mask g = good c (narrow_of c mask) g g.address_fits (narrow_word_lem c.metadata mask g.metadata_fits) (narrow_kept c mask)

pub type_good : (c : Capability) (t : ℕ) → Good c → Good (with_object_type c t)
unfolding with_object_type
type_good c t g = good c (with_object_type c t) g g.address_fits (type_word c.metadata (t % 2 ^ 3) g.metadata_fits (omega arith)) (type_kept c t)

pub seal_good : (c a : Capability) → Good c → Good (seal_of c a)
unfolding seal_of
seal_good c a g =
    good c (seal_of c a) g g.address_fits (type_word c.metadata (a.address % 2 ^ 3) g.metadata_fits (omega arith)) (seal_kept c a)

pub unseal_good : (c a : Capability) → Good c → Good (unseal_of c a)
unfolding unseal_of
unseal_good c a g =
    good c (unseal_of c a) g g.address_fits
    (type_word (narrow_word c.metadata (global_mask a)) 0 (narrow_word_lem c.metadata (global_mask a) g.metadata_fits) (omega arith)) (unseal_kept c a)

narrowed_word : (t : Bool) (w m : ℕ) → w < 2 ^ 32 → cond t (narrow_word w m) w < 2 ^ 32
narrowed_word t w m h = either_lt t (narrow_word w m) w (2 ^ 32) (narrow_word_lem w m h) h

global_word : (a v : Capability) → Good v → (lose_global a v).metadata < 2 ^ 32
unfolding lose_global
global_word a v g = narrowed_word (tagged v && not (grants a LG)) v.metadata (without GL LG) g.metadata_fits

global_address : (a v : Capability) → Good v → (lose_global a v).address < 2 ^ 32
unfolding lose_global
global_address a v g = g.address_fits

pub loaded_good : (a v : Capability) → Good v → Good (loaded_of a v)
unfolding loaded_of lose_tag lose_mutable
loaded_good a v g =
    let u = lose_global a v in
    let lost = tagged u && (not (grants a LM) && not (sealed u)) in
    good v (loaded_of a v) g (global_address a v g) (narrowed_word lost u.metadata (without SD LM) (global_word a v g)) (loaded_kept a v)

-- ---- revocation

-- the test is for what is tagged
pub untagged_spared : (v : Capability) → v.tag ≡ 0 → revocable v ≡ false
unfolding revocable tagged
untagged_spared v h = rw h
