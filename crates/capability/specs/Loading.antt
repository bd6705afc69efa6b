-- What a capability loses as it is loaded. Document 01, "Loading capabilities"; CHERIoT report, 9.4 (CLC). Assumes nothing.
use Rattle.std.specs.Prelude.{Bool, cond, not, ◌&&◌, ◌||◌, ℕ, ◌-◌, ◌^◌}
use Rattle.metadata.specs.Rights.{GL, LG, SD, LM, MC, US, SE, U0, all_rights, narrow_word}
use Rattle.capability.specs.Capability.{capability, grants, sealed, tagged}
use Rattle.capability.specs.declared.Capability.{Capability}

-- all rights but two
abbrev pub without : (j k : ℕ) → ℕ
without j k = all_rights - 2 ^ j - 2 ^ k

-- the rights of a value narrowed to a mask where the test passes; address and tag stay
abbrev pub loses_if : Bool → (mask : ℕ) → Capability → Capability
loses_if b mask v = capability v.address (cond b (narrow_word v.metadata mask) v.metadata) v.tag

-- an authority that lacks LG takes GL and LG of a tagged value
unfoldable pub lose_global : (authority value : Capability) → Capability
lose_global a v = loses_if (tagged v && not (grants a LG)) (without GL LG) v

-- one that lacks LM takes SD and LM of a tagged value that is not sealed
unfoldable pub lose_mutable : (authority value : Capability) → Capability
lose_mutable a v = loses_if (tagged v && (not (grants a LM) && not (sealed v))) (without SD LM) v

-- one that lacks MC takes the tag
unfoldable pub lose_tag : (authority value : Capability) → Capability
lose_tag a v = capability v.address v.metadata (cond (grants a MC) v.tag 0)

-- the three losses, in that order
unfoldable pub loaded_of : (authority value : Capability) → Capability
loaded_of a v = lose_tag a (lose_mutable a (lose_global a v))

-- the values that the revocation test is for: tagged, and with no right to seal or unseal nor the user's own (CLC's isSealingCap; document 02, 4)
unfoldable pub revocable : Capability → Bool
revocable v = tagged v && not ((grants v SE || grants v US) || grants v U0)
