-- What the claim shuts out: what wrong machines would leave of the worked start, each with a tagged capability that reaches past all that was held.
-- And what it does not: who may unseal, and what a load loses. Assumes nothing.
use mathlib.Core.Path.{◌≡◌, refl}
use mathlib.Core.Bool.{true}
use Prim.Native.Nat.{ℕ, ◌≤◌}
use native.Mathlib.Omega.{arith}
use lib.Dec.{T, leb, ltb, leb→le, ltb→lt}
use Rattle.words.specs.Words.{le_bytes, set_bytes, bit_at}
use Rattle.metadata.specs.Word.{scale_of, top_of, base_of, with_type}
use Rattle.bounds.specs.Bounds.{exponent_of, high_of, high_at}
use Rattle.capability.specs.Capability.{capability, high, tagged}
use Rattle.capability.specs.Sealing.{with_object_type}
use Rattle.capability.specs.declared.Capability.{Capability}
use Rattle.state.specs.Layout.{pcc_index}
use Rattle.state.specs.Registers.{capability_at, set_capability, write_register}
use Rattle.short_forms.specs.Standing.{long_bytes}
use Rattle.state.specs.Lent.{State, state}
use Rattle.state.specs.Memory.{capability_in}
use Rattle.state.specs.Checks.{environment_call}
use Rattle.state.specs.declared.Effect.TheVariants.{Write}
use Rattle.state.specs.Marks.{cleared, below_mark, marked}
use Rattle.state.specs.Timer.{time_of, ticked}
use Rattle.commit.specs.Commit.{advanced, trapped, stored, apply_effect}
use Rattle.authority_laws.specs.Gain.{in_register, in_granule, Held, NoGain}
use Rattle.authority_laws.specs.Worked.{code, room, kept, no_handler, no_sealed, no_stored, worked}
use Rattle.authority_laws.proofs.Operations.{From, keep_from, type_from}
use Rattle.authority_laws.proofs.Tests.{if_tagged, holding}

-- nothing held at the start reaches past memory
abbrev top : ℕ
top = 0x20000040

held_below : (c : Capability) → Held worked c → high c ≤ top
unfolding if_tagged worked set_capability set_bytes le_bytes bit_at capability_at capability_in tagged high high_at high_of exponent_of scale_of top_of
    base_of
held_below c k = leb→le (high c) top (holding (λ d. leb (high d) top) worked (tt, tt) c k)

-- so no state with something that does is one without gain
module _ (a : State) (c : Capability) (held : Held a c) (past : T (ltb top (high c))) where
  shut_out : NoGain worked a → ⊥
  shut_out g =
      let d = g.derived c held in
      omega (arith, ltb→lt top (high c) past, d.is_inside.region.to, held_below d.origin d.is_held)

-- ---- wrong machines

-- a value that is written to c2
abbrev written : Capability → State
written c = apply_effect 0x20000000 long_bytes (Write 2 c) worked

module _ (c : Capability) (set : c.tag ≡ 1) where
  held_in_c2 : Held (written c) c
  unfolding worked apply_effect ticked time_of below_mark marked cleared write_register advanced set_capability capability_at
  held_in_c2 = record { stands = in_register 2 (omega arith) refl; is_tagged = set }

-- a move that keeps the tag though the bounds change: c1 to 0x20000200
abbrev moved : Capability
moved = capability 0x20000200 room.metadata room.tag

pub loose_move_shut_out : NoGain worked (written moved) → ⊥
unfolding high high_at high_of exponent_of scale_of top_of base_of
loose_move_shut_out = shut_out (written moved) moved (held_in_c2 moved refl) tt

-- a load that takes bytes for a capability without their tag: granule 5
abbrev loaded : Capability
loaded = capability no_stored.address no_stored.metadata 1

pub untagged_load_shut_out : NoGain worked (written loaded) → ⊥
unfolding high high_at high_of exponent_of scale_of top_of base_of
untagged_load_shut_out = shut_out (written loaded) loaded (held_in_c2 loaded refl) tt

-- an unseal that gives an untagged value a tag: c4
abbrev opened : Capability
opened = capability no_sealed.address (with_type no_sealed.metadata 0) 1

pub untagged_unseal_shut_out : NoGain worked (written opened) → ⊥
unfolding with_type high high_at high_of exponent_of scale_of top_of base_of
untagged_unseal_shut_out = shut_out (written opened) opened (held_in_c2 opened refl) tt

-- a trap's entry that leaves PCC's old tag on what comes from MTCC
abbrev entered : Capability
entered = capability no_handler.address no_handler.metadata code.tag

abbrev stale : State
stale = state (set_capability (trapped worked.regs environment_call 0) pcc_index entered) worked.mem worked.tags

pub stale_tag_shut_out : NoGain worked stale → ⊥
unfolding worked trapped set_capability capability_at high high_at high_of exponent_of scale_of top_of base_of
stale_tag_shut_out = shut_out stale entered (record { stands = in_register pcc_index (omega arith) refl; is_tagged = refl }) tt

-- a store of a byte that leaves its granule's tag: the second byte of what granule 1 holds
abbrev altered : Capability
altered = capability 0x20000218 kept.metadata kept.tag

abbrev overwritten : State
overwritten = state (advanced long_bytes worked.regs) (stored worked.mem 1 9 2) worked.tags

pub kept_tag_shut_out : NoGain worked overwritten → ⊥
unfolding worked stored set_capability set_bytes le_bytes bit_at capability_in high high_at high_of exponent_of scale_of top_of base_of
kept_tag_shut_out = shut_out overwritten altered (record { stands = in_granule 1 (omega arith) refl; is_tagged = refl }) tt

-- ---- what it leaves to the definitions

-- what an unseal without any authority would give comes from the sealed capability, which counts with its own bounds and rights
pub unasked_unseal : (c : Capability) → From c (with_object_type c 0)
unasked_unseal c = type_from c 0

-- and what a load without any loss would give from what stood in memory
pub lossless_load : (c : Capability) → From c c
lossless_load c = keep_from true c
