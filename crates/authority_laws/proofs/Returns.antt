-- A step that meets no jump, an interrupt and a failed fetch among them, makes no return sentry: where none stands in registers and memory, none stands there
-- after it. Assumes nothing.
use mathlib.Core.Path.{refl}
use mathlib.Core.List.{List}
use Prim.Native.Nat.{ℕ, ◌*◌}
use native.Mathlib.Omega.{arith}
use lib.ListN.{length}
use Rattle.capability.specs.declared.Capability.{Capability}
use Rattle.state.specs.Registers.{capability_at}
use Rattle.state.specs.Lent.{State}
use Rattle.state.specs.Memory.{capability_in, granule_bytes}
use Rattle.state.specs.Effects.{EachCapability}
use Rattle.state.specs.declared.Board.{Board}
use Rattle.fetch.specs.declared.Fetched.TheVariants.{Long, Half}
use Rattle.execution.specs.Step.{instruction_in, word_in, length_in, trap_or, effect_in, seen, fetched_in, step_of}
use Rattle.machine_laws.specs.Editions.{NoJump}
use Rattle.machine_laws.specs.Fits.{InType}
use Rattle.machine_laws.specs.Lent.{GoodState}
use Rattle.authority_laws.specs.Gain.{in_register, in_granule}
use Rattle.authority_laws.specs.Returns.{ReturnSentry, NoReturns}
use Rattle.authority_laws.proofs.Closed.{Carried, Everywhere}
use Rattle.authority_laws.proofs.Effects.{other_carried}
use Rattle.authority_laws.proofs.Runs.{carried_keeps, at_granule, in_place}
use Rattle.fetch.specs.Fetch.{Met}
use Rattle.std.specs.Prelude.{Ok, Err}

abbrev NoReturn : Capability → Type 0
NoReturn c = ReturnSentry c → ⊥

no_return_carried : Carried NoReturn
no_return_carried =
    record { untagged = λ c z r. omega (arith, z, r.is_tagged); derived = λ m h r. h (m.of_return r) }

module _ (board : Board) (revoked : List ℕ) (s : State) (good : GoodState board revoked s) (t : InType s) where
  nowhere : NoReturns s → Everywhere NoReturn s
  nowhere h =
      record {
        registers =
            record { long = omega (arith, good.registers); file = λ i l. h (capability_at s.regs i) (in_register i l refl) };
        memory = λ i w. h (capability_in s.mem s.tags i) (in_place s i w);
      }

  ended : (a : State) → Everywhere NoReturn a → NoReturns a
  ended a e c (in_register i l q) = rw q (e.registers.file i l)
  ended a e c (in_granule g l q) = rw q (e.memory (g * granule_bytes) (at_granule (length a.mem) g l))

  -- what is met is no jump: another instruction, or none at all
  pub only_jumps_make : NoJump (instruction_in (fetched_in board s)) → NoReturns s → NoReturns (step_of board revoked s)
  unfolding effect_in trap_or instruction_in
  only_jumps_make other h =
      let e = nowhere h in
      ended (step_of board revoked s) (carried_keeps NoReturn no_return_carried board revoked s good t (met (fetched_in board s) other e) e)
    where
      met : (f : Met) → NoJump (instruction_in f) → Everywhere NoReturn s → EachCapability NoReturn (effect_in f s.regs (seen board revoked s))
      met (Err trap) n e = tt
      met (Ok (Long w)) n e =
          other_carried NoReturn no_return_carried s.regs (record { words = t.registers_in; tags = good.words.tag_words }) e.registers
          (seen board revoked s) good.memory.start_aligned e.memory (length_in (Ok (Long w))) (instruction_in (Ok (Long w))) (word_in (Ok (Long w))) n
      met (Ok (Half w)) n e =
          other_carried NoReturn no_return_carried s.regs (record { words = t.registers_in; tags = good.words.tag_words }) e.registers
          (seen board revoked s) good.memory.start_aligned e.memory (length_in (Ok (Half w))) (instruction_in (Ok (Half w))) (word_in (Ok (Half w))) n
