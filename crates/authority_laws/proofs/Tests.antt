-- Whether a state can start is a computed test of what stands in it and of its elements. Assumes nothing.
use mathlib.Core.Bool.{Bool, not, ◌&&◌, ◌||◌}
use mathlib.Core.List.{List, [], ◌∷◌}
use Prim.Native.Nat.{ℕ, zero, suc, ◌*◌, ◌/◌, ◌^◌, ◌<◌}
use borrow.Author.Tests.{eq-eqb}
use lib.Dec.{T, leb, ltb, leb→le, ltb→lt}
use lib.ListN.{get_or, length}
use Rattle.choices.proofs.Every.{and_left, and_right, every, every_at}
use Rattle.capability.specs.Capability.{low, high, tagged}
use Rattle.capability.specs.declared.Capability.{Capability}
use Rattle.state.specs.Layout.{capability_count}
use Rattle.state.specs.Registers.{capability_at}
use Rattle.state.specs.Lent.{State}
use Rattle.state.specs.Memory.{capability_in, granule_bytes}
use Rattle.authority_laws.specs.Gain.{Stands, in_register, in_granule, Held, SoundState, Start}

-- each capability of the register file passes, and each of memory
abbrev pub register_test : (Capability → Bool) → State → ℕ → Bool
register_test f s i = f (capability_at s.regs i)

abbrev pub granule_test : (Capability → Bool) → State → ℕ → Bool
granule_test f s g = f (capability_in s.mem s.tags (g * granule_bytes))

abbrev pub Passes : (Capability → Bool) → State → Type 0
Passes f s = T (every (register_test f s) capability_count) × T (every (granule_test f s) (length s.mem / granule_bytes))

pub standing : (f : Capability → Bool) (s : State) → Passes f s → (c : Capability) → Stands s c → T (f c)
standing f s t c (in_register i l q) = rw q (every_at (register_test f s) capability_count t.0 i l)
standing f s t c (in_granule g l q) = rw q (every_at (granule_test f s) (length s.mem / granule_bytes) t.1 g l)

-- each that is tagged there passes
unfoldable pub if_tagged : (Capability → Bool) → Capability → Bool
if_tagged f c = not (tagged c) || f c

pub holding : (f : Capability → Bool) (s : State) → Passes (if_tagged f) s → (c : Capability) → Held s c → T (f c)
unfolding if_tagged tagged
holding f s t c k = rw (eq-eqb c.tag 1 k.is_tagged) at (standing (if_tagged f) s t c k.stands)

abbrev pub sound_test : Capability → Bool
sound_test c = leb (low c) (high c) && leb (high c) (2 ^ 32)

-- each element is less
unfoldable pub below : ℕ → List ℕ → Bool
below n [] = ltb 0 n
below n (x ∷ xs) = ltb x n && below n xs

below_at : (n : ℕ) (l : List ℕ) → T (below n l) → (i : ℕ) → get_or l i 0 < n
unfolding below
below_at n [] t i = ltb→lt 0 n t
below_at n (x ∷ xs) t zero = ltb→lt x n (and_left (ltb x n) (below n xs) t)
below_at n (x ∷ xs) t (suc i) = below_at n xs (and_right (ltb x n) (below n xs) t) i

module _ (s : State) where
  tested_sound : Passes (if_tagged sound_test) s → SoundState s
  tested_sound t c k =
      let h = holding sound_test s t c k in
      record {
        order = leb→le (low c) (high c) (and_left (leb (low c) (high c)) (leb (high c) (2 ^ 32)) h);
        top = leb→le (high c) (2 ^ 32) (and_right (leb (low c) (high c)) (leb (high c) (2 ^ 32)) h);
      }

  pub tested_start : Passes (if_tagged sound_test) s → T (below (2 ^ 32) s.regs) → T (below 256 s.mem) → T (below 256 s.tags) → Start s
  tested_start h r m t =
      record {
        in_type = record { registers_in = below_at (2 ^ 32) s.regs r; memory_in = below_at 256 s.mem m; tags_in = below_at 256 s.tags t };
        sound = tested_sound h;
      }
