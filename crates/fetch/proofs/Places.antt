-- The code asks for four bytes of memory first, and for two where these are not there; it loads once. That comes to what the definition says.
use Rattle.std.proofs.Common.{◌≡◌, ℕ, ◌+◌, ◌-◌, ◌%◌, ◌^◌, ◌<◌, ◌≤◌, Bool, true, false, cond, leb, List, length, sym, refl, ap, ◌∙◌}
use Rattle.words.specs.Words.{le_bytes, Bytes}
use Rattle.capability.specs.declared.Capability.{Capability}
use Rattle.short_forms.specs.Standing.{half_bytes, long_bytes}
use Rattle.short_forms.proofs.Standing.{low_half}
use Rattle.state.specs.Checks.{fetch_fault}
use Rattle.state.specs.Memory.{place_of}
use Rattle.state.specs.declared.Place.TheVariants.{At, Misaligned, Outside}
use Rattle.state.proofs.Laws.{place_misaligned, place_below, place_from}
use Rattle.fetch.specs.Fetch.{stands_of, fetched_at}
use Rattle.fetch.specs.Fetch.{Met, fault}

module _ (pcc : Capability) (mem : List ℕ) where
  -- what is found from place i on, counted from memory's start
  abbrev pub found_from : ℕ → Met
  found_from i = cond (leb (i + half_bytes) (length mem)) (fetched_at (At i) pcc mem) (fault fetch_fault pcc.address)

  -- the first half in memory, and the second there or not: one load of four bytes gives both
  pub found_there : Bytes mem → (i word : ℕ) (inside : Bool) → word ≡ le_bytes long_bytes mem i → leb (i + long_bytes) (length mem) ≡ inside
      → leb (i + half_bytes) (length mem) ≡ true → stands_of pcc (word % 2 ^ 16) word inside ≡ found_from i
  unfolding fetched_at
  found_there b i word inside e t s = rw (s, e, t, low_half mem i b) refl

  pub found_outside : (i : ℕ) → leb (i + half_bytes) (length mem) ≡ false → fault fetch_fault pcc.address ≡ found_from i
  found_outside i s = rw s refl

  chosen : (b : Bool) (i : ℕ) → cond b (fetched_at (At i) pcc mem) (fault fetch_fault pcc.address) ≡ fetched_at (cond b (At i) Outside) pcc mem
  unfolding fetched_at
  chosen true i = refl
  chosen false i = refl

  module _ (start : ℕ) where
    -- the definition, by the place of PCC's address
    abbrev pub definition : Met
    definition = fetched_at (place_of start (length mem) pcc.address half_bytes) pcc mem

    pub found_misaligned : (pcc.address % half_bytes ≡ 0 → ⊥) → fetched_at Misaligned pcc mem ≡ definition
    found_misaligned n = rw (place_misaligned start (length mem) pcc.address half_bytes n) refl

    pub found_below : pcc.address % half_bytes ≡ 0 → pcc.address < start → fetched_at Outside pcc mem ≡ definition
    found_below e l = rw (place_below start (length mem) pcc.address half_bytes e l) refl

    pub found_from_lem : pcc.address % half_bytes ≡ 0 → start ≤ pcc.address → found_from (pcc.address - start) ≡ definition
    found_from_lem e l =
        chosen (leb (pcc.address - start + half_bytes) (length mem)) (pcc.address - start)
        ∙ ap (λ p. fetched_at p pcc mem) (sym (place_from start (length mem) pcc.address half_bytes e l))
