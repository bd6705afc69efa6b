-- No operation but the sealing of a link makes a return sentry: what another gives is one only where it was made of one. A law for each operation.
-- Assumes nothing.
use mathlib.Core.Path.{◌≡◌, refl, sym}
use mathlib.Core.Bool.{Bool, true, false, not, ◌&&◌, ◌||◌, true≢false}
use Prim.Native.Nat.{ℕ, ◌%◌, ◌^◌, ◌≤◌, ◌<◌}
use native.Mathlib.Omega.{arith}
use lib.Dec.{leb}
use borrow.Author.Tests.{eq-eqb}
use Rattle.metadata.specs.Word.{type_of}
use Rattle.metadata.specs.Rights.{EX, SE, GL, LG, SD, LM, MC, Has, word_rights, narrow_word}
use Rattle.metadata.proofs.Words.{type_of_type, permissions_of_type}
use Rattle.metadata.proofs.Narrowed.{type_of_narrow, narrow_inside}
use Rattle.bounds.proofs.Limits.{type_of_cut, permissions_of_cut}
use Rattle.capability.specs.Capability.{rights, grants, tagged, sealed, keep_tag_if, move_of}
use Rattle.capability.specs.Capability.{set_bounds_of, set_bounds_exact_of, narrow_of}
use Rattle.capability.specs.Sealing.{sentry, sentry_enabling, first_code_type, last_code_type, permitted_type, authorizes, with_object_type, seal_of, unseal_of}
use Rattle.capability.specs.Loading.{loses_if, without, lose_global, lose_mutable, lose_tag, loaded_of}
use Rattle.capability.specs.declared.Capability.{Capability}
use Rattle.capability_laws.proofs.Tests as tests
use Rattle.state.specs.Addresses.{legalized}
use Rattle.jump_instructions.specs.Report.{ReturnType, disabling, enabling}
use Rattle.authority_laws.specs.Returns.{ReturnSentry}
use Rattle.authority_laws.proofs.Operations.{From, from_both, keep_from, type_from, seal_from, unseal_from, narrow_from, loses_from, move_from}
use Rattle.authority_laws.proofs.Operations.{set_bounds_from, set_bounds_exact_from}

-- r comes from c, and is a return sentry only where c is one
pub record Made (c r : Capability) : Type 0 where
  pub from : From c r
  pub of_return : ReturnSentry r → ReturnSentry c

pub made_both : {a b c : Capability} → Made a b → Made b c → Made a c
made_both p q = record { from = from_both p.from q.from; of_return = λ h. p.of_return (q.of_return h) }

-- the same type, and no new right
alike : (c r : Capability) → From c r → type_of r.metadata ≡ type_of c.metadata → (Has (rights r) EX → Has (rights c) EX) → Made c r
alike c r f t e =
    record {
      from = f;
      of_return = λ h. record { is_tagged = f.of_tagged h.is_tagged; return_type = rw (← t) h.return_type; executable = e h.executable };
    }

-- no return sentry at all
never : (c r : Capability) → From c r → (ReturnSentry r → ⊥) → Made c r
never c r f n = record { from = f; of_return = λ h. absurd (n h) }

-- ---- the types of return sentries are 4 and 5

return_range : (t : ℕ) → ReturnType t → (4 ≤ t) × (t ≤ 5)
return_range _ disabling = (omega arith, omega arith)
return_range _ enabling = (omega arith, omega arith)

-- ---- a law for each operation

pub keep_made : (t : Bool) (c : Capability) → Made c (keep_tag_if t c)
unfolding rights
keep_made t c = alike c (keep_tag_if t c) (keep_from t c) refl (λ h. h)

pub move_made : (c : Capability) (a : ℕ) → Made c (move_of c a)
unfolding move_of rights
move_made c a = alike c (move_of c a) (move_from c a) refl (λ h. h)

pub legalized_made : (unit : ℕ) (c : Capability) → Made c (legalized unit c)
unfolding legalized
legalized_made unit c = move_made c _

pub narrow_made : (c : Capability) (mask : ℕ) → Made c (narrow_of c mask)
unfolding narrow_of rights
narrow_made c mask =
    alike c (narrow_of c mask) (narrow_from c mask) (type_of_narrow c.metadata mask) (λ h. omega (arith, h, narrow_inside c.metadata mask EX))

loses_made : (t : Bool) (mask : ℕ) (v : Capability) → Made v (loses_if t mask v)
unfolding rights
loses_made true mask v =
    alike v (loses_if true mask v) (loses_from true mask v) (type_of_narrow v.metadata mask) (λ h. omega (arith, h, narrow_inside v.metadata mask EX))
loses_made false mask v = alike v (loses_if false mask v) (loses_from false mask v) refl (λ h. h)

pub loaded_made : (a v : Capability) → Made v (loaded_of a v)
unfolding loaded_of lose_tag lose_mutable lose_global
loaded_made a v =
    let g = lose_global a v in
    let m = lose_mutable a g in
    made_both {b = g} (loses_made (tagged v && not (grants a LG)) (without GL LG) v)
    (made_both {b = m} (loses_made (tagged g && (not (grants a LM) && not (sealed g))) (without SD LM) g) (keep_made (grants a MC) m))

module _ (c : Capability) (n : ℕ) (word : c.address < 2 ^ 32) where
  pub set_bounds_made : Made c (set_bounds_of c n)
  unfolding set_bounds_of rights
  set_bounds_made =
      alike c (set_bounds_of c n) (set_bounds_from c n word) (type_of_cut c.metadata _ _)
      (λ h. rw (permissions_of_cut c.metadata _ _) at h)

  pub set_bounds_exact_made : Made c (set_bounds_exact_of c n)
  unfolding set_bounds_exact_of rights
  set_bounds_exact_made =
      alike c (set_bounds_exact_of c n) (set_bounds_exact_from c n word) (type_of_cut c.metadata _ _)
      (λ h. rw (permissions_of_cut c.metadata _ _) at h)

-- unsealed
of_type_0 : (c r : Capability) → From c r → type_of r.metadata ≡ 0 → Made c r
of_type_0 c r f z = never c r f (λ h. omega (arith, z, return_range (type_of r.metadata) h.return_type))

pub unsealed_made : (c : Capability) → Made c (with_object_type c 0)
unfolding with_object_type
unsealed_made c = of_type_0 c (with_object_type c 0) (type_from c 0) (type_of_type c.metadata 0 (omega arith))

pub unseal_made : (c a : Capability) → Made c (unseal_of c a)
unfolding unseal_of
unseal_made c a = of_type_0 c (unseal_of c a) (unseal_from c a) (type_of_type (narrow_word c.metadata _) 0 (omega arith))

-- CSeal gives what may be executed no type but 1, 2, 3, 6 and 7
code_type : (t : ℕ) → (leb sentry t && leb t sentry_enabling) || (leb first_code_type t && leb t last_code_type) ≡ true → ReturnType (t % 2 ^ 3) → ⊥
code_type t h r = go (leb sentry t && leb t sentry_enabling) refl (leb first_code_type t && leb t last_code_type) refl h
  where
    go : (a : Bool) → leb sentry t && leb t sentry_enabling ≡ a → (b : Bool) → leb first_code_type t && leb t last_code_type ≡ b → a || b ≡ true → ⊥
    go true p b q e = omega (arith, (tests.both_le sentry t t sentry_enabling).0 p, return_range (t % 2 ^ 3) r)
    go false p true q e = omega (arith, (tests.both_le first_code_type t t last_code_type).0 q, return_range (t % 2 ^ 3) r)
    go false p false q e = true≢false (sym e)

pub seal_made : (c a : Capability) → Made c (seal_of c a)
unfolding seal_of permitted_type rights
seal_made c a =
    never c (seal_of c a) (seal_from c a) (λ h.
    let t : ℕ = a.address in
    let s : t % 2 ^ 3 < 8 = omega arith in
    let k = (tests.kept (not (sealed c) && (authorizes a SE && permitted_type c t)) c.tag h.is_tagged).0 in
    let p = ((tests.both_true (authorizes a SE) (permitted_type c t)).0 ((tests.both_true (not (sealed c)) _).0 k).1).1 in
    let x : Has (word_rights c.metadata) EX = rw (permissions_of_type c.metadata (t % 2 ^ 3) s) at h.executable in
    let e : grants c EX ≡ true = eq-eqb _ 1 x in
    code_type t (rw e at p) (rw (type_of_type c.metadata (t % 2 ^ 3) s) at h.return_type))
