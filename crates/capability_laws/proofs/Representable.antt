-- The properties that the report has a solver check of its own model, Appendix A.1, "SMT validation": here laws of the definitions, each under its name there.
-- A request [c .address, c.address + n) that ends by 2^32 is the report's `saneTop`. Assumes nothing.
use mathlib.Core.Path.{◌≡◌, refl, ap, ◌∙◌}
use mathlib.Core.Logic.{◌⊎◌, inr, ◌↔◌}
use mathlib.Core.Bool.{true, not, ◌&&◌}
use Prim.Native.Nat.{ℕ, ◌+◌, ◌*◌, ◌/◌, ◌%◌, ◌^◌, ◌≤◌, ◌<◌}
use native.Mathlib.Nat.{div-mul-le_self, mul-le-mul_right, mod-eq_of_lt}
use native.Mathlib.Omega.{arith}
use lib.Bits.{bit_and}
use lib.Pow.{pow_pos, pow-add}
use Rattle.metadata.specs.Word.{permissions_of, type_of, scale_of, top_of, base_of, fields_of}
use Rattle.metadata.specs.Rights.{Has, word_rights, narrow_word, EX}
use Rattle.metadata.proofs.Words.{permissions_lt, scale_lt, same_word}
use Rattle.metadata.proofs.Narrowing.{code_of_rights}
use Rattle.metadata.proofs.Narrowed.{narrow_inside, narrow_in_mask}
use Rattle.bounds.specs.Bounds.{low_at, high_at, bounds_of, exponent_of, Contains}
use Rattle.bounds.specs.Cutting.{ceil_at, round_down, round_up, cut_exponent, cut_base, cut_top, unrounded, cut_low, cut_high, cut_exact}
use Rattle.bounds.specs.Lengths.{alignment_mask, representable_length}
use Rattle.bounds.proofs.Exponent.{cut_exponent_lem, exponent_le}
use Rattle.capability.specs.Capability.{capability, low, high, grants, sealed, unsealed, same_bounds, move_of, set_bounds_of}
use Rattle.capability.specs.Sealing.{object_type}
use Rattle.capability.specs.declared.Capability.{Capability}
use Rattle.capability_laws.specs.Decoded.{decompress_of, compress_of}
use Rattle.capability_laws.proofs.Tests.{both_equal, kept}
use Rattle.bounds.proofs.Limits.{top_of_cut, base_of_cut}
use Rattle.capability_laws.proofs.Region.{of_fits, cut_exponent_again, cut_least_exponent, cut_low_lem, cut_high_lem, ≤up}
use Rattle.capability_laws.proofs.Region.{cut_contains, cut_expressible, cut_least, unrounded_exact}
use Rattle.capability_laws.proofs.Compressed.{field_of_exponent, type_again, retype}
use Rattle.capability_laws.proofs.Windows.{set_low, set_high, stays, stayed, same_of_cut}
use Rattle.capability_laws.proofs.Aligned.{mask_down, aligned, short, round_lt, round_end}

-- ---- prop_decEnc: a word taken apart and put together again is the same word, so that a copy of memory keeps it

pub prop_dec_enc : (metadata : ℕ) → metadata < 2 ^ 32 → compress_of (decompress_of metadata) ≡ metadata
unfolding compress_of decompress_of object_type fields_of
prop_dec_enc w h =
    rw (code_of_rights (permissions_of w) (permissions_lt w), field_of_exponent (scale_of w) (scale_lt w))
    (retype (fields_of w) _ (type_again (sealed (capability 0 w 0) && not (grants (capability 0 w 0) EX)) (type_of w)) ∙ same_word w h)

-- ---- prop_andperms: after CAndPerm every right is one that the capability had and one that the mask has

pub prop_andperms : (metadata mask k : ℕ) → Has (word_rights (narrow_word metadata mask)) k → Has (word_rights metadata) k × Has mask k
prop_andperms w mask k h = (omega (arith, narrow_inside w mask k), omega (arith, narrow_in_mask w mask k))

-- ---- prop_setbounds: the bounds that are set contain the request, exactness is told rightly, and the fields read back are those that were computed

pub record SetBounds (c : Capability) (n : ℕ) : Type 0 where
  pub same_exponent : exponent_of (scale_of (set_bounds_of c n).metadata) ≡ cut_exponent c.address (c.address + n)
  pub same_top : top_of (set_bounds_of c n).metadata ≡ cut_top c.address (c.address + n)
  pub same_base : base_of (set_bounds_of c n).metadata ≡ cut_base c.address (c.address + n)
  pub same_address : (set_bounds_of c n).address ≡ c.address
  pub contains : Contains (low (set_bounds_of c n)) (high (set_bounds_of c n)) c.address (c.address + n)
  pub exact : (unrounded c.address (c.address + n) ≡ true) ↔ ((low (set_bounds_of c n) ≡ c.address) × (high (set_bounds_of c n) ≡ c.address + n))

pub prop_setbounds : (c : Capability) (n : ℕ) → c.address < 2 ^ 32 → c.address + n ≤ 2 ^ 32 → SetBounds c n
unfolding set_bounds_of cut_exact
prop_setbounds c n word sane =
    let b : ℕ = c.address in
    let order : b ≤ b + n = omega arith in
    let l = set_low c n word sane in
    let h = set_high c n word sane in
    record {
      same_exponent = cut_exponent_again b (b + n) c.metadata;
      same_top = top_of_cut c.metadata b (b + n);
      same_base = base_of_cut c.metadata b (b + n);
      same_address = refl;
      contains = rw (l, h) (cut_contains b (b + n) word order sane);
      exact = rw (unrounded_exact b (b + n) word order sane, l, h) (both_equal (cut_low b (b + n)) b (cut_high b (b + n)) (b + n));
    }

-- ---- prop_setbounds_monotonic: of two cuts, where the first contains the second's request, it contains the second. The second may be of any capability d:
-- only its request counts

pub prop_setbounds_monotonic : (c d : Capability) (n m : ℕ) → c.address < 2 ^ 32 → c.address + n ≤ 2 ^ 32 → d.address < 2 ^ 32 → d.address + m ≤ 2 ^ 32
    → Contains (low (set_bounds_of c n)) (high (set_bounds_of c n)) d.address (d.address + m)
    → Contains (low (set_bounds_of c n)) (high (set_bounds_of c n)) (low (set_bounds_of d m)) (high (set_bounds_of d m))
prop_setbounds_monotonic c d n m cw cs dw ds k =
    let b : ℕ = c.address in
    let o : b ≤ b + n = omega arith in
    let p : d.address ≤ d.address + m = omega arith in
    rw (set_low c n cw cs, set_high c n cw cs, set_low d m dw ds, set_high d m dw ds)
    (cut_least d.address (d.address + m) dw p ds (cut_low b (b + n)) (cut_high b (b + n)) (cut_expressible b (b + n) cw o cs)
    (rw (set_low c n cw cs, set_high c n cw cs) at k))

-- ---- prop_setaddr: a move keeps the tag of a tagged, unsealed capability exactly where it changes no bound

pub prop_setaddr : (c : Capability) (a : ℕ) → unsealed c ≡ true → c.tag ≡ 1
    → ((move_of c a).tag ≡ 1) ↔ (bounds_of a c.metadata ≡ bounds_of c.address c.metadata)
unfolding move_of same_bounds bounds_of low high
prop_setaddr c a u t =
    let e = both_equal (low_at a c.metadata) (low_at c.address c.metadata) (high_at a c.metadata) (high_at c.address c.metadata) in (
      λ h. let s = e.0 (kept _ 1 (rw (u, t) at h)).0 in rw (s.0, s.1),
      λ h. rw (u, e.1 (ap (λ r. r.low) h, ap (λ r. r.high) h)) t,
    )

-- ---- prop_repbounds: the addresses at which a cut's bounds stay are the 2^(e+9) from its low bound on; at exponent 24 they are all

pub prop_repbounds : (c : Capability) (n a : ℕ) → c.address < 2 ^ 32 → c.address + n ≤ 2 ^ 32 → a < 2 ^ 32
    → ((cut_exponent c.address (c.address + n) ≡ 24)
    ⊎ ((low (set_bounds_of c n) ≤ a) × (a < low (set_bounds_of c n) + 2 ^ (cut_exponent c.address (c.address + n) + 9))))
    ↔ (same_bounds (set_bounds_of c n) a ≡ true)
prop_repbounds c n a word sane new =
    let b : ℕ = c.address in
    let order : b ≤ b + n = omega arith in
    let s = same_of_cut c n a in
    rw (set_low c n word sane) (
      λ h. s.1 (stays b (b + n) a word order sane new h),
      λ h. stayed b (b + n) a word order sane new (cut_exponent_lem b (b + n)) (s.0 h),
    )

-- ---- prop_repbounds_c: among them are those that C lets a pointer have, from the low bound to the high bound itself

pub prop_repbounds_c : (c : Capability) (n a : ℕ) → c.address < 2 ^ 32 → c.address + n ≤ 2 ^ 32 → a < 2 ^ 32
    → low (set_bounds_of c n) ≤ a → a ≤ high (set_bounds_of c n) → same_bounds (set_bounds_of c n) a ≡ true
prop_repbounds_c c n a word sane new la ah =
    let b : ℕ = c.address in
    let order : b ≤ b + n = omega arith in
    let e : ℕ = cut_exponent b (b + n) in
    let f = mul-le-mul_right (2 ^ e) (of_fits b (b + n) e (cut_least_exponent b (b + n) word order sane).is_fit) in
    let l : low (set_bounds_of c n) ≡ round_down e b = set_low c n word sane ∙ cut_low_lem b (b + n) word order sane in
    let h : high (set_bounds_of c n) ≡ round_up e (b + n) = set_high c n word sane ∙ cut_high_lem b (b + n) word order sane in
    (prop_repbounds c n a word sane new).0 (inr (la, omega (arith, f, pow-add 2 e 9, pow_pos e)))

-- ---- prop_crrl_cram: a base masked by what CRAM gives, and the length that CRRL gives, are cut exactly and are no shorter than asked; but where CRRL
-- gives 0 for a length that is not 0

pub prop_crrl_cram : (base n : ℕ) → base < 2 ^ 32 → n < 2 ^ 32 → base + n ≤ 2 ^ 32 → (n ≡ 0) ⊎ (0 < representable_length n)
    → (unrounded (bit_and base (alignment_mask n)) (bit_and base (alignment_mask n) + representable_length n) ≡ true) × (n ≤ representable_length n)
unfolding alignment_mask representable_length
prop_crrl_cram base n word length sane h =
    let e : ℕ = cut_exponent 0 n in
    let x : ℕ = base / 2 ^ e in
    let k : ℕ = ceil_at e n in
    let m : round_up e n % 2 ^ 32 ≡ k * 2 ^ e = mod-eq_of_lt (round_lt n length h) in
    let s : x * 2 ^ e + k * 2 ^ e ≡ (x + k) * 2 ^ e = omega arith in
    rw (mask_down e base (exponent_le (cut_exponent_lem 0 n)) word, m, s) (
      aligned e x k (cut_exponent_lem 0 n) (short n length) (omega (arith, div-mul-le_self base (2 ^ e))) (round_end n length base sane),
      ≤up 0 n (omega arith) (omega arith) (omega arith) e,
    )

-- that case: the rounded length is 2^32 (document 01, "Cutting bounds", its last sentence)
pub crrl_zero : (n : ℕ) → round_up (cut_exponent 0 n) n ≡ 2 ^ 32 → representable_length n ≡ 0
unfolding representable_length
crrl_zero n h = rw h
