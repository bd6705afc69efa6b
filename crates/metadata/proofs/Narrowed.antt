-- A narrowed word: its rights are among the word's and among the mask's, and its other fields stay.
-- Assumes nothing.
use mathlib.Core.Path.{◌≡◌, refl}
use mathlib.Core.Bool.{Bool, true, false}
use Prim.Native.Nat.{ℕ, ◌^◌, ◌≤◌, ◌<◌}
use native.Mathlib.Nat.{le_trans, lt_of_lt_of_le, div-eq_of_lt}
use native.Mathlib.Omega.{arith}
use borrow.Author.Tests.{ltb-true, ltb-false}
use lib.Bits.{bit_and}
use lib.Dec.{ltb}
use lib.Pow.{pow_mono}
use Rattle.metadata.specs.Word.{reserved_of, permissions_of, type_of, scale_of, top_of, base_of}
use Rattle.metadata.specs.Rights.{bit, rights_of, code_of, word_rights, narrow_word}
use Rattle.metadata.proofs.Words.{permissions_lt, permissions_word, permissions_of_permissions, reserved_of_permissions}
use Rattle.metadata.proofs.Words.{type_of_permissions, scale_of_permissions, top_of_permissions, base_of_permissions}
use Rattle.metadata.proofs.Narrowing.{rights_fit, code_fits, code_narrows, mask_left, mask_right, masked_rights}

pub word_rights_lt : (w : ℕ) → word_rights w < 4096
word_rights_lt w = rights_fit (permissions_of w) (permissions_lt w)

-- a set of twelve rights has no bit from 12 on
no_bit : (r k : ℕ) → r < 4096 → 12 ≤ k → bit r k ≡ 0
no_bit r k h l = rw (div-eq_of_lt {n = r} {m = 2 ^ k} (lt_of_lt_of_le h (pow_mono {i = 12} {j = k} l)))

pub no_right : (w k : ℕ) → 12 ≤ k → bit (word_rights w) k ≡ 0
no_right w k l = no_bit (word_rights w) k (word_rights_lt w) l

-- the code of a set of rights grants none that is not in the set: every bit
pub code_inside : (r k : ℕ) → r < 4096 → bit (rights_of (code_of r)) k ≤ bit r k
code_inside r k h = go (ltb k 12) refl
  where
    go : (t : Bool) → ltb k 12 ≡ t → bit (rights_of (code_of r)) k ≤ bit r k
    go true t = code_narrows r h k (ltb-true k 12 t)
    go false t = omega (arith, no_bit (rights_of (code_of r)) k (rights_fit (code_of r) (code_fits r h)) (ltb-false k 12 t))

module _ (w m : ℕ) where
  masked : bit_and (word_rights w) m < 4096
  masked = masked_rights (permissions_of w) m (permissions_lt w)

  code_lt : code_of (bit_and (word_rights w) m) < 64
  code_lt = code_fits (bit_and (word_rights w) m) masked

  pub permissions_of_narrow : permissions_of (narrow_word w m) ≡ code_of (bit_and (word_rights w) m)
  unfolding narrow_word
  permissions_of_narrow = permissions_of_permissions w (code_of (bit_and (word_rights w) m)) code_lt

  -- narrowing grants nothing, and what it keeps is in the mask
  pub narrow_inside : (k : ℕ) → bit (word_rights (narrow_word w m)) k ≤ bit (word_rights w) k
  narrow_inside k = rw permissions_of_narrow (le_trans (code_inside (bit_and (word_rights w) m) k masked) (mask_left (word_rights w) m k))

  pub narrow_in_mask : (k : ℕ) → bit (word_rights (narrow_word w m)) k ≤ bit m k
  narrow_in_mask k = rw permissions_of_narrow (le_trans (code_inside (bit_and (word_rights w) m) k masked) (mask_right (word_rights w) m k))

  pub reserved_of_narrow : reserved_of (narrow_word w m) ≡ reserved_of w
  unfolding narrow_word
  reserved_of_narrow = reserved_of_permissions w (code_of (bit_and (word_rights w) m)) code_lt

  pub type_of_narrow : type_of (narrow_word w m) ≡ type_of w
  unfolding narrow_word
  type_of_narrow = type_of_permissions w (code_of (bit_and (word_rights w) m))

  pub scale_of_narrow : scale_of (narrow_word w m) ≡ scale_of w
  unfolding narrow_word
  scale_of_narrow = scale_of_permissions w (code_of (bit_and (word_rights w) m))

  pub top_of_narrow : top_of (narrow_word w m) ≡ top_of w
  unfolding narrow_word
  top_of_narrow = top_of_permissions w (code_of (bit_and (word_rights w) m))

  pub base_of_narrow : base_of (narrow_word w m) ≡ base_of w
  unfolding narrow_word
  base_of_narrow = base_of_permissions w (code_of (bit_and (word_rights w) m))

  pub narrow_word_lem : w < 2 ^ 32 → narrow_word w m < 2 ^ 32
  unfolding narrow_word
  narrow_word_lem h = permissions_word w (code_of (bit_and (word_rights w) m)) h code_lt
