-- An array made by a function that computes each element of its index has those elements. Assumes nothing.
use Rattle.std.proofs.Common.{◌≡◌, ℕ, zero, suc, ◌+◌, ◌<◌, List, get_or, subst, sym, ◌∙◌, arith}
use Rattle.std.specs.Array.{IsFromFnResultFrom}
use denote.Param.Members.{Called, Mut}

each_from : {F : Type 0} (g : Mut F (ℕ × Unit {0}) ℕ) (f : F) (b : ℕ → ℕ)
    → ((i y : ℕ) (q : F) → Called g f (i, tt) y q → (q ≡ f) × (y ≡ b i))
    → (n i : ℕ) (ys : List ℕ) → IsFromFnResultFrom g f ys i n → (k : ℕ) → k < n → get_or ys (i + k) 0 ≡ b (i + k)
each_from g f b step zero i ys h k l = absurd (omega arith)
each_from g f b step (suc n) i ys (q, y, e, called, rest) zero l =
    let here : i + 0 ≡ i = omega arith in
    rw here (e.1 0 ∙ (step i y q called).1)
each_from g f b step (suc n) i ys (q, y, e, called, rest) (suc k) l =
    let there : i + suc k ≡ i + 1 + k = omega arith in
    let rest-f : IsFromFnResultFrom g f ys (i + 1) n = subst (λ p. IsFromFnResultFrom g p ys (i + 1) n) (step i y q called).0 rest in
    rw there (each_from g f b step n (i + 1) ys rest-f k (omega arith))

pub from_each : {F : Type 0} (g : Mut F (ℕ × Unit {0}) ℕ) (f : F) (b : ℕ → ℕ)
    → ((i y : ℕ) (q : F) → Called g f (i, tt) y q → (q ≡ f) × (y ≡ b i))
    → (n : ℕ) (ys : List ℕ) → IsFromFnResultFrom g f ys 0 n → (k : ℕ) → k < n → get_or ys k 0 ≡ b k
from_each g f b step n ys h k l =
    let z : 0 + k ≡ k = omega arith in
    rw z at (each_from g f b step n 0 ys h k l)
