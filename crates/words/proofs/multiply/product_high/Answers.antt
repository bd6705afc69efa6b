-- The unsigned high half less b where a is negative, and less a where b is: the law of high halves.
use Rattle.std.proofs.Common.{◌-◌, ◌≡◌, ℕ, ◌+◌, ◌*◌, ◌/◌, ◌%◌, ◌^◌, ◌<◌, cond, sym, ap, ◌∙◌, arith, rules}
use Rattle.words.specs.Multiply.{is_negative, product_high}
use Rattle.words.proofs.Products.{high_of, high_word, high_unsigned_lem}
use Rattle.words.proofs.multiply.product_high.Goals as goal

-- what is taken off one after the other is taken off together
both-off : (h p x y r s : ℕ) → h < 2 ^ 32 → s < 2 ^ 32 → (h + x + y) % 2 ^ 32 ≡ p → (r + x) % 2 ^ 32 ≡ p → (s + y) % 2 ^ 32 ≡ r → s ≡ h
both-off h p x y r s l m e f g = same h s (x + y) l m (ap (λ (n : ℕ). n % 2 ^ 32) (omega arith) ∙ e ∙ sym (joined p x y r s f g))
  where
    joined : (p x y r s : ℕ) → (r + x) % 2 ^ 32 ≡ p → (s + y) % 2 ^ 32 ≡ r → (s + (x + y)) % 2 ^ 32 ≡ p
    joined p x y r s f g = omega arith

    same : (h s z : ℕ) → h < 2 ^ 32 → s < 2 ^ 32 → (h + z) % 2 ^ 32 ≡ (s + z) % 2 ^ 32 → s ≡ h
    same h s z l m e = omega arith

pub returns : goal.returns
returns c =
    let a = c.args.a in
    let b = c.args.b in
    let product = c.high_unsigned.ensures ∙ high_unsigned_lem a b (search rules) (search rules) in
    let high = rw (← c.excess.ensures, ← c.excess-2.ensures) at (high_of c.args.first c.args.second a b (search rules) (search rules)) in
    let first_off : ℕ = (c.high_unsigned.result + (2 ^ 32 - c.excess.result)) % 2 ^ 32 in
    let second_off : ℕ = (first_off + (2 ^ 32 - c.excess-2.result)) % 2 ^ 32 in
    both-off (product_high c.args.first c.args.second a b) (a * b / 2 ^ 32) c.excess.result c.excess-2.result first_off second_off
    (high_word c.args.first c.args.second a b) (omega arith) high (omega (arith, product)) (omega arith)
