-- Each step of the sum stays below 256, since the whole of it is a byte.
use Rattle.std.proofs.Common.{◌≡◌, ℕ, ◌+◌, ◌*◌, ◌/◌, ◌%◌, ◌^◌, ◌<◌, div-le_self, arith, rules}
use Rattle.words.specs.Words.{with_bit}
use Rattle.words.proofs.Bits.{with_bit_byte}
use Rattle.words.proofs.bit_buffers.with_bit.Goals as goal

-- the new byte is one, with the power in a number p
fits : (b k v p : ℕ) → p ≡ 2 ^ k → b < 256 → k < 8 → (b / p / 2 * 2 + v % 2) * p + b % p < 256
unfolding with_bit
fits b k v p e hb hk = rw e (with_bit_byte b k v hb hk)

pub overflow_mul-result : goal.overflow_mul-result
overflow_mul-result c = omega (arith, div-le_self c.args.b c.power-p.result)

pub overflow_add-result : goal.overflow_add-result
overflow_add-result c = omega (arith, div-le_self c.args.b c.power-p.result)

pub overflow_mul-result-2 : goal.overflow_mul-result-2
overflow_mul-result-2 c =
    let a = c.args in
    omega (arith, fits a.b a.k a.v c.power-p.result c.power-p.ensures.0 (search rules) (search rules))

pub overflow_add-result-2 : goal.overflow_add-result-2
overflow_add-result-2 c =
    let a = c.args in
    omega (arith, fits a.b a.k a.v c.power-p.result c.power-p.ensures.0 (search rules) (search rules))

pub returns : goal.returns
unfolding with_bit
returns c =
    let a = c.args in
    (simp c.power-p.ensures.0, fits a.b a.k a.v c.power-p.result c.power-p.ensures.0 (search rules) (search rules))
