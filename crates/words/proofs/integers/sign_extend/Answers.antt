-- Below 32 bits by the power; from 32 on the low bits are the word itself.
use Rattle.words.proofs.Word.{sign_extend_all}
use Rattle.words.specs.Words.{sign_extend}
use Rattle.std.proofs.Common.{sym, ◌∙◌, rules}
use Rattle.words.proofs.integers.sign_extend.Goals as goal

pub returns-then-bits-lt-BITS : goal.returns-then-bits-lt-BITS
unfolding sign_extend
returns-then-bits-lt-BITS c = c.extend.ensures ∙ simp c.power.ensures.0

pub returns-else-bits-lt-BITS : goal.returns-else-bits-lt-BITS
unfolding sign_extend
returns-else-bits-lt-BITS c = sym (sign_extend_all c.args.x c.args.bits (search rules) c.if-bits-lt-BITS.false)
