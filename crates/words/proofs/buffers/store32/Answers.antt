-- The bytes of the value, put one after another as the definition does.
use Rattle.std.proofs.Common.{◌≡◌, ◌+◌, ◌∙◌, add-zero, div-one, arith}
use Rattle.words.specs.Words.{put_list, set_bytes}
use Rattle.words.proofs.buffers.store32.Goals as goal

pub returns : goal.returns
unfolding put_list set_bytes
returns c =
    let at = c.args.at in
    let third : at + 1 + 1 ≡ at + 2 = omega arith in
    let fourth : at + 2 + 1 ≡ at + 3 = omega arith in
    c.put_bytes.ensures ∙ rw c.to_le_bytes.ensures (simp (third, fourth, add-zero, div-one))
