-- PCC's word at the address, sealed.
use Rattle.std.proofs.Common.{ℕ, ap, ◌∙◌}
use Rattle.capability.specs.Sealing.{with_object_type}
use Rattle.quick.specs.Turns.{pcc_at}
use Rattle.quick.proofs.jumps.link_at.Goals as goal

pub returns : goal.returns
returns c =
    let a = c.args in
    c.with_object_type.ensures ∙ ap (λ (t : ℕ). with_object_type (pcc_at a.word a.next) t) c.link_type.ensures
