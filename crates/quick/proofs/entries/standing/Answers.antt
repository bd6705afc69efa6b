-- Where the moved PCC keeps its tag it is itself after the instruction, which is what is found.
use Rattle.std.proofs.Common.{◌≡◌, ℕ, ◌+◌, sym, refl, ap, ◌∙◌}
use Rattle.words.specs.Words.{wrap}
use Rattle.capability.specs.declared.Capability.{Capability}
use Rattle.capability.specs.Capability.{move_of}
use Rattle.quick.proofs.entries.standing.Goals as goal

pub returns : goal.returns
returns c =
    let a = c.args in
    let m : ◌≡◌ {A = Capability} c.move_address-next.result (move_of a.pcc (wrap (a.pcc.address + a.bytes))) =
    c.move_address-next.ensures ∙ ap (λ (x : ℕ). move_of a.pcc x) c.wrapping_add_u32.ensures.value in
    record {
      bytes_are = refl;
      is_itself = ap (λ x. x.tag) (sym m) ∙ c.if-next-ne1.false;
      op_means = c.operation_of.ensures.0;
      op_placed = c.operation_of.ensures.1;
    }
