-- Where PCC lands, the link is PCC after the jump; else nothing was done.
use Rattle.std.proofs.Common.{refl, arith}
use Rattle.quick.proofs.Reach.{passed}
use Rattle.quick.proofs.Targets.{landed, link_turned, link_left}
use Rattle.quick.proofs.jumps.take_link.Goals as goal

pub returns-then-not-is_landing : goal.returns-then-not-is_landing
returns-then-not-is_landing c =
    let a = c.args in
    link_left a.regs.now a.start a.edition a.rd a.offset a.next _ refl

pub returns : goal.returns
returns c =
    let args = c.args in
    let wrapping-add-u32 = c.wrapping_add_u32-to in
    let is-landing = c.is_landing in
    let if1 = c.if-not-is_landing in
    let pre = c.requires in
    let read-pcc = c.read_pcc-pcc in
    let place_of = c.place_of in
    let link_at = c.link_at-link in
    let write = c.write in
    let a = args in
    let to = wrapping-add-u32 in
    let lands = is-landing.ensures (passed _ if1.false-raw) in
    link_turned a.regs.now _ a.start a.size a.edition a.rd a.offset a.next to.result _ _ pre.0
    refl to.ensures.value lands.is_even
    (landed a.start a.size a.rows.now a.regs.now read-pcc.result to.result pre.1 read-pcc.ensures (omega (arith, to.ensures.value))
    (lands.own_fits, lands.in_row))
    place_of.ensures (rw (link_at.ensures, read-pcc.ensures) at write.ensures)
