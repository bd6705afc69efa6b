-- `base_unit`: what the remainder takes away leaves the field in the last nine bits; 512 divides 2^64. Assumes nothing.
use Rattle.std.proofs.Common.{ℕ, ◌+◌, ◌-◌, ◌/◌, ◌%◌, ◌^◌, ◌<◌, div-le_self, arith}
use Rattle.bounds.proofs.Wrapped.{base_unit_is}
use Rattle.bounds.proofs.shifts.Exponent.base_unit.Goals as goal

pub returns : goal.returns
returns c =
    let a = c.args in
    let q : ℕ = a.address / 2 ^ a.self.value in
    let small : q < 2 ^ 32 = omega (arith, div-le_self a.address (2 ^ a.self.value)) in
    let w : ℕ = (q + (2 ^ 64 - a.base)) % 2 ^ 64 in
    let r : ℕ = (q + (2 ^ 64 - w % 512)) % 2 ^ 64 in
    base_unit_is q a.base w r small (omega arith) (omega arith) (omega arith) (omega arith)
