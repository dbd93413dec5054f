-- `quant_bands::steps::read_minus`: the bit's value, with a minus sign. Assumes nothing.
use Prim.Native.Nat.{◌≤◌}
use native.Mathlib.Omega.{arith}
use Rattle.entdec.proofs.Values.{bit-value}
use Rattle.quant_bands.proofs.steps.read_minus.Goals as goal

pub value_of-requires : goal.value_of-requires
value_of-requires c =
    let a = c.args in
    let e : c.bit-y.result.value ≤ 1 = rw c.bit-y.ensures (bit-value 1 a.s.now a.d) in
    omega arith
