-- `entenc::gate::below_pow2`: from 2^32 on every number is below. Assumes nothing.
use Prim.Native.Nat.{◌^◌, ◌≤◌}
use mathlib.Core.Path.{sym}
use native.Mathlib.Omega.{arith}
use lib.Pow.{pow_mono}
use borrow.Author.Tests.{lt-ltb}
use Rattle.entenc.proofs.gate.below_pow2.Goals as goal

pub returns-else-n-lt32 : goal.returns-else-n-lt32
returns-else-n-lt32 c =
    let a = c.args in
    let m : 2 ^ 32 ≤ 2 ^ a.n = pow_mono {i = 32} {j = a.n} (omega arith) in
    sym (lt-ltb a.v (2 ^ a.n) (omega arith))
