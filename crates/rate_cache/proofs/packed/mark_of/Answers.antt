-- `rate_cache::packed::mark_of`: one mark of the number that has it. Assumes nothing.
use Prim.Native.Nat.{◌+◌, ◌*◌}
use native.Mathlib.Omega.{arith}
use Rattle.rate_cache.proofs.Packings.{mark_in}
use Rattle.rate_cache.proofs.packed.mark_of.Goals as goal

pub returns : goal.returns
returns c =
    let a = c.args in
    (rw c.four_marks-w.ensures (mark_in (21 * a.lm + a.band) (omega (arith, c.requires))), omega arith)
