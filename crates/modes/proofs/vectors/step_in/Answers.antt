-- `modes::vectors::step_in`: the lent table is the definition's list, whose greatest entry is 200. Assumes nothing.
use Prim.Native.Nat.{◌+◌, ◌*◌}
use mathlib.Core.Path.{ap}
use native.Mathlib.Omega.{arith}
use lib.ListN.{length}
use Rattle.modes.specs.Vectors.{vector_entry}
use Rattle.modes.proofs.Entries.{lent, read}
use Rattle.modes.proofs.VectorRule.{vectors-length, step-most}
use Rattle.modes.proofs.vectors.step_in.Goals as goal

pub bounds-t-v : goal.bounds-t-v
bounds-t-v c = omega (arith, ap length c.requires.0, vectors-length)

pub returns : goal.returns
unfolding vector_entry
returns c =
    let a = c.args in
    read (lent (21 * a.v + a.j) c.requires.0 c.wide.ensures.0) (step-most a.v a.j)
