-- `modes::edges::width_of`: a band ends where the next one begins, and the edges rise. Assumes nothing.
use Prim.Native.Nat.{◌-◌}
use mathlib.Core.Path.{◌≡◌, ap}
use native.Mathlib.Numerals.{add-one}
use native.Mathlib.Omega.{arith}
use Rattle.modes.specs.Edges.{edge, width}
use Rattle.modes.proofs.Entries.{read_between}
use Rattle.modes.proofs.EdgeRule.{edge-next, width_some, width-most}
use Rattle.modes.proofs.edges.width_of.Goals as goal

pub overflow_sub-result : goal.overflow_sub-result
overflow_sub-result c =
    let j = c.args.j in
    omega (arith, ap edge (add-one j), edge-next j c.requires)

pub returns : goal.returns
unfolding width
returns c =
    let j = c.args.j in
    let h = c.requires in
    let e : c.edge_of.result - c.edge_of-2.result ≡ width j = omega (arith, ap edge (add-one j)) in
    read_between e (width_some j h) (width-most j)
