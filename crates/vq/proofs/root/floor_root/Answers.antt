-- `vq::root::floor_root`: s is never below the root's whole part, and falls. Assumes nothing.
use Prim.Native.Nat.{◌+◌, ◌/◌}
use native.Mathlib.Omega.{arith}
use Rattle.vq.proofs.Squares.{Closer, nearer}
use Rattle.vq.proofs.root.floor_root.Goals as goal
use Rattle.vq.proofs.root.floor_root.Goals.{In-loop-s}

-- the next s
step : (c : In-loop-s) → let v = c.args.v in let s = c.loop-s.s in Closer v s ((s + v / s) / 2)
step c =
    let l = c.loop-s in
    nearer c.args.v l.s c.requires.0 l.invariant.0 c.loop-s-test.true

pub loop-s-preserved : goal.loop-s-preserved
loop-s-preserved c = let t = step (goal.at.loop-s-preserved c).In-loop-s in (t.least, omega arith, t.above)
