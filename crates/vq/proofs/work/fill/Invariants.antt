-- `vq::work::fill`: the places so far are the products. Assumes nothing.
use mathlib.Core.Path.{◌≡◌}
use lib.ListN.{take}
use Rattle.vq.specs.Shape.{scaled}
use Rattle.vq.proofs.work.fill.Given as goal

abbrev pub invariant-loop-i : goal.invariant-loop-i
invariant-loop-i l = take l.i l.x ≡ scaled l.g (take l.i l.iy)
