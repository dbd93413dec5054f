-- `cwrs::work::reach`: the search goes down as long as the count is above i, so what it has not yet passed gives the same end. Assumes nothing.
use mathlib.Core.Path.{◌≡◌}
use Prim.Native.Nat.{◌+◌, ◌≤◌}
use Rattle.cwrs_counts.specs.Count.{U}
use Rattle.cwrs.specs.Word.{reach}
use Rattle.cwrs.proofs.work.reach.Given as goal

abbrev pub invariant-loop-p : goal.invariant-loop-p
invariant-loop-p l =
    (l.left ≤ l.k) × (l.p ≡ U l.n l.left) × (l.q ≡ U l.n (l.left + 1)) × (reach l.n l.k l.i ≡ reach l.n l.left l.i)

abbrev pub decreases-loop-p : goal.decreases-loop-p
decreases-loop-p l = l.left
