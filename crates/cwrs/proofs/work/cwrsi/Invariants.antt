-- `cwrs::work::cwrsi`: what is written and the vector that is left to write make up the whole vector at each place. Assumes nothing.
use mathlib.Core.Path.{◌≡◌}
use mathlib.Core.List.{◌++◌}
use Prim.Native.Nat.{◌-◌, ◌≤◌}
use lib.ListN.{take, drop}
use Rattle.cwrs_counts.specs.Count.{Vn}
use Rattle.cwrs.specs.Word.{word}
use Rattle.cwrs.proofs.work.cwrsi.Given as goal

abbrev pub invariant-loop-j : goal.invariant-loop-j
invariant-loop-j l =
    (l.j ≤ l.n) × (l.left ≤ l.k) × (l.count ≡ Vn (l.n - l.j) l.left)
    × (take l.j l.y ++ word (l.n - l.j) l.left l.at ≡ word l.n l.k l.i)
    × (drop l.n l.y ≡ drop l.n l.initial.y)

abbrev pub decreases-loop-j : goal.decreases-loop-j
decreases-loop-j l = l.n - l.j
