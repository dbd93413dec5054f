-- `laws::all_finite`: the test so far and what is left of it from the entry of the turn on are the whole test. Assumes nothing.
use mathlib.Core.Path.{◌≡◌}
use mathlib.Core.Bool.{◌&&◌}
use lib.ListN.{drop}
use lib.Ieee.Scale.{finite}
use Rattle.laws.specs.Lists.{every}
use Rattle.laws.proofs.all_finite.Given as goal

abbrev pub invariant-loop-x : goal.invariant-loop-x
invariant-loop-x l = (l.ok && every finite (drop l.x-index l.l)) ≡ every finite l.l
