-- `laws::list_ok`: the test so far and what is left of it from the entry of the turn on are the whole test. Assumes nothing.
use mathlib.Core.Path.{◌≡◌}
use mathlib.Core.Bool.{◌&&◌}
use lib.ListN.{drop}
use Rattle.laws.specs.Lists.{every}
use Rattle.laws.specs.Signs.{in_range}
use Rattle.laws.proofs.list_ok.Given as goal

abbrev pub invariant-loop-v : goal.invariant-loop-v
invariant-loop-v l = (l.ok && every (in_range l.lo l.hi) (drop l.v-index l.l)) ≡ every (in_range l.lo l.hi) l.l
