-- `rate::edge::counts_of`: the entries so far are those of the list as counts. Assumes nothing.
use mathlib.Core.Path.{◌≡◌}
use mathlib.Core.List.{map}
use lib.ListN.{take}
use Rattle.laws.specs.Signs.{clip}
use Rattle.rate.proofs.edge.counts_of.Given as goal

abbrev pub invariant-loop-i : goal.invariant-loop-i
invariant-loop-i l = take l.i l.v-items ≡ map clip (take l.i l.l)
