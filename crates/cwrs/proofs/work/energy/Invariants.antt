-- `cwrs::work::energy`: from the last place backwards, e is the energy of the places from j on; 128 pulses keep every square small. Assumes nothing.
use mathlib.Core.Path.{◌≡◌}
use lib.Seq.{slice}
use Rattle.cwrs.specs.Word.{energy}
use Rattle.cwrs.proofs.work.energy.Given as goal

abbrev pub invariant-loop-j : goal.invariant-loop-j
invariant-loop-j l = (l.e ≡ energy (slice l.j l.n l.y))
