-- `cwrs::work::icwrs`: from the last place backwards, i is the number of the places from j on; it stays below the count. Assumes nothing.
use mathlib.Core.Path.{◌≡◌}
use lib.Seq.{slice}
use Rattle.cwrs.specs.Word.{pulses, index}
use Rattle.cwrs.proofs.work.icwrs.Given as goal

abbrev pub invariant-loop-j : goal.invariant-loop-j
invariant-loop-j l = (l.k ≡ pulses (slice l.j l.n l.y)) × (l.i ≡ index (slice l.j l.n l.y))
