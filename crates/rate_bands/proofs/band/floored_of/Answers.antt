-- `rate_bands::band::floored_of`: by whether x has a floor. Assumes nothing.
use native.Mathlib.Omega.{arith}
use borrow.Author.Tests.{le-leb, lt-leb}
use Rattle.rate_spec.specs.Trials.{floored}
use Rattle.rate_bands.proofs.band.floored_of.Goals as goal

pub returns-then-floor-x : goal.returns-then-floor-x
unfolding floored
returns-then-floor-x c = (rw (← c.floor_of-floor.ensures.0, le-leb _ _ c.if-floor-x.true), omega arith, omega arith)

pub returns-else-floor-x : goal.returns-else-floor-x
unfolding floored
returns-else-floor-x c = (rw (← c.floor_of-floor.ensures.0, lt-leb _ _ c.if-floor-x.false), omega arith, omega arith)
