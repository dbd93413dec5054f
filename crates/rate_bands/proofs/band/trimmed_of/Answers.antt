-- `rate_bands::band::trimmed_of`: no bits stay none, and others do not go below 0. Assumes nothing.
use native.Mathlib.Omega.{arith}
use borrow.Author.Tests.{eq-eqb, ne_eqb}
use Rattle.rate_spec.specs.Vectors.{trimmed}
use Rattle.rate_bands.proofs.Gauges.{up-most}
use Rattle.rate_bands.proofs.band.trimmed_of.Goals as goal

pub returns-then-x-eq0 : goal.returns-then-x-eq0
unfolding trimmed
returns-then-x-eq0 c = rw (eq-eqb _ _ c.if-x-eq0.true)

pub overflow_add-x : goal.overflow_add-x
overflow_add-x c = omega (arith, up-most c.requires.0 c.args.j c.requires.2)

pub returns : goal.returns
unfolding trimmed
returns c = rw (ne_eqb _ _ c.if-x-eq0.false, ← c.requires.2, ← c.requires.3) c.saturating_sub.ensures
